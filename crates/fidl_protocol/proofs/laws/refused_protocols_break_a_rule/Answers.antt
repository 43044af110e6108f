use Rattle.fidl_protocol.proofs.Excluded.{refused_not}
use Rattle.fidl_protocol.proofs.laws.refused_protocols_break_a_rule.Goals as goal

pub returns : goal.returns
returns c = λ files fault definitions figures other h checked. refused_not files checked.protocols _ checked.laid_out.checked.definitions (checked.protocols.types _ checked.laid_out.checked) fault other h
