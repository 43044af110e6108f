use Rattle.fidl_script.proofs.Looking.{named_at}
use Rattle.fidl_script.proofs.methods.name_at.Goals as goal

pub returns : goal.returns
returns c = named_at c.args.protocol.now c.args.place c.at.result c.unwrap-method.result c.unwrap-method.ensures c.at.ensures.table c.at.ensures.found c.name.result.now c.name.ensures
