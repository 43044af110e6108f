use Rattle.std.proofs.Common.{Some, ap, ◌∙◌}
use Rattle.fidl_view.proofs.view.View.text.Goals as goal

pub returns : goal.returns
returns c v s = ap Some c.from_utf8_unchecked.ensures ∙ c.in-Some.ensures.value v s
