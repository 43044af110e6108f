use Rattle.std.proofs.Common.{sym}
use Rattle.std.proofs.lemmas.Result.{IfOk-weaker}
use Rattle.fidl_tree.specs.Views.{path_view}
use Rattle.fidl_consts.specs.Types.{TypeIs}
use Rattle.fidl_consts.proofs.types.written_type.Goals as goal

pub returns-in-None : goal.returns-in-None
returns-in-None c = TypeIs.written (sym c.in-None.ensures)

pub returns-in-Some : goal.returns-in-Some
returns-in-Some c = IfOk-weaker c.name_type.result _ _ (λ found h. TypeIs.named (path_view c.in-Some.path.now) found (sym c.in-Some.ensures) h) c.name_type.ensures
