use Rattle.std.proofs.Common.{ap, ◌∙◌}
use Rattle.std.specs.Prelude.{Some}
use Rattle.fidl_wire.specs.Value.{Value}
use Rattle.fidl_members.proofs.columns.ScalarColumn.read.Goals as goal

pub returns : goal.returns
returns g c v h = let x = c.part.ensures.part v h in x.1 ∙ ap (λ (y : Value). Some y) (c.scalar_in.ensures x.0 x.2)
