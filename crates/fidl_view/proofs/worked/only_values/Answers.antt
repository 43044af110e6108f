use Rattle.std.proofs.Common.{◌≡◌, refl, []}
use Rattle.fidl_wire.specs.Value.{absent, text}
use Rattle.fidl_view.proofs.worked.only_values.Goals as goal

unlike : text [] ≡ absent → ⊥
unlike e = cc

pub returns-clause-absent : goal.returns-clause-absent
returns-clause-absent c = record { holds = refl; only = λ w e. e }

pub returns-clause-anything : goal.returns-clause-anything
returns-clause-anything c only = unlike (only.only (text []) refl)
