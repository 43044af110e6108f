use Rattle.std.proofs.Common.{refl}
use Rattle.std.proofs.lemmas.Option.{none-some}
use Rattle.fidl_types.proofs.worked.places_of_forms.Goals as goal

pub returns-clause-second : goal.returns-clause-second
returns-clause-second c = λ one other. record { form = other; at = refl; is = refl }

pub returns-clause-past : goal.returns-clause-past
returns-clause-past c = λ one place h. none-some h.form h.at
