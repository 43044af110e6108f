use Rattle.std.proofs.Common.{refl}
use Rattle.fidl_type_rules.specs.Made.{of_alias, of_argument}
use Rattle.fidl_type_rules.proofs.worked.what_is_made_of_wrong_types.Goals as goal

pub returns-clause-alias : goal.returns-clause-alias
returns-clause-alias c = λ files n of role path u s refers none breaks. none (breaks.0.made of u (of_alias of u refers))

pub returns-clause-argument : goal.returns-clause-argument
returns-clause-argument c = λ files n role path u s none breaks. none (breaks.0.made n u (of_argument u refl))
