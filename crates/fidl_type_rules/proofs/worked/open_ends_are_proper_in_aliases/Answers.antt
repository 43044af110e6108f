use Rattle.std.proofs.Common.{[], refl}
use Rattle.fidl_named.specs.declared.meaning.Predeclared.TheVariants as name
use Rattle.fidl_declarations.specs.Sites.{aliased_type}
use Rattle.fidl_lower_types.specs.Terms.{end_term}
use Rattle.fidl_type_rules.proofs.Small.{plain_holds, open_not}
use Rattle.fidl_type_rules.proofs.worked.open_ends_are_proper_in_aliases.Goals as goal

pub returns-clause-aliased : goal.returns-clause-aliased
returns-clause-aliased c = λ files n path h. plain_holds files n path aliased_type name.ClientEnd (end_term []) h refl refl refl

pub returns-clause-used : goal.returns-clause-used
returns-clause-used c = λ files n path h. open_not files n path name.ClientEnd h refl
