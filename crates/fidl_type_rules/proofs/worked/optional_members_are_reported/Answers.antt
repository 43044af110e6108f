use Rattle.std.proofs.Common.{[], ◌∷◌, refl}
use Rattle.fidl_named.specs.declared.meaning.Predeclared.TheVariants as name
use Rattle.fidl_tree.specs.Syntax.{next_argument, type_argument, no_arguments}
use Rattle.fidl_constraints.specs.Behind.{word_head}
use Rattle.fidl_constraints.specs.AliasExamples.{core_of}
use Rattle.fidl_type_rules.proofs.Small.{plain_gathered}
use Rattle.fidl_type_rules.proofs.worked.optional_members_are_reported.Goals as goal

pub returns-clause-member : goal.returns-clause-member
returns-clause-member c = λ files n path t h.
    let given = next_argument (type_argument t) no_arguments in
    (record { core = core_of n (word_head name.Box given) []; parts = []; gathered = plain_gathered files n path given name.Box h; absent = refl }, refl)
