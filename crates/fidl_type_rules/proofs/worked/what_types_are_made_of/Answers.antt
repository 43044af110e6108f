use Rattle.std.proofs.Common.{◌≡◌, ℕ, [], refl}
use Rattle.std.proofs.lemmas.Option.{none-some}
use Rattle.fidl_tree.specs.Syntax.{Layout, TypeUse, layout_type}
use Rattle.fidl_tree.specs.declared.file.File.{File}
use Rattle.std.specs.Prelude.{List}
use Rattle.fidl_constraints.specs.Behind.{Target, ends, follows, RefersTo, layout_head}
use Rattle.fidl_constraints.proofs.OneBehind.{one_target}
use Rattle.fidl_type_rules.specs.Made.{IsMadeOf, of_alias, of_argument}
use Rattle.fidl_type_rules.proofs.worked.what_types_are_made_of.Goals as goal

pub returns-clause-argument : goal.returns-clause-argument
returns-clause-argument c = λ files n path t rest. of_argument t refl

pub returns-clause-alias : goal.returns-clause-alias
returns-clause-alias c = λ files n of path u h. of_alias of u h

of_none : (files : List File) (n of : ℕ) (l : Layout) (u : TypeUse) → IsMadeOf files n (layout_type [] l []) of u → ⊥
of_none files n of l u (of_alias _ _ h) =
    let is : follows of u ≡ ends n (layout_head l) = one_target files n (layout_type [] l []) (follows of u) (ends n (layout_head l)) h (RefersTo.by_layout [] l []) in
    absurd (cc)
of_none files n of l u (of_argument _ is) = none-some u is

pub returns-clause-layout : goal.returns-clause-layout
returns-clause-layout c = of_none
