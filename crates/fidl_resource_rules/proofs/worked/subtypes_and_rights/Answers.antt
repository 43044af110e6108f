use Rattle.std.proofs.Common.{◌≡◌, ◌∙◌, [], false, ◌∷◌, refl, ap, sym}
use Rattle.std.specs.Prelude.{codes}
use Rattle.fidl_tree.specs.Syntax.{layout_type, values_layout, enum_kind, no_underlying}
use Rattle.fidl_named.specs.declared.meaning.Predeclared.TheVariants as name
use Rattle.fidl_constraints.specs.Behind.{Core, layout_head, RefersTo, Behind}
use Rattle.fidl_constraints.specs.AliasExamples.{named_with, plain_word, core_of}
use Rattle.fidl_constraints.proofs.OneBehind.{one_behind}
use Rattle.fidl_resource_rules.specs.Kinds.{TypeSuits}
use Rattle.fidl_resource_rules.proofs.Names.{of_subtype_name}
use Rattle.fidl_resource_rules.proofs.Small.{word_core, word_behind}
use Rattle.fidl_resource_rules.proofs.worked.subtypes_and_rights.Goals as goal

pub returns-clause-subtype : goal.returns-clause-subtype
returns-clause-subtype c = λ files n k ms.
    let l = values_layout enum_kind false k no_underlying ms in
    TypeSuits.of_subtype refl (record {
      core = core_of n (layout_head l) [];
      layout = l;
      behind = Behind.no_alias n (layout_type [] l []) n (layout_head l) (RefersTo.by_layout [] l []);
      is = refl;
      suits = (refl, tt);
    })

pub returns-clause-no_number : goal.returns-clause-no_number
returns-clause-no_number c = λ files n path h suits.
    let t = named_with path [] in
    let its = of_subtype_name files n (codes "subtype") t refl suits in
    let cores = one_behind files n t its.core (word_core files n path name.Uint32) its.behind (word_behind files n path name.Uint32 h) in
    let heads : layout_head its.layout ≡ plain_word name.Uint32 = sym its.is ∙ ap (λ (x : Core). x.head) cores in
    absurd (cc)
