use Rattle.std.proofs.Common.{◌≡◌, Bor, Option, Some, sym, subst, true≢false}
use Rattle.std.specs.Prelude.{IfSome, option_map, option_copied}
use Rattle.std.proofs.lemmas.Option.{same_Some, none-some}
use Rattle.fidl_tree.specs.Syntax.{ValuesKind, enum_kind}
use Rattle.fidl_tree.specs.Views.{kind_view}
use Rattle.fidl_tree.specs.declared.keyword.ValuesKeyword.{ValuesKeyword}
use Rattle.fidl_constraints.specs.BehindViews.{use_view}
use Rattle.fidl_resource_rules.specs.Kinds.{AreOfUint32}
use Rattle.fidl_resource_rules.proofs.properties.subtype_suits.Goals as goal

pub returns-in-None : goal.returns-in-None
returns-in-None c =
    let fs = c.args.sources.now.named.now in
    let i = c.args.file_index in
    let t = use_view c.args.of in
    let only = subst (λ (o : Option (Bor ValuesKeyword)). (kind : ValuesKind) → AreOfUint32 fs i kind t → option_map kind_view (option_copied o) ≡ Some kind) c.in-None.is c.in_ok-values_of_uint32.ensures.only in
    ((λ yes. absurd (true≢false (sym yes))), λ h. absurd (none-some enum_kind (only enum_kind h)))

pub returns-in-Some : goal.returns-in-Some
returns-in-Some c =
    let fs = c.args.sources.now.named.now in
    let i = c.args.file_index in
    let t = use_view c.args.of in
    let k = kind_view c.in-Some.keyword.now in
    let its = subst (λ (o : Option (Bor ValuesKeyword)). IfSome o (λ x. AreOfUint32 fs i (kind_view x.now) t)) c.in-Some.is c.in_ok-values_of_uint32.ensures.found in
    let only = subst (λ (o : Option (Bor ValuesKeyword)). (kind : ValuesKind) → AreOfUint32 fs i kind t → option_map kind_view (option_copied o) ≡ Some kind) c.in-Some.is c.in_ok-values_of_uint32.ensures.only in
    ((λ yes. subst (λ (x : ValuesKind). AreOfUint32 fs i x t) (c.is_enum.ensures.0 yes) its), λ h. c.is_enum.ensures.1 (same_Some k enum_kind (only enum_kind h)))
