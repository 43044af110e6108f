use Rattle.std.proofs.Common.{ℕ, Bool, List, Option, refl, subst, map}
use Rattle.std.specs.Prelude.{Some, IfOk, IfSome, IsNone}
use Rattle.std.proofs.lemmas.Result.{IfOk-weaker}
use Rattle.fidl_tree.specs.Views.{kind_view, is_strict, value_member_view, values_view}
use Rattle.fidl_tree.specs.declared.value_member.ValueMember.{ValueMember}
use Rattle.fidl_tree.specs.declared.type_constructor.ValuesLayout.{out-ValuesLayout}
use Rattle.fidl_consts.specs.declared.const_type.NumberKind.{NumberKind}
use Rattle.fidl_consts.specs.Types.{LayoutIs}
use Rattle.fidl_wire.specs.Term.{Term}
use Rattle.fidl_ir.specs.declared.term.Definition.{Definition}
use Rattle.fidl_lower_layouts.specs.Values.{IsNumbered}
use Rattle.fidl_lower_layouts.specs.Definitions.{LayoutIs as PlainLayoutIs}
use Rattle.fidl_lower_layouts.proofs.ValueKinds.{its_members, values_without_kind, values_without}
use Rattle.fidl_lower_layouts.proofs.values.values_definition.Goals as goal

pub returns-in_default-clause-none : goal.returns-in_default-clause-none
returns-in_default-clause-none c = λ _ number optional.
    let files = c.args.scope.sources.now.named.now in
    let f = c.args.scope.file.now in
    values_without_kind files f c.args.layout.now number optional (subst (λ (o : Option NumberKind). IsNone o → (kind : NumberKind) → LayoutIs files f c.args.layout.now (Some kind) → ⊥) c.in_default.is c.in_ok-kind.ensures.none refl)

pub returns-clause-none : goal.returns-clause-none
returns-clause-none c =
    let files = c.args.scope.sources.now.named.now in
    let f = c.args.scope.file.now in
    let l = c.args.layout.now in
    let kind = c.in-Some.kind in
    let of = subst (λ (o : Option NumberKind). IfSome o (λ kind. LayoutIs files f l (Some kind))) c.in-Some.is c.in_ok-kind.ensures.found in
    let listed = subst (λ (ms : List ValueMember). IfOk c.numbered.result (λ (o : Option Definition). IsNone o → (t : Term) → IsNumbered files f kind (kind_view (out-ValuesLayout l).keyword) c.is_strict-strict.result (map value_member_view ms) t → ⊥)) c.deref.ensures.value c.numbered.ensures.none in
    let none = subst (λ (b : Bool). IfOk c.numbered.result (λ (o : Option Definition). IsNone o → (t : Term) → IsNumbered files f kind (kind_view (out-ValuesLayout l).keyword) b (its_members l) t → ⊥)) c.is_strict-strict.ensures listed in
    IfOk-weaker c.numbered.result (λ (o : Option Definition). IsNone o → (t : Term) → IsNumbered files f kind (kind_view (out-ValuesLayout l).keyword) (is_strict (out-ValuesLayout l).strictness) (its_members l) t → ⊥)
    (λ (o : Option Definition). IsNone o → (number : ℕ) (optional : Bool) (t : Term) → PlainLayoutIs files number f optional (values_view l) t → ⊥)
    (λ o none empty number optional. values_without files f l number optional kind of (none empty)) none
