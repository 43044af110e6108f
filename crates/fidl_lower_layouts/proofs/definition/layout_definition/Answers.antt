use Rattle.std.proofs.Common.{ℕ, Bool, Option, map, subst}
use Rattle.std.specs.Prelude.{IfSome, IsNone}
use Rattle.std.proofs.lemmas.Result.{IfOk-weaker}
use Rattle.fidl_tree.specs.Syntax.{Layout, members_of}
use Rattle.fidl_tree.specs.Views.{body_view, values_view, member_view, ordinal_member_view}
use Rattle.fidl_wire.specs.Term.{Term}
use Rattle.fidl_ir.specs.declared.term.Definition.{Definition}
use Rattle.fidl_ir.specs.Terms.{definition_view}
use Rattle.fidl_lower_layouts.specs.Definitions.{IsStructOf, IsTableOf, IsUnionOf, LayoutIs}
use Rattle.fidl_lower_layouts.proofs.Bodies.{values_body, struct_is, table_is, union_is, some_more}
use Rattle.fidl_lower_layouts.proofs.definition.layout_definition.Goals as goal

pub returns-in-Values-clause-found : goal.returns-in-Values-clause-found
returns-in-Values-clause-found c =
    let files = c.args.scope.sources.now.named.now in
    let n = c.args.scope.file_index in
    let f = c.args.scope.file.now in
    let l = c.in-Values.layout in
    IfOk-weaker c.values_definition.result (λ (o : Option Definition). IfSome o (λ d. (number : ℕ) (optional : Bool) → LayoutIs files number f optional (values_view l) (definition_view d)))
    (λ (o : Option Definition). IfSome o (λ d. LayoutIs files n f c.args.optional (body_view c.args.body.now) (definition_view d)))
    (some_more (λ (d : Definition). (number : ℕ) (optional : Bool) → LayoutIs files number f optional (values_view l) (definition_view d)) (λ (d : Definition). LayoutIs files n f c.args.optional (body_view c.args.body.now) (definition_view d))
    (λ d h. subst (λ (x : Layout). LayoutIs files n f c.args.optional x (definition_view d)) (values_body c.args.body.now l c.in-Values.is) (h n c.args.optional)))
    c.values_definition.ensures.found

pub returns-in-Struct-clause-none : goal.returns-in-Struct-clause-none
returns-in-Struct-clause-none c =
    let files = c.args.scope.sources.now.named.now in
    let n = c.args.scope.file_index in
    let f = c.args.scope.file.now in
    let ms = c.deref.result.now in
    let same = struct_is c.args.body.now c.in-Struct.layout c.in-Struct.is ms c.deref.ensures.value in
    IfOk-weaker c.struct_of.result (λ (o : Option Definition). IsNone o → (t : Term) → IsStructOf files n f (members_of (map member_view ms)) t → ⊥)
    (λ (o : Option Definition). IsNone o → (t : Term) → LayoutIs files n f c.args.optional (body_view c.args.body.now) t → ⊥)
    (λ o none empty t h. none empty t (subst (λ (x : Layout). LayoutIs files n f c.args.optional x t) same h))
    c.struct_of.ensures.none

pub returns-in-Table-clause-none : goal.returns-in-Table-clause-none
returns-in-Table-clause-none c =
    let files = c.args.scope.sources.now.named.now in
    let n = c.args.scope.file_index in
    let f = c.args.scope.file.now in
    let ms = c.deref-in-Table.result.now in
    let same = table_is c.args.body.now c.in-Table.layout c.in-Table.is ms c.deref-in-Table.ensures.value in
    IfOk-weaker c.table_of.result (λ (o : Option Definition). IsNone o → (t : Term) → IsTableOf files n f (members_of (map ordinal_member_view ms)) t → ⊥)
    (λ (o : Option Definition). IsNone o → (t : Term) → LayoutIs files n f c.args.optional (body_view c.args.body.now) t → ⊥)
    (λ o none empty t h. none empty t (subst (λ (x : Layout). LayoutIs files n f c.args.optional x t) same h))
    c.table_of.ensures.none

pub returns-in-Union-clause-none : goal.returns-in-Union-clause-none
returns-in-Union-clause-none c =
    let files = c.args.scope.sources.now.named.now in
    let n = c.args.scope.file_index in
    let f = c.args.scope.file.now in
    let ms = c.deref-in-Union.result.now in
    let same = union_is c.args.body.now c.in-Union.layout c.in-Union.is c.is_strict_union-strict.result c.is_strict_union-strict.ensures ms c.deref-in-Union.ensures.value in
    IfOk-weaker c.union_of.result (λ (o : Option Definition). IsNone o → (t : Term) → IsUnionOf files n f c.args.optional c.is_strict_union-strict.result (members_of (map ordinal_member_view ms)) t → ⊥)
    (λ (o : Option Definition). IsNone o → (t : Term) → LayoutIs files n f c.args.optional (body_view c.args.body.now) t → ⊥)
    (λ o none empty t h. none empty t (subst (λ (x : Layout). LayoutIs files n f c.args.optional x t) same h))
    c.union_of.ensures.none
