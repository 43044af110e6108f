use Rattle.std.proofs.Common.{List, Option, refl, sym, subst, take, map, ◌+◌}
use Rattle.std.specs.Prelude.{IfSome, IsNone}
use Rattle.fidl_tree.specs.Views.{member_view}
use Rattle.fidl_wire.specs.Term.{Term}
use Rattle.fidl_ir.specs.declared.term.Field.{Field}
use Rattle.fidl_ir.specs.Terms.{term_view, fields_view}
use Rattle.fidl_lower_layouts.specs.Members.{FieldIs, FieldsAre}
use Rattle.fidl_lower_layouts.proofs.Making.{one_field, more_fields}
use Rattle.fidl_lower_layouts.proofs.members.fields.Goals as goal

pub returns-in_default-clause-none : goal.returns-in_default-clause-none
returns-in_default-clause-none c = λ _ fs h.
    let files = c.args.scope.sources.now.named.now in
    let n = c.args.scope.file_index in
    let f = c.args.scope.file.now in
    let m = c.member-item.result in
    let none = subst (λ (o : Option Field). IsNone o → (name : List _) (e : Term) → FieldIs files n f (member_view m) name e → ⊥) c.in_default.is c.in_ok-next.ensures.none refl in
    let one = one_field files n f c.args.members.now c.loop-member.member-index m c.loop-member-test.true c.member-item.is fs h in
    none one.0 one.1.0 one.1.1

pub loop-member-preserved : goal.loop-member-preserved
loop-member-preserved c =
    let files = c.args.scope.sources.now.named.now in
    let n = c.args.scope.file_index in
    let f = c.args.scope.file.now in
    let m = c.member-item.result in
    let i = c.loop-member.member-index in
    let given = subst (λ (o : Option Field). IfSome o (λ x. FieldIs files n f (member_view m) x.name.items (term_view x.of))) c.in-Some.is c.in_ok-next.ensures.found in
    let more = more_fields files n f c.args.members.now i m c.loop-member-test.true c.member-item.is c.loop-member.found.items c.in-Some.next c.loop-member.invariant given in
    subst (λ (l : List Field). FieldsAre files n f (take (i + 1) (map member_view c.args.members.now)) (fields_view l)) (sym c.in_ok-push.ensures.items) more
