use Rattle.std.proofs.Common.{◌≡◌, ◌∙◌, [], ◌∷◌, List, Option, ap, refl, sym, subst, take, map, ◌+◌, ℕ}
use Rattle.std.specs.Prelude.{IfSome, IsNone}
use Rattle.fidl_tree.specs.Syntax.{Attribute, Member, ordinal_member}
use Rattle.fidl_tree.specs.Views.{ordinal_member_view, type_view, attributes_view}
use Rattle.fidl_tree.specs.declared.type_constructor.OrdinalMember.{out-OrdinalMember}
use Rattle.fidl_wire.specs.Term.{Term}
use Rattle.fidl_ir.specs.declared.term.Row.{Row}
use Rattle.fidl_ir.specs.Terms.{term_view, rows_view}
use Rattle.fidl_lower_layouts.specs.Members.{RowIs, WrittenRowsAre, own_row}
use Rattle.fidl_lower_layouts.proofs.Numbered.{typed_is, reserved_is, one_row, same_rows, more_rows}
use Rattle.fidl_lower_layouts.proofs.members.written_rows.Goals as goal
use Rattle.fidl_lower_layouts.proofs.members.written_rows.Goals.{in-Reserved, in-Typed+in_ok-next-in-Typed+in-Some+in_ok-push-in-Typed}

pub returns-in_default-clause-none : goal.returns-in_default-clause-none
returns-in_default-clause-none c = λ _ rows h.
    let files = c.args.scope.sources.now.named.now in
    let n = c.args.scope.file_index in
    let f = c.args.scope.file.now in
    let m = c.member-item.result in
    let attributes = attributes_view (out-OrdinalMember m).attributes.items in
    let its : Member = ordinal_member attributes (out-OrdinalMember m).ordinal c.in-Typed.name (type_view c.in-Typed.constructor) in
    let own : own_row (ordinal_member_view m) ≡ its ∷ [] = ap own_row (typed_is m c.in-Typed.name c.in-Typed.constructor c.in-Typed.is) in
    let none = subst (λ (o : Option Row). IsNone o → (attributes : List Attribute) (k : ℕ) (text : List ℕ) (e : Term) → RowIs files n f (ordinal_member attributes (out-OrdinalMember m).ordinal c.in-Typed.name (type_view c.in-Typed.constructor)) k text e → ⊥) c.in_default.is c.in_ok-next-in-Typed.ensures.none refl in
    let one = one_row files n f c.args.members.now c.loop-member.member-index m c.loop-member-test.true c.member-item.is rows its h own in
    none attributes one.0 one.1.0 one.1.1.0 one.1.1.1

pub loop-member-preserved : goal.loop-member-preserved
loop-member-preserved c =
    let files = c.args.scope.sources.now.named.now in
    let n = c.args.scope.file_index in
    let f = c.args.scope.file.now in
    let m = c.member-item.result in
    let i = c.loop-member.member-index in
    elim c.match-member.branch [
      | in-Reserved w ↦
          let own : own_row (ordinal_member_view m) ≡ [] = ap own_row (reserved_is m w.in-Reserved.field-0 w.in-Reserved.is) in
          let same : c.match-member.found.items ≡ c.loop-member.found.items = ap (λ v. v.items) w.found-is in
          subst (λ (l : List Row). WrittenRowsAre files n f (take (i + 1) (map ordinal_member_view c.args.members.now)) (rows_view l)) (sym same) (same_rows files n f c.args.members.now i m c.loop-member-test.true c.member-item.is (rows_view c.loop-member.found.items) c.loop-member.invariant own)
      | in-Typed+in_ok-next-in-Typed+in-Some+in_ok-push-in-Typed w ↦
          let attributes = attributes_view (out-OrdinalMember m).attributes.items in
          let its : Member = ordinal_member attributes (out-OrdinalMember m).ordinal w.in-Typed.name (type_view w.in-Typed.constructor) in
          let own : own_row (ordinal_member_view m) ≡ its ∷ [] = ap own_row (typed_is m w.in-Typed.name w.in-Typed.constructor w.in-Typed.is) in
          let given = subst (λ (o : Option Row). IfSome o (λ x. (attributes : List Attribute) → RowIs files n f (ordinal_member attributes (out-OrdinalMember m).ordinal w.in-Typed.name (type_view w.in-Typed.constructor)) x.ordinal x.name.items (term_view x.of))) w.in-Some.is w.in_ok-next-in-Typed.ensures.found in
          let more = more_rows files n f c.args.members.now i m c.loop-member-test.true c.member-item.is c.loop-member.found.items w.in-Some.next its c.loop-member.invariant own (given attributes) in
          let same : c.match-member.found.items ≡ w.push.new.self.items = ap (λ v. v.items) w.found-is in
          subst (λ (l : List Row). WrittenRowsAre files n f (take (i + 1) (map ordinal_member_view c.args.members.now)) (rows_view l)) (sym (same ∙ w.in_ok-push-in-Typed.ensures.items)) more
    ]
