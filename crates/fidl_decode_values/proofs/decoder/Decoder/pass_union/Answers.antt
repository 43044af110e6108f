use Rattle.fidl_decode_values.specs.Reading.{message}
use Rattle.std.proofs.Common.{◌≡◌, ◌≢◌, ◌+◌, ◌-◌, sym, ap, subst, ◌∙◌, arith}
use Rattle.std.specs.Prelude.{Option, Some, None}
use Rattle.fidl_wire.specs.Term as ty
use Rattle.fidl_wire.specs.Term.{Term, find}
use Rattle.fidl_table_format.specs.Section.{entry_at}
use Rattle.fidl_table_format.specs.Terms.{is_optional, members_of}
use Rattle.fidl_table_format.specs.Entry.{kind_is}
use Rattle.fidl_table_format.specs.Uses.{uses_ordinals}
use Rattle.fidl_table_format.specs.declared.kind.EntryKind.{EntryKind}
use Rattle.std.specs.Option.{option_map_or}
use Rattle.std.specs.Prelude.{IsTrue, false}
use Rattle.fidl_verify.proofs.Members.{lies_within, if_some}
use Rattle.fidl_decode_model.specs.Breaks.{ordinal_at}
use Rattle.fidl_decode_model.specs.State.{Position}
use Rattle.fidl_decode_model.specs.Machine.{Opens, at_of}
use Rattle.fidl_decode_values.proofs.Chosen.{visits_absent_union, visits_union}
use Rattle.fidl_decode_values.proofs.ReadyPlaces.{first_free, last_free, last_ready}
use Rattle.fidl_decode_values.proofs.decoder.Decoder.pass_union.Goals as goal

no_none : {A : Type 0} (a : A) → Some a ≡ None → ⊥
no_none a e = cc

pub u64_at-ordinal-requires-clause-free : goal.u64_at-ordinal-requires-clause-free
u64_at-ordinal-requires-clause-free c = first_free (message c.args.self.now) (at_of c.args.state.now) c.args.place c.requires.ready

pub is_absent-requires-clause-free : goal.is_absent-requires-clause-free
is_absent-requires-clause-free c = last_free (message c.args.self.now) (at_of c.args.state.now) c.args.place c.requires.ready

pub returns-then-ordinal-eq0-clause-passed : goal.returns-then-ordinal-eq0-clause-passed
returns-then-ordinal-eq0-clause-passed c so =
    visits_absent_union c.args.self.now.table.now c.args.self.now.fine (message c.args.self.now) c.args.depth c.args.entry c.args.place
    (at_of c.args.state.now) c.requires.entry c.requires.kind c.requires.state c.requires.depth (c.args.state.now.steps - c.args.state.now.steps)
    (omega arith) (sym (ap is_optional c.entry-e.ensures.value) ∙ sym c.is_optional.ensures ∙ c.if-not-is_optional.false)
    (c.is_absent.ensures.0 so) (omega (arith, c.requires.room)) (λ i. omega (arith, c.args.self.now.octets i))
    (sym c.u64_at-ordinal.ensures ∙ c.if-ordinal-eq0.true)

pub overflow_add-e : goal.overflow_add-e
overflow_add-e c =
    let t = c.args.self.now.table.now in
    let uses : IsTrue (kind_is uses_ordinals (entry_at t c.args.entry)) = ap (λ (o : Option EntryKind). option_map_or uses_ordinals o false) c.requires.kind in
    let within = lies_within t c.rows-rows.ensures.well_formed c.args.entry c.requires.entry uses c.entry-e.result c.entry-e.ensures.value in
    record { fits = omega (arith, within, c.if-ordinal-eq0.false, c.if-ordinal-from.false, c.from.ensures, c.rows-rows.ensures.value) }

pub row-row-requires : goal.row-row-requires
row-row-requires c =
    let t = c.args.self.now.table.now in
    let uses : IsTrue (kind_is uses_ordinals (entry_at t c.args.entry)) = ap (λ (o : Option EntryKind). option_map_or uses_ordinals o false) c.requires.kind in
    let within = lies_within t c.rows-rows.ensures.well_formed c.args.entry c.requires.entry uses c.entry-e.result c.entry-e.ensures.value in
    omega (arith, within, c.if-ordinal-eq0.false, c.if-ordinal-from.false, c.from.ensures)

pub pass_member-requires-clause-ready : goal.pass_member-requires-clause-ready
pass_member-requires-clause-ready c = last_ready (message c.args.self.now) (at_of c.args.state.now) c.args.place c.requires.ready

pub returns-then-not-pass_member-clause-uncounted :
    goal.returns-then-not-pass_member-clause-uncounted
returns-then-not-pass_member-clause-uncounted c not =
    let kept = c.pass_member.ensures.kept c.if-not-pass_member.true in
    omega (arith, c.pass_member.ensures.grows, c.pass_member.ensures.pays, ap (λ (s : Position). s.next) kept)

pub overflow_add-state : goal.overflow_add-state
overflow_add-state c =
    let o = c.pass_member.ensures.passed c.if-not-pass_member.false in
    let room = o.state.next in
    record { fits = omega (arith, c.requires.budget, c.pass_member.ensures.pays, room, c.args.self.now.short) }

pub returns-clause-passed : goal.returns-clause-passed
returns-clause-passed c so =
    let t = c.args.self.now.table.now in
    let m = message c.args.self.now in
    let old = at_of c.args.state.now in
    let e = c.args.entry in
    let new = at_of c.pass_member.new.state in
    let own = c.pass_member.new.state.steps - c.args.state.now.steps in
    let all = c.pass_member.new.state.steps + 2 - c.args.state.now.steps in
    let number : c.u64_at-ordinal.result ≡ ordinal_at m.bytes c.args.place = c.u64_at-ordinal.ensures in
    let some : (ordinal_at m.bytes c.args.place) ≢ 0 = (λ none. omega (arith, c.if-ordinal-eq0.false, number, none)) in
    let uses : IsTrue (kind_is uses_ordinals (entry_at t e)) = ap (λ (o : Option EntryKind). option_map_or uses_ordinals o false) c.requires.kind in
    let key : c.row-row.result.key ≡ c.u64_at-ordinal.result = sym c.from-2.ensures ∙ c.if-from-ordinal.false in
    let found : find (members_of t e) c.u64_at-ordinal.result ≡ Some (ty.named c.row-row.result.entry) = if_some t c.rows-rows.ensures.well_formed e c.requires.entry uses c.entry-e.result c.entry-e.ensures.value c.u64_at-ordinal.result
    (Some c.row-row.result) (c.u64_at-ordinal.result - 1, omega (arith, c.if-ordinal-eq0.false, c.if-ordinal-from.false, c.from.ensures), c.row-row.ensures.value, key) in
    let tie : find (members_of t e) (ordinal_at m.bytes c.args.place) ≡ Some (ty.named c.row-row.result.entry) = ap (λ k. find (members_of t e) k) (sym number) ∙ found in
    let o = c.pass_member.ensures.passed c.if-not-pass_member.false in
    let grows = c.pass_member.ensures.grows in
    let room = o.state.next in
    visits_union t c.args.self.now.fine m c.args.depth e c.args.place old c.requires.entry c.requires.kind some
    (λ none. absurd (no_none (ty.named c.row-row.result.entry) (sym tie ∙ none))) new own all None
    (omega (arith, grows)) (omega (arith, grows)) (omega (arith, c.pass_member.ensures.pays, grows, room)) (omega (arith, c.requires.room)) (λ i. omega (arith, c.args.self.now.octets i))
    (subst (λ (u : Option Term). Opens t m c.args.depth u (c.args.place + 8) old new own None) (sym tie) o)
