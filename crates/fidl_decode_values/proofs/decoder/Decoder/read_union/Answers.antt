use Rattle.fidl_decode_values.specs.Reading.{message}
use Rattle.fidl_decode_values.proofs.Fitting.{spends_any}
use Rattle.fidl_decode_values.proofs.Unchanged.{same_le}
use Rattle.std.proofs.Common.{true, false, ◌≡◌, ◌≢◌, ◌+◌, ◌-◌, refl, sym, ap, subst, ◌∙◌, arith}
use Rattle.std.specs.Prelude.{Option, None, not, IsFalse}
use Rattle.std.proofs.lemmas.Result.{IfOk-weaker, IfErr-weaker}
use Rattle.fidl_wire.specs.Term.{Term, find}
use Rattle.fidl_table_format.specs.Section.{entry_at}
use Rattle.fidl_table_format.specs.Terms.{declarations_of, members_of, is_optional, is_strict}
use Rattle.fidl_decode_model.specs.declared.fault.DecodeFault.TheVariants.{BadEnvelope, AbsentRequired, UnknownOrdinal}
use Rattle.fidl_decode_model.specs.Breaks.{BreaksUnion, BreaksMember, ordinal_at}
use Rattle.fidl_decode_model.specs.Machine.{Opens, PaysEnvelope, Visits, member_term, at_of}
use Rattle.fidl_decode_model.proofs.Turning.{if_ok_two}
use Rattle.fidl_decode_values.proofs.Chosen.{member_is, no_member, one_member, union_breaks, visits_absent_union, visits_union, member_breaks, union_fine}
use Rattle.fidl_decode_values.proofs.ReadyPlaces.{first_free, last_free, last_ready}
use Rattle.fidl_decode_values.proofs.decoder.Decoder.read_union.Goals.{else-is_none-via-then-is_none+else-is_strict, else-is_none-via-else-is_none}
use Rattle.fidl_decode_values.proofs.decoder.Decoder.read_union.Goals as goal

no_true : false ≡ true → ⊥
no_true e = cc

pub returns-then-not-is_absent-clause-fault_is_true : goal.returns-then-not-is_absent-clause-fault_is_true
returns-then-not-is_absent-clause-fault_is_true c =
    let b : BreaksUnion (message c.args.self.now) (is_optional (entry_at c.args.self.now.table.now c.args.entry))
    (is_strict (entry_at c.args.self.now.table.now c.args.entry)) (members_of c.args.self.now.table.now c.args.entry) c.args.place
    (BadEnvelope (c.args.place + 8)) = (
      refl,
      sym c.u64_at-ordinal.ensures ∙ c.if-ordinal-eq0.true,
      λ z. no_true
          (sym c.if-not-is_absent.true ∙ c.is_absent.ensures.1 z),
    ) in
    union_breaks c.args.self.now.table.now c.args.self.now.fine (message c.args.self.now) c.args.depth c.args.entry c.args.place (at_of c.args.state.now) c.requires.entry c.requires.kind (BadEnvelope (c.args.place + 8)) b

pub returns-then-not-is_optional-clause-fault_is_true : goal.returns-then-not-is_optional-clause-fault_is_true
returns-then-not-is_optional-clause-fault_is_true c =
    let b : BreaksUnion (message c.args.self.now) (is_optional (entry_at c.args.self.now.table.now c.args.entry))
    (is_strict (entry_at c.args.self.now.table.now c.args.entry)) (members_of c.args.self.now.table.now c.args.entry) c.args.place
    (AbsentRequired c.args.place) = (
      refl,
      sym (ap is_optional c.entry-e.ensures.value) ∙ sym c.is_optional.ensures ∙ c.if-not-is_optional.true,
      sym c.u64_at-ordinal.ensures ∙ c.if-ordinal-eq0.true,
      (c.is_absent.ensures.0 c.if-not-is_absent.false),
    ) in
    union_breaks c.args.self.now.table.now c.args.self.now.fine (message c.args.self.now) c.args.depth c.args.entry c.args.place (at_of c.args.state.now) c.requires.entry c.requires.kind (AbsentRequired c.args.place) b

pub returns-then-ordinal-eq0-clause-ok : goal.returns-then-ordinal-eq0-clause-ok
returns-then-ordinal-eq0-clause-ok c =
    visits_absent_union c.args.self.now.table.now c.args.self.now.fine (message c.args.self.now) c.args.depth c.args.entry c.args.place
    (at_of c.args.state.now) c.requires.entry c.requires.kind c.requires.state c.requires.depth (c.args.state.now.steps - c.args.state.now.steps)
    (omega arith) (sym (ap is_optional c.entry-e.ensures.value) ∙ sym c.is_optional.ensures ∙ c.if-not-is_optional.false)
    (c.is_absent.ensures.0 c.if-not-is_absent.false) (omega (arith, c.requires.room)) (λ i. omega (arith, c.args.self.now.octets i))
    (sym c.u64_at-ordinal.ensures ∙ c.if-ordinal-eq0.true)

pub returns-then-is_strict-clause-fault_is_true : goal.returns-then-is_strict-clause-fault_is_true
returns-then-is_strict-clause-fault_is_true c =
    let number : c.u64_at-ordinal.result ≡ ordinal_at c.args.self.now.bytes.value.came c.args.place = c.u64_at-ordinal.ensures in
    let some : (ordinal_at c.args.self.now.bytes.value.came c.args.place) ≢ 0 = (λ none. omega (arith, c.if-ordinal-eq0.false, number, none)) in
    let same : find (members_of c.args.self.now.table.now c.args.entry) c.u64_at-ordinal.result ≡ find (members_of c.args.self.now.table.now c.args.entry) (ordinal_at c.args.self.now.bytes.value.came c.args.place) = ap (λ k. find (members_of c.args.self.now.table.now c.args.entry) k) number in
    let none = no_member c.member-member.result (find (members_of c.args.self.now.table.now c.args.entry) c.u64_at-ordinal.result) c.member-member.ensures.none (c.is_none.ensures ∙ ap not c.if-is_none.true) in
    let b : BreaksUnion (message c.args.self.now) (is_optional (entry_at c.args.self.now.table.now c.args.entry))
    (is_strict (entry_at c.args.self.now.table.now c.args.entry)) (members_of c.args.self.now.table.now c.args.entry) c.args.place
    (UnknownOrdinal c.args.place) = (
      refl,
      sym (ap is_strict c.entry-e.ensures.value) ∙ sym c.is_strict.ensures ∙ c.if-is_strict.true,
      some,
      sym
          same ∙ none,
    ) in
    union_breaks c.args.self.now.table.now c.args.self.now.fine (message c.args.self.now) c.args.depth c.args.entry c.args.place (at_of c.args.state.now) c.requires.entry c.requires.kind (UnknownOrdinal c.args.place) b

pub returns-clause-ok : goal.returns-clause-ok
returns-clause-ok c =
    let number : c.u64_at-ordinal.result ≡ ordinal_at c.args.self.now.bytes.value.came c.args.place = c.u64_at-ordinal.ensures in
    let some : (ordinal_at c.args.self.now.bytes.value.came c.args.place) ≢ 0 = (λ none. omega (arith, c.if-ordinal-eq0.false, number, none)) in
    let same : find (members_of c.args.self.now.table.now c.args.entry) c.u64_at-ordinal.result ≡ find (members_of c.args.self.now.table.now c.args.entry) (ordinal_at c.args.self.now.bytes.value.came c.args.place) = ap (λ k. find (members_of c.args.self.now.table.now c.args.entry) k) number in
    let tie : member_term c.member-member.result ≡ find (members_of c.args.self.now.table.now c.args.entry)
    (ordinal_at c.args.self.now.bytes.value.came c.args.place) = sym (member_is c.member-member.result
    (find (members_of c.args.self.now.table.now c.args.entry) c.u64_at-ordinal.result) c.member-member.ensures.none c.member-member.ensures.some)
    ∙ same in
    let may : find (members_of c.args.self.now.table.now c.args.entry) (ordinal_at c.args.self.now.bytes.value.came c.args.place) ≡ None → IsFalse (is_strict (entry_at c.args.self.now.table.now c.args.entry)) = elim c.else-is_none.branch [
      | else-is_none-via-then-is_none+else-is_strict w ↦ (λ none. sym (ap is_strict c.entry-e.ensures.value) ∙ sym w.is_strict.ensures ∙ w.if-is_strict.false)
      | else-is_none-via-else-is_none w ↦ (λ none. absurd (one_member c.member-member.result (find (members_of c.args.self.now.table.now c.args.entry) c.u64_at-ordinal.result) c.member-member.ensures.some (c.is_none.ensures ∙ ap not w.if-is_none.false) (same ∙ none)))
    ] in
    let few = c.member-member.ensures.few in
    let grows = c.member-member.ensures.grows in
    let new = at_of c.open_envelope.new.state in
    let own = c.open_envelope.new.state.steps - c.member-member.new.probes in
    let all = c.open_envelope.new.state.steps - c.args.state.now.steps in
    if_ok_two c.open_envelope.result (Opens c.args.self.now.table.now (message c.args.self.now) c.args.depth (member_term c.member-member.result) (c.args.place + 8) (at_of c.args.state.now) new own) (PaysEnvelope c.args.self.now.bytes.value.came c.args.state.now.next new.next own)
    (Visits c.args.self.now.table.now (message c.args.self.now) c.args.depth c.args.entry c.args.place (at_of c.args.state.now) new all)
    (λ found o pays. visits_union c.args.self.now.table.now c.args.self.now.fine (message c.args.self.now) c.args.depth c.args.entry c.args.place
    (at_of c.args.state.now) c.requires.entry c.requires.kind some may new own all found
    (omega (arith, grows, c.open_envelope.ensures.spends.least)) (omega (arith, few, grows)) pays (omega (arith, c.requires.room))
    (λ i. omega (arith, c.args.self.now.octets i))
    (subst (λ (u : Option Term). Opens c.args.self.now.table.now (message c.args.self.now) c.args.depth u (c.args.place + 8) (at_of c.args.state.now) new own found) tie o)) c.open_envelope.ensures.ok c.open_envelope.ensures.pays

pub returns-clause-fine : goal.returns-clause-fine
returns-clause-fine c =
    IfOk-weaker c.open_envelope.result _ _ (λ found o. union_fine c.args.self.now.table.now c.args.self.now.fine (message c.args.self.now) c.args.depth c.args.entry c.args.place (at_of c.args.state.now) c.requires.entry c.requires.kind found o.fine) c.open_envelope.ensures.ok

pub returns-clause-fault_is_true : goal.returns-clause-fault_is_true
returns-clause-fault_is_true c =
    let number : c.u64_at-ordinal.result ≡ ordinal_at c.args.self.now.bytes.value.came c.args.place = c.u64_at-ordinal.ensures in
    let some : (ordinal_at c.args.self.now.bytes.value.came c.args.place) ≢ 0 = (λ none. omega (arith, c.if-ordinal-eq0.false, number, none)) in
    let same : find (members_of c.args.self.now.table.now c.args.entry) c.u64_at-ordinal.result ≡ find (members_of c.args.self.now.table.now c.args.entry) (ordinal_at c.args.self.now.bytes.value.came c.args.place) = ap (λ k. find (members_of c.args.self.now.table.now c.args.entry) k) number in
    let tie : member_term c.member-member.result ≡ find (members_of c.args.self.now.table.now c.args.entry)
    (ordinal_at c.args.self.now.bytes.value.came c.args.place) = sym (member_is c.member-member.result
    (find (members_of c.args.self.now.table.now c.args.entry) c.u64_at-ordinal.result) c.member-member.ensures.none c.member-member.ensures.some)
    ∙ same in
    let may : find (members_of c.args.self.now.table.now c.args.entry) (ordinal_at c.args.self.now.bytes.value.came c.args.place) ≡ None → IsFalse (is_strict (entry_at c.args.self.now.table.now c.args.entry)) = elim c.else-is_none.branch [
      | else-is_none-via-then-is_none+else-is_strict w ↦ (λ none. sym (ap is_strict c.entry-e.ensures.value) ∙ sym w.is_strict.ensures ∙ w.if-is_strict.false)
      | else-is_none-via-else-is_none w ↦ (λ none. absurd (one_member c.member-member.result (find (members_of c.args.self.now.table.now c.args.entry) c.u64_at-ordinal.result) c.member-member.ensures.some (c.is_none.ensures ∙ ap not w.if-is_none.false) (same ∙ none)))
    ] in
    IfErr-weaker c.open_envelope.result _ _ (λ fault b. member_breaks c.args.self.now.table.now c.args.self.now.fine (message c.args.self.now)
    c.args.depth c.args.entry c.args.place (at_of c.args.state.now) c.requires.entry c.requires.kind some may fault
    (subst (λ (u : Option Term). BreaksMember (declarations_of c.args.self.now.table.now) (message c.args.self.now) c.args.depth u
    (c.args.place + 8) (at_of c.args.state.now) fault) tie b)) c.open_envelope.ensures.fault_is_true

pub entry-e-requires : goal.entry-e-requires
entry-e-requires c = c.requires.entry

pub returns-then-not-is_absent-clause-ok : goal.returns-then-not-is_absent-clause-ok
returns-then-not-is_absent-clause-ok c = tt

pub returns-then-not-is_absent-clause-fine : goal.returns-then-not-is_absent-clause-fine
returns-then-not-is_absent-clause-fine c = tt

pub returns-then-not-is_absent-clause-spends : goal.returns-then-not-is_absent-clause-spends
returns-then-not-is_absent-clause-spends c = spends_any _ _ _ (same_le _) (omega arith)

pub returns-then-not-is_optional-clause-ok : goal.returns-then-not-is_optional-clause-ok
returns-then-not-is_optional-clause-ok c = tt

pub returns-then-not-is_optional-clause-fine : goal.returns-then-not-is_optional-clause-fine
returns-then-not-is_optional-clause-fine c = tt

pub returns-then-not-is_optional-clause-spends : goal.returns-then-not-is_optional-clause-spends
returns-then-not-is_optional-clause-spends c = spends_any _ _ _ (same_le _) (omega arith)

pub returns-then-ordinal-eq0-clause-fine : goal.returns-then-ordinal-eq0-clause-fine
returns-then-ordinal-eq0-clause-fine c = tt

pub returns-then-ordinal-eq0-clause-fault_is_true : goal.returns-then-ordinal-eq0-clause-fault_is_true
returns-then-ordinal-eq0-clause-fault_is_true c = tt

pub returns-then-ordinal-eq0-clause-spends : goal.returns-then-ordinal-eq0-clause-spends
returns-then-ordinal-eq0-clause-spends c = spends_any _ _ _ (same_le _) (omega arith)

pub member-member-requires-clause-entry : goal.member-member-requires-clause-entry
member-member-requires-clause-entry c = c.requires.entry

pub returns-then-is_strict-clause-ok : goal.returns-then-is_strict-clause-ok
returns-then-is_strict-clause-ok c = tt

pub returns-then-is_strict-clause-fine : goal.returns-then-is_strict-clause-fine
returns-then-is_strict-clause-fine c = tt

pub open_envelope-requires-clause-state : goal.open_envelope-requires-clause-state
open_envelope-requires-clause-state c = c.requires.state

pub open_envelope-requires-clause-depth : goal.open_envelope-requires-clause-depth
open_envelope-requires-clause-depth c = c.requires.depth

pub open_envelope-requires-clause-budget : goal.open_envelope-requires-clause-budget
open_envelope-requires-clause-budget c = omega (arith, c.requires.budget, c.member-member.ensures.few)

pub returns-clause-spends : goal.returns-clause-spends
returns-clause-spends c = record {
  least = omega (arith, c.member-member.ensures.grows, c.open_envelope.ensures.spends.least);
  most = omega (arith, c.member-member.ensures.few, c.open_envelope.ensures.spends.most);
}

pub u64_at-ordinal-requires-clause-free : goal.u64_at-ordinal-requires-clause-free
u64_at-ordinal-requires-clause-free c = first_free (message c.args.self.now) (at_of c.args.state.now) c.args.place c.requires.ready

pub is_absent-requires-clause-free : goal.is_absent-requires-clause-free
is_absent-requires-clause-free c = last_free (message c.args.self.now) (at_of c.args.state.now) c.args.place c.requires.ready

pub open_envelope-requires-clause-ready : goal.open_envelope-requires-clause-ready
open_envelope-requires-clause-ready c = last_ready (message c.args.self.now) (at_of c.args.state.now) c.args.place c.requires.ready
