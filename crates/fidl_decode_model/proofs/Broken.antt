-- Tables and unions that break a rule: which values stand at the place of one, and how what breaks a rule in the envelopes of
-- a table comes apart.
use Rattle.std.proofs.Common.{◌≡◌, ◌≢◌, ℕ, suc, ◌+◌, ◌-◌, ◌*◌, ◌^◌, ◌<◌, ◌≤◌, Bool, true, false, List, length, Option, Some, None, refl, sym, ap, subst, ◌∙◌, arith, inl, inr}
use Rattle.std.specs.Prelude.{◌⊎◌, IsTrue, IsFalse}
use Rattle.std.specs.Int.{w64, to_le_bytes, next_multiple_of}
use Rattle.fidl_limits.specs.declared.limits.TheConstants.{MAX_DEPTH, MAX_MESSAGE_BYTES, MAX_MESSAGE_HANDLES}
use Rattle.fidl_wire.specs.Value.{Value, absent, table, union, Member, known, unknown}
use Rattle.fidl_wire.specs.Term.{Term, Rows, find}
use Rattle.fidl_wire.specs.Term as ty
use Rattle.fidl_wire.specs.Figure.{Declarations, IsLaidOut, size_of}
use Rattle.fidl_wire.specs.Typed.{IsTyped, IsTypedMember}
use Rattle.fidl_wire.specs.Encoding.{zeros, present, pad8, inline_only, encoding_of, enveloped, envelopes}
use Rattle.fidl_wire.specs.Depth.{depth_of}
use Rattle.fidl_wire.specs.Standing.{Stands}
use Rattle.fidl_wire.proofs.Sizes.{le-next_multiple_of}
use Rattle.fidl_wire.proofs.Stand.{stands_front, stands_back}
use Rattle.fidl_decode_model.specs.declared.fault.DecodeFault.{DecodeFault}
use Rattle.fidl_decode_model.specs.declared.fault.DecodeFault.TheVariants.{BadMarker, AbsentRequired, BadCount, OverBound, TooDeep, Truncated, BadEnvelope, WrongCounts, UnknownOrdinal}
use Rattle.fidl_decode_model.specs.Worth.{ValueWorth}
use Rattle.fidl_decode_model.specs.State.{Message, Position, linked, envelope_place, after, StandsAt, ValueAt, Slots}
use Rattle.fidl_decode_model.specs.Envelopes.{Contained, CanHold, CountsTooMany, IsRightEnvelope}
use Rattle.fidl_wire.specs.Envelope.{bytes_below, handles_below}
use Rattle.fidl_decode_model.specs.Breaks.{count_at, ordinal_at, BreaksTable, BreaksUnion, IsRight, BreaksEnvelopes, BreaksMember, at_member, behind_none, behind_member}
use Rattle.fidl_decode_model.proofs.Numbers.{number_64}
use Rattle.fidl_decode_model.proofs.After.{length-pad8, length-table}
use Rattle.fidl_decode_model.proofs.Rows.{stands_joined, past_inline}
use Rattle.fidl_decode_model.proofs.Enveloped.{bytes_room}

clash : true ≡ false → ⊥
clash e = cc

some_none : (t : Term) → Some t ≡ None → ⊥
some_none t e = cc

not_both : (m : List ℕ) (p : ℕ) → Stands m p (zeros 8) → Stands m p present → ⊥
not_both m p h k = let a = h.1 in let b = k.1 in omega (arith, a, b)

-- a member of a strict layout is one of a flexible layout, and known
flexible_too : (ds : Declarations) (strict : Bool) (o : Option Term) (x : Member) → IsTypedMember ds strict o x → IsTypedMember ds false o x
flexible_too ds strict (Some t) (known v) h = h
flexible_too ds strict None (unknown inline bytes handles) h = (refl, h.1, h.2, h.3)
flexible_too ds strict _ _ h = absurd h

flexible_if : (ds : Declarations) (strict : Bool) (o : Option Term) (x : Member) → IsTypedMember ds strict o x → o ≡ None → IsFalse strict
flexible_if ds strict (Some t) x h none = absurd (some_none t none)
flexible_if ds strict None (unknown inline bytes handles) h none = h.0
flexible_if ds strict None (known v) h none = absurd h

-- ---- unions

module _ (ds : Declarations) (m : Message) (held : ℕ) (optional strict : Bool) (rows : Rows) (place : ℕ) (from : Position) where
  -- nothing is there
  abbrev pub Absent : Position → Type 0
  Absent to = Stands m.bytes place (zeros 16) × IsTrue optional × (from ≡ to)

  -- the member of an ordinal is in or behind the envelope
  pub record Chosen (to : Position) : Type 0 where
    pub some : 0 < ordinal_at m.bytes place
    pub flexible : find rows (ordinal_at m.bytes place) ≡ None → IsFalse strict
    pub contained : Contained ds m held (find rows (ordinal_at m.bytes place)) (place + 8) from to

  pub union_values : (to : Position) → ValueAt ds m held (ty.union optional strict rows) place from to → Absent to ⊎ Chosen to
  union_values to x = only x.value x.typed x.shallow x.stands x.end
    where
      u : Term
      u = ty.union optional strict rows

      only : (v : Value) → IsTyped ds (ty.union optional strict rows) v → depth_of ds (ty.union optional strict rows) v + held ≤ MAX_DEPTH → StandsAt m (encoding_of ds (ty.union optional strict rows) v) place from
          → to ≡ after ds (ty.union optional strict rows) v place from → Absent to ⊎ Chosen to
      only absent h d s e = inl (s.inline, h, sym e)
      only (union ordinal y) h d s e =
          let a = inline_only (to_le_bytes w64 ordinal) in
          let b = enveloped ds (find rows ordinal) y in
          let two = stands_joined m a b place from s in
          let is : ordinal ≡ ordinal_at m.bytes place = sym (number_64 m.bytes place ordinal h.1 two.0.inline) in
          let there : StandsAt m b (place + 8) from = subst (λ (q : Position). StandsAt m b (place + 8) q) (past_inline (to_le_bytes w64 ordinal) from) two.1 in
          let own : Contained ds m held (find rows ordinal) (place + 8) from to = record { content = y; typed = flexible_too ds strict (find rows ordinal) y h.2; shallow = d; stands = there; end = e } in
          inr (record {
            some = omega (arith, h.0, is);
            flexible = subst (λ o. find rows o ≡ None → IsFalse strict) is (flexible_if ds strict (find rows ordinal) y h.2);
            contained = subst (λ o. Contained ds m held (find rows o) (place + 8) from to) is own;
          })
      only _ h d s e = absurd h

  no_ordinal : Stands m.bytes place (zeros 16) → ordinal_at m.bytes place ≡ 0
  no_ordinal z = number_64 m.bytes place 0 (omega arith) (stands_front m.bytes place (zeros 8) (zeros 8) z)

  -- without an ordinal it is absent
  pub union_absent : (to : Position) → ordinal_at m.bytes place ≡ 0 → ValueAt ds m held (ty.union optional strict rows) place from to → Absent to
  union_absent to none x = elim (union_values to x) [ inl y ↦ y | inr c ↦ absurd (omega (arith, c.some, none)) ]

  pub absent_union : IsTrue optional → Stands m.bytes place (zeros 16) → held ≤ MAX_DEPTH → ValueWorth ds m held (ty.union optional strict rows) place from from 1
  absent_union may z deep = (record { value = absent; typed = may; shallow = omega arith; stands = record { inline = z; out = tt; carried = tt }; end = refl }, omega arith)

  -- with one it is the member in its envelope
  pub union_chosen : (to : Position) → (ordinal_at m.bytes place ≢ 0) → ValueAt ds m held (ty.union optional strict rows) place from to → Chosen to
  union_chosen to some x = elim (union_values to x) [ inl y ↦ absurd (some (no_ordinal y.0)) | inr c ↦ c ]

  pub union_excluded : (to : Position) (fault : DecodeFault) → BreaksUnion m optional strict rows place fault → ValueAt ds m held (ty.union optional strict rows) place from to → ⊥
  union_excluded to (AbsentRequired at) b x = clash (sym (union_absent to b.2 x).1 ∙ b.1)
  union_excluded to (BadEnvelope at) b x = b.2 (stands_back m.bytes place (zeros 8) (zeros 8) (union_absent to b.1 x).0)
  union_excluded to (UnknownOrdinal at) b x = clash (sym b.1 ∙ (union_chosen to b.2 x).flexible b.3)
  union_excluded to fault b x = absurd b

  -- one with the ordinal of a member, or a flexible one with any, breaks no rule by itself
  pub union_right : (ordinal_at m.bytes place ≢ 0) → (IsTrue strict → find rows (ordinal_at m.bytes place) ≡ None → ⊥) → IsRight ds m held (ty.union optional strict rows) place from
  union_right some has (AbsentRequired at) b = some b.2
  union_right some has (BadEnvelope at) b = some b.1
  union_right some has (UnknownOrdinal at) b = has b.1 b.3
  union_right some has other b = absurd b

-- ---- tables

module _ (ds : Declarations) (laid : IsLaidOut ds) (m : Message) (held : ℕ) (rows : Rows) (place : ℕ) (from : Position) where
  -- a table: its envelopes are the next object
  pub record Tabled (to : Position) : Type 0 where
    pub ones : Stands m.bytes (place + 8) present
    pub counts : count_at m.bytes place < 2 ^ 64
    pub shallow : held < MAX_DEPTH
    pub room : next_multiple_of (8 * count_at m.bytes place) 8 ≤ length m.bytes - from.next
    pub slots : Slots ds m (held + 1) rows 0 (count_at m.bytes place) from.next (linked (place + 8) (8 * count_at m.bytes place) from) to

  pub table_value : (to : Position) → ValueAt ds m held (ty.table rows) place from to → Tabled to
  table_value to x = only x.value x.typed x.shallow x.stands x.end
    where
      only : (v : Value) → IsTyped ds (ty.table rows) v → depth_of ds (ty.table rows) v + held ≤ MAX_DEPTH → StandsAt m (encoding_of ds (ty.table rows) v) place from → to ≡ after ds (ty.table rows) v place from → Tabled to
      only (table n ms) h d s e =
          let a = envelopes ds rows 1 n ms in
          let is : n ≡ count_at m.bytes place = sym (number_64 m.bytes place n h.0 (stands_front m.bytes place (to_le_bytes w64 n) present s.inline)) in
          let long : length (pad8 a.inline) ≡ next_multiple_of (8 * n) 8 = length-pad8 a.inline ∙ ap (λ k. next_multiple_of k 8) (length-table ds laid rows n ms h.1) in
          let first = stands_front m.bytes from.next (pad8 a.inline) a.out s.out in
          let here : from.next ≡ from.next + 8 * 0 = omega arith in
          let fits = bytes_room m.bytes from.next (pad8 a.inline) first in
          let own : Slots ds m (held + 1) rows 0 n from.next (linked (place + 8) (8 * n) from) to = record {
            members = ms;
            typed = h.1;
            shallow = omega (arith, d);
            stands = record {
              inline = subst (λ p. Stands m.bytes p a.inline) here (stands_front m.bytes from.next a.inline (zeros (next_multiple_of (length a.inline) 8 - length a.inline)) first);
              out = subst (λ k. Stands m.bytes (from.next + k) a.out) long (stands_back m.bytes from.next (pad8 a.inline) a.out s.out);
              carried = s.carried;
            };
            end = e;
          } in
          record {
            ones = stands_back m.bytes place (to_le_bytes w64 n) present s.inline;
            counts = subst (λ k. k < 2 ^ 64) is h.0;
            shallow = omega (arith, d);
            room = subst (λ k. next_multiple_of (8 * k) 8 ≤ length m.bytes - from.next) is (omega (arith, fits, long));
            slots = subst (λ k. Slots ds m (held + 1) rows 0 k from.next (linked (place + 8) (8 * k) from) to) is own;
          }
      only absent h d s e = absurd h
      only _ h d s e = absurd h

  pub table_excluded : (to : Position) (fault : DecodeFault) → BreaksTable m held place from.next fault → ValueAt ds m held (ty.table rows) place from to → ⊥
  table_excluded to (BadMarker at) b x = b.2 (table_value to x).ones
  table_excluded to (AbsentRequired at) b x = not_both m.bytes (place + 8) b.2 (table_value to x).ones
  table_excluded to (BadCount at) b x = elim b.1 [
    | inl z ↦ not_both m.bytes (place + 8) z.0 (table_value to x).ones
    | inr p ↦ omega (arith, p.1, (table_value to x).room, le-next_multiple_of (8 * count_at m.bytes place) 8)
  ]
  table_excluded to (OverBound at) b x = omega (arith, b.2, (table_value to x).counts)
  table_excluded to (TooDeep at) b x = omega (arith, b.2, (table_value to x).shallow)
  table_excluded to (Truncated at) b x = omega (arith, b.2, (table_value to x).room)
  table_excluded to fault b x = absurd b

  -- one that is there, not too deep, and whose envelopes fit, breaks no rule by itself
  pub table_right : Stands m.bytes (place + 8) present → held < MAX_DEPTH → count_at m.bytes place < 2 ^ 64 → next_multiple_of (8 * count_at m.bytes place) 8 ≤ length m.bytes - from.next → IsRight ds m held (ty.table rows) place from
  table_right ones shallow counts room (BadMarker at) b = b.2 ones
  table_right ones shallow counts room (AbsentRequired at) b = not_both m.bytes (place + 8) b.2 ones
  table_right ones shallow counts room (BadCount at) b = elim b.1 [
    | inl z ↦ not_both m.bytes (place + 8) z.0 ones
    | inr p ↦ omega (arith, p.1, room, le-next_multiple_of (8 * count_at m.bytes place) 8)
  ]
  table_right ones shallow counts room (OverBound at) b = omega (arith, b.2, counts)
  table_right ones shallow counts room (TooDeep at) b = omega (arith, b.2, shallow)
  table_right ones shallow counts room (Truncated at) b = omega (arith, b.2, room)
  table_right ones shallow counts room other b = absurd b

-- ---- envelopes

-- an envelope whose counts a message can have does not count too many
pub counts_within : (bytes : List ℕ) (envelope : ℕ) → handles_below bytes envelope ≤ MAX_MESSAGE_HANDLES → bytes_below bytes envelope ≤ MAX_MESSAGE_BYTES → CountsTooMany bytes envelope → ⊥
counts_within bytes envelope few short c = elim c [ inl h ↦ omega (arith, few, h) | inr n ↦ omega (arith, short, n.1) ]

-- an envelope that can hold its known member, which is not too deep and fits out of line, and whose counts a message can have, breaks no rule by its numbers
pub envelope_right : (ds : Declarations) (m : Message) (held : ℕ) (t : Term) (envelope : ℕ) (from : Position) → CanHold ds m.bytes (Some t) envelope → held < MAX_DEPTH → next_multiple_of (size_of ds t) 8 ≤ length m.bytes - from.next → (CountsTooMany m.bytes envelope → ⊥)
    → IsRightEnvelope ds m held (Some t) envelope from
envelope_right ds m held t envelope from can shallow room few (BadEnvelope at) b = b.1 can
envelope_right ds m held t envelope from can shallow room few (TooDeep at) b = omega (arith, b.2, shallow)
envelope_right ds m held t envelope from can shallow room few (Truncated at) b = omega (arith, b.2, room)
envelope_right ds m held t envelope from can shallow room few (WrongCounts at) b = few b.1
envelope_right ds m held t envelope from can shallow room few other b = absurd b

-- ---- the envelopes of a table

module _ (ds : Declarations) (m : Message) (held : ℕ) (rows : Rows) (n base : ℕ) where
  -- the envelope behind so many is zeros, and the rest breaks the rule; or it is not, and its member does; or a member is in
  -- it, and the rest breaks the rule behind that
  abbrev pub BreaksNext : (read : ℕ) → Position → DecodeFault → Type 0
  BreaksNext read from fault = (Stands m.bytes (base + 8 * read) (zeros 8) × BreaksEnvelopes ds m held rows (suc (suc read)) n base from fault)
      ⊎ (((¬ (Stands m.bytes (base + 8 * read) (zeros 8))) × BreaksMember ds m held (find rows (suc read)) (base + 8 * read) from fault)
      ⊎ ((mid : Position) × Contained ds m held (find rows (suc read)) (base + 8 * read) from mid × BreaksEnvelopes ds m held rows (suc (suc read)) n base mid fault))

  same_place : (read : ℕ) → envelope_place base (suc read) ≡ base + 8 * read
  same_place read = omega arith

  pub broken_next : (read : ℕ) (from : Position) (fault : DecodeFault) → BreaksEnvelopes ds m held rows (suc read) n base from fault → (suc read ≤ n) × BreaksNext read from fault
  broken_next read from fault (at_member rows' ordinal' n' base' from' fault' le some b) =
      let e = same_place read in (
        le,
        inr (inl ((λ z. some (subst (λ p. Stands m.bytes p (zeros 8)) (sym e) z)), subst (λ p. BreaksMember ds m held (find rows (suc read)) p from fault) e b)),
      )
  broken_next read from fault (behind_none rows' ordinal' n' base' from' fault' le z b) = (le, inl (subst (λ p. Stands m.bytes p (zeros 8)) (same_place read) z, b))
  broken_next read from fault (behind_member rows' ordinal' n' base' from' mid fault' le c b) =
      (le, inr (inr (mid, subst (λ p. Contained ds m held (find rows (suc read)) p from mid) (same_place read) c, b)))

  pub next_broken : (read : ℕ) (from : Position) (fault : DecodeFault) → suc read ≤ n → BreaksNext read from fault → BreaksEnvelopes ds m held rows (suc read) n base from fault
  next_broken read from fault le b = elim b [
    | inl z ↦ behind_none rows (suc read) n base from fault le (subst (λ p. Stands m.bytes p (zeros 8)) (sym (same_place read)) z.0) z.1
    | inr c ↦ elim c [
      | inl x ↦ at_member rows (suc read) n base from fault le (λ z. x.0 (subst (λ p. Stands m.bytes p (zeros 8)) (same_place read) z)) (subst (λ p. BreaksMember ds m held (find rows (suc read)) p from fault) (sym (same_place read)) x.1)
      | inr y ↦ behind_member rows (suc read) n base from y.0 fault le (subst (λ p. Contained ds m held (find rows (suc read)) p from y.0) (sym (same_place read)) y.1) y.2
    ]
  ]

  -- no envelope is left
  pub none_broken : (ordinal : ℕ) (from : Position) (fault : DecodeFault) → n < ordinal → BreaksEnvelopes ds m held rows ordinal n base from fault → ⊥
  none_broken ordinal from fault lt (at_member rows' ordinal' n' base' from' fault' le some b) = omega (arith, lt, le)
  none_broken ordinal from fault lt (behind_none rows' ordinal' n' base' from' fault' le z b) = omega (arith, lt, le)
  none_broken ordinal from fault lt (behind_member rows' ordinal' n' base' from' mid fault' le c b) = omega (arith, lt, le)
