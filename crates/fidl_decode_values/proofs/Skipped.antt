-- An envelope that holds an unknown member: which members stand in it or behind it.
use Rattle.std.proofs.Common.{◌≡◌, ℕ, zero, suc, ◌+◌, ◌-◌, ◌<◌, ◌≤◌, true, false, List, [], ◌∷◌, length, get_or, Some, None, refl, sym, ap, subst, ◌∙◌, arith, inl, inr}
use Rattle.std.specs.Prelude.{◌↔◌, slice_get}
use Rattle.std.specs.List.{AllByRecursion}
use Rattle.std.specs.Int.{w32, to_le_bytes, next_multiple_of}
use Rattle.std.proofs.lemmas.Bool.{cases_lt}
use Rattle.std.proofs.lemmas.Option.{slice_get-get_or}
use Rattle.fidl_limits.specs.declared.limits.TheConstants.{MAX_DEPTH}
use Rattle.fidl_wire.specs.declared.handle.HandleInfo.{HandleInfo}
use Rattle.fidl_wire.specs.Value.{Member, unknown}
use Rattle.fidl_wire.specs.Figure.{Declarations, IsLaidOut}
use Rattle.fidl_wire.specs.Typed.{IsTypedMember, IsHandle, AreBytes, IsUnknownLength}
use Rattle.fidl_wire.specs.Encoding.{out_envelope, inline_envelope, envelope_end, enveloped}
use Rattle.fidl_wire.specs.Standing.{Carries}
use Rattle.fidl_wire.proofs.Stand.{stands_to, stands_front, stands_back, stands_both}
use Rattle.fidl_decode_model.specs.Faults.{IsWithin}
use Rattle.fidl_decode_model.specs.State.{Message, Position, opened, linked, passed, after_member, StandsAt}
use Rattle.fidl_decode_model.specs.declared.fault.DecodeFault.{DecodeFault}
use Rattle.fidl_decode_model.specs.Envelopes.{Contained, CanHold, BreaksEnvelope}
use Rattle.fidl_wire.specs.Envelope.{bytes_below, handles_below, flags_at}
use Rattle.fidl_decode_model.specs.Breaks.{BreaksMember}
use Rattle.fidl_decode_model.specs.Breaks as broken
use Rattle.fidl_decode_model.proofs.Scalars.{bytes_at, bytes_stand, length-bytes_at}
use Rattle.fidl_decode_model.proofs.Enveloped.{envelope_excluded}
use Rattle.fidl_decode_values.proofs.Counts.{end_numbers, first_number, end_stands, first_stands}

some_same : (a b : HandleInfo) → Some a ≡ Some b → a ≡ b
some_same a b e = cc

abbrev pub nobody : HandleInfo
nobody = record { id = 0; object_type = 0; rights = 0 }

-- so many records from one on are handles
abbrev pub AreHandles : List HandleInfo → (k n : ℕ) → Type 0
AreHandles hs k n = (i : ℕ) (h : HandleInfo) → k ≤ i → i < k + n → slice_get hs i ≡ Some h → IsHandle h

-- one more record that is a handle
pub one_more : (hs : List HandleInfo) (k n : ℕ) → n < length hs → IsHandle (get_or hs n nobody) → ((i : ℕ) (h : HandleInfo) → k ≤ i → i < n → slice_get hs i ≡ Some h → IsHandle h)
    → (i : ℕ) (h : HandleInfo) → k ≤ i → i < n + 1 → slice_get hs i ≡ Some h → IsHandle h
one_more hs k n lt last before i h a b e = elim (cases_lt i n) [
  | inl less ↦ before i h a less e
  | inr more ↦
      let same : i ≡ n = omega (arith, more, b) in
      let is : slice_get hs n ≡ Some h = subst (λ j. slice_get hs j ≡ Some h) same e in
      subst (λ (x : HandleInfo). IsHandle x) (some_same (get_or hs n nobody) h (sym (slice_get-get_or hs n nobody lt) ∙ is)) last
]

-- the list of them
record Records (hs : List HandleInfo) (k n : ℕ) : Type 0 where
  list : List HandleInfo
  long : length list ≡ n
  carried : Carries hs k list
  handles : AllByRecursion IsHandle list

records_at : (hs : List HandleInfo) (k n : ℕ) → n ≤ length hs - k → AreHandles hs k n → Records hs k n
records_at hs k zero le are = record { list = []; long = refl; carried = tt; handles = tt }
records_at hs k (suc n) le are =
    let is = slice_get-get_or hs k nobody (omega (arith, le)) in
    let more = records_at hs (k + 1) n (omega (arith, le)) (λ i h a b e. are i h (omega (arith, a)) (omega (arith, b)) e) in
    record {
      list = get_or hs k nobody ∷ more.list;
      long = ap suc more.long;
      carried = (is, more.carried);
      handles = (are k (get_or hs k nobody) (omega arith) (omega arith) is, more.handles);
    }

are_bytes : (m : List ℕ) → ((i : ℕ) → get_or m i 0 < 256) → (p n : ℕ) → AreBytes (bytes_at m p n)
are_bytes m small p zero = tt
are_bytes m small p (suc n) = (small p, are_bytes m small (p + 1) n)

-- an envelope's flags are not both
two_flags : (n : ℕ) → n ≡ 0 → n ≡ 1 → ⊥
two_flags n a b = omega (arith, a, b)

module _ (ds : Declarations) (laid : IsLaidOut ds) (m : Message) (within : IsWithin m.bytes m.handles) (held p : ℕ) (from : Position) where
  abbrev n : ℕ
  n = bytes_below m.bytes p

  abbrev k : ℕ
  k = handles_below m.bytes p

  -- the numbers of one that stands in its envelope
  inside_numbers : (bytes : List ℕ) (handles : List HandleInfo) → length bytes ≡ 4 → StandsAt m (inline_envelope bytes handles) p from → (flags_at m.bytes p ≡ 1) × (k ≡ length handles)
  inside_numbers bytes handles four s =
      end_numbers m within p 1 from.handle handles (omega arith) s.carried
      (stands_to m.bytes (p + length bytes) (p + 4) (envelope_end 1 handles) (omega (arith, four)) (stands_back m.bytes p bytes (envelope_end 1 handles) s.inline))

  -- those of one that is the next bytes out of line
  below_numbers : (bytes : List ℕ) (handles : List HandleInfo) → StandsAt m (out_envelope bytes handles) p from → (flags_at m.bytes p ≡ 0) × (k ≡ length handles) × (n ≡ length bytes)
  below_numbers bytes handles s =
      let e = end_numbers m within p 0 from.handle handles (omega arith) s.carried (stands_back m.bytes p (to_le_bytes w32 (length bytes)) (envelope_end 0 handles) s.inline) in
      (e.0, e.1, first_number m within p from.next bytes s.out (stands_front m.bytes p (to_le_bytes w32 (length bytes)) (envelope_end 0 handles) s.inline))

  inside_only : flags_at m.bytes p ≡ 1 → (to : Position) (c : Member) → IsTypedMember ds false None c → StandsAt m (enveloped ds None c) p from → to ≡ after_member ds None c p from → passed k (opened p from) ≡ to
  inside_only flags to (unknown true bytes handles) h s e = ap (λ j. passed j (opened p from)) (inside_numbers bytes handles h.2 s).1 ∙ sym e
  inside_only flags to (unknown false bytes handles) h s e = absurd (two_flags (flags_at m.bytes p) (below_numbers bytes handles s).0 flags)
  inside_only flags to _ h s e = absurd h

  below_only : flags_at m.bytes p ≡ 0 → (to : Position) (c : Member) → IsTypedMember ds false None c → StandsAt m (enveloped ds None c) p from → to ≡ after_member ds None c p from → passed k (linked p n (opened p from)) ≡ to
  below_only flags to (unknown false bytes handles) h s e = let both = below_numbers bytes handles s in let a = both.1 in let b = both.2 in (λ i. passed (a i) (linked p (b i) (opened p from))) ∙ sym e
  below_only flags to (unknown true bytes handles) h s e = absurd (two_flags (flags_at m.bytes p) flags (inside_numbers bytes handles h.2 s).0)
  below_only flags to _ h s e = absurd h

  -- the numbers are refused
  pub unknown_refuse : (fault : DecodeFault) → BreaksEnvelope ds m held None p from.next from.handle fault
      → BreaksMember ds m held None p from fault × ((to : Position) → Contained ds m held None p from to → ⊥)
  unknown_refuse fault b = (broken.by_numbers None p from fault b, λ to. envelope_excluded ds laid m within held p from None to fault b)

  pub not_held : (flags_at m.bytes p ≡ 1 → ⊥) → (flags_at m.bytes p ≡ 0 → IsUnknownLength false (bytes_below m.bytes p) → ⊥) → CanHold ds m.bytes None p → ⊥
  not_held one none h = elim h [ inl i ↦ one i.0 | inr o ↦ none o.0 o.1 ]

  module _ (room : p + 8 ≤ length m.bytes) (small : (i : ℕ) → get_or m.bytes i 0 < 256) (are : AreHandles m.handles from.handle k) (some : k ≤ length m.handles - from.handle) where
    -- one in its envelope leads past its handles
    pub skips_inside : flags_at m.bytes p ≡ 1 → held ≤ MAX_DEPTH → (to : Position) → Contained ds m held None p from to ↔ (passed k (opened p from) ≡ to)
    skips_inside flags deep to = (
      (λ x. inside_only flags to x.content x.typed x.stands x.end),
      (λ e. let r = records_at m.handles from.handle k some are in
          let bytes = bytes_at m.bytes p 4 in
          let four = length-bytes_at m.bytes p 4 in
          let stand : StandsAt m (inline_envelope bytes r.list) p from = record {
            inline = stands_both m.bytes p bytes (envelope_end 1 r.list) (bytes_stand m.bytes p 4 (omega (arith, room)))
                (stands_to m.bytes (p + 4) (p + length bytes) (envelope_end 1 r.list) (omega (arith, four)) (end_stands m within p room small 1 r.list flags (sym r.long)));
            out = tt;
            carried = r.carried;
          } in
          record {
            content = unknown true bytes r.list;
            typed = (refl, are_bytes m.bytes small p 4, four, r.handles);
            shallow = omega (arith, deep);
            stands = stand;
            end = sym e ∙ ap (λ j. passed j (opened p from)) (sym r.long);
          }),
    )

    -- one behind its envelope leads past its bytes and its handles
    pub skips_below : flags_at m.bytes p ≡ 0 → IsUnknownLength false n → held < MAX_DEPTH → n ≤ length m.bytes - from.next → (to : Position) → Contained ds m held None p from to ↔ (passed k (linked p n (opened p from)) ≡ to)
    skips_below flags whole shallow fits to = (
      (λ x. below_only flags to x.content x.typed x.stands x.end),
      (λ e. let r = records_at m.handles from.handle k some are in
          let bytes = bytes_at m.bytes from.next n in
          let long = length-bytes_at m.bytes from.next n in
          let positive = whole.0 in
          let stand : StandsAt m (out_envelope bytes r.list) p from = record {
            inline = stands_both m.bytes p (to_le_bytes w32 (length bytes)) (envelope_end 0 r.list) (first_stands m within p room small (length bytes) (sym long)) (end_stands m within p room small 0 r.list flags (sym r.long));
            out = bytes_stand m.bytes from.next n (omega (arith, fits, positive));
            carried = r.carried;
          } in
          record {
            content = unknown false bytes r.list;
            typed = (refl, are_bytes m.bytes small from.next n, subst (λ j. IsUnknownLength false j) (sym long) whole, r.handles);
            shallow = omega (arith, shallow);
            stands = stand;
            end = sym e ∙ (λ i. passed (sym r.long i) (linked p (sym long i) (opened p from)));
          }),
    )

-- what is skipped out of line is whole eights
pub whole_eights : (n : ℕ) → IsUnknownLength false n → next_multiple_of n 8 ≡ n
whole_eights n h = let e = h.1 in omega (arith, e)
