-- An envelope that breaks a rule by its numbers holds no member.
use Rattle.std.proofs.Common.{rules, ◌≡◌, ℕ, suc, ◌+◌, ◌-◌, ◌%◌, ◌<◌, ◌≤◌, Bool, true, false, cond, nat_le, List, [], ◌∷◌, length, Option, Some, None, refl, sym, ap, subst, ◌∙◌, arith, inl, inr}
use Rattle.std.specs.Prelude.{◌⊎◌}
use Rattle.std.specs.Int.{w16, w32, to_le_bytes, next_multiple_of}
use Rattle.std.proofs.lemmas.Option.{slice_get_within}
use Rattle.fidl_limits.specs.declared.limits.TheConstants.{MAX_DEPTH}
use Rattle.fidl_wire.specs.declared.handle.HandleInfo.{HandleInfo}
use Rattle.fidl_wire.specs.Value.{Member, known, unknown}
use Rattle.fidl_wire.specs.Term.{Term, resolve}
use Rattle.fidl_wire.specs.Figure.{Declarations, IsLaidOut, size_of}
use Rattle.fidl_wire.specs.Typed.{IsTypedMember, IsUnknownLength}
use Rattle.fidl_wire.specs.Encoding.{Encoding, padded, object, inline_envelope, out_envelope, envelope_end, encoding_of, enveloped}
use Rattle.fidl_wire.specs.Depth.{depth_of, member_depth}
use Rattle.fidl_wire.specs.Standing.{Stands, Carries}
use Rattle.fidl_wire.proofs.Sizes.{size_of-resolve, length-inline, length-padded, le_of_test, le-next_multiple_of}
use Rattle.fidl_wire.proofs.Stand.{stands_to, stands_front, stands_back}
use Rattle.fidl_wire.proofs.Whole.{whole-message}
use Rattle.fidl_decode_model.specs.declared.fault.DecodeFault.{DecodeFault}
use Rattle.fidl_decode_model.specs.declared.fault.DecodeFault.TheVariants.{BadEnvelope, TooDeep, Truncated, WrongCounts, HandleMissing}
use Rattle.fidl_decode_model.specs.State.{Message, Position, StandsAt}
use Rattle.fidl_decode_model.specs.Faults.{IsWithin}
use Rattle.fidl_decode_model.specs.Envelopes.{Contained, CanBeInline, CanBeOut, first_object, BreaksEnvelope}
use Rattle.fidl_wire.specs.Envelope.{bytes_below, handles_below, flags_at}
use Rattle.fidl_decode_model.proofs.Numbers.{number_16, number_32}
use Rattle.fidl_decode_model.proofs.After.{length-object}

-- what stands in a message is no longer than what is left of it
pub bytes_room : (m : List ℕ) (p : ℕ) (a : List ℕ) → Stands m p a → length a ≤ length m - p
bytes_room m p [] h = omega arith
bytes_room m p (x ∷ a) h = let lt = h.0 in let more = bytes_room m (p + 1) a h.2 in omega arith

handles_room : (hs : List HandleInfo) (p : ℕ) (a : List HandleInfo) → Carries hs p a → length a ≤ length hs - p
handles_room hs p [] h = omega arith
handles_room hs p (x ∷ a) h = let lt = slice_get_within hs p x h.0 in let more = handles_room hs (p + 1) a h.1 in omega arith

pub more_than_four : (n : ℕ) → nat_le n 4 ≡ false → 4 < n
more_than_four n h = search (rules, h)

module _ (ds : Declarations) (laid : IsLaidOut ds) (m : Message) (within : IsWithin m.bytes m.handles) (held : ℕ) (t : Option Term) (p : ℕ) (from : Position) where
  -- the numbers of an envelope that holds its member
  abbrev pub HoldsInline : Type 0
  HoldsInline = (flags_at m.bytes p ≡ 1) × CanBeInline ds t

  -- those of one whose member is out of line, which fits the message and does not lie too deep
  abbrev pub HoldsOut : Type 0
  HoldsOut = (flags_at m.bytes p ≡ 0) × IsUnknownLength false (bytes_below m.bytes p) × CanBeOut ds t × (first_object ds m.bytes t p ≤ length m.bytes - from.next) × (held < MAX_DEPTH) × (bytes_below m.bytes p ≤ length m.bytes - from.next)

  abbrev pub Holds : Type 0
  Holds = (HoldsInline ⊎ HoldsOut) × (handles_below m.bytes p ≤ length m.handles - from.handle)

pub inline_numbers : (m : Message) → IsWithin m.bytes m.handles → (p : ℕ) (from : Position) (bytes : List ℕ) (handles : List HandleInfo) → length bytes ≡ 4 → StandsAt m (inline_envelope bytes handles) p from
    → (flags_at m.bytes p ≡ 1) × (handles_below m.bytes p ≤ length m.handles - from.handle) × (handles_below m.bytes p ≡ length handles)
inline_numbers m within p from bytes handles four st =
    let limit = within.1 in
    let room = handles_room m.handles from.handle handles st.carried in
    let end = stands_to m.bytes (p + length bytes) (p + 4) (envelope_end 1 handles) (omega arith) (stands_back m.bytes p bytes (envelope_end 1 handles) st.inline) in
    let count = number_16 m.bytes (p + 4) (length handles) (omega arith) (stands_front m.bytes (p + 4) (to_le_bytes w16 (length handles)) (to_le_bytes w16 1) end) in
    let last = stands_to m.bytes (p + 4 + 2) (p + 6) (to_le_bytes w16 1) (omega arith) (stands_back m.bytes (p + 4) (to_le_bytes w16 (length handles)) (to_le_bytes w16 1) end) in
    (number_16 m.bytes (p + 6) 1 (omega arith) last, omega (arith, count, room), count)

pub out_numbers : (m : Message) → IsWithin m.bytes m.handles → (p : ℕ) (from : Position) (bytes : List ℕ) (handles : List HandleInfo) → StandsAt m (out_envelope bytes handles) p from
    → (flags_at m.bytes p ≡ 0) × (bytes_below m.bytes p ≡ length bytes) × (handles_below m.bytes p ≤ length m.handles - from.handle) × (handles_below m.bytes p ≡ length handles)
out_numbers m within p from bytes handles st =
    let short = within.0 in
    let limit = within.1 in
    let fits = bytes_room m.bytes from.next bytes st.out in
    let room = handles_room m.handles from.handle handles st.carried in
    let first = stands_front m.bytes p (to_le_bytes w32 (length bytes)) (envelope_end 0 handles) st.inline in
    let end = stands_back m.bytes p (to_le_bytes w32 (length bytes)) (envelope_end 0 handles) st.inline in
    let count = number_16 m.bytes (p + 4) (length handles) (omega arith) (stands_front m.bytes (p + 4) (to_le_bytes w16 (length handles)) (to_le_bytes w16 0) end) in
    let last = stands_to m.bytes (p + 4 + 2) (p + 6) (to_le_bytes w16 0) (omega arith) (stands_back m.bytes (p + 4) (to_le_bytes w16 (length handles)) (to_le_bytes w16 0) end) in
    (number_16 m.bytes (p + 6) 0 (omega arith) last, number_32 m.bytes p (length bytes) (omega arith) first, omega (arith, count, room), count)

module _ (ds : Declarations) (laid : IsLaidOut ds) (m : Message) (within : IsWithin m.bytes m.handles) (held p : ℕ) (from : Position) where
  pub holds : (t : Option Term) (x : Member) → IsTypedMember ds false t x → member_depth ds t x + held ≤ MAX_DEPTH → StandsAt m (enveloped ds t x) p from → Holds ds laid m within held t p from
  holds (Some t) (known v) h deep st = go (nat_le (size_of ds t) 4) refl deep st
    where
      a : Encoding
      a = encoding_of ds (resolve ds.terms t) v

      long : length a.inline ≡ size_of ds t
      long = length-inline ds laid (resolve ds.terms t) v h ∙ size_of-resolve ds laid t

      go : (b : Bool) → nat_le (size_of ds t) 4 ≡ b → cond b 0 (suc (depth_of ds (resolve ds.terms t) v)) + held ≤ MAX_DEPTH
          → StandsAt m (cond b (inline_envelope (padded 4 a.inline) a.handles) (out_envelope (object a) a.handles)) p from → Holds ds laid m within held (Some t) p from
      go true e deep st =
          let small = le_of_test (size_of ds t) e in
          let n = inline_numbers m within p from (padded 4 a.inline) a.handles (length-padded 4 a.inline (omega (arith, long, small))) st in
          (inl (n.0, small), n.1)
      go false e deep st =
          let large = more_than_four (size_of ds t) e in
          let n = out_numbers m within p from (object a) a.handles st in
          let same = n.1 in
          let fits = bytes_room m.bytes from.next (object a) st.out in
          let whole = whole-message ds (resolve ds.terms t) v h in
          let all = length-object a in
          let padding = ap (λ k. next_multiple_of k 8) long in
          let up = le-next_multiple_of (size_of ds t) 8 in
          (inr (n.0, (omega (arith, same, all, padding, up, large), subst (λ k. k % 8 ≡ 0) (sym same) whole), large, omega (arith, fits, all, padding), omega (arith, deep), omega (arith, fits, same)), n.2)
  holds None (unknown true bytes handles) h deep st =
      let n = inline_numbers m within p from bytes handles h.2 st in
      (inl (n.0, tt), n.1)
  holds None (unknown false bytes handles) h deep st =
      let n = out_numbers m within p from bytes handles st in
      let same = n.1 in
      let fits = bytes_room m.bytes from.next bytes st.out in
      (inr (n.0, subst (λ k. IsUnknownLength false k) (sym same) h.2, tt, omega (arith, fits, same), omega (arith, deep), omega (arith, fits, same)), n.2)
  holds _ _ h deep st = absurd h

  pub envelope_excluded : (t : Option Term) (to : Position) (fault : DecodeFault) → BreaksEnvelope ds m held t p from.next from.handle fault → Contained ds m held t p from to → ⊥
  envelope_excluded t to (BadEnvelope at) b x = elim (holds t x.content x.typed x.shallow x.stands).0 [ inl i ↦ b.1 (inl i) | inr o ↦ b.1 (inr (o.0, o.1, o.2)) ]
  envelope_excluded t to (TooDeep at) b x = let flags = b.1 in let deep = b.2 in elim (holds t x.content x.typed x.shallow x.stands).0 [ inl i ↦ omega (arith, flags, i.0) | inr o ↦ omega (arith, deep, o.4) ]
  envelope_excluded t to (Truncated at) b x = let flags = b.1 in let less = b.2 in elim (holds t x.content x.typed x.shallow x.stands).0 [ inl i ↦ omega (arith, flags, i.0) | inr o ↦ omega (arith, less, o.3) ]
  envelope_excluded (Some t) to (WrongCounts at) b x =
      let n = holds (Some t) x.content x.typed x.shallow x.stands in
      elim b.1 [
        | inl h ↦ omega (arith, h, n.1, within.1)
        | inr c ↦ elim n.0 [ inl i ↦ omega (arith, c.0, i.0) | inr o ↦ omega (arith, c.1, o.5, within.0) ]
      ]
  envelope_excluded None to (HandleMissing at) b x = let less = b.1 in omega (arith, less, (holds None x.content x.typed x.shallow x.stands).1)
  envelope_excluded t to fault b x = absurd b
