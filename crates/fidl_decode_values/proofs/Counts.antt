-- The numbers of an envelope, read from what stands in it and written as what stands in it.
use Rattle.std.proofs.Common.{rules, ◌≡◌, ℕ, ◌+◌, ◌-◌, ◌<◌, ◌≤◌, ◌^◌, Bool, true, false, nat_le, List, [], ◌∷◌, length, get_or, refl, subst, arith}
use Rattle.std.specs.Int.{w16, w32, to_le_bytes}
use Rattle.std.proofs.lemmas.Option.{slice_get_within}
use Rattle.fidl_wire.specs.declared.handle.HandleInfo.{HandleInfo}
use Rattle.fidl_wire.specs.Term.{uint16, uint32}
use Rattle.fidl_wire.specs.Encoding.{envelope_end}
use Rattle.fidl_wire.specs.Standing.{Stands, Carries}
use Rattle.fidl_wire.proofs.Sizes.{le_of_test}
use Rattle.fidl_wire.proofs.Stand.{stands_to, stands_front, stands_back, stands_both}
use Rattle.fidl_decode_model.specs.State.{Message}
use Rattle.fidl_decode_model.specs.Faults.{IsWithin}
use Rattle.fidl_wire.specs.Envelope.{bytes_below, handles_below, flags_at}
use Rattle.fidl_decode_model.proofs.Numbers.{number_16, number_32}
use Rattle.fidl_decode_model.proofs.Scalars.{standing}

-- what stands in a message is no longer than what is left of it
pub bytes_left : (m : List ℕ) (p : ℕ) (a : List ℕ) → Stands m p a → length a ≤ length m - p
bytes_left m p [] h = omega arith
bytes_left m p (x ∷ a) h = let lt = h.0 in let more = bytes_left m (p + 1) a h.2 in omega arith

pub handles_left : (hs : List HandleInfo) (p : ℕ) (a : List HandleInfo) → Carries hs p a → length a ≤ length hs - p
handles_left hs p [] h = omega arith
handles_left hs p (x ∷ a) h = let lt = slice_get_within hs p x h.0 in let more = handles_left hs (p + 1) a h.1 in omega arith

-- the test of four bytes
pub over_four : (n : ℕ) → nat_le n 4 ≡ false → 4 < n
over_four n h = search (rules, h)

pub at_most_four : (n : ℕ) → n ≤ 4 → nat_le n 4 ≡ true
at_most_four n le = go (nat_le n 4) refl
  where
    go : (b : Bool) → nat_le n 4 ≡ b → nat_le n 4 ≡ true
    go true e = e
    go false e = absurd (omega (arith, le, over_four n e))

pub not_at_most_four : (n : ℕ) → 4 < n → nat_le n 4 ≡ false
not_at_most_four n lt = go (nat_le n 4) refl
  where
    go : (b : Bool) → nat_le n 4 ≡ b → nat_le n 4 ≡ false
    go false e = e
    go true e = absurd (omega (arith, lt, le_of_test n e))

module _ (m : Message) (within : IsWithin m.bytes m.handles) (p : ℕ) where
  -- what an envelope has behind its first four bytes
  pub end_numbers : (flags k : ℕ) (handles : List HandleInfo) → flags < 2 ^ 16 → Carries m.handles k handles → Stands m.bytes (p + 4) (envelope_end flags handles)
      → (flags_at m.bytes p ≡ flags) × (handles_below m.bytes p ≡ length handles)
  end_numbers flags k handles few carried end =
      let limit = within.1 in
      let room = handles_left m.handles k handles carried in
      let last = stands_to m.bytes (p + 4 + 2) (p + 6) (to_le_bytes w16 flags) (omega arith) (stands_back m.bytes (p + 4) (to_le_bytes w16 (length handles)) (to_le_bytes w16 flags) end) in
      (number_16 m.bytes (p + 6) flags few last, number_16 m.bytes (p + 4) (length handles) (omega arith) (stands_front m.bytes (p + 4) (to_le_bytes w16 (length handles)) (to_le_bytes w16 flags) end))

  -- the first four, where they count what is out of line
  pub first_number : (next : ℕ) (bytes : List ℕ) → Stands m.bytes next bytes → Stands m.bytes p (to_le_bytes w32 (length bytes)) → bytes_below m.bytes p ≡ length bytes
  first_number next bytes out first =
      let short = within.0 in
      let fits = bytes_left m.bytes next bytes out in
      number_32 m.bytes p (length bytes) (omega arith) first

  module _ (room : p + 8 ≤ length m.bytes) (small : (i : ℕ) → get_or m.bytes i 0 < 256) where
    pub end_stands : (flags : ℕ) (handles : List HandleInfo) → flags_at m.bytes p ≡ flags → handles_below m.bytes p ≡ length handles → Stands m.bytes (p + 4) (envelope_end flags handles)
    end_stands flags handles f h =
        let one = subst (λ k. Stands m.bytes (p + 4) (to_le_bytes w16 k)) h (standing uint16 m.bytes (p + 4) (omega arith) small).1 in
        let two = subst (λ k. Stands m.bytes (p + 6) (to_le_bytes w16 k)) f (standing uint16 m.bytes (p + 6) (omega arith) small).1 in
        stands_both m.bytes (p + 4) (to_le_bytes w16 (length handles)) (to_le_bytes w16 flags) one (stands_to m.bytes (p + 6) (p + 4 + 2) (to_le_bytes w16 flags) (omega arith) two)

    pub first_stands : (n : ℕ) → bytes_below m.bytes p ≡ n → Stands m.bytes p (to_le_bytes w32 n)
    first_stands n e = subst (λ k. Stands m.bytes p (to_le_bytes w32 k)) e (standing uint32 m.bytes p (omega arith) small).1
