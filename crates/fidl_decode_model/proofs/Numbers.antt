-- Numbers that stand in a message, read back.
use Rattle.std.proofs.Common.{◌≡◌, ℕ, suc, ◌+◌, ◌-◌, ◌<◌, ◌^◌, ℤ, pos, negsuc, List, [], ◌∷◌, length, get_or, take, drop, refl, sym, ap, ◌∙◌, arith, add-one, drop-cons}
use Rattle.std.specs.Prelude.{slice_range, FitsSigned}
use Rattle.std.proofs.lemmas.Int.{to_z-of_z}
use Rattle.std.proofs.Math.Facts.{Fits-of_z}
use Rattle.std.proofs.lemmas.Nat.{from_le_bytes-to_le_bytes_2, from_le_bytes-to_le_bytes_4, from_le_bytes-to_le_bytes_8}
use Rattle.std.specs.Int.{w8, w16, w32, w64, to_le_bytes, from_le_bytes, cast_unsigned, cast_signed}
use Rattle.fidl_wire.specs.Standing.{Stands}
use Rattle.fidl_wire.specs.Term.{Kind, int8, int16, int32, int64, uint8, uint16, uint32, uint64}
use Rattle.fidl_wire.specs.Typed.{InRange}
use Rattle.fidl_wire.specs.Encoding.{number_bytes}
use Rattle.fidl_wire.specs.Field.{number_at}
use Rattle.fidl_table_format.specs.Number.{number_standing}

-- what stands at a place is the slice there
pub stands_slice : (m : List ℕ) (p : ℕ) (a : List ℕ) → Stands m p a → take (length a) (drop p m) ≡ a
stands_slice m p [] h = refl
stands_slice m p (x ∷ a) h =
    let rest = stands_slice m (p + 1) a h.2 in
    let one : drop p m ≡ get_or m p 0 ∷ drop (suc p) m = drop-cons m p 0 h.0 in
    ap (λ (l : List ℕ). take (suc (length a)) l) one
    ∙ ap (λ y. y ∷ take (length a) (drop (suc p) m)) h.1
    ∙ ap (λ n. x ∷ take (length a) (drop n m)) (sym (add-one p))
    ∙ ap (λ l. x ∷ l) rest

-- the slice of this length at a place is what stands there
pub slice_is : (m : List ℕ) (p n : ℕ) (a : List ℕ) → length a ≡ n → Stands m p a → slice_range m p (p + n) ≡ a
slice_is m p n a e h =
    let len : p + n - p ≡ length a = omega arith in
    ap (λ k. take k (drop p m)) len ∙ stands_slice m p a h

pub byte_read : (m : List ℕ) (p n : ℕ) → n < 2 ^ 8 → Stands m p (to_le_bytes w8 n) → get_or m p 0 ≡ n
byte_read m p n h s = let e = s.1 in omega arith

pub number_16 : (m : List ℕ) (p n : ℕ) → n < 2 ^ 16 → Stands m p (to_le_bytes w16 n) → number_at w16 m p ≡ n
number_16 m p n h s = ap (λ l. from_le_bytes w16 l) (slice_is m p 2 (to_le_bytes w16 n) refl s) ∙ from_le_bytes-to_le_bytes_2 n h

pub number_32 : (m : List ℕ) (p n : ℕ) → n < 2 ^ 32 → Stands m p (to_le_bytes w32 n) → number_at w32 m p ≡ n
number_32 m p n h s = ap (λ l. from_le_bytes w32 l) (slice_is m p 4 (to_le_bytes w32 n) refl s) ∙ from_le_bytes-to_le_bytes_4 n h

pub number_64 : (m : List ℕ) (p n : ℕ) → n < 2 ^ 64 → Stands m p (to_le_bytes w64 n) → number_at w64 m p ≡ n
number_64 m p n h s = ap (λ l. from_le_bytes w64 l) (slice_is m p 8 (to_le_bytes w64 n) refl s) ∙ from_le_bytes-to_le_bytes_8 n h

pub signed_8 : (m : List ℕ) (p : ℕ) (z : ℤ) → FitsSigned w8 z → Stands m p (to_le_bytes w8 (cast_unsigned w8 z)) → cast_signed w8 (get_or m p 0) ≡ z
signed_8 m p z h s = ap (λ n. cast_signed w8 n) (byte_read m p (cast_unsigned w8 z) (Fits-of_z h).fits s) ∙ to_z-of_z w8 z h

pub signed_16 : (m : List ℕ) (p : ℕ) (z : ℤ) → FitsSigned w16 z → Stands m p (to_le_bytes w16 (cast_unsigned w16 z)) → cast_signed w16 (number_at w16 m p) ≡ z
signed_16 m p z h s = ap (λ n. cast_signed w16 n) (number_16 m p (cast_unsigned w16 z) (Fits-of_z h).fits s) ∙ to_z-of_z w16 z h

pub signed_32 : (m : List ℕ) (p : ℕ) (z : ℤ) → FitsSigned w32 z → Stands m p (to_le_bytes w32 (cast_unsigned w32 z)) → cast_signed w32 (number_at w32 m p) ≡ z
signed_32 m p z h s = ap (λ n. cast_signed w32 n) (number_32 m p (cast_unsigned w32 z) (Fits-of_z h).fits s) ∙ to_z-of_z w32 z h

pub signed_64 : (m : List ℕ) (p : ℕ) (z : ℤ) → FitsSigned w64 z → Stands m p (to_le_bytes w64 (cast_unsigned w64 z)) → cast_signed w64 (number_at w64 m p) ≡ z
signed_64 m p z h s = ap (λ n. cast_signed w64 n) (number_64 m p (cast_unsigned w64 z) (Fits-of_z h).fits s) ∙ to_z-of_z w64 z h

-- the number whose bytes stand at a place
pub number_is : (kind : Kind) (m : List ℕ) (p : ℕ) (z : ℤ) → InRange kind z → Stands m p (number_bytes kind z) → number_standing kind m p ≡ z
number_is int8 m p z h s = signed_8 m p z h s
number_is int16 m p z h s = signed_16 m p z h s
number_is int32 m p z h s = signed_32 m p z h s
number_is int64 m p z h s = signed_64 m p z h s
number_is uint8 m p (pos n) h s = ap pos (byte_read m p n h s)
number_is uint16 m p (pos n) h s = ap pos (number_16 m p n h s)
number_is uint32 m p (pos n) h s = ap pos (number_32 m p n h s)
number_is uint64 m p (pos n) h s = ap pos (number_64 m p n h s)
number_is uint8 m p (negsuc n) h s = absurd h
number_is uint16 m p (negsuc n) h s = absurd h
number_is uint32 m p (negsuc n) h s = absurd h
number_is uint64 m p (negsuc n) h s = absurd h
