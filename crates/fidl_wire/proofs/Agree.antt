-- Two encodings that stand at the front of the same bytes and handles.
use Rattle.std.proofs.Common.{◌≡◌, ℕ, ◌-◌, ◌<◌, ◌^◌, ℤ, pos, negsuc, List, ◌++◌, length, get_or, take, drop, ap, arith, sym, ◌∙◌, subst, append_assoc, length-append, FitsSigned}
use Rattle.std.proofs.Math.Seq.{take-append_seam, drop-append_seam}
use Rattle.std.proofs.lemmas.Int.{to_z-of_z}
use Rattle.std.proofs.Math.Facts.{Fits-of_z}
use Rattle.std.proofs.lemmas.Nat.{from_le_bytes-to_le_bytes_2, from_le_bytes-to_le_bytes_4, from_le_bytes-to_le_bytes_8}
use Rattle.std.specs.Int.{Width, w8, w16, w32, w64, to_le_bytes, from_le_bytes, next_multiple_of, cast_unsigned, cast_signed}
use Rattle.fidl_wire.specs.declared.handle.HandleInfo.{HandleInfo}
use Rattle.fidl_wire.specs.Term.{Kind, int8, int16, int32, int64, uint8, uint16, uint32, uint64}
use Rattle.fidl_wire.specs.Typed.{InRange}
use Rattle.fidl_wire.specs.Encoding.{Encoding, joined, pointing, inline_only, zeros, number_bytes}

pub split_at : {A : Type 0} (a b c d : List A) → length a ≡ length b → a ++ c ≡ b ++ d → (a ≡ b) × (c ≡ d)
split_at a b c d h e = (sym (take-append_seam a c) ∙ (λ i. take (h i) (e i)) ∙ take-append_seam b d, sym (drop-append_seam a c) ∙ (λ i. drop (h i) (e i)) ∙ drop-append_seam b d)

abbrev pub Agree : Encoding → Encoding → Type 0 → Type 0
Agree a b same =
    (x y : List ℕ) (p q : List HandleInfo) → a.inline ≡ b.inline → a.out ++ x ≡ b.out ++ y → a.handles ++ p ≡ b.handles ++ q
    → length (a.out ++ x) < 2 ^ 32 → length (a.handles ++ p) < 2 ^ 16 → same × (x ≡ y) × (p ≡ q)

pub agree_map : {S T : Type 0} (a b : Encoding) → (S → T) → Agree a b S → Agree a b T
agree_map a b f g x y p q inline out handles small few = let r = g x y p q inline out handles small few in (f r.0, r.1, r.2)

pub agree_inline : {S : Type 0} (a b : List ℕ) → (a ≡ b → S) → Agree (inline_only a) (inline_only b) S
agree_inline a b f x y p q inline out handles small few = (f inline, out, handles)

pub agree_joined : {S T : Type 0} (a b c d : Encoding) → length a.inline ≡ length b.inline → Agree a b S → Agree c d T → Agree (joined a c) (joined b d) (S × T)
agree_joined {S} {T} a b c d same f g x y p q inline out handles small few =
    let s = split_at a.inline b.inline c.inline d.inline same inline in
    let ac = append_assoc a.out c.out x in
    let hc = append_assoc a.handles c.handles p in
    let small' : length (a.out ++ (c.out ++ x)) < 2 ^ 32 = subst (λ l. length l < 2 ^ 32) ac small in
    let few' : length (a.handles ++ (c.handles ++ p)) < 2 ^ 16 = subst (λ l. length l < 2 ^ 16) hc few in
    let r = f (c.out ++ x) (d.out ++ y) (c.handles ++ p) (d.handles ++ q) s.0 (sym ac ∙ out ∙ append_assoc b.out d.out y) (sym hc ∙ handles ∙ append_assoc b.handles d.handles q) small' few' in
    let t = g x y p q s.1 r.1 r.2 (tail_small _ a.out (c.out ++ x) small') (tail_small _ a.handles (c.handles ++ p) few') in
    ((r.0, t.0), t.1, t.2)
  where
    tail_small : {A : Type 0} (n : ℕ) (a b : List A) → length (a ++ b) < n → length b < n
    tail_small n a b h = omega (arith, h, length-append a b)

pub agree_pointing : {S : Type 0} (m n : List ℕ) (a b : Encoding) → length a.inline ≡ length b.inline → Agree a b S → Agree (pointing m a) (pointing n b) S
agree_pointing m n a b same f x y p q inline out handles small few =
    let za = zeros (next_multiple_of (length a.inline) 8 - length a.inline) in
    let zb = zeros (next_multiple_of (length b.inline) 8 - length b.inline) in
    let zs : length za ≡ length zb = ap (λ n. length (zeros (next_multiple_of n 8 - n))) same in
    let ea = apart a.inline za a.out x in
    let eb = apart b.inline zb b.out y in
    let s = split_at a.inline b.inline (za ++ (a.out ++ x)) (zb ++ (b.out ++ y)) same (sym ea ∙ out ∙ eb) in
    let s' = split_at za zb (a.out ++ x) (b.out ++ y) zs s.1 in
    f x y p q s.0 s'.1 handles (ends a.inline za (a.out ++ x) (subst (λ l. length l < 2 ^ 32) ea small)) few
  where
    apart : (a b c d : List ℕ) → a ++ b ++ c ++ d ≡ a ++ (b ++ (c ++ d))
    apart a b c d = append_assoc (a ++ b) c d ∙ append_assoc a b (c ++ d)

    ends : (a b c : List ℕ) → length (a ++ (b ++ c)) < 2 ^ 32 → length c < 2 ^ 32
    ends a b c h = omega (arith, h, length-append a (b ++ c), length-append b c)

pub le_inj_8 : (m n : ℕ) → m < 2 ^ 8 → n < 2 ^ 8 → to_le_bytes w8 m ≡ to_le_bytes w8 n → m ≡ n
le_inj_8 m n h k e = omega (arith, h, k, ap (λ l. get_or l 0 0) e)

pub le_inj_16 : (m n : ℕ) → m < 2 ^ 16 → n < 2 ^ 16 → to_le_bytes w16 m ≡ to_le_bytes w16 n → m ≡ n
le_inj_16 m n h k e = sym (from_le_bytes-to_le_bytes_2 m h) ∙ ap (λ l. from_le_bytes w16 l) e ∙ from_le_bytes-to_le_bytes_2 n k

pub le_inj_32 : (m n : ℕ) → m < 2 ^ 32 → n < 2 ^ 32 → to_le_bytes w32 m ≡ to_le_bytes w32 n → m ≡ n
le_inj_32 m n h k e = sym (from_le_bytes-to_le_bytes_4 m h) ∙ ap (λ l. from_le_bytes w32 l) e ∙ from_le_bytes-to_le_bytes_4 n k

pub le_inj_64 : (m n : ℕ) → m < 2 ^ 64 → n < 2 ^ 64 → to_le_bytes w64 m ≡ to_le_bytes w64 n → m ≡ n
le_inj_64 m n h k e = sym (from_le_bytes-to_le_bytes_8 m h) ∙ ap (λ l. from_le_bytes w64 l) e ∙ from_le_bytes-to_le_bytes_8 n k

signed_inj : (w : Width) (z y : ℤ) → FitsSigned w z → FitsSigned w y → cast_unsigned w z ≡ cast_unsigned w y → z ≡ y
signed_inj w z y h k e = sym (to_z-of_z w z h) ∙ ap (λ n. cast_signed w n) e ∙ to_z-of_z w y k

pub number_inj : (kind : Kind) (z y : ℤ) → InRange kind z → InRange kind y → number_bytes kind z ≡ number_bytes kind y → z ≡ y
number_inj int8 z y h k e = signed_inj w8 z y h k (le_inj_8 _ _ (Fits-of_z h).fits (Fits-of_z k).fits e)
number_inj int16 z y h k e = signed_inj w16 z y h k (le_inj_16 _ _ (Fits-of_z h).fits (Fits-of_z k).fits e)
number_inj int32 z y h k e = signed_inj w32 z y h k (le_inj_32 _ _ (Fits-of_z h).fits (Fits-of_z k).fits e)
number_inj int64 z y h k e = signed_inj w64 z y h k (le_inj_64 _ _ (Fits-of_z h).fits (Fits-of_z k).fits e)
number_inj uint8 (pos m) (pos n) h k e = ap pos (le_inj_8 m n h k e)
number_inj uint16 (pos m) (pos n) h k e = ap pos (le_inj_16 m n h k e)
number_inj uint32 (pos m) (pos n) h k e = ap pos (le_inj_32 m n h k e)
number_inj uint64 (pos m) (pos n) h k e = ap pos (le_inj_64 m n h k e)
number_inj _ (pos m) (negsuc n) h k e = absurd k
number_inj _ (negsuc m) _ h k e = absurd h
