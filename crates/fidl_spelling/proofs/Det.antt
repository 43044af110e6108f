-- What is spelled at the front of words is determined by them.
use Rattle.std.proofs.Common.{◌≡◌, ℕ, ◌^◌, ◌≤◌, List, [], ◌∷◌, ◌++◌, get_or, drop, refl, sym, ap, subst, ◌∙◌, Bool, true, false, arith, inl, inr, ℤ, pos, negsuc, neg_ℤ}
use Rattle.std.specs.Prelude.{codes}
use Rattle.std.specs.Char.{digit_value}
use Rattle.std.specs.Str.Parse.{IsNumeral, digits_value}
use Rattle.fidl_wire.specs.declared.handle.HandleInfo.{HandleInfo}
use Rattle.fidl_spelling.specs.Words.{Words, IsQuoted}
use Rattle.fidl_spelling.specs.Spells.{One, ◌⨾◌, CommaIf, IsNumber, IsNumberBelow, IsHex, AHandle}
use Rattle.fidl_spelling.proofs.WordLaws.{pieces_same}

abbrev pub Det : (P Q : Words → Words → Type 0) → Type 0 → Type 0
Det P Q S = (ws r s : Words) → P ws r → Q ws s → S × (r ≡ s)

pub word_head : (a b : List ℕ) (x y : Words) → a ∷ x ≡ b ∷ y → a ≡ b
word_head a b x y e = ap (λ l. get_or l 0 []) e

pub word_tail : (a b : List ℕ) (x y : Words) → a ∷ x ≡ b ∷ y → x ≡ y
word_tail a b x y e = ap (λ l. drop 1 l) e

-- first bytes of one word
pub clash : (a b : ℕ) (x y : List ℕ) (ws r s : Words) → ws ≡ (a ∷ x) ∷ r → ws ≡ (b ∷ y) ∷ s → a ≡ b
clash a b x y ws r s p q = ap (λ l. get_or l 0 0) (word_head (a ∷ x) (b ∷ y) r s (sym p ∙ q))

pub det_the : (w : List ℕ) → Det (λ ws rest. ws ≡ w ∷ rest) (λ ws rest. ws ≡ w ∷ rest) (Unit {0})
det_the w ws r s p q = (tt, word_tail w w r s (sym p ∙ q))

pub det_one : (A B : List ℕ → Type 0) (S : Type 0) → ((w : List ℕ) → A w → B w → S) → Det (One A) (One B) S
det_one A B S f ws r s p q =
    let e : p.0 ∷ r ≡ q.0 ∷ s = sym p.2 ∙ q.2 in
    (f q.0 (subst A (word_head p.0 q.0 r s e) p.1) q.1, word_tail p.0 q.0 r s e)

pub det_then : (P Q A B : Words → Words → Type 0) (S T : Type 0) → Det P A S → Det Q B T → Det (P ⨾ Q) (A ⨾ B) (S × T)
det_then P Q A B S T d e ws r s p q =
    let h = d ws p.0 q.0 p.1 q.1 in
    let k = e p.0 r s p.2 (subst (λ m. B m s) (sym h.1) q.2) in
    ((h.0, k.0), k.1)

pub det_comma : (later : Bool) → Det (CommaIf later) (CommaIf later) (Unit {0})
det_comma true ws r s p q = det_the (codes ",") ws r s p q
det_comma false ws r s p q = (tt, sym p ∙ q)

-- numbers
pub number_first : (z : ℤ) (c : ℕ) (x : List ℕ) → IsNumber z (c ∷ x) → 10 ≤ digit_value c → c ≡ 45
number_first z c x (inl h) big = let d = h.0.1.0 in absurd (omega (arith, d, big))
number_first z c x (inr h) big = ap (λ l. get_or l 0 0) h.1

pub number_one : (z y : ℤ) (w : List ℕ) → IsNumber z w → IsNumber y w → z ≡ y
number_one z y w (inl h) (inl k) = h.1 ∙ sym k.1
number_one z y w (inr h) (inr k) =
    let e : h.0 ≡ k.0 = ap (λ l. drop 1 l) (sym h.1 ∙ k.1) in
    h.3 ∙ ap (λ l. neg_ℤ (pos (digits_value 10 l))) e ∙ sym k.3
number_one z y w (inl h) (inr k) = let d = (subst (λ l. IsNumeral 10 l) k.1 h.0).1.0 in absurd (omega (arith, d))
number_one z y w (inr h) (inl k) = let d = (subst (λ l. IsNumeral 10 l) h.1 k.0).1.0 in absurd (omega (arith, d))

abbrev size_of_z : ℤ → ℕ
size_of_z (pos n) = n
size_of_z (negsuc n) = n

pub natural_one : (limit m n : ℕ) (w : List ℕ) → IsNumberBelow limit m w → IsNumberBelow limit n w → m ≡ n
natural_one limit m n w h k = ap size_of_z (number_one (pos m) (pos n) w h.1 k.1)

-- raw bytes
pub hex_one : (x y w : List ℕ) → IsHex x w → IsHex y w → x ≡ y
hex_one [] [] [] h k = refl
hex_one (b ∷ x) (c ∷ y) (l ∷ m ∷ w) h k = let e = h.2 ∙ sym k.2 in let t = hex_one x y w h.3 k.3 in λ i. e i ∷ t i
hex_one [] (c ∷ y) [] h k = absurd k
hex_one [] (c ∷ y) (l ∷ w) h k = absurd h
hex_one (b ∷ x) y [] h k = absurd h
hex_one (b ∷ x) y (l ∷ []) h k = absurd h
hex_one (b ∷ x) [] (l ∷ m ∷ w) h k = absurd k
hex_one [] [] (l ∷ w) h k = refl

pub quoted_one : (x y w : List ℕ) → IsQuoted w x → IsQuoted w y → x ≡ y
quoted_one x y w h k =
    let e : h.0 ++ 34 ∷ [] ≡ k.0 ++ 34 ∷ [] = ap (λ l. drop 1 l) (sym h.2 ∙ k.2) in
    (pieces_same h.0 x k.0 y [] [] h.1 k.1 e).1

-- handles
pub det_handle : (h k : HandleInfo) → Det (AHandle h) (AHandle k) (h ≡ k)
det_handle h k ws r s p q =
    let n = λ (m o : ℕ). det_one (IsNumberBelow (2 ^ 32) m) (IsNumberBelow (2 ^ 32) o) (m ≡ o) (natural_one (2 ^ 32) m o) in
    let all = det_then _ _ _ _ _ _ (det_the (codes "handle")) (det_then _ _ _ _ _ _ (det_the (codes "(")) (det_then _ _ _ _ _ _ (n h.id k.id) (det_then _ _ _ _ _ _ (det_the (codes ","))
    (det_then _ _ _ _ _ _ (n h.object_type k.object_type) (det_then _ _ _ _ _ _ (det_the (codes ",")) (det_then _ _ _ _ _ _ (n h.rights k.rights) (det_the (codes ")")))))))) in
    let x = all ws r s p q in
    ((λ i. record { id = x.0.1.1.0 i; object_type = x.0.1.1.1.1.0 i; rights = x.0.1.1.1.1.1.1.0 i }), x.1)
