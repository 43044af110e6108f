-- A place has one longest run of bytes that pass a test.
use Rattle.std.proofs.Common.{◌≡◌, ℕ, ◌+◌, ◌≤◌, ◌<◌, Bool, true, List, [], ◌∷◌, ◌++◌, length, get_or, drop, slice_range, IsTrue, IsFalse, sym, refl, subst, ap, ◌∙◌}
use Rattle.std.proofs.lemmas.List.{drop_more, drop_all}
use Rattle.fidl_span.proofs.Slices.{slice_range-nil, slice_range-push}
use Rattle.std.specs.List.{list_all}
use Rattle.std.proofs.lemmas.Bool.{both_ways, and_parts, and_from}
use Rattle.fidl_span.specs.Bytes.{begins, IsRun}

-- what doesn't begin with a byte that passes is no longer run
no_longer : (test : ℕ → Bool) (b : ℕ) (s q : List ℕ) (x : List ℕ) → IsTrue (list_all test (b ∷ s)) → IsFalse (begins test x) → x ≡ b ∷ (s ++ q) → ⊥
no_longer test b s q x passes stops e =
    let P : List ℕ → Type 0 = λ l. IsFalse (begins test l) in
    both_ways (test b) (subst P e stops) (and_parts (test b) (list_all test s) passes).0

pub runs_agree : (test : ℕ → Bool) (s t q r : List ℕ) → IsTrue (list_all test s) → IsFalse (begins test q) → IsTrue (list_all test t) → IsFalse (begins test r) → s ++ q ≡ t ++ r → (s ≡ t) × (q ≡ r)
runs_agree test [] [] q r hs hq ht hr e = (refl, e)
runs_agree test [] (c ∷ t) q r hs hq ht hr e = absurd (no_longer test c t r q ht hq e)
runs_agree test (b ∷ s) [] q r hs hq ht hr e = absurd (no_longer test b s q r hs hr (sym e))
runs_agree test (b ∷ s) (c ∷ t) q r hs hq ht hr e =
    let tails : s ++ q ≡ t ++ r = cc in
    let same = runs_agree test s t q r (and_parts (test b) (list_all test s) hs).1 hq (and_parts (test c) (list_all test t) ht).1 hr tails in
    let texts : s ≡ t = same.0 in
    (cc, same.1)

pub IsRun-unique : (test : ℕ → Bool) (s t q r : List ℕ) → IsRun test s q → IsRun test t r → s ++ q ≡ t ++ r → (s ≡ t) × (q ≡ r)
IsRun-unique test s t q r hs ht e = runs_agree test s t q r hs.passes hs.stops ht.passes ht.stops e

all_push : (test : ℕ → Bool) (xs : List ℕ) (b : ℕ) → IsTrue (list_all test xs) → IsTrue (test b) → IsTrue (list_all test (xs ++ b ∷ []))
all_push test [] b h t = and_from (test b) true t refl
all_push test (x ∷ xs) b h t =
    let parts = and_parts (test x) (list_all test xs) h in
    and_from (test x) (list_all test (xs ++ b ∷ [])) parts.0 (all_push test xs b parts.1 t)

-- a run of no bytes, and a run with one more byte
pub passes_none : (test : ℕ → Bool) (src : List ℕ) (a : ℕ) → IsTrue (list_all test (slice_range src a a))
passes_none test src a = ap (list_all test) (slice_range-nil src a)

pub passes_more : (test : ℕ → Bool) (src : List ℕ) (a b : ℕ) → a ≤ b → b < length src → IsTrue (list_all test (slice_range src a b)) → IsTrue (test (get_or src b 0)) → IsTrue (list_all test (slice_range src a (b + 1)))
passes_more test src a b ordered within h t = ap (list_all test) (slice_range-push src a b ordered within) ∙ all_push test (slice_range src a b) (get_or src b 0) h t

-- a run ends at a byte that doesn't pass, and at the end
pub stops_at_byte : (test : ℕ → Bool) (src : List ℕ) (b : ℕ) → b < length src → IsFalse (test (get_or src b 0)) → IsFalse (begins test (drop b src))
stops_at_byte test src b within h = ap (begins test) (drop_more src b 0 within) ∙ h

pub stops_at_end : (test : ℕ → Bool) (src : List ℕ) (b : ℕ) → length src ≤ b → IsFalse (begins test (drop b src))
stops_at_end test src b h = ap (begins test) (drop_all b src h)
