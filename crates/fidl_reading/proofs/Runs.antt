-- Runs of bytes that pass a test.
use Rattle.std.proofs.Common.{ℕ, ◌+◌, ◌≤◌, ◌<◌, Bool, List, [], ◌∷◌, ◌++◌, length, get_or, drop, slice_range, IsTrue, IsFalse, sym, refl, subst, ap, ◌∙◌}
use Rattle.std.proofs.lemmas.List.{drop_more, drop_all}
use Rattle.fidl_reading.proofs.Slices.{slice_range-push}
use Rattle.std.specs.List.{list_all}
use Rattle.std.proofs.lemmas.Bool.{and_parts, and_from}
use Rattle.fidl_spelling.specs.Words.{BeginsNo}

all_push : (test : ℕ → Bool) (xs : List ℕ) (b : ℕ) → IsTrue (list_all test xs) → IsTrue (test b) → IsTrue (list_all test (xs ++ b ∷ []))
all_push test [] b h t = and_from (test b) (list_all test []) t refl
all_push test (x ∷ xs) b h t =
    let parts = and_parts (test x) (list_all test xs) h in
    and_from (test x) (list_all test (xs ++ b ∷ [])) parts.0 (all_push test xs b parts.1 t)

-- a run with one more byte
pub passes_more : (test : ℕ → Bool) (src : List ℕ) (a b : ℕ) → a ≤ b → b < length src → IsTrue (list_all test (slice_range src a b)) → IsTrue (test (get_or src b 0)) → IsTrue (list_all test (slice_range src a (b + 1)))
passes_more test src a b ordered within h t = ap (list_all test) (slice_range-push src a b ordered within) ∙ all_push test (slice_range src a b) (get_or src b 0) h t

-- a run ends at a byte that doesn't pass, and at the end
pub stops_at_byte : (test : ℕ → Bool) (src : List ℕ) (b : ℕ) → b < length src → IsFalse (test (get_or src b 0)) → BeginsNo test (drop b src)
stops_at_byte test src b within h = subst (BeginsNo test) (sym (drop_more src b 0 within)) h

pub stops_at_end : (test : ℕ → Bool) (src : List ℕ) (b : ℕ) → length src ≤ b → BeginsNo test (drop b src)
stops_at_end test src b h = subst (BeginsNo test) (sym (drop_all b src h)) tt
