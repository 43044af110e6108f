-- The parts of a handle's text are where its first two colons cut it.
use Rattle.std.proofs.Common.{◌≡◌, ◌≢◌, ℕ, zero, suc, ◌<◌, List, [], ◌∷◌, ◌++◌, length, get_or, subst, arith}
use Rattle.std.specs.Prelude.{Option, Some, None, IfNone}
use Rattle.std.specs.Borrow.{Bor}
use Rattle.std.specs.Option.{MatchOption}
use Rattle.std.specs.Str.Parse.{AllDigits}
use Rattle.std.specs.Char.{digit_value}
use Rattle.std.proofs.lemmas.Str.Pattern.{split_after, IsSplitOnceResult}
use Rattle.fidl_command_line.specs.Handles.{IsDecimal}

pub when_none : {A P : Type 0} (o : Option A) → P → IfNone o P
when_none None p = p
when_none (Some a) p = tt

no_colon : (ds : List ℕ) → AllDigits 10 ds → (i : ℕ) → i < length ds → get_or ds i 0 ≢ 58
no_colon [] h i less = absurd (omega arith)
no_colon (d ∷ ds) h zero less = λ e. colon d e h.0
  where
    colon : (d : ℕ) → d ≡ 58 → digit_value d < 10 → ⊥
    colon d e small = let bad = subst (λ k. digit_value k < 10) e small in absurd (omega arith)
no_colon (d ∷ ds) h (suc i) less = no_colon ds h.1 i (omega arith)

-- a number before a colon is what a cut at the first colon gives
pub cut_some : (text ds rest : List ℕ) (n : ℕ) (r : Option (Bor (List ℕ) × Bor (List ℕ))) (x : Bor (List ℕ) × Bor (List ℕ)) → IsSplitOnceResult 58 text r → r ≡ Some x → text ≡ ds ++ 58 ∷ rest → IsDecimal ds n
    → (x.0.now ≡ ds) × (x.1.now ≡ rest)
cut_some text ds rest n r x split is e d =
    subst (λ (o : Option (Bor (List ℕ) × Bor (List ℕ))). MatchOption o ⊥ (λ x. (x.0.now ≡ ds) × (x.1.now ≡ rest))) is (split_after 58 text ds rest r split (omega arith) e (no_colon ds d.numeral.1))

pub cut_none : (text ds rest : List ℕ) (n : ℕ) (r : Option (Bor (List ℕ) × Bor (List ℕ))) → IsSplitOnceResult 58 text r → r ≡ None → text ≡ ds ++ 58 ∷ rest → IsDecimal ds n → ⊥
cut_none text ds rest n r split is e d =
    subst (λ (o : Option (Bor (List ℕ) × Bor (List ℕ))). MatchOption o ⊥ (λ x. (x.0.now ≡ ds) × (x.1.now ≡ rest))) is (split_after 58 text ds rest r split (omega arith) e (no_colon ds d.numeral.1))
