-- Numbers by their signs and magnitudes.
use Rattle.std.specs.Prelude.{◌≡◌, ◌≢◌, ℕ, ℤ, pos, neg_ℤ, Bool, true, false, List, ◌∷◌}

-- a number by its sign and its magnitude
abbrev pub signed : (negative : Bool) → ℕ → ℤ
signed true m = neg_ℤ (pos m)
signed false m = pos m

-- a dash followed by digits, or a word that does not begin with a dash
abbrev pub IsSplit : (word : List ℕ) (negative : Bool) (digits : List ℕ) → Type 0
IsSplit word true digits = word ≡ 45 ∷ digits
IsSplit word false digits = (word ≡ digits) × ((behind : List ℕ) → word ≢ 45 ∷ behind)
