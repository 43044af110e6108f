-- What a map of full names holds.
use Rattle.std.specs.Prelude.{ℕ, List, map}
use Rattle.std.specs.Global.{Vec}

-- each name with what stands there, in order
abbrev pub seen : {X : Type 0} → List (Vec ℕ × X) → List (List ℕ × X)
seen entries = map (λ e. (e.0.items, e.1)) entries

-- the same where texts stand there
abbrev pub texts_view : List (Vec ℕ × Vec ℕ) → List (List ℕ × List ℕ)
texts_view entries = map (λ e. (e.0.items, e.1.items)) entries

-- the names alone
abbrev pub names_of : {X : Type 0} → List (List ℕ × X) → List (List ℕ)
names_of entries = map (λ e. e.0) entries
