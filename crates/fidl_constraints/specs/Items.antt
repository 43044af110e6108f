-- The constraints in the lists of a type, each with its place in its list (docs/language.md, "What
-- constraints give").
use Rattle.std.specs.Prelude.{ℕ, suc, Bool, true, false, List, [], ◌∷◌, Option, Some, None}
use Rattle.std.specs.Prelude.{slice_get, flat_map}
use Rattle.fidl_tree.specs.Syntax.{Value}
use Rattle.fidl_tree.specs.declared.file.File.{File}
use Rattle.fidl_named.specs.Constraints.{is_optional}
use Rattle.fidl_constraints.specs.Behind.{Given}

-- a constraint: the number of its file, its value, whether it is the word `optional`, how many that
-- aren't this word stand before it in its list, and whether it is the last one there
pub record Item : Type 0 where
  pub file : ℕ
  pub value : Value
  pub word : Bool
  pub rank : ℕ
  pub last : Bool

-- it is the word `optional` in a file
abbrev pub is_word : Option File → Value → Bool
is_word None v = false
is_word (Some f) v = is_optional f v

abbrev pub next_rank : (word : Bool) → ℕ → ℕ
next_rank true rank = rank
next_rank false rank = suc rank

abbrev pub is_last : (rest : List Value) → Bool
is_last [] = true
is_last (v ∷ vs) = false

-- the constraints of a list, of which the first has this rank
abbrev pub items_from : Option File → (number rank : ℕ) → List Value → List Item
items_from f number rank [] = []
items_from f number rank (v ∷ vs) =
    record { file = number; value = v; word = is_word f v; rank = rank; last = is_last vs }
    ∷ items_from f number (next_rank (is_word f v) rank) vs

abbrev pub items_of : List File → Given → List Item
items_of files g = items_from (slice_get files g.file) g.file 0 g.values

-- those of all lists
abbrev pub all_items : List File → List Given → List Item
all_items files given = flat_map (items_of files) given
