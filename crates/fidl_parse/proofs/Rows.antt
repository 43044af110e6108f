-- Parts one after another: what is left of them in a loop that reads them.
use Rattle.std.proofs.Common.{ℕ, List, [], ◌∷◌, ◌++◌}
use Rattle.fidl_span.specs.declared.words.WordKind.{WordKind}
use Rattle.fidl_tree.specs.Leaf.{Leaf}
use Rattle.fidl_parse.specs.declared.parser.Parser.{Parser}
use Rattle.fidl_parse.specs.Reading.{IsKindAt}
use Rattle.fidl_parse.specs.Completeness.{Ahead, row}
use Rattle.fidl_parse.specs.FollowSets.{Begins}
use Rattle.fidl_parse.proofs.Ahead.{begins, next, group}

-- from here the rest of any row is ahead that was ahead at the start
abbrev pub Left : {X : Type 0} → (X → List Leaf) → (List Leaf → Type 0) → Parser → ℕ → ℕ → Type 0
Left {X = X} f May p from at = (xs : List X) → (rest : List Leaf) → May rest → Ahead p from (row f xs ++ rest) → (ys : List X) × Ahead p at (row f ys ++ rest)

-- what is left of a row where it goes on
abbrev pub More : {X : Type 0} → (X → List Leaf) → Parser → ℕ → List Leaf → Type 0
More {X = X} f p at rest = (y : X) × (ys : List X) × Ahead p at (f y ++ (row f ys ++ rest))

row_more : {X : Type 0} (f : X → List Leaf) (p : Parser) (at : ℕ) (xs : List X) (rest : List Leaf)
    → (Ahead p at rest → ⊥) → Ahead p at (row f xs ++ rest) → More f p at rest
row_more f p at [] rest n a = absurd (n a)
row_more f p at (y ∷ ys) rest n a = (y, ys, group p at (f y) (row f ys) rest a)

row_done : {X : Type 0} (f : X → List Leaf) (p : Parser) (at : ℕ) (xs : List X) (rest : List Leaf)
    → ((y : X) (ls : List Leaf) → Ahead p at (f y ++ ls) → ⊥) → Ahead p at (row f xs ++ rest) → Ahead p at rest
row_done f p at [] rest n a = a
row_done f p at (y ∷ ys) rest n a = absurd (n y (row f ys ++ rest) (group p at (f y) (row f ys) rest a))

-- each part begins with one kind of word, and what follows the row doesn't
pub list_more : {X : Type 0} (f : X → List Leaf) (k : WordKind) (p : Parser) (at : ℕ) (xs : List X) (rest : List Leaf)
    → (Begins k rest → ⊥) → IsKindAt p at k → Ahead p at (row f xs ++ rest) → More f p at rest
list_more f k p at xs rest n i a = row_more f p at xs rest (λ b. n (begins p at k rest i b)) a

pub list_done : {X : Type 0} (f : X → List Leaf) (k : WordKind) (p : Parser) (at : ℕ) (xs : List X) (rest : List Leaf)
    → ((y : X) (ls : List Leaf) → Begins k (f y ++ ls)) → (IsKindAt p at k → ⊥) → Ahead p at (row f xs ++ rest) → Ahead p at rest
list_done f k p at xs rest s n a = row_done f p at xs rest (λ y ls b. n (next p at k (f y ++ ls) (s y ls) b)) a

-- what follows the row begins with one kind of word, and no part does
pub members_more : {X : Type 0} (f : X → List Leaf) (k : WordKind) (p : Parser) (at : ℕ) (xs : List X) (rest : List Leaf)
    → Begins k rest → (IsKindAt p at k → ⊥) → Ahead p at (row f xs ++ rest) → More f p at rest
members_more f k p at xs rest s n a = row_more f p at xs rest (λ b. n (next p at k rest s b)) a

pub members_done : {X : Type 0} (f : X → List Leaf) (k : WordKind) (p : Parser) (at : ℕ) (xs : List X) (rest : List Leaf)
    → ((y : X) (ls : List Leaf) → Begins k (f y ++ ls) → ⊥) → IsKindAt p at k → Ahead p at (row f xs ++ rest) → Ahead p at rest
members_done f k p at xs rest n i a = row_done f p at xs rest (λ y ls b. n y ls (begins p at k (f y ++ ls) i b)) a
