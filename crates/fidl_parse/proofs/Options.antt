-- Parts that may be left out: whether they stand ahead.
use Rattle.std.proofs.Common.{ℕ, List, ◌++◌, Option, None, Some}
use Rattle.fidl_span.specs.declared.words.WordKind.{WordKind}
use Rattle.fidl_tree.specs.Leaf.{Leaf, optional}
use Rattle.fidl_parse.specs.declared.parser.Parser.{Parser}
use Rattle.fidl_parse.specs.Reading.{IsKindAt}
use Rattle.fidl_parse.specs.Completeness.{Ahead}
use Rattle.fidl_parse.specs.FollowSets.{Begins}
use Rattle.fidl_parse.proofs.Ahead.{begins, next}

pub option_none : {X : Type 0} (f : X → List Leaf) (p : Parser) (at : ℕ) (o : Option X) (rest : List Leaf)
    → ((y : X) (ls : List Leaf) → Ahead p at (f y ++ ls) → ⊥) → Ahead p at (optional f o ++ rest) → Ahead p at rest
option_none f p at None rest n a = a
option_none f p at (Some y) rest n a = absurd (n y rest a)

pub option_some : {X : Type 0} (f : X → List Leaf) (p : Parser) (at : ℕ) (o : Option X) (rest : List Leaf)
    → (Ahead p at rest → ⊥) → Ahead p at (optional f o ++ rest) → (y : X) × Ahead p at (f y ++ rest)
option_some f p at None rest n a = absurd (n a)
option_some f p at (Some y) rest n a = (y, a)

-- the part begins with one kind of word, and what follows it doesn't
pub kind_none : {X : Type 0} (f : X → List Leaf) (k : WordKind) (p : Parser) (at : ℕ) (o : Option X) (rest : List Leaf)
    → ((y : X) (ls : List Leaf) → Begins k (f y ++ ls)) → (IsKindAt p at k → ⊥) → Ahead p at (optional f o ++ rest) → Ahead p at rest
kind_none f k p at o rest s n a = option_none f p at o rest (λ y ls b. n (next p at k (f y ++ ls) (s y ls) b)) a

pub kind_some : {X : Type 0} (f : X → List Leaf) (k : WordKind) (p : Parser) (at : ℕ) (o : Option X) (rest : List Leaf)
    → (Begins k rest → ⊥) → IsKindAt p at k → Ahead p at (optional f o ++ rest) → (y : X) × Ahead p at (f y ++ rest)
kind_some f k p at o rest n i a = option_some f p at o rest (λ b. n (begins p at k rest i b)) a

-- what follows the part begins with one kind of word, and the part doesn't
pub until_none : {X : Type 0} (f : X → List Leaf) (k : WordKind) (p : Parser) (at : ℕ) (o : Option X) (rest : List Leaf)
    → ((y : X) (ls : List Leaf) → Begins k (f y ++ ls) → ⊥) → IsKindAt p at k → Ahead p at (optional f o ++ rest) → Ahead p at rest
until_none f k p at o rest s i a = option_none f p at o rest (λ y ls b. s y ls (begins p at k (f y ++ ls) i b)) a

pub until_some : {X : Type 0} (f : X → List Leaf) (k : WordKind) (p : Parser) (at : ℕ) (o : Option X) (rest : List Leaf)
    → Begins k rest → (IsKindAt p at k → ⊥) → Ahead p at (optional f o ++ rest) → (y : X) × Ahead p at (f y ++ rest)
until_some f k p at o rest s n a = option_some f p at o rest (λ b. n (next p at k rest s b)) a
