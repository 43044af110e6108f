-- What it means that the parser misses no part of a tree whose words stand before it.
use Rattle.std.specs.Prelude.{◌≡◌, ℕ, List, ◌++◌, drop, map, Option, None, Result, Ok, Err}
use Rattle.std.specs.List.{AllByRecursion}
use Rattle.fidl_tree.specs.Leaf.{Leaf, words, joined, MeetsText}
use Rattle.fidl_parse.specs.declared.parser.Parser.{Parser}
use Rattle.fidl_parse.specs.declared.fault.Stop.{Stop}
use Rattle.fidl_parse.specs.declared.fault.Stop.TheVariants.{Memory}

-- From the place to the last, the parser's words are those of these leaves, and in the source each
-- of them has a text as the grammar asks.
pub record Ahead (p : Parser) (at : ℕ) (leaves : List Leaf) : Type 0 where
  pub stand : drop at p.words.now ≡ words leaves
  pub texts : AllByRecursion (MeetsText p.src.now) leaves

-- this holds where a part is read, and only Memory stops the reading
abbrev pub Goes : {R : Type 0} → Result R Stop → Type 0 → Type 0
Goes (Ok part) P = P
Goes (Err stop) P = stop ≡ Memory

-- Wherever such a part stands before what may follow it, it is read up to what follows it.
abbrev pub Finds : {X : Type 0} {R : Type 0} → Parser → ℕ → ℕ → (X → List Leaf)
    → (List Leaf → Type 0)
    → Result R Stop → Type 0
Finds {X = X} p from to leaves_of May result =
    (x : X) → (rest : List Leaf) → May rest → Ahead p from (leaves_of x ++ rest)
    → Goes result (Ahead p to rest)

-- Wherever no such part stands, but what may stand in its place, none is read.
abbrev pub Skips : {R : Type 0} → Parser → ℕ → ℕ → (List Leaf → Type 0) → Result (Option R) Stop
    → Type 0
Skips p from to May result = (rest : List Leaf) → May rest → Ahead p from rest → (result ≡ Ok None)
    × Ahead p to rest

-- the leaves of parts one after another
abbrev pub row : {X : Type 0} → (X → List Leaf) → List X → List Leaf
row f xs = joined (map f xs)
