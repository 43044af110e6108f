-- The types that are reached from roots (docs/language.md, "Types of a table").
use Rattle.std.specs.Prelude.{ℕ, ◌≢◌, List, [], ◌∷◌, ◌++◌, get_or, map, flat_map}
use Rattle.std.specs.List.{Contains, AllPairs}
use Rattle.fidl_wire.specs.Term.{Term, nothing}
use Rattle.fidl_wire.specs.Term as ty
use Rattle.fidl_ir.specs.Members.{member_types}

-- what a type holds at once: the element of a vector or an array, what is in a box, and the types
-- of a definition's members
abbrev pub held : (terms : List Term) → Term → List Term
held terms (ty.vector optional bound t) = t ∷ []
held terms (ty.array t n) = t ∷ []
held terms (ty.box t) = t ∷ []
held terms (ty.named i) = member_types (get_or terms i nothing)
held terms _ = []

-- a type is reached from roots, which are definitions by their numbers: it is one of them, or a
-- type that is reached holds it
pub data IsReached (terms : List Term) (roots : List ℕ) : Term → Type 0 where
  root : (i : ℕ) → Contains roots i → IsReached terms roots (ty.named i)
  part : (t u : Term) → IsReached terms roots t → Contains (held terms t) u
      → IsReached terms roots u

-- no type stands twice in a list
abbrev pub AreDistinct : List Term → Type 0
AreDistinct = AllPairs (λ t u. t ≢ u)

-- a list, followed by those of some parts that it lacks: in their order, each once
pub data IsJoined : (old parts new : List Term) → Type 0 where
  with_none : (old : List Term) → IsJoined old [] old
  with_known : (old parts new : List Term) (t : Term) → Contains old t → IsJoined old parts new
      → IsJoined old (t ∷ parts) new
  with_new : (old parts new : List Term) (t : Term) → (Contains old t → ⊥)
      → IsJoined (old ++ t ∷ []) parts new → IsJoined old (t ∷ parts) new

-- the roots as types, and what each of these types holds, in the order of the types
abbrev pub parts_of : (terms : List Term) (roots : List ℕ) (types : List Term) → List Term
parts_of terms roots types = map ty.named roots ++ flat_map (held terms) types

-- a list has just the types that are reached, each once: first the roots in their order, then what
-- each type of the list holds, in order
pub record AreReached (terms : List Term) (roots : List ℕ) (types : List Term) : Type 0 where
  pub distinct : AreDistinct types
  pub sound : (t : Term) → Contains types t → IsReached terms roots t
  pub complete : (t : Term) → IsReached terms roots t → Contains types t
  pub order : IsJoined [] (parts_of terms roots types) types
