-- What a refusal says (docs/language.md, "Types of a table").
use Rattle.std.specs.Prelude.{ℕ, ◌<◌, List, length}
use Rattle.std.specs.List.{Contains}
use Rattle.fidl_wire.specs.Term.{Term}
use Rattle.fidl_reachable_types.specs.declared.fault.EntryFault.{EntryFault}
use Rattle.fidl_reachable_types.specs.declared.fault.EntryFault.TheVariants.{TooMany, Memory}
use Rattle.fidl_reachable_types.specs.Reached.{AreDistinct, IsReached}

-- more types are reached than the limit: those of a list
pub record AreTooMany (terms : List Term) (roots : List ℕ) (limit : ℕ) : Type 0 where
  pub types : List Term
  pub distinct : AreDistinct types
  pub sound : (t : Term) → Contains types t → IsReached terms roots t
  pub many : limit < length types

-- a refusal is true of roots; that memory ran out says nothing of them
abbrev pub IsTrueOf : (terms : List Term) (roots : List ℕ) (limit : ℕ) → EntryFault → Type 0
IsTrueOf terms roots limit TooMany = AreTooMany terms roots limit
IsTrueOf terms roots limit Memory = Unit {0}
