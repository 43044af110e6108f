-- Lists of types that grow, as the code has them.
use Rattle.std.specs.Prelude.{ℕ, ◌≡◌, ◌≤◌, ◌<◌, ◌++◌, List, [], length, map, take}
use Rattle.std.specs.List.{Contains}
use Rattle.fidl_wire.specs.Term.{Term}
use Rattle.fidl_wire.specs.Term as ty
use Rattle.fidl_ir.specs.Terms.{term_view}
use Rattle.fidl_reachable_types.specs.declared.fault.EntryFault.{EntryFault}
use Rattle.fidl_reachable_types.specs.declared.fault.EntryFault.TheVariants.{TooMany, Memory}
use Rattle.fidl_reachable_types.specs.declared.list.TypeRef.{TypeRef}
use Rattle.fidl_reachable_types.specs.declared.list.TypeRef.TheVariants.{Of, Layout}
use Rattle.fidl_reachable_types.specs.declared.list.TypeList.{TypeList}
use Rattle.fidl_reachable_types.specs.Reached.{AreDistinct, IsReached, IsJoined, parts_of}
use Rattle.fidl_reachable_types.specs.Keys.{words}

abbrev pub reference_view : TypeRef → Term
reference_view (Of t) = term_view t.now
reference_view (Layout number) = ty.named number

abbrev pub types_of : TypeList → List Term
types_of list = map reference_view list.types.items

-- the set of a list has the words of its types, in their order, and they are within the limit
pub record IsKept (list : TypeList) : Type 0 where
  pub same : map (λ v. v.items) list.known.keys ≡ map words (types_of list)
  pub within : length list.types.items ≤ list.limit

-- types are added behind those of a list, each of these parts and once
pub record Adds (old new parts : List Term) : Type 0 where
  pub added : List Term
  pub is : new ≡ old ++ added
  pub only : (t : Term) → Contains added t → Contains parts t
  pub distinct : AreDistinct old → AreDistinct new

-- those of these parts that a list lacks are added to it, in their order; it keeps its set and its
-- limit
pub record GrowsBy (old new : TypeList) (parts : List Term) : Type 0 where
  pub kept : IsKept new
  pub limit : new.limit ≡ old.limit
  pub joined : IsJoined (types_of old) parts (types_of new)

-- with some of these parts a list is past its limit
pub record IsFull (old : TypeList) (parts : List Term) : Type 0 where
  pub more : List Term
  pub adds : Adds (types_of old) more parts
  pub many : old.limit < length more

-- what a refusal says of a list and the parts that were to be added
abbrev pub IsFullBy : (old : TypeList) (parts : List Term) → EntryFault → Type 0
IsFullBy old parts TooMany = IsFull old parts
IsFullBy old parts Memory = Unit {0}

-- a list on the way to all that roots reach: it has the roots, and then what the types before a
-- place hold
pub record IsReaching (terms : List Term) (roots : List ℕ) (place : ℕ) (types : List Term) : Type 0
  where
    pub sound : (t : Term) → Contains types t → IsReached terms roots t
    pub order : IsJoined [] (parts_of terms roots (take place types)) types
