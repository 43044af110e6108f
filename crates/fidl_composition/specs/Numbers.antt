-- Protocols by their numbers, and what they compose as a graph (docs/language.md, "Compositions").
use Rattle.std.specs.Prelude.{ℕ, ◌≡◌, ◌↔◌, List, Some, length, slice_get}
use Rattle.fidl_tree.specs.declared.file.File.{File}
use Rattle.fidl_named.specs.declared.place.DeclarationId.{DeclarationId}
use Rattle.fidl_cycles.specs.Cycles.{IsEdge}
use Rattle.fidl_composition.specs.Protocols.{AreProtocols}
use Rattle.fidl_composition.specs.Compositions.{Composes, Reaches}

-- this is the number of a protocol that a protocol composes
pub record IsComposedNumber (files : List File) (ids : List DeclarationId) (p : DeclarationId)
    (t : ℕ) : Type 0 where
  pub composed : DeclarationId
  pub composes : Composes files p composed
  pub number_at : slice_get ids t ≡ Some composed

-- the protocol of the first number composes that of the second
pub record ComposesByNumber (files : List File) (ids : List DeclarationId) (one other : ℕ) : Type 0
  where
    pub composing : DeclarationId
    pub one_at : slice_get ids one ≡ Some composing
    pub is : IsComposedNumber files ids composing other

-- the protocol of the first number reaches that of the second
pub record ReachesByNumber (files : List File) (ids : List DeclarationId) (one other : ℕ) : Type 0
  where
    pub from : DeclarationId
    pub to : DeclarationId
    pub one_at : slice_get ids one ≡ Some from
    pub other_at : slice_get ids other ≡ Some to
    pub reaches : Reaches files from to

-- a list has the ids of all protocols in order, and a graph has for each, at the number of its
-- place in the list, just the numbers of those that it composes
pub record AreCompositions (files : List File) (c : List DeclarationId × List (List ℕ)) : Type 0
  where
    pub protocols : AreProtocols files c.0
    pub long : length c.1 ≡ length c.0
    pub edges : (one other : ℕ) → IsEdge c.1 one other ↔ ComposesByNumber files c.0 one other
