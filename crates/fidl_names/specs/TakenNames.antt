-- Names that are there already in a map of names.
use Rattle.std.specs.Prelude.{ℕ, ◌≡◌, ◌↔◌, List}
use Rattle.fidl_named.specs.declared.place.Place.{Place}
use Rattle.fidl_named.specs.declared.place.DeclarationId.{DeclarationId}
use Rattle.fidl_named.specs.declared.fault.NameFault.{NameFault}
use Rattle.fidl_named.specs.declared.fault.NameFault.TheVariants.{DuplicateName, BadImport, Memory}
use Rattle.fidl_named.specs.Names.{IsOneOf, AreDistinct}
use Rattle.fidl_named.specs.NameMaps.{names_of}

-- entries whose names differ stay so
abbrev pub StayDistinct : {X : Type 0} → (before after : List (List ℕ × X)) → Type 0
StayDistinct before after = AreDistinct (names_of before) → AreDistinct (names_of after)

-- a declaration at this place cannot be added: its full name is there
abbrev pub IsTaken : List (List ℕ × DeclarationId) → List ℕ → Place → NameFault → Type 0
IsTaken entries name place (DuplicateName reported) =
    (reported ≡ place) × IsOneOf (names_of entries) name
IsTaken entries name place Memory = Unit {0}
IsTaken entries name place fault = ⊥

-- an import at this place cannot stand: its name is there
abbrev pub IsRepeated : List (List ℕ × List ℕ) → List ℕ → Place → NameFault → Type 0
IsRepeated entries name place (BadImport reported) =
    (reported ≡ place) × IsOneOf (names_of entries) name
IsRepeated entries name place Memory = Unit {0}
IsRepeated entries name place fault = ⊥

-- two lists have the same names
abbrev pub HaveSame : (one other : List (List ℕ)) → Type 0
HaveSame one other = (name : List ℕ) → IsOneOf one name ↔ IsOneOf other name
