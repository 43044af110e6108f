-- What is read at the front of some words (docs/notation.md, "What a text spells").
use Rattle.std.specs.Prelude.{◌^◌, ℕ, List, [], ◌∷◌, Bool, true, false, Option, Some, None}
use Rattle.std.specs.Prelude.{if◌then◌else◌, suc}
use Rattle.fidl_wire.specs.Value.{Member, known, unknown}
use Rattle.fidl_wire.specs.Term.{Term, Fields, Rows, resolve, find}
use Rattle.fidl_wire.specs.Term as ty
use Rattle.fidl_reading.specs.declared.fault.NotationFault.{NotationFault}
use Rattle.fidl_reading.specs.declared.fault.NotationFault.TheVariants.{Memory}
use Rattle.fidl_spelling.specs.Words.{Words}
use Rattle.fidl_spelling.specs.Spells.{The, One, ◌⨾◌, IsNumberBelow}
use Rattle.fidl_spelling.specs.Spells.{Handles, AreHex}
use Rattle.fidl_wire.specs.declared.handle.HandleInfo.{HandleInfo}
use Rattle.fidl_table_format.specs.declared.kind.EntryKind.{EntryKind}
use Rattle.fidl_table_format.specs.declared.kind.EntryKind.TheVariants.{Vector, Array, Box, Struct}
use Rattle.fidl_table_format.specs.declared.kind.EntryKind.TheVariants.{Table, Union}
use Rattle.fidl_table_format.specs.Terms.{declarations_of}

-- P holds of these words up to no rest
abbrev pub StandsNot : (Words → Words → Type 0) → Words → Type 0
StandsNot P ws = (rest : Words) → ¬ (P ws rest)

-- what a refusal says: nothing where memory ran out
abbrev pub IfJudged : Type 0 → NotationFault → Type 0
IfJudged Q Memory = Unit {0}
IfJudged Q _ = Q

-- whether a list has an element, before which the next one needs a comma
abbrev pub has_some : {A : Type 0} → List A → Bool
has_some [] = false
has_some (x ∷ xs) = true

-- the type that an entry of a table declares
abbrev pub type_at : (table : List ℕ) (entry : ℕ) → Term
type_at table entry = resolve (declarations_of table).terms (ty.named entry)

-- a value of this kind has no value in it
abbrev pub IsLeaf : EntryKind → Type 0
IsLeaf Vector = ⊥
IsLeaf Array = ⊥
IsLeaf Box = ⊥
IsLeaf Struct = ⊥
IsLeaf Table = ⊥
IsLeaf Union = ⊥
IsLeaf k = Unit {0}

-- handles between brackets
abbrev pub AHandleList : List HandleInfo → Words → Words → Type 0
AHandleList hs = The "[" ⨾ Handles false hs ⨾ The "]"

-- which of the two unknown members
abbrev pub ASide : (inline : Bool) → Words → Words → Type 0
ASide inline = The (if inline then "in" else "out")

-- the raw parts of a member that the layout does not have
abbrev pub ARaw : Member → Words → Words → Type 0
ARaw (unknown inline bytes hs) = The "unknown" ⨾ ASide inline ⨾ One (AreHex bytes) ⨾ AHandleList hs
ARaw (known v) = λ ws rest. ⊥

-- what comes before the members of a table of this many envelopes
abbrev pub ACount : (envelopes : ℕ) → Words → Words → Type 0
ACount n = The "table" ⨾ The "(" ⨾ One (IsNumberBelow (2 ^ 64) n) ⨾ The ")" ⨾ The "{"

-- the least ordinal that may follow
abbrev pub least_after : (last : Option ℕ) → ℕ
least_after None = 0
least_after (Some ordinal) = suc ordinal
