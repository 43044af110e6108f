-- What the constraints of a type give, each its part (docs/language.md, "What constraints give").
use Rattle.std.specs.Prelude.{ℕ, ◌≡◌, Bool, true, false, if◌then◌else◌, List, [], ◌∷◌}
use Rattle.fidl_constraints.specs.declared.parts.PartKind.{PartKind}
use Rattle.fidl_constraints.specs.declared.parts.PartKind.TheVariants.{Optional, Bound, Protocol}
use Rattle.fidl_constraints.specs.declared.parts.PartKind.TheVariants.{Subtype, Rights}
use Rattle.fidl_constraints.specs.declared.parts.Part.{Part}

-- two parts give the same
abbrev pub same_kind : PartKind → PartKind → Bool
same_kind Optional Optional = true
same_kind Bound Bound = true
same_kind Protocol Protocol = true
same_kind Subtype Subtype = true
same_kind Rights Rights = true
same_kind _ _ = false

-- a part of this kind is among them
abbrev pub has_kind : PartKind → List Part → Bool
has_kind kind [] = false
has_kind kind (p ∷ ps) = if same_kind p.kind kind then true else has_kind kind ps

-- nothing is given twice
abbrev pub GivenOnce : List Part → Type 0
GivenOnce [] = Unit {0}
GivenOnce (p ∷ ps) = (has_kind p.kind ps ≡ false) × GivenOnce ps

-- its number, and another one where there is none
abbrev pub amount_in : PartKind → (otherwise : ℕ) → List Part → ℕ
amount_in kind otherwise [] = otherwise
amount_in kind otherwise (p ∷ ps) =
    if same_kind p.kind kind then p.amount else amount_in kind otherwise ps

-- The parts of a type, with what holds where nothing is given.

abbrev pub optional_in : List Part → Bool
optional_in parts = has_kind Optional parts

abbrev pub protocol_in : List Part → Bool
protocol_in parts = has_kind Protocol parts

abbrev pub bound_in : List Part → ℕ
bound_in parts = amount_in Bound 4294967295 parts

abbrev pub subtype_in : List Part → ℕ
subtype_in parts = amount_in Subtype 0 parts

abbrev pub rights_in : List Part → ℕ
rights_in parts = amount_in Rights 2147483648 parts
