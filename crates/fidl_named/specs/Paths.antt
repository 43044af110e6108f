-- Paths in plain data: their texts and places, and what the refusal of one says.
use Rattle.std.specs.Prelude.{ℕ, ◌≡◌, List, [], ◌∷◌, map}
use Rattle.fidl_span.specs.declared.words.Span.{Span}
use Rattle.fidl_tree.specs.Leaf.{text_at}
use Rattle.fidl_tree.specs.Syntax.{Path}
use Rattle.fidl_tree.specs.declared.file.File.{File}
use Rattle.fidl_named.specs.declared.fault.NameFault.{NameFault}
use Rattle.fidl_named.specs.declared.fault.NameFault.TheVariants.{UnknownName, AmbiguousName}
use Rattle.fidl_named.specs.declared.fault.NameFault.TheVariants.{Memory}
use Rattle.fidl_named.specs.declared.meaning.Wanted.{Wanted}
use Rattle.fidl_named.specs.declared.meaning.Meaning.{Meaning}
use Rattle.fidl_named.specs.Meanings.{IsReading, IsAmbiguous}

-- the components of a path
abbrev pub texts : List ℕ → Path → List (List ℕ)
texts src path = map (text_at src) path

-- where a path stands: from its first component to its last
abbrev pub last_place : Span → List Span → Span
last_place s [] = s
last_place s (t ∷ ts) = last_place t ts

abbrev pub path_place : Path → Span
path_place [] = record { from = 0; to = 0 }
path_place (s ∷ ss) = record { from = s.from; to = (last_place s ss).to }

-- what the refusal of a path says of it
abbrev pub IsTrueOfPath : List File → File → (number : ℕ) → Wanted → Path → NameFault → Type 0
IsTrueOfPath files f number wanted p (UnknownName place) =
    ((m : Meaning) → IsReading files f wanted (texts f.src.now p) m → ⊥)
    × (place ≡ record { file = number; span = path_place p })
IsTrueOfPath files f number wanted p (AmbiguousName place) =
    IsAmbiguous files f wanted (texts f.src.now p)
    × (place ≡ record { file = number; span = path_place p })
IsTrueOfPath files f number wanted p Memory = Unit {0}
IsTrueOfPath files f number wanted p fault = ⊥
