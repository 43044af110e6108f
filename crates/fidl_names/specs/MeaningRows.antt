-- Rows of what aliases come to, by the ids of declarations.
use Rattle.std.specs.Prelude.{ℕ, ◌<◌, [], List, length, map, get_or, set}
use Rattle.fidl_named.specs.declared.place.DeclarationId.{DeclarationId}
use Rattle.fidl_named.specs.declared.ends.AliasEnd.{AliasEnd}
use Rattle.fidl_named.specs.declared.meaning.Meaning.TheVariants as meaning
use Rattle.fidl_names.specs.DeclarationNumbers.{ids_in}
use Rattle.fidl_named.specs.Aliases.{own_end}

-- the first declarations of a file, as many as these, each as itself
abbrev pub own_ends : (file count : ℕ) → List AliasEnd
own_ends file count = map (λ p. own_end (meaning.Declared p)) (ids_in file count)

-- they have one for this id
abbrev pub IsWithin : List (List AliasEnd) → DeclarationId → Type 0
IsWithin rows p = (p.file < length rows) × (p.index < length (get_or rows p.file []))

-- the same rows with this one there
abbrev pub with_end : List (List AliasEnd) → DeclarationId → AliasEnd → List (List AliasEnd)
with_end rows p end = set rows p.file (set (get_or rows p.file []) p.index end)
