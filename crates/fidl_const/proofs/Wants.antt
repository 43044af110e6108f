-- What the place of a type's name wants.
use Rattle.std.proofs.Common.{◌≡◌, List, Option, refl}
use Rattle.fidl_tree.specs.declared.file.File.{File}
use Rattle.fidl_tree.specs.Syntax.{Path}
use Rattle.fidl_named.specs.declared.meaning.Wanted.{Wanted}
use Rattle.fidl_named.specs.declared.meaning.Wanted.TheVariants as wanted
use Rattle.fidl_named.specs.Aliases.{Wants, IsArrayName, by_itself, count, argument}

-- a place that wants no value wants a type
pub wants_type : (files : List File) (f : File) (of : Option Path) (kind : Wanted) → Wants (IsArrayName files f) of kind → (kind ≡ wanted.Value → ⊥) → Wants (IsArrayName files f) of wanted.«Type»
wants_type files f of kind by_itself other = by_itself
wants_type files f of kind (count head is) other = absurd (other refl)
wants_type files f of kind (argument head is) other = argument head is
