-- The terms of types down to their first vectors, which decide the limits of a written type: what
-- the vectors hold is written too.
use Rattle.std.specs.Prelude.{ℕ, Bool, List}
use Rattle.fidl_tree.specs.Syntax.{TypeUse}
use Rattle.fidl_tree.specs.declared.file.File.{File}
use Rattle.fidl_wire.specs.Term.{Term}
use Rattle.fidl_wire.specs.Term as ty
use Rattle.fidl_wire.specs.Figure.{Figure}
use Rattle.fidl_lower_types.specs.declared.node.Shape.TheVariants as shape
use Rattle.fidl_lower_types.specs.Terms.{leaf, holds, made_of, NodeIs}
use Rattle.fidl_type_shape.specs.Limits.{TypeFits}
use Rattle.fidl_layout.specs.Uses.{UseFits, written_type}
use Rattle.fidl_declarations.specs.Sites.{Site, file_sites}
use Rattle.fidl_tree.specs.Views.{file_view}
use Rattle.std.specs.Prelude.{◌≡◌, Some, slice_get}
use Rattle.std.specs.List.{AllByRecursion}

-- the term of a type in the file of this number, with bool for the elements of its first vector
pub data IsShallow (files : List File) : (number : ℕ) → TypeUse → Term → Type 0 where
  alone : (number : ℕ) (t : TypeUse) (e : Term) → NodeIs files number t (leaf e)
      → IsShallow files number t e
  of_vector : (number : ℕ) (t : TypeUse) (of : ℕ) (u : TypeUse) (optional : Bool) (bound : ℕ)
      → NodeIs files number t (holds of u (shape.Vector optional bound))
      → IsShallow files number t (ty.vector optional bound ty.bool)
  of_array : (number : ℕ) (t : TypeUse) (of : ℕ) (u : TypeUse) (n : ℕ) (e : Term)
      → NodeIs files number t (holds of u (shape.Array n)) → IsShallow files of u e
      → IsShallow files number t (made_of (shape.Array n) e)

-- all that stands in a type is within the limits, down to its first vector at least
pub data UseFitsAtFirst (files : List File) (figures : List Figure) (number : ℕ) (t : TypeUse)
    : Type 0 where
  whole : UseFits files figures number t → UseFitsAtFirst files figures number t
  first : (e : Term) → IsShallow files number t e → TypeFits figures e
      → UseFitsAtFirst files figures number t

-- so it is in the type that is written at a site, if one is
abbrev pub SiteFitsAtFirst : List File → (figures : List Figure) → (number : ℕ) → Site → Type 0
SiteFitsAtFirst files figures number site =
    (t : TypeUse) → written_type site ≡ Some t → UseFitsAtFirst files figures number t

-- in each type that is written in the file of this number
abbrev pub FileFitsAtFirst : List File → (figures : List Figure) → (number : ℕ) → File → Type 0
FileFitsAtFirst files figures number f =
    AllByRecursion (SiteFitsAtFirst files figures number) (file_sites (file_view f))

-- in each type that is written in the files
abbrev pub UsesFitAtFirst : List File → (figures : List Figure) → Type 0
UsesFitAtFirst files figures = (number : ℕ) (f : File) → slice_get files number ≡ Some f
    → FileFitsAtFirst files figures number f
