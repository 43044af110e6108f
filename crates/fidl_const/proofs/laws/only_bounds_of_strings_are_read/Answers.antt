-- A type depends on the names in its constraints where it is a string's.
use Rattle.std.proofs.Common.{◌≡◌, List, refl}
use Rattle.fidl_tree.specs.declared.file.File.{File}
use Rattle.fidl_tree.specs.Syntax.{Path}
use Rattle.fidl_tree.specs.declared.type_constructor.TypeConstructor.{TypeConstructor}
use Rattle.fidl_named.specs.declared.meaning.Wanted.{Wanted}
use Rattle.fidl_named.specs.declared.meaning.Wanted.TheVariants as wanted
use Rattle.fidl_consts.specs.Types.{IsStringType}
use Rattle.fidl_consts.specs.Dependencies.{TypeUses}
use Rattle.fidl_const.proofs.laws.only_bounds_of_strings_are_read.Goals as goal

value_of_string : (files : List File) (f : File) (t : TypeConstructor) (kind : Wanted) (path : Path) → TypeUses files f t kind path → kind ≡ wanted.Value → IsStringType files f t
value_of_string files f t _ _ (TypeUses.by_name path is) other = cc
value_of_string files f t _ _ (TypeUses.bound path string among) other = string

pub returns-clause-string : goal.returns-clause-string
returns-clause-string c = λ files f t path string among. TypeUses.bound path string among

pub returns-clause-other : goal.returns-clause-other
returns-clause-other c = λ files f t path other uses. other (value_of_string files f t wanted.Value path uses refl)
