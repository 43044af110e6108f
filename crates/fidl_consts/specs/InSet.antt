-- That a file has a number in a set is one fact, whatever its proof: what `NamedFile` needs, and
-- nothing of the language.
use Rattle.std.specs.Prelude.{ℕ, ◌≡◌, List, [], Option, Some, slice_get}
use Rattle.std.specs.Coded.{Coded, Coded-set, coded_option}
use Rattle.fidl_tree.specs.contracts.file.File as file
use Rattle.fidl_tree.specs.declared.file.File.{File}
use denote.Ref.{NamedLft}
use mir.Syntax.{static}

-- a code says nothing of a lifetime, so any will do
abbrev any_lifetime : NamedLft
any_lifetime = record { mir = static; lft = [] }

abbrev found_file : Coded (Option File)
found_file = coded_option (file.the_row any_lifetime).coded

pub in_set_prop : (files : List File) (number : ℕ) (f : File)
    → IsProp (slice_get files number ≡ Some f)
in_set_prop files number f = Coded-set found_file (slice_get files number) (Some f)
