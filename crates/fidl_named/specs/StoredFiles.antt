-- How the files of a set are stored: what its model needs, and nothing of the language.
use Rattle.std.specs.Prelude.{List, []}
use Rattle.std.specs.Coded.{Coded, coded_list}
use Rattle.fidl_tree.specs.contracts.file.File as file
use Rattle.fidl_tree.specs.declared.file.File.{File}
use denote.Ref.{NamedLft}
use mir.Syntax.{static}

-- a code says nothing of a lifetime, so any will do
abbrev pub any_lifetime : NamedLft
any_lifetime = record { mir = static; lft = [] }

abbrev pub files_coded : Coded (List File)
files_coded = coded_list (file.the_row any_lifetime).coded
