-- Types that are named outside layouts, as references hold them.
use Rattle.std.specs.Prelude.{List, Option, map}
use Rattle.std.specs.Option.{option_map}
use Rattle.std.specs.Borrow.{Bor}
use Rattle.fidl_tree.specs.Syntax as plain
use Rattle.fidl_tree.specs.Views.{path_view, value_view}
use Rattle.fidl_tree.specs.declared.path.Path.{Path}
use Rattle.fidl_tree.specs.declared.value.Value.{Value}

abbrev pub read_path : Option (Bor Path) → Option Path
read_path path = option_map (λ p. p.now) path

-- the same in plain data
abbrev pub optional_path_view : Option (Bor Path) → Option plain.Path
optional_path_view path = option_map (λ p. path_view p.now) path

-- what references lead to, in plain data
abbrev pub paths_view : List (Bor Path) → List plain.Path
paths_view paths = map (λ p. path_view p.now) paths

abbrev pub value_list_view : List (Bor Value) → List plain.Value
value_list_view values = map (λ v. value_view v.now) values
