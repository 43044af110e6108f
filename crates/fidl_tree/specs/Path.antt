-- Names with dots between them (docs/language.md, "Grammar").
use Rattle.std.specs.Prelude.{List, ◌++◌, map}
use Rattle.fidl_span.specs.declared.words.WordKind.TheVariants as kind
use Rattle.fidl_tree.specs.Leaf.{Leaf, Text, any, leaf, symbol, name, joined}
use Rattle.fidl_tree.specs.declared.path.Path.{Path}
use Rattle.fidl_tree.specs.declared.path.PathPart.{PathPart}

-- part = "." ident
abbrev pub part_leaves : PathPart → List Leaf
part_leaves p = symbol kind.Dot p.dot ++ name p.name

-- path = ident { part }, where something is asked of the first name
abbrev pub path_from : Text → Path → List Leaf
path_from first p = leaf kind.Identifier p.first first ++ joined (map part_leaves p.rest.items)

-- path = ident { part }
abbrev pub path_leaves : Path → List Leaf
path_leaves = path_from any
