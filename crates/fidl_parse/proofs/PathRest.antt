-- What a path begins with and how it ends.
use Rattle.std.proofs.Common.{List, ◌++◌, refl}
use Rattle.fidl_span.specs.declared.words.WordKind.TheVariants as kind
use Rattle.fidl_tree.specs.Leaf.{Leaf}
use Rattle.fidl_tree.specs.Path.{part_leaves}
use Rattle.fidl_tree.specs.declared.path.PathPart.{PathPart}
use Rattle.fidl_parse.specs.FollowSets.{Begins}

pub part_begins : (y : PathPart) (ls : List Leaf) → Begins kind.Dot (part_leaves y ++ ls)
part_begins y ls = refl
