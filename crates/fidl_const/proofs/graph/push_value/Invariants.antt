use Rattle.std.proofs.Common.{◌≡◌, ◌++◌, map, drop}
use Rattle.fidl_tree.specs.Syntax.{Path}
use Rattle.fidl_named.specs.declared.meaning.Wanted.TheVariants as wanted
use Rattle.fidl_named.specs.ReferenceViews.{paths_view}
use Rattle.fidl_consts.specs.Dependencies.{Use}
use Rattle.fidl_const.specs.Columns.{name_uses_view}
use Rattle.fidl_const.proofs.graph.push_value.Given as goal

-- the names so far and those to come are all
abbrev pub invariant-loop-path : goal.invariant-loop-path
invariant-loop-path l =
    name_uses_view l.uses.items ++ map {B = Use} (λ (p : Path). (wanted.Value, p)) (paths_view (drop l.path-index l.path-items))
    ≡ name_uses_view l.fn.uses.items ++ map {B = Use} (λ (p : Path). (wanted.Value, p)) (paths_view l.path-items)
