use Rattle.std.proofs.Common.{rules, ◌≡◌, Some}
use Rattle.fidl_tree.specs.Views.{path_view, value_view}
use Rattle.fidl_named.specs.Constraints.{path_alone}
use Rattle.fidl_named.proofs.PathViews.{text_seen}
use Rattle.fidl_named.proofs.constraint_names.is_optional.Goals as goal

pub returns-in_ok-text-in-Some : goal.returns-in_ok-text-in-Some
returns-in_ok-text-in-Some c =
    let alone : Some (path_view c.in-Some.path.now) ≡ path_alone (value_view c.args.value.now) = c.in-Some.ensures in
    let seen = text_seen c.args.file.now.src.now c.in-Some.path.now in
    search (rules, alone, seen)
