use Rattle.std.proofs.Common.{◌≡◌, ◌∙◌, Some, ap, sym}
use Rattle.std.specs.Prelude.{slice_get}
use Rattle.std.proofs.lemmas.Option.{slice_get-get_or}
use Rattle.fidl_constraints.proofs.InSet.{each_list}
use Rattle.fidl_constraints.proofs.items.all_items.Goals as goal

pub push_items-requires : goal.push_items-requires
push_items-requires c =
    let lists = c.args.lists.now in
    let i = c.loop-given.given-index in
    let g = c.given-item.result in
    let there : slice_get lists i ≡ Some g = slice_get-get_or lists i g c.loop-given-test.true ∙ ap Some (sym c.given-item.is) in
    each_list c.args.named.now lists i g c.requires there
