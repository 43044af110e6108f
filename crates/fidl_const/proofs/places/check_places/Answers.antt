use Rattle.std.proofs.Common.{◌≡◌, get_or, sym, arith}
use Rattle.std.proofs.lemmas.Option.{get_or_from_slice_get}
use Rattle.fidl_consts.specs.Places.{PlacesHold}
use Rattle.fidl_cycles.proofs.Lists.{all_take}
use Rattle.fidl_const.proofs.places.check_places.Goals as goal

pub loop-file_index-preserved : goal.loop-file_index-preserved
loop-file_index-preserved c =
    let files = c.args.scope.now.named.now in
    let i = c.loop-file_index.file_index in
    let f = c.file.result.now in
    let lt = c.loop-file_index-test.true in
    let long = c.count-file_index-end.ensures in
    let is : f ≡ get_or files i f = sym (get_or_from_slice_get files i f f c.file.ensures) in
    all_take files i f (omega arith) is (PlacesHold files) c.loop-file_index.invariant c.in_ok-check_file.ensures.ok
