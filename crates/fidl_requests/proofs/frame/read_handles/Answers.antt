use Rattle.std.proofs.Common.{arith, ◌∙◌}
use Rattle.std.proofs.lemmas.List.{length-set}
use Rattle.fidl_requests.proofs.Framed.{read_one}
use Rattle.fidl_requests.proofs.frame.read_handles.Goals as goal

pub loop-place-preserved : goal.loop-place-preserved
loop-place-preserved c = record {
  front = read_one _ _ _ _ (omega arith) c.loop-place.invariant.front c.handle_at.ensures;
  room = length-set _ _ _ ∙ c.loop-place.invariant.room;
}
