use Rattle.std.proofs.Common.{◌≡◌, length}
use Rattle.fidl_script.specs.Collected.{places_view, held_from, HaveBodies}
use Rattle.fidl_script.proofs.holding.held_replies.Given as goal

abbrev pub invariant-loop-bodies : goal.invariant-loop-bodies
invariant-loop-bodies l = record {
  place : l.place ≡ length l.yielded;
  held : l.held.items ≡ held_from l.methods 0 (places_view l.yielded);
  some : HaveBodies l.methods (places_view l.yielded);
}
