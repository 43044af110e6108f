use Rattle.std.proofs.Common.{◌≡◌, ◌-◌}
use Rattle.std.specs.List.{range_with_len, sum_by}
use Rattle.fidl_links.specs.Links.{links_at}
use Rattle.fidl_links.proofs.TakenOut.{Restored}
use Rattle.fidl_links.proofs.restoring.take_out_of.Given as goal

abbrev pub invariant-loop-i : goal.invariant-loop-i
invariant-loop-i l = Restored l.fn.bytes l.room.marks l.from l.i l.bytes × (l.links ≡ sum_by (links_at l.fn.bytes l.room.marks) (range_with_len l.from (l.i - l.from)))
