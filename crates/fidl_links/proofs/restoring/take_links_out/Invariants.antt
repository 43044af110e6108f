use Rattle.std.proofs.Common.{◌≡◌, ◌*◌, min}
use Rattle.fidl_links.specs.Links.{written}
use Rattle.fidl_links.proofs.Places.{places_before}
use Rattle.fidl_links.proofs.TakenOut.{Restored}
use Rattle.fidl_links.proofs.restoring.take_links_out.Given as goal

abbrev pub invariant-loop-n : goal.invariant-loop-n
invariant-loop-n l = Restored l.fn.bytes l.room.marks 0 (min l.words (8 * l.n)) l.bytes × (l.places ≡ places_before (written l.fn.bytes l.room.marks) (min l.words (8 * l.n)))
