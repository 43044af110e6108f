use Rattle.std.proofs.Common.{◌≡◌, drop}
use Rattle.fidl_text.specs.Listing.{sections_text}
use Rattle.fidl_text.proofs.Written.{IsSoFar}
use Rattle.fidl_text.proofs.listing.write_sections.Given as goal

abbrev pub invariant-loop-section : goal.invariant-loop-section
invariant-loop-section g l =
    IsSoFar (g.W.Write.contents l.fn.out.writer) (g.W.Write.contents l.out.writer) (sections_text l.fn.table l.fn.sections) (sections_text l.fn.table (drop l.section-index l.fn.sections))
    × (l.out.failure ≡ l.fn.out.failure)
