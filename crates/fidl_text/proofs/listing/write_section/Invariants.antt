use Rattle.std.proofs.Common.{◌≡◌, ◌-◌}
use Rattle.fidl_table_format.specs.Section.{header_of}
use Rattle.fidl_text.specs.Listing.{lines_from, record_line, count_of, section_text}
use Rattle.fidl_text.proofs.Written.{IsSoFar}
use Rattle.fidl_text.proofs.listing.write_section.Given as goal

abbrev pub invariant-loop-index : goal.invariant-loop-index
invariant-loop-index g l =
    let h = header_of l.fn.table in
    IsSoFar (g.W.Write.contents l.fn.out.writer) (g.W.Write.contents l.out.writer) (section_text l.fn.table l.fn.section) (lines_from (record_line l.fn.section l.fn.table h) l.index (count_of l.fn.section h - l.index))
    × (l.out.failure ≡ l.fn.out.failure)
