use Rattle.std.proofs.Common.{◌≡◌, ◌-◌}
use Rattle.fidl_table_format.specs.Section.{header_of}
use Rattle.fidl_text.specs.Listing.{lines_from}
use Rattle.fidl_text.proofs.Written.{IsSoFar}
use Rattle.fidl_commands.specs.Naming.{count_of, name_line, names_text}
use Rattle.fidl_commands.proofs.naming.write_names.Given as goal

-- the names so far are written
abbrev pub invariant-loop-index : goal.invariant-loop-index
invariant-loop-index g l =
    let count = count_of l.fn.named (header_of l.fn.table) in
    IsSoFar (g.W.Write.contents l.fn.out.writer) (g.W.Write.contents l.out.writer) (names_text l.fn.named l.fn.table) (lines_from (name_line l.fn.named l.fn.table) l.index (count - l.index))
    × (l.out.failure ≡ l.fn.out.failure)
