use Rattle.std.proofs.Common.{length, ◌+◌, arith}
use Rattle.fidl_table_format.specs.Section.{header_of, entry_at}
use Rattle.fidl_decode_values.proofs.BodyTurns.{row_lies, row_fits}
use Rattle.fidl_decode_values.proofs.body.TableBody.behind.Goals as goal

pub overflow_add-result-2 : goal.overflow_add-result-2
overflow_add-result-2 c =
    let b = c.args.self.now in
    let t = b.table.now in
    let fits = row_fits (header_of t) (length t) ((entry_at t b.entry).first + c.args.at.read) c.requires.body.well.header.whole (row_lies t b c.requires.body c.args.at.read c.requires.more) in
    record { fits = omega (arith, fits, c.requires.body.rows, c.requires.at) }
