use Rattle.std.proofs.Common.{◌≡◌, ◌+◌, ◌<◌, length, sym, subst, arith}
use Rattle.fidl_table_format.specs.declared.record.Row.{Row}
use Rattle.fidl_table_format.specs.Section.{header_of, entry_at, row_at}
use Rattle.fidl_decode_values.proofs.BodyTurns.{row_lies, row_names, row_fits}
use Rattle.fidl_decode_values.proofs.body.TableBody.row.Goals as goal

pub returns-clause-value : goal.returns-clause-value
returns-clause-value c =
    let b = c.args.self.now in
    let t = b.table.now in
    c.row_from.ensures (header_of t) ((entry_at t b.entry).first + c.args.at.read) (omega (arith, c.requires.body.rows, c.requires.at))

pub returns-clause-entry : goal.returns-clause-entry
returns-clause-entry c =
    let b = c.args.self.now in
    let t = b.table.now in
    let first = (entry_at t b.entry).first in
    let is : c.row_from.result ≡ row_at t (header_of t) (first + c.args.at.read) = c.row_from.ensures (header_of t) (first + c.args.at.read) (omega (arith, c.requires.body.rows, c.requires.at)) in
    subst (λ (r : Row). r.entry < (header_of t).entries) (sym is) (row_names t b c.requires.body c.args.at.read c.requires.more)

pub row_from-requires : goal.row_from-requires
row_from-requires c =
    let b = c.args.self.now in
    let t = b.table.now in
    let fits = row_fits (header_of t) (length t) ((entry_at t b.entry).first + c.args.at.read) c.requires.body.well.header.whole (row_lies t b c.requires.body c.args.at.read c.requires.more) in
    omega (arith, fits, c.requires.body.rows, c.requires.at)
