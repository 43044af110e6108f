use Rattle.std.proofs.Common.{◌≡◌, ◌<◌, sym, subst, ap, ◌∙◌, arith}
use Rattle.fidl_table_format.specs.declared.record.Row.{Row}
use Rattle.fidl_table_format.specs.Section.{header_of, row_at}
use Rattle.fidl_verify.proofs.Owning.{row_entry}
use Rattle.fidl_decode_values.proofs.decoder.Decoder.row.Goals as goal

pub returns-clause-value : goal.returns-clause-value
returns-clause-value c =
    let d = c.args.self.now in
    let t = d.table.now in
    c.row_from.ensures (header_of t) c.args.index (omega (arith, d.placed)) ∙ ap (λ u. row_at u (header_of t) c.args.index) d.coded

pub returns-clause-entry : goal.returns-clause-entry
returns-clause-entry c =
    let d = c.args.self.now in
    let t = d.table.now in
    let is : c.row_from.result ≡ row_at t (header_of t) c.args.index = c.row_from.ensures (header_of t) c.args.index (omega (arith, d.placed)) ∙ ap (λ u. row_at u (header_of t) c.args.index) d.coded in
    subst (λ (r : Row). r.entry < (header_of t).entries) (sym is) (row_entry t c.rows-rows.ensures.well_formed c.args.index c.requires)
