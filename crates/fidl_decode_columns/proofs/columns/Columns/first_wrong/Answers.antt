use Rattle.fidl_table_format.specs.Section.{header_of, entry_at}
use Rattle.fidl_table_format.specs.Terms.{term_as}
use Rattle.fidl_decode_model.specs.Breaks.{BreaksField}
use Rattle.fidl_decode_model.specs.Faults.{message_of}
use Rattle.fidl_decode_columns.specs.declared.column.Wrong.{Wrong}
use Rattle.fidl_decode_columns.specs.Columns.{place_of, IsGoodAt}
use Rattle.fidl_decode_columns.proofs.Narrowed.{none_wrong, one_wrong}
use Rattle.fidl_decode_columns.proofs.Numbers.{number_fails}
use Rattle.fidl_decode_columns.proofs.columns.Columns.first_wrong.Goals as goal

pub returns-then-element-limit-clause-value : goal.returns-then-element-limit-clause-value
returns-then-element-limit-clause-value c =
    let t = c.args.self.now.table.now in
    let d = entry_at t c.args.entry in
    none_wrong (λ k. IsGoodAt t c.args.self.now.links.now.came d c.args.kind (place_of c.args.column k)) (λ k. BreaksField (message_of c.args.self.now.links.now.came c.args.self.now.handles.now) (term_as c.args.kind t (header_of t) d) (place_of c.args.column k)) c.args.limit
    c.first_bad-element.result c.if-element-limit.true c.first_bad-element.ensures.value

pub returns-clause-value : goal.returns-clause-value
returns-clause-value c =
    let t = c.args.self.now.table.now in
    let d = entry_at t c.args.entry in
    let m = message_of c.args.self.now.links.now.came c.args.self.now.handles.now in
    let w : Wrong = record { element = c.first_bad-element.result; fault = c.fault_of.result } in
    one_wrong (λ k. IsGoodAt t c.args.self.now.links.now.came d c.args.kind (place_of c.args.column k)) (λ k. BreaksField m (term_as c.args.kind t (header_of t) d) (place_of c.args.column k)) c.args.limit w c.if-element-limit.false c.first_bad-element.ensures.value
    (number_fails t m c.args.entry (place_of c.args.column c.first_bad-element.result) c.args.kind c.fault_of.result c.fault_of.ensures.flag c.fault_of.ensures.mask c.fault_of.ensures.value)
