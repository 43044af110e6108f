use Rattle.std.proofs.Common.{◌≡◌, ◌∙◌, ◌++◌, Some, None, get_or, ap, sym}
use Rattle.std.specs.Prelude.{slice_get}
use Rattle.std.proofs.lemmas.List.{get_or_default}
use Rattle.std.proofs.lemmas.Option.{slice_get-get_or, slice_get_past}
use Rattle.fidl_protocol.proofs.Gathering.{row_more, row_none}
use Rattle.fidl_protocol.proofs.gathered.gathered.Goals.{in-Some+in_ok-extend_from_slice, in_default}
use Rattle.fidl_protocol.proofs.gathered.gathered.Goals as goal

pub loop-number-preserved : goal.loop-number-preserved
loop-number-preserved c =
    let rows = c.args.rows.now in
    let ns = c.args.numbers.now in
    let i = c.loop-number.number-index in
    let lt = c.loop-number-test.true in
    let n = get_or ns i 0 in
    let is = get_or_default ns i 0 n lt in
    let methods = c.loop-number.methods.items in
    elim c.match-get.branch [
      | in-Some+in_ok-extend_from_slice w ↦
          let row = w.in-Some.row.now in
          let at : slice_get rows n ≡ Some row = slice_get-get_or rows n row w.in-Some.ensures.lookup.3.0 ∙ ap Some (sym w.in-Some.ensures.lookup.1) in
          let more : c.match-get.methods.items ≡ methods ++ row.items = ap (λ v. v.items) w.methods-is ∙ w.in_ok-extend_from_slice.ensures.items ∙ ap (λ l. methods ++ l) w.deref.ensures.value in
          row_more rows ns i n lt is methods c.loop-number.invariant row at c.match-get.methods.items more
      | in_default w ↦
          let at : slice_get rows n ≡ None = slice_get_past rows n w.in_default.ensures.lookup.3 in
          ap (λ v. v.items) w.methods-is ∙ row_none rows ns i n lt is methods c.loop-number.invariant at
    ]
