use Rattle.std.proofs.Common.{sym, ap, ◌∙◌, ◌+◌, length, take, length-take, count_by, ◌==◌, arith}
use Rattle.std.specs.List.{after_last}
use Rattle.fidl_span.proofs.LineLaws.{lines_behind_line_feed, lines_behind_other, line_of-le, column_of-le, front_is}
use Rattle.fidl_span.proofs.lines.line_col.Goals as goal
use Rattle.fidl_span.proofs.lines.line_col.Goals.{then-byte-eq10, else-byte-eq10}

pub overflow_add-line : goal.overflow_add-line
overflow_add-line c = omega (arith, line_of-le (take c.min.result c.args.src.now) c.loop-byte.byte-index, length-take c.min.result c.args.src.now)

pub overflow_add-column : goal.overflow_add-column
overflow_add-column c = omega (arith, column_of-le (take c.min.result c.args.src.now) c.loop-byte.byte-index, length-take c.min.result c.args.src.now)

pub loop-byte-preserved : goal.loop-byte-preserved
loop-byte-preserved c =
    elim c.if-byte-eq10.branch [
      | then-byte-eq10 w ↦ (let more = lines_behind_line_feed _ _ c.loop-byte-test.true w.if-byte-eq10.true in
          record { line = w.line-is ∙ ap (λ n. n + 1) c.loop-byte.invariant.line ∙ sym more.0; column = w.column-is ∙ sym more.1 })
      | else-byte-eq10 w ↦ (let more = lines_behind_other _ _ c.loop-byte-test.true w.if-byte-eq10.false in
          record { line = w.line-is ∙ c.loop-byte.invariant.line ∙ sym more.0; column = w.column-is ∙ ap (λ n. n + 1) c.loop-byte.invariant.column ∙ sym more.1 })
    ]

pub returns : goal.returns
returns c =
    let front = front_is c.args.src.now c.args.at c.min.result c.loop-byte.byte-index c.min.ensures c.loop-byte-test.false in
    record {
      line = c.loop-byte.invariant.line ∙ ap (λ l. count_by (λ b. b == 10) l + 1) front;
      column = c.loop-byte.invariant.column ∙ ap (λ l. length (after_last (λ b. b == 10) l) + 1) front;
    }
