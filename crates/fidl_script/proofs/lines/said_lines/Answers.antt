use Rattle.std.proofs.Common.{◌≡◌, ◌-◌, ◌+◌, ◌++◌, List, length, take, drop, refl, sym, ap, subst, ◌∙◌, arith}
use Rattle.std.specs.Global.{Vec}
use Rattle.std.proofs.lemmas.List.{map_push}
use Rattle.fidl_script.specs.declared.lines.SaidLine.{SaidLine}
use Rattle.fidl_script.specs.Lines.{Line, said_from, said_lines}
use Rattle.fidl_script.specs.Held.{line_view, lines_view}
use Rattle.fidl_script.proofs.Cutting.{next_line, left_from, one_said, one_skipped}
use Rattle.fidl_script.proofs.lines.said_lines.Goals.{then-not-is_skipped+in_ok-push, else-not-is_skipped}
use Rattle.fidl_script.proofs.lines.said_lines.Goals as goal

pub loop-start-preserved : goal.loop-start-preserved
loop-start-preserved c =
    let text = c.args.text.now in
    let start = c.loop-start.start in
    let number = c.loop-start.number in
    let end = c.place_of-end.result in
    let old = c.loop-start.lines.items in
    let rest = take (length text - start) (drop start text) in
    let after = drop (start + (end + 1)) text in
    let less = c.loop-start-test.true in
    let found = c.place_of-end.ensures in
    let next = next_line text rest start end less refl found.within found.before found.found in
    let long = left_from text start in
    let before = c.loop-start.invariant in
    record {
      within = omega (arith, less, found.within, long);
      low = omega (arith, before.low);
      lines = elim c.if-not-is_skipped.branch as (λ x. lines_view c.if-not-is_skipped.lines.items ++ said_from (number + 1) after ≡ said_lines text) [
        | then-not-is_skipped+in_ok-push w ↦
            let more = ap lines_view w.in_ok-push.ensures.items ∙ map_push line_view old _ in
            subst (λ (v : Vec SaidLine). lines_view v.items ++ said_from (number + 1) after ≡ said_lines text) (sym w.lines-is)
            (subst (λ (l : List Line). l ++ said_from (number + 1) after ≡ said_lines text) (sym more)
            (one_said (said_lines text) (lines_view old) number (drop start text) (take end rest) after next before.lines (sym c.is_skipped.ensures ∙ w.if-not-is_skipped.true)))
        | else-not-is_skipped w ↦
            subst (λ (v : Vec SaidLine). lines_view v.items ++ said_from (number + 1) after ≡ said_lines text) (sym w.lines-is)
            (one_skipped (said_lines text) (lines_view old) number (drop start text) (take end rest) after next before.lines (sym c.is_skipped.ensures ∙ w.if-not-is_skipped.false))
      ];
    }
