use Rattle.std.proofs.Common.{rules, ◌≤◌, ◌<◌, [], slice_range, length, sym, subst, arith}
use Rattle.std.proofs.lemmas.List.{drop_all}
use Rattle.fidl_spelling.specs.Words.{no_pieces, Pieces}
use Rattle.fidl_reading.specs.Pieces.{BeginsNoPiece}
use Rattle.fidl_reading.proofs.Runs.{stops_at_byte, stops_at_end}
use Rattle.fidl_reading.proofs.Quoting.{pieces_more, no_whole, no_longer, end_no_piece, no_equal}
use Rattle.fidl_reading.proofs.text.text_of.Goals.{then-loop-at-test+else-word-at-ne34, else-loop-at-test}
use Rattle.fidl_reading.proofs.text.text_of.Goals as goal

pub loop-at-init : goal.loop-at-init
loop-at-init c =
    let some : 0 < length c.args.word.now = search (rules, c.is_empty.ensures, c.if-is_empty.false) in
    record {
      behind = omega arith;
      within = omega (arith, some);
      front = subst (λ l. Pieces [] l) (sym c.in_ok-bytes.ensures.items) no_pieces;
    }

pub returns-in_default-clause-none : goal.returns-in_default-clause-none
returns-in_default-clause-none c =
    let word = c.args.word.now in
    let at = c.loop-at.at in
    let some : 0 < length word = omega (arith, c.loop-at.invariant.behind, c.loop-at-test.true) in
    no_whole word c.loop-at.bytes.items at some c.loop-at.invariant.behind c.loop-at.invariant.front
    c.in_default.ensures.none
    (stops_at_byte _ word at c.loop-at-test.true (no_equal _ 34 c.if-word-at-ne34.true))

pub loop-at-preserved : goal.loop-at-preserved
loop-at-preserved c =
    let word = c.args.word.now in
    let found = c.in-Some.ensures.found in
    record {
      behind = omega (arith, c.loop-at.invariant.behind, found.0);
      within = found.1;
      front = subst (λ l. Pieces (slice_range word 1 c.in-Some.part.to) l) (sym c.in_ok-push_code.ensures)
          (pieces_more word c.loop-at.bytes.items _ 1 c.loop-at.at c.in-Some.part.to c.loop-at.invariant.behind (omega (arith, found.0)) c.loop-at.invariant.front found.2);
    }

pub returns-then-at-word-clause-none : goal.returns-then-at-word-clause-none
returns-then-at-word-clause-none c =
    let word = c.args.word.now in
    let at = c.loop-at.at in
    let x = c.loop-at.bytes.items in
    let behind = c.loop-at.invariant.behind in
    let front = c.loop-at.invariant.front in
    elim c.loop-at-test.branch [
      | then-loop-at-test+else-word-at-ne34 w ↦ no_longer word x at behind w.loop-at-test.true w.if-word-at-ne34.false front c.if-at-word.true
      | else-loop-at-test w ↦ (
          let end : length word ≤ at = omega (arith, w.loop-at-test.false) in
          let some : 0 < length word = omega (arith, end, c.loop-at.invariant.within, behind) in
          no_whole word x at some behind front (subst BeginsNoPiece (sym (drop_all at word end)) end_no_piece) (stops_at_end _ word at end)
          )
    ]
