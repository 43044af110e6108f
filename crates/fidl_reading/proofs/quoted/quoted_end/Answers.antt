use Rattle.std.proofs.Common.{[], sym, subst, arith, ◌<◌, ◌≤◌, length}
use Rattle.std.proofs.lemmas.List.{drop_all}
use Rattle.fidl_reading.specs.Pieces.{BeginsNoPiece}
use Rattle.fidl_reading.proofs.Runs.{stops_at_byte, stops_at_end}
use Rattle.fidl_reading.proofs.Quoting.{pieces_none, pieces_more, quoted_closes, no_quoted, end_no_piece, no_equal}
use Rattle.fidl_reading.proofs.quoted.quoted_end.Goals.{then-loop-at-test+else-text-at-ne34, else-loop-at-test}
use Rattle.fidl_reading.proofs.quoted.quoted_end.Goals as goal

pub loop-at-init : goal.loop-at-init
loop-at-init c = record {
  behind = omega arith;
  within = omega (arith, c.requires.within);
  front = ([], pieces_none c.args.text.now _);
}

pub returns-in_default-clause-none : goal.returns-in_default-clause-none
returns-in_default-clause-none c =
    no_quoted c.args.text.now c.loop-at.invariant.front.0 c.args.quote c.loop-at.at c.requires.within c.loop-at.invariant.behind c.loop-at.invariant.front.1
    c.in_default.ensures.none
    (stops_at_byte _ c.args.text.now c.loop-at.at c.loop-at-test.true (no_equal _ 34 c.if-text-at-ne34.true))

pub loop-at-preserved : goal.loop-at-preserved
loop-at-preserved c =
    let found = c.in-Some.ensures.found in
    record {
      behind = omega (arith, c.loop-at.invariant.behind, found.0);
      within = found.1;
      front = (_, pieces_more c.args.text.now c.loop-at.invariant.front.0 _ _ c.loop-at.at c.in-Some.part.to c.loop-at.invariant.behind (omega (arith, found.0)) c.loop-at.invariant.front.1 found.2);
    }

pub returns-then-at-text-clause-none : goal.returns-then-at-text-clause-none
returns-then-at-text-clause-none c =
    let text = c.args.text.now in
    let at = c.loop-at.at in
    let end : length text ≤ at = omega (arith, c.if-at-text.true) in
    no_quoted text c.loop-at.invariant.front.0 c.args.quote at c.requires.within c.loop-at.invariant.behind c.loop-at.invariant.front.1
    (subst BeginsNoPiece (sym (drop_all at text end)) end_no_piece)
    (stops_at_end _ text at end)

pub returns-clause-found : goal.returns-clause-found
returns-clause-found c =
    let text = c.args.text.now in
    let at = c.loop-at.at in
    let within : at < length text = omega (arith, c.if-at-text.false, c.loop-at.invariant.within) in (
      omega (arith, c.loop-at.invariant.behind),
      omega (arith, within),
      (
        c.loop-at.invariant.front.0,
        quoted_closes text c.loop-at.invariant.front.0 c.args.quote at c.loop-at.invariant.behind within c.requires.quote
            (elim c.loop-at-test.branch [
              | then-loop-at-test+else-text-at-ne34 w ↦ w.if-text-at-ne34.false
              | else-loop-at-test w ↦ (let less = w.loop-at-test.false in absurd (omega (arith, less, within)))
            ])
            c.loop-at.invariant.front.1,
      ),
    )
