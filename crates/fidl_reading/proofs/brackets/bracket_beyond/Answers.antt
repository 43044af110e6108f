use Rattle.std.proofs.Common.{◌≡◌, ◌+◌, take, sym, ◌∙◌, arith}
use Rattle.std.specs.Prelude.{count_by}
use Rattle.fidl_spelling.specs.Words.{opens, closes}
use Rattle.fidl_reading.specs.Cuts.{texts_of}
use Rattle.fidl_reading.proofs.Limits.{count_yes, count_no, one_longer, Keeps}
use Rattle.fidl_reading.proofs.brackets.bracket_beyond.Goals as goal
use Rattle.fidl_reading.proofs.brackets.bracket_beyond.Goals.{then-is_opening, else-is_opening, then-is_closing, else-is_closing, else-opened-closed-via-then-opened-closed+else-opened-closed-gt-MAX_TEXT_BRACKETS, else-opened-closed-via-else-opened-closed}

pub returns-then-opened-closed-gt-MAX_TEXT_BRACKETS-clause-some :
    goal.returns-then-opened-closed-gt-MAX_TEXT_BRACKETS-clause-some
returns-then-opened-closed-gt-MAX_TEXT_BRACKETS-clause-some c = λ limit.
    let words = c.args.words.now in
    let ws = texts_of words in
    let i = c.loop-word.word-index in
    let before = c.loop-word.invariant in
    let opened : c.if-is_opening.opened ≡ count_by opens (take (i + 1) ws) = elim c.if-is_opening.branch [
      | then-is_opening w ↦ w.opened-is ∙ count_yes opens words i c.loop-word.opened _ c.loop-word-test.true before.opened (sym c.is_opening.ensures ∙ w.if-is_opening.true)
      | else-is_opening w ↦ w.opened-is ∙ count_no opens words i c.loop-word.opened _ c.loop-word-test.true before.opened (sym c.is_opening.ensures ∙ w.if-is_opening.false)
    ] in
    let closed : c.if-is_closing.closed ≡ count_by closes (take (i + 1) ws) = elim c.if-is_closing.branch [
      | then-is_closing w ↦ w.closed-is ∙ count_yes closes words i c.loop-word.closed _ c.loop-word-test.true before.closed (sym c.is_closing.ensures ∙ w.if-is_closing.true)
      | else-is_closing w ↦ w.closed-is ∙ count_no closes words i c.loop-word.closed _ c.loop-word-test.true before.closed (sym c.is_closing.ensures ∙ w.if-is_closing.false)
    ] in
    let here = limit (i + 1) in
    let over = c.if-opened-closed-gt-MAX_TEXT_BRACKETS.true in
    let less = c.if-opened-closed.true in
    absurd (omega (arith, here, opened, closed, over, less))

pub loop-word-preserved : goal.loop-word-preserved
loop-word-preserved c =
    let words = c.args.words.now in
    let ws = texts_of words in
    let i = c.loop-word.word-index in
    let before = c.loop-word.invariant in
    let opened : c.if-is_opening.opened ≡ count_by opens (take (i + 1) ws) = elim c.if-is_opening.branch [
      | then-is_opening w ↦ w.opened-is ∙ count_yes opens words i c.loop-word.opened _ c.loop-word-test.true before.opened (sym c.is_opening.ensures ∙ w.if-is_opening.true)
      | else-is_opening w ↦ w.opened-is ∙ count_no opens words i c.loop-word.opened _ c.loop-word-test.true before.opened (sym c.is_opening.ensures ∙ w.if-is_opening.false)
    ] in
    let closed : c.if-is_closing.closed ≡ count_by closes (take (i + 1) ws) = elim c.if-is_closing.branch [
      | then-is_closing w ↦ w.closed-is ∙ count_yes closes words i c.loop-word.closed _ c.loop-word-test.true before.closed (sym c.is_closing.ensures ∙ w.if-is_closing.true)
      | else-is_closing w ↦ w.closed-is ∙ count_no closes words i c.loop-word.closed _ c.loop-word-test.true before.closed (sym c.is_closing.ensures ∙ w.if-is_closing.false)
    ] in
    let here : Keeps ws (i + 1) = elim c.else-opened-closed.branch [
      | else-opened-closed-via-then-opened-closed+else-opened-closed-gt-MAX_TEXT_BRACKETS w ↦ (let few = w.if-opened-closed-gt-MAX_TEXT_BRACKETS.false in omega (arith, opened, closed, few))
      | else-opened-closed-via-else-opened-closed w ↦ (let few = w.if-opened-closed.false in omega (arith, opened, closed, few))
    ] in
    record { opened = opened; closed = closed; so_far = one_longer ws i before.so_far here }
