use Rattle.std.proofs.Common.{sym, ap, subst, arith, ◌∙◌, ◌++◌, ◌∷◌, [], slice_range, length, ◌+◌}
use Rattle.std.proofs.lemmas.List.{map_push}
use Rattle.fidl_reading.specs.Cuts.{IsFront, texts_of, standing}
use Rattle.fidl_reading.specs.declared.word.Word.{Word}
use Rattle.fidl_reading.proofs.Cutting.{front_blank, front_word, stands_at, all_cut, none_cut}
use Rattle.fidl_reading.proofs.lexer.cut_words.Goals.{else-loop-at-test, then-loop-at-test+else-is_blank+in_default}
use Rattle.fidl_reading.proofs.lexer.cut_words.Goals as goal

pub loop-at-preserved-then-is_blank : goal.loop-at-preserved-then-is_blank
loop-at-preserved-then-is_blank c = record {
  within = omega (arith, c.loop-at-test.true);
  places = c.loop-at.invariant.places;
  front = front_blank c.args.text.now _ c.loop-at.at c.loop-at-test.true (sym c.is_blank.ensures ∙ c.if-is_blank.true) c.loop-at.invariant.front;
}

pub loop-at-preserved : goal.loop-at-preserved
loop-at-preserved c =
    let text = c.args.text.now in
    let at = c.loop-at.at in
    let to = c.in-Some.to in
    let old = c.loop-at.words.items in
    let found = c.in-Some.ensures.found in
    let w = slice_range text at to in
    let more = ap texts_of c.in_ok-push.ensures.items ∙ map_push (λ (w : Word). w.text.now) old _ in
    let stand = ap (standing text) c.in_ok-push.ensures.items ∙ map_push (λ (w : Word). slice_range text w.at (w.at + length w.text.now)) old _ in
    record {
      within = found.1;
      places = stand ∙ ap (λ l. l ++ slice_range text at (at + length w) ∷ []) c.loop-at.invariant.places ∙ ap (λ v. texts_of old ++ v ∷ []) (stands_at text at to (omega (arith, found.0)) found.1) ∙ sym more;
      front = subst (λ ws. IsFront text ws to) (sym more) (front_word text (texts_of old) at to (omega (arith, found.0)) found.2 c.loop-at.invariant.front);
    }

pub returns : goal.returns
returns c =
    let text = c.args.text.now in
    let at = c.loop-at.at in
    let words = texts_of c.loop-at.words.items in
    let front = c.loop-at.invariant.front in
    record {
      within = c.loop-at.invariant.within;
      places = c.loop-at.invariant.places;
      front = front;
      whole = λ e. all_cut text words at e front;
      none = elim c.loop-at-test.branch [
        | else-loop-at-test w ↦ (λ lt. let less = w.loop-at-test.false in absurd (omega (arith, less, lt)))
        | then-loop-at-test+else-is_blank+in_default w ↦ (λ lt. none_cut text words at lt front (sym w.is_blank.ensures ∙ w.if-is_blank.false) w.in_default.ensures.none)
      ];
    }
