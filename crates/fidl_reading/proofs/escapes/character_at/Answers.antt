use Rattle.std.proofs.Common.{◌≡◌, List, ℕ, [], ◌∷◌, drop, sym, subst, ◌∙◌, ap, ◌++◌, slice_range, arith, ◌<◌, length}
use Rattle.std.specs.Char.{encode_utf8}
use Rattle.std.proofs.lemmas.List.{drop_more, drop_all}
use Rattle.fidl_spelling.specs.Words.{IsCharacter}
use Rattle.fidl_spelling.proofs.WordLaws.{head}
use Rattle.fidl_reading.proofs.Slices.{slice_range-push}
use Rattle.fidl_reading.proofs.Escaping.{character_agrees}
use Rattle.fidl_reading.proofs.escapes.character_at.Goals.{then-to-text-via-then-to-text, then-to-text-via-else-to-text+then-text-to-ne125}
use Rattle.fidl_reading.proofs.escapes.character_at.Goals as goal

pub returns-then-to-text-clause-none : goal.returns-then-to-text-clause-none
returns-then-to-text-clause-none c = λ digits rest h e.
    let text = c.args.text.now in
    let to = c.hex_end-to.result in
    let agrees = character_agrees text digits rest c.args.from to c.hex_end-to.ensures.ordered c.hex_end-to.ensures.run c.hex_end-to.ensures.stops h e in
    let behind : drop to text ≡ 125 ∷ rest = agrees.1 in
    elim c.then-to-text.branch [
      | then-to-text-via-then-to-text w ↦ (let here : ◌≡◌ {A = List ℕ} [] (125 ∷ rest) = sym (drop_all to text (omega (arith, w.if-to-text.true))) ∙ behind in absurd (cc here))
      | then-to-text-via-else-to-text+then-text-to-ne125 w ↦ w.if-text-to-ne125.true (head _ 125 _ rest (sym (drop_more text to 0 (omega (arith, w.if-to-text.false, c.hex_end-to.ensures.within))) ∙ behind))
    ]

pub returns-in-Some-clause-found : goal.returns-in-Some-clause-found
returns-in-Some-clause-found c =
    let text = c.args.text.now in
    let to = c.hex_end-to.result in
    let within : to < length text = omega (arith, c.if-to-text.false, c.hex_end-to.ensures.within) in (
      omega (arith, c.hex_end-to.ensures.ordered),
      omega (arith, within),
      (
        slice_range text c.args.from to,
        c.in-Some.ensures.some.0,
        slice_range-push text c.args.from to c.hex_end-to.ensures.ordered within ∙ ap (λ b. slice_range text c.args.from to ++ b ∷ []) c.if-text-to-ne125.false,
        ap encode_utf8 c.in-Some.ensures.some.1,
      ),
    )

pub returns-in-None-clause-none : goal.returns-in-None-clause-none
returns-in-None-clause-none c = λ digits rest h e.
    let text = c.args.text.now in
    let to = c.hex_end-to.result in
    let agrees = character_agrees text digits rest c.args.from to c.hex_end-to.ensures.ordered c.hex_end-to.ensures.run c.hex_end-to.ensures.stops h e in
    c.in-None.ensures.none (subst IsCharacter (sym agrees.0) h)
