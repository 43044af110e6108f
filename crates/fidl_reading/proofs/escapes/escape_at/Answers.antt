use Rattle.std.proofs.Common.{◌≡◌, ◌≢◌, ℕ, ◌+◌, ◌<◌, List, ◌∷◌, ◌++◌, slice_range, nat_eq, drop, sym, ap, subst, ◌∙◌, arith, Some}
use Rattle.std.specs.List.{starts_with}
use Rattle.std.proofs.lemmas.List.{take_rest}
use Rattle.fidl_spelling.specs.Words.{escaped, IsCharacter, Piece}
use Rattle.fidl_reading.specs.Pieces.{BeginsNoPiece}
use Rattle.fidl_reading.proofs.Escaping.{unicode_mark, character_escape, no_escape_at, no_character_at, if_some_weaker, if_none_weaker}
use Rattle.fidl_reading.proofs.escapes.escape_at.Goals as goal
use Rattle.fidl_reading.proofs.escapes.escape_at.Goals.{After-starts_with}

mark : (c : After-starts_with) → c.starts_with.result ≡ starts_with nat_eq (drop c.args.at c.args.text.now) unicode_mark
mark c = c.starts_with.ensures.value ∙ ap (λ l. starts_with nat_eq l unicode_mark) (take_rest c.args.text.now c.args.at)

pub returns-then-starts_with-clause-found : goal.returns-then-starts_with-clause-found
returns-then-starts_with-clause-found c =
    let text = c.args.text.now in
    let at = c.args.at in
    let marked = sym (mark (goal.at.returns-then-starts_with-clause-found c).After-starts_with) ∙ c.if-starts_with.true in
    if_some_weaker c.character_at.result _ _
    (λ p h. let behind : at + 3 < p.to = h.0 in
    (omega (arith, behind), h.1, subst (λ l. Piece (slice_range text at p.to) l) (sym h.2.3) (character_escape text at p.to marked behind h.2.0 h.2.1 h.2.2)))
    c.character_at.ensures.found

pub returns-then-starts_with-clause-none : goal.returns-then-starts_with-clause-none
returns-then-starts_with-clause-none c =
    let text = c.args.text.now in
    let at = c.args.at in
    let marked = sym (mark (goal.at.returns-then-starts_with-clause-none c).After-starts_with) ∙ c.if-starts_with.true in
    if_none_weaker c.character_at.result
    ((digits rest : List ℕ) → IsCharacter digits → drop (at + 3) text ≢ digits ++ 125 ∷ rest)
    (BeginsNoPiece (drop at text))
    (no_character_at text at c.requires.within c.requires.backslash marked)
    c.character_at.ensures.none

pub returns-clause-none : goal.returns-clause-none
returns-clause-none c =
    let text = c.args.text.now in
    let at = c.args.at in
    let marked = sym (mark (goal.at.returns-clause-none c).After-starts_with) ∙ c.if-starts_with.false in
    if_none_weaker c.letter_at.result
    ((d b : ℕ) (rest : List ℕ) → escaped d ≡ Some b → drop at text ≢ 92 ∷ d ∷ rest)
    (BeginsNoPiece (drop at text))
    (no_escape_at text at c.requires.within c.requires.backslash marked)
    c.letter_at.ensures.none
