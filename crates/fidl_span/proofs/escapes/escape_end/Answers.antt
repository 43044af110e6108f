use Rattle.std.proofs.Common.{◌≡◌, ◌≢◌, ℕ, ◌+◌, ◌<◌, ◌≤◌, List, [], ◌∷◌, ◌++◌, length, slice_range, nat_eq, drop, sym, ap, ◌∙◌, arith, IsFalse}
use Rattle.std.specs.List.{starts_with}
use Rattle.std.proofs.lemmas.List.{take_rest}
use Rattle.fidl_span.specs.Bytes.{begins}
use Rattle.fidl_span.specs.Strings.{is_escape_letter, IsCodePoint, IsPiece, BeginsNoPiece}
use Rattle.fidl_span.proofs.RunLaws.{stops_at_byte, stops_at_end}
use Rattle.fidl_span.proofs.EscapeLaws.{letter_escape, unicode_mark, code_point_escape, no_escape_at, no_code_point_at, if_some_weaker, if_none_weaker}
use Rattle.fidl_span.proofs.escapes.escape_end.Goals as goal
use Rattle.fidl_span.proofs.escapes.escape_end.Goals.{After-starts_with, else-at-src-via-then-at-src+else-is_escape_letter, else-at-src-via-else-at-src}

mark : (c : After-starts_with) → c.starts_with.result ≡ starts_with nat_eq (drop c.args.at c.args.src.now) unicode_mark
mark c = c.starts_with.ensures.value ∙ ap (λ l. starts_with nat_eq l unicode_mark) (take_rest c.args.src.now c.args.at)

no_letter : (c : After-starts_with) → IsFalse (begins is_escape_letter (drop (c.args.at + 1) c.args.src.now))
no_letter c = elim c.else-at-src.branch [
  | else-at-src-via-then-at-src+else-is_escape_letter w ↦ stops_at_byte is_escape_letter c.args.src.now (c.args.at + 1) w.if-at-src.true (sym w.is_escape_letter.ensures ∙ w.if-is_escape_letter.false)
  | else-at-src-via-else-at-src w ↦ stops_at_end is_escape_letter c.args.src.now (c.args.at + 1) w.if-at-src.false
]

pub returns-then-is_escape_letter-clause-found : goal.returns-then-is_escape_letter-clause-found
returns-then-is_escape_letter-clause-found c =
    (omega arith, omega arith, letter_escape c.args.src.now c.args.at c.if-at-src.true c.requires.backslash (sym c.is_escape_letter.ensures ∙ c.if-is_escape_letter.true))

pub returns-then-starts_with-clause-found : goal.returns-then-starts_with-clause-found
returns-then-starts_with-clause-found c =
    let src = c.args.src.now in
    let at = c.args.at in
    let marked = sym (mark (goal.at.returns-then-starts_with-clause-found c).After-starts_with) ∙ c.if-starts_with.true in
    if_some_weaker c.code_point_end.result
    (λ to. (at + 3 < to) × (to ≤ length src) × ((text : List ℕ) × IsCodePoint text × (slice_range src (at + 3) to ≡ text ++ 125 ∷ [])))
    (λ to. (at < to) × (to ≤ length src) × IsPiece (slice_range src at to))
    (λ to h. let behind : at + 3 < to = h.0 in (omega arith, h.1, code_point_escape src at to marked behind h.2))
    c.code_point_end.ensures.found

pub returns-then-starts_with-clause-none : goal.returns-then-starts_with-clause-none
returns-then-starts_with-clause-none c =
    let src = c.args.src.now in
    let at = c.args.at in
    if_none_weaker c.code_point_end.result
    ((text rest : List ℕ) → IsCodePoint text → drop (at + 3) src ≢ text ++ 125 ∷ rest)
    (BeginsNoPiece (drop at src))
    (no_code_point_at src at c.requires.within c.requires.backslash (no_letter (goal.at.returns-then-starts_with-clause-none c).After-starts_with))
    c.code_point_end.ensures.none

pub returns-clause-none : goal.returns-clause-none
returns-clause-none c =
    let before = (goal.at.returns-clause-none c).After-starts_with in
    no_escape_at c.args.src.now c.args.at c.requires.within c.requires.backslash (no_letter before) (sym (mark before) ∙ c.if-starts_with.false)
