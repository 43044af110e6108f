use Rattle.std.proofs.Common.{◌≡◌, ◌∷◌, [], nat_eq, drop, sym, ap, ◌∙◌, arith}
use Rattle.std.specs.List.{starts_with}
use Rattle.std.proofs.lemmas.List.{take_rest}
use Rattle.fidl_span.specs.Bytes.{is_blank}
use Rattle.fidl_span.proofs.GapLaws.{gap_of_blank, gap_of_comment, no_slashes}
use Rattle.fidl_span.proofs.RunLaws.{stops_at_byte, stops_at_end}
use Rattle.fidl_span.proofs.gaps.blank_or_comment_end.Goals as goal
use Rattle.fidl_span.proofs.gaps.blank_or_comment_end.Goals.{After-starts_with, else-at-src-via-then-at-src+else-is_blank, else-at-src-via-else-at-src}

slashes : (c : After-starts_with) → c.starts_with.result ≡ starts_with nat_eq (drop c.args.at c.args.src.now) (47 ∷ 47 ∷ [])
slashes c = c.starts_with.ensures.value ∙ ap (λ l. starts_with nat_eq l (47 ∷ 47 ∷ [])) (take_rest c.args.src.now c.args.at)

pub returns-then-is_blank-clause-found : goal.returns-then-is_blank-clause-found
returns-then-is_blank-clause-found c =
    (omega arith, gap_of_blank c.args.src.now c.args.at c.if-at-src.true (sym c.is_blank.ensures ∙ c.if-is_blank.true))

pub returns-then-starts_with-clause-found : goal.returns-then-starts_with-clause-found
returns-then-starts_with-clause-found c =
    let e = sym (slashes (goal.at.returns-then-starts_with-clause-found c).After-starts_with) ∙ c.if-starts_with.true in
    let end = c.line_end.ensures in
    (omega arith, gap_of_comment c.args.src.now c.args.at c.line_end.result c.requires e end.ordered end.within end.run)

pub returns-clause-none : goal.returns-clause-none
returns-clause-none c =
    let e = sym (slashes (goal.at.returns-clause-none c).After-starts_with) ∙ c.if-starts_with.false in
    no_slashes (drop c.args.at c.args.src.now) e (elim c.else-at-src.branch [
      | else-at-src-via-then-at-src+else-is_blank w ↦ stops_at_byte is_blank c.args.src.now c.args.at w.if-at-src.true (sym w.is_blank.ensures ∙ w.if-is_blank.false)
      | else-at-src-via-else-at-src w ↦ stops_at_end is_blank c.args.src.now c.args.at w.if-at-src.false
    ])
