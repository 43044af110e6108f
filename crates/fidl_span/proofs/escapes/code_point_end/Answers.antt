use Rattle.std.proofs.Common.{◌≡◌, List, ℕ, [], ◌∷◌, drop, sym, subst, ◌∙◌}
use Rattle.std.proofs.lemmas.Bool.{iff_false}
use Rattle.std.proofs.lemmas.List.{drop_more, drop_all}
use Rattle.fidl_span.specs.Strings.{IsCodePoint}
use Rattle.fidl_span.proofs.EscapeLaws.{code_point_agrees}
use Rattle.fidl_span.proofs.escapes.code_point_end.Goals as goal
use Rattle.fidl_span.proofs.escapes.code_point_end.Goals.{else-to-src-via-then-to-src+then-src-to-eq125+else-is_code_point, else-to-src-via-then-to-src+else-src-to-eq125, else-to-src-via-else-to-src}

pub returns-else-to-src-clause-none : goal.returns-else-to-src-clause-none
returns-else-to-src-clause-none c = λ text rest h e.
    let src = c.args.src.now in
    let to = c.hex_end-to.result in
    let agrees = code_point_agrees src text rest c.args.from to c.hex_end-to.ensures.ordered c.hex_end-to.ensures.run h e in
    let behind : drop to src ≡ 125 ∷ rest = agrees.1 in
    elim c.else-to-src.branch [
      | else-to-src-via-then-to-src+then-src-to-eq125+else-is_code_point w ↦ iff_false w.is_code_point.ensures w.if-is_code_point.false (subst IsCodePoint (sym agrees.0) h)
      | else-to-src-via-then-to-src+else-src-to-eq125 w ↦ (let here = sym (drop_more src to 0 w.if-to-src.true) ∙ behind in w.if-src-to-eq125.false (cc))
      | else-to-src-via-else-to-src w ↦ (let here : ◌≡◌ {A = List ℕ} [] (125 ∷ rest) = sym (drop_all to src w.if-to-src.false) ∙ behind in cc)
    ]
