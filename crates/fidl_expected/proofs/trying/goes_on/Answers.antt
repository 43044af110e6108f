use Rattle.std.proofs.Common.{◌≡◌, ◌+◌, ◌<◌, ap, subst, length, ◌∙◌, arith}
use Rattle.std.proofs.lemmas.Bool.{ltb-true}
use Rattle.fidl_parse.specs.Faults.{IsTrueOf}
use Rattle.fidl_parse.specs.declared.fault.ParseFault.TheVariants.{Unexpected}
use Rattle.fidl_expected.proofs.Going.{length-inserted, read_with, later_with}
use Rattle.fidl_expected.proofs.trying.goes_on.Goals as goal

pub returns-in-Ok-parse : goal.returns-in-Ok-parse
returns-in-Ok-parse c t =
    let is = c.in_ok-text.ensures in
    let tree = c.in-Ok-parse.ensures in
    read_with c.args.src.now c.args.at c.args.word.now c.deref.result.now c.deref-2.result.now c.in-Ok.tokens.words.items c.in-Ok-parse.field-0 (c.deref.ensures.value ∙ is) (c.deref-2.ensures.value ∙ is)
    c.in-Ok.ensures.ok tree.source tree.proper tree.words tree.limit

pub returns-in-Err-Unexpected : goal.returns-in-Err-Unexpected
returns-in-Err-Unexpected c t =
    let is = c.in_ok-text.ensures in
    let refused = c.in-Err-Unexpected.ensures in
    let long = length-inserted c.args.src.now c.args.at c.args.word.now c.requires in
    let same = ap length is in
    let lt : c.args.at + length c.args.word.now + 2 < c.in-Err-Unexpected.span.from = omega (arith, ltb-true _ _ t, long, same, c.len.ensures) in
    later_with c.args.src.now c.args.at c.args.word.now c.deref.result.now c.deref-2.result.now c.in-Ok.tokens.words.items c.in-Err-Unexpected.span (c.deref.ensures.value ∙ is) (c.deref-2.ensures.value ∙ is)
    c.in-Ok.ensures.ok (refused.no_tree (λ m. cc)) (subst (IsTrueOf c.in-Ok.tokens.words.items c.deref-2.result.now) c.in-Err-Unexpected.field-0-is refused.refusal) lt
