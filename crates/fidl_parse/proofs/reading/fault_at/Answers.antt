use Rattle.std.proofs.Common.{◌≡◌, ◌<◌, ◌≤◌, ◌+◌, length, rules, arith, inl, inr, subst, refl}
use Rattle.std.proofs.lemmas.List.{take_all}
use Rattle.std.proofs.lemmas.Option.{slice_get_read}
use Rattle.fidl_tree.specs.Brackets.{IsWithinLimit}
use Rattle.fidl_parse.specs.Nesting.{IsTooDeepAt}
use Rattle.fidl_parse.proofs.Limits.{within_take}
use Rattle.fidl_parse.proofs.reading.fault_at.Goals as goal

pub returns-in-Some : goal.returns-in-Some
returns-in-Some c =
    let there : c.min.result < length c.args.words.now = grind (arith, c.in-Some.ensures) in
    inl (
      c.min.result,
      record { word = c.in-Some.word.now; stands = slice_get_read c.args.words.now _ _ _ refl there c.in-Some.ensures.lookup.1; span_of = refl },
      within_take c.args.words.now (c.min.result + 1) c.args.end (omega arith) c.requires.within,
    )

pub returns-in-Some-2 : goal.returns-in-Some-2
returns-in-Some-2 c =
    let there : c.min.result < length c.args.words.now = grind (arith, c.in-Some.ensures) in
    let same : c.args.end ≡ c.min.result = omega arith in (
      c.min.result,
      record { word = c.in-Some.word.now; stands = slice_get_read c.args.words.now _ _ _ refl there c.in-Some.ensures.lookup.1; span_of = refl },
      subst (IsTooDeepAt c.args.words.now) same (c.requires.deep (omega (arith, same, there))),
      within_take c.args.words.now c.min.result c.args.end (omega arith) c.requires.within,
    )

pub returns-in-None : goal.returns-in-None
returns-in-None c =
    let whole : length c.args.words.now ≤ c.args.end = grind (arith, c.in-None.ensures) in
    inr (search rules, search rules, subst IsWithinLimit (take_all c.args.end c.args.words.now whole) c.requires.within)
