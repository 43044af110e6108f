use Rattle.std.proofs.Common.{◌≡◌, false, true, sym, ◌∙◌, arith}
use Rattle.fidl_verify.specs.Runs.{is_of}
use Rattle.fidl_verify.proofs.Classes.{each_of_part, all_of_part, same_bytes}
use Rattle.fidl_verify.proofs.runs.Runs.covers.Goals as goal

pub returns-then-end-start-le-FEW_BYTES-clause-value : goal.returns-then-end-start-le-FEW_BYTES-clause-value
returns-then-end-start-le-FEW_BYTES-clause-value c =
    let class = c.args.self.now.class in
    let names = c.args.self.now.names.now in (
      λ t. each_of_part (is_of class) names c.args.start c.args.end c.requires.within (sym c.are_of.ensures ∙ t),
      λ all. c.are_of.ensures ∙ all_of_part (is_of class) names c.args.start c.args.end c.requires.within all,
    )

pub returns-in_default-clause-value : goal.returns-in_default-clause-value
returns-in_default-clause-value c = (
  λ (e : false ≡ true). cc,
  λ all. absurd (c.in_default.ensures.none (same_bytes c.loop-at.self.class c.args.self.now.class c.loop-at.self.names.now c.args.self.now.names.now c.loop-at.at c.args.end c.loop-at.invariant.runs.of_class c.loop-at.invariant.runs.of_names
      (λ i low high. all i (omega (arith, low, c.loop-at.invariant.ordered)) high))),
)
