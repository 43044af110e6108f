use Rattle.std.proofs.Common.{◌≡◌, ℕ, ◌+◌, ◌*◌, ◌/◌, ◌%◌, ◌<◌, ◌≤◌, true, false, sym, ◌∙◌, arith, inl, inr, length}
use Rattle.std.proofs.lemmas.Bool.{cases_lt}
use Rattle.fidl_verify.specs.Runs.{is_of}
use Rattle.fidl_verify.proofs.Classes.{each_of_part, all_of_part}
use Rattle.fidl_verify.proofs.runs.Runs.step.Goals as goal
use Rattle.fidl_verify.proofs.runs.Runs.step.Goals.{then-into-eq0-via-then-into-eq0, then-into-eq0-via-else-into-eq0+then-known-at}

-- a block begins at or before each place in it
block_begins : (at block : ℕ) → 0 < block → at / block * block + at % block ≡ at
block_begins at block some = omega arith

pub returns-then-not-are_of-clause-none : goal.returns-then-not-are_of-clause-none
returns-then-not-are_of-clause-none c all =
    let stop = c.args.at + c.min.result in
    let within : stop ≤ length c.args.self.now.names.now = omega (arith, c.min.ensures) in
    let passes = all_of_part (is_of c.args.self.now.class) c.args.self.now.names.now c.args.at stop within (λ i low high. all i low (omega (arith, c.min.ensures, high))) in
    let fails : false ≡ true = sym c.if-not-are_of.true ∙ c.are_of.ensures ∙ passes in
    cc

pub returns-then-into-eq0-clause-of_class : goal.returns-then-into-eq0-clause-of_class
returns-then-into-eq0-clause-of_class c =
    each_of_part (is_of c.args.self.now.class) c.args.self.now.names.now c.args.at (c.args.at + c.min.result) (omega (arith, c.min.ensures)) (sym c.are_of.ensures ∙ c.if-not-are_of.false)

pub returns-else-known-at-clause-of_class : goal.returns-else-known-at-clause-of_class
returns-else-known-at-clause-of_class c =
    each_of_part (is_of c.args.self.now.class) c.args.self.now.names.now c.args.at (c.args.at + c.min.result) (omega (arith, c.min.ensures)) (sym c.are_of.ensures ∙ c.if-not-are_of.false)

pub keep-requires-clause-known : goal.keep-requires-clause-known
keep-requires-clause-known c i low high =
    let class = c.args.self.now.class in
    let names = c.args.self.now.names.now in
    let looked = each_of_part (is_of class) names c.args.at (c.args.at + c.min.result) (omega (arith, c.min.ensures)) (sym c.are_of.ensures ∙ c.if-not-are_of.false) in
    elim c.then-into-eq0.either [
      | inl aligned ↦
          let begins = block_begins c.args.at c.args.self.now.block c.requires.runs.some in
          looked i (omega (arith, begins, aligned, low)) high
      | inr known ↦
          elim (cases_lt i c.args.at) [
            | inl less ↦ c.requires.runs.known (c.args.at / c.args.self.now.block) i low (omega (arith, less, known.1, c.end_of-known.ensures))
            | inr on ↦ looked i on high
          ]
    ]
