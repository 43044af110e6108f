use Rattle.std.proofs.Common.{ℕ, sym, subst}
use Rattle.std.specs.Prelude.{IfOk, IfSome, IsNone}
use Rattle.fidl_tree.specs.Syntax.{Argument}
use Rattle.fidl_tree.specs.Views.{argument_view}
use Rattle.fidl_constraints.specs.Gives.{InFile}
use Rattle.fidl_lower_types.specs.Counts.{CountIs}
use Rattle.fidl_lower_types.proofs.Counting.{word_counts, no_word}
use Rattle.fidl_lower_types.proofs.counts.count_of.Goals as goal

pub returns-in-Some-clause-found : goal.returns-in-Some-clause-found
returns-in-Some-clause-found c =
    word_counts c.args.sources.now.named.now c.args.file_index (argument_view c.args.argument.now) c.in-Some.word c.file.result.now c.word_count.result c.in-Some.ensures.found c.file.ensures c.word_count.ensures.found

pub returns-in-Some-clause-none : goal.returns-in-Some-clause-none
returns-in-Some-clause-none c =
    no_word c.args.sources.now.named.now c.args.file_index (argument_view c.args.argument.now) c.in-Some.word c.file.result.now c.word_count.result c.in-Some.ensures.found c.file.ensures c.word_count.ensures.none

pub returns-in-Some-bare_argument-clause-found : goal.returns-in-Some-bare_argument-clause-found
returns-in-Some-bare_argument-clause-found c =
    let fs = c.args.sources.now.named.now in
    subst (λ (a : Argument). IfOk c.name_count.result (λ found. IfSome found (λ n. InFile fs c.args.file_index (λ f. CountIs fs f a n)))) (sym c.in-Some-bare_argument.ensures.found) c.name_count.ensures.found

pub returns-in-Some-bare_argument-clause-none : goal.returns-in-Some-bare_argument-clause-none
returns-in-Some-bare_argument-clause-none c =
    let fs = c.args.sources.now.named.now in
    subst (λ (a : Argument). IfOk c.name_count.result (λ found. IsNone found → (n : ℕ) → InFile fs c.args.file_index (λ f. CountIs fs f a n) → ⊥)) (sym c.in-Some-bare_argument.ensures.found) c.name_count.ensures.none
