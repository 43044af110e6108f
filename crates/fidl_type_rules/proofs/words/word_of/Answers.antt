use Rattle.std.proofs.Common.{Option, ap}
use Rattle.std.specs.Prelude.{IfSome, IsNone}
use Rattle.std.proofs.lemmas.Result.{IfOk-weaker}
use Rattle.fidl_tree.specs.Views.{path_view}
use Rattle.fidl_tree.specs.declared.type_constructor.NamedType.{out-NamedType}
use Rattle.fidl_named.specs.declared.meaning.Predeclared.{Predeclared}
use Rattle.fidl_named.specs.declared.meaning.Meaning.TheVariants as meaning
use Rattle.fidl_constraints.specs.Behind.{MeansType}
use Rattle.fidl_constraints.specs.BehindViews.{use_view}
use Rattle.fidl_type_rules.specs.Words.{IsWord}
use Rattle.fidl_type_rules.proofs.Named.{some_word, no_word}
use Rattle.fidl_type_rules.proofs.words.word_of.Goals as goal

pub returns-in-Named-clause-found : goal.returns-in-Named-clause-found
returns-in-Named-clause-found c =
    let fs = c.args.sources.now.named.now in
    let i = c.args.file_index in
    let n = c.in-Named.named.now in
    let t = use_view c.args.of in
    IfOk-weaker c.word_at.result (λ (o : Option Predeclared). IfSome o (λ w. MeansType fs i (path_view (out-NamedType n).path) (meaning.Predeclared w))) (λ (o : Option Predeclared). IfSome o (IsWord fs i t))
    (some_word fs i n t (ap use_view c.in-Named.is)) c.word_at.ensures.found

pub returns-in-Named-clause-none : goal.returns-in-Named-clause-none
returns-in-Named-clause-none c =
    let fs = c.args.sources.now.named.now in
    let i = c.args.file_index in
    let n = c.in-Named.named.now in
    let t = use_view c.args.of in
    IfOk-weaker c.word_at.result (λ (o : Option Predeclared). IsNone o → (w : Predeclared) → MeansType fs i (path_view (out-NamedType n).path) (meaning.Predeclared w) → ⊥) (λ (o : Option Predeclared). IsNone o → (w : Predeclared) → IsWord fs i t w → ⊥)
    (no_word fs i n t (ap use_view c.in-Named.is)) c.word_at.ensures.none
