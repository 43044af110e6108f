use Rattle.std.proofs.Common.{◌∙◌, Some, ap, subst}
use Rattle.std.specs.Prelude.{Option}
use Rattle.fidl_tree.specs.Views.{path_view}
use Rattle.fidl_named.specs.declared.meaning.Meaning.{Meaning}
use Rattle.fidl_named.specs.declared.meaning.Meaning.TheVariants as meaning
use Rattle.fidl_named.specs.Meanings.{IsJust}
use Rattle.fidl_constraints.specs.Behind.{MeansType}
use Rattle.fidl_constraints.proofs.Naming.{just_meant}
use Rattle.fidl_type_rules.proofs.words.word_at.Goals as goal

pub returns-in-Some-Predeclared-clause-found : goal.returns-in-Some-Predeclared-clause-found
returns-in-Some-Predeclared-clause-found c =
    let fs = c.args.sources.now.named.now in
    let i = c.args.file_index in
    let just = just_meant fs i c.args.path.now c.in_ok-word.field-0 c.requires c.in_ok-word.ensures in
    let its = subst (λ (o : Option Meaning). IsJust (MeansType fs i (path_view c.args.path.now)) o) (c.in-Some-Predeclared.is ∙ ap Some c.in-Some-Predeclared.field-0-is) just in
    its.0

pub returns-in-None-clause-none : goal.returns-in-None-clause-none
returns-in-None-clause-none c = λ _ w h.
    let fs = c.args.sources.now.named.now in
    let i = c.args.file_index in
    let just = just_meant fs i c.args.path.now c.in_ok-word.field-0 c.requires c.in_ok-word.ensures in
    let none = subst (λ (o : Option Meaning). IsJust (MeansType fs i (path_view c.args.path.now)) o) c.in-None.is just in
    none (meaning.Predeclared w) h
