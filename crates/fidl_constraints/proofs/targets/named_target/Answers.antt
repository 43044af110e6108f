use Rattle.std.proofs.Common.{◌≡◌, ◌<◌, ◌≤◌, Option, length, ap, sym, subst, arith}
use Rattle.std.specs.Prelude.{option_copied}
use Rattle.fidl_tree.specs.Syntax.{TypeUse, Arguments}
use Rattle.fidl_tree.specs.Views.{path_view, constraints_view}
use Rattle.fidl_tree.specs.declared.type_constructor.NamedType.{out-NamedType}
use Rattle.fidl_named.specs.declared.meaning.Meaning.{Meaning}
use Rattle.fidl_named.specs.Meanings.{IsJust}
use Rattle.fidl_constraints.specs.Behind.{MeansType, MeaningRefersTo, RefersTo}
use Rattle.fidl_constraints.specs.BehindViews.{arguments_view}
use Rattle.fidl_constraints.proofs.Naming.{named_seen, just_meant, name_within, no_meaning, no_target, some_refers}
use Rattle.fidl_constraints.proofs.targets.named_target.Goals as goal

pub returns-then-file_index-count-clause-none : goal.returns-then-file_index-count-clause-none
returns-then-file_index-count-clause-none c = λ _ t h.
    let fs = c.args.named.now in
    let i = c.args.file_index in
    let n = out-NamedType c.args.of.now in
    let past : length fs ≤ i = omega (arith, c.if-file_index-count.true, c.count.ensures) in
    name_within fs i (path_view n.path) (arguments_view n.arguments) (constraints_view n.constraints) t past (subst (λ (u : TypeUse). RefersTo fs i u t) (named_seen c.args.of.now) h)

pub returns-in_default-clause-none : goal.returns-in_default-clause-none
returns-in_default-clause-none c = λ _ t h.
    let fs = c.args.named.now in
    let i = c.args.file_index in
    let n = out-NamedType c.args.of.now in
    let lt : i < length fs = omega (arith, c.if-file_index-count.false, c.count.ensures) in
    let just = just_meant fs i n.path c.in_ok-meaning.field-0 lt c.in_ok-meaning.ensures in
    let none = subst (λ (o : Option Meaning). IsJust (MeansType fs i (path_view n.path)) o) c.in_default.is just in
    no_meaning fs i (path_view n.path) (arguments_view n.arguments) (constraints_view n.constraints) t none (subst (λ (u : TypeUse). RefersTo fs i u t) (named_seen c.args.of.now) h)

pub returns-clause-found : goal.returns-clause-found
returns-clause-found c =
    let fs = c.args.named.now in
    let i = c.args.file_index in
    let n = out-NamedType c.args.of.now in
    let m = c.in-Some.meaning in
    let lt : i < length fs = omega (arith, c.if-file_index-count.false, c.count.ensures) in
    let just = subst (λ (o : Option Meaning). IsJust (MeansType fs i (path_view n.path)) o) c.in-Some.is (just_meant fs i n.path c.in_ok-meaning.field-0 lt c.in_ok-meaning.ensures) in
    let arguments : arguments_view (option_copied c.as_ref-arguments.result) ≡ arguments_view n.arguments = ap arguments_view c.as_ref-arguments.ensures.value in
    some_refers fs i (MeaningRefersTo fs i (arguments_view (option_copied c.as_ref-arguments.result)) m) c.args.of.now
    (λ t h. RefersTo.by_name (path_view n.path) (arguments_view n.arguments) (constraints_view n.constraints) m t just.0 (subst (λ (a : Arguments). MeaningRefersTo fs i a m t) arguments h)) c.meaning_target-target.result c.meaning_target-target.ensures.found

pub returns-clause-none : goal.returns-clause-none
returns-clause-none c = λ empty t h.
    let fs = c.args.named.now in
    let i = c.args.file_index in
    let n = out-NamedType c.args.of.now in
    let m = c.in-Some.meaning in
    let lt : i < length fs = omega (arith, c.if-file_index-count.false, c.count.ensures) in
    let just = subst (λ (o : Option Meaning). IsJust (MeansType fs i (path_view n.path)) o) c.in-Some.is (just_meant fs i n.path c.in_ok-meaning.field-0 lt c.in_ok-meaning.ensures) in
    let arguments : arguments_view (option_copied c.as_ref-arguments.result) ≡ arguments_view n.arguments = ap arguments_view c.as_ref-arguments.ensures.value in
    no_target fs i (path_view n.path) (arguments_view n.arguments) (constraints_view n.constraints) t m just.0
    (λ x k. c.meaning_target-target.ensures.none empty x (subst (λ (a : Arguments). MeaningRefersTo fs i a m x) (sym arguments) k)) (subst (λ (u : TypeUse). RefersTo fs i u t) (named_seen c.args.of.now) h)
