use Rattle.std.proofs.Common.{◌≡◌, ◌<◌, ◌≤◌, Option, length, ap, sym, subst, arith}
use Rattle.std.specs.Prelude.{option_copied, IfSome}
use Rattle.fidl_tree.specs.Syntax.{TypeUse, Arguments}
use Rattle.fidl_tree.specs.Views.{path_view, constraints_view}
use Rattle.fidl_tree.specs.declared.type_constructor.NamedType.{out-NamedType}
use Rattle.fidl_named.specs.declared.meaning.Meaning.{Meaning}
use Rattle.fidl_named.specs.Meanings.{IsJust}
use Rattle.fidl_constraints.specs.declared.targets.Target.{Target as CodeTarget}
use Rattle.fidl_constraints.specs.Behind.{MeansType, MeaningRefersTo, RefersTo, LeadsTo}
use Rattle.fidl_constraints.specs.BehindViews.{arguments_view, target_view}
use Rattle.fidl_constraints.proofs.Naming.{named_seen, just_meant, name_within, no_meaning, no_target, some_leads}
use Rattle.fidl_constraints.proofs.Leading.{Leads, name_leads, passed_leads}
use Rattle.fidl_constraints.proofs.targets.named_next.Goals as goal

pub returns-then-file_index-count-clause-none : goal.returns-then-file_index-count-clause-none
returns-then-file_index-count-clause-none c = λ _ t h.
    let fs = c.args.named.now in
    let i = c.args.file_index in
    let n = out-NamedType c.args.of.now in
    let past : length fs ≤ i = omega (arith, c.if-file_index-count.true, c.count.ensures) in
    name_within fs i (path_view n.path) (arguments_view n.arguments) (constraints_view n.constraints) t past (subst (λ (u : TypeUse). RefersTo fs i u t) (named_seen c.args.of.now) h)

pub returns-in_default-clause-none : goal.returns-in_default-clause-none
returns-in_default-clause-none c = λ _ t h.
    let fs = c.args.named.now in
    let i = c.args.file_index in
    let n = out-NamedType c.args.of.now in
    let lt : i < length fs = omega (arith, c.if-file_index-count.false, c.count.ensures) in
    let just = just_meant fs i n.path c.in_ok-meaning.field-0 lt c.in_ok-meaning.ensures in
    let none = subst (λ (o : Option Meaning). IsJust (MeansType fs i (path_view n.path)) o) c.in_default.is just in
    no_meaning fs i (path_view n.path) (arguments_view n.arguments) (constraints_view n.constraints) t none (subst (λ (u : TypeUse). RefersTo fs i u t) (named_seen c.args.of.now) h)

pub returns-in-Some-meaning_target-clause-found : goal.returns-in-Some-meaning_target-clause-found
returns-in-Some-meaning_target-clause-found c =
    let fs = c.args.named.now in
    let i = c.args.file_index in
    let n = out-NamedType c.args.of.now in
    let m = c.in-Some.meaning in
    let passed = c.passed-passed.result in
    let t = target_view c.in-Some-meaning_target.target in
    let lt : i < length fs = omega (arith, c.if-file_index-count.false, c.count.ensures) in
    let just = subst (λ (o : Option Meaning). IsJust (MeansType fs i (path_view n.path)) o) c.in-Some.is (just_meant fs i n.path c.in_ok-meaning.field-0 lt c.in_ok-meaning.ensures) in
    let given = arguments_view (option_copied c.as_ref-arguments.result) in
    let arguments : given ≡ arguments_view n.arguments = ap arguments_view c.as_ref-arguments.ensures.value in
    let found : MeaningRefersTo fs i given passed t = subst (λ (o : Option CodeTarget). IfSome o (λ x. MeaningRefersTo fs i given passed (target_view x))) c.in-Some-meaning_target.is c.meaning_target.ensures.found in
    let leads = passed_leads fs m passed c.passed-passed.ensures i (arguments_view n.arguments) t (subst (λ (a : Arguments). MeaningRefersTo fs i a passed t) arguments found) in
    subst (λ (u : TypeUse). LeadsTo fs i u t) (sym (named_seen c.args.of.now)) (name_leads fs i (path_view n.path) (arguments_view n.arguments) (constraints_view n.constraints) m t just.0 leads)

pub returns-in-None-clause-found : goal.returns-in-None-clause-found
returns-in-None-clause-found c =
    let fs = c.args.named.now in
    let i = c.args.file_index in
    let n = out-NamedType c.args.of.now in
    let m = c.in-Some.meaning in
    let lt : i < length fs = omega (arith, c.if-file_index-count.false, c.count.ensures) in
    let just = subst (λ (o : Option Meaning). IsJust (MeansType fs i (path_view n.path)) o) c.in-Some.is (just_meant fs i n.path c.in_ok-meaning.field-0 lt c.in_ok-meaning.ensures) in
    let given = arguments_view (option_copied c.as_ref-arguments.result) in
    let own = arguments_view n.arguments in
    let arguments : given ≡ own = ap arguments_view c.as_ref-arguments.ensures.value in
    some_leads fs i (MeaningRefersTo fs i given m) c.args.of.now
    (λ t h. name_leads fs i (path_view n.path) own (constraints_view n.constraints) m t just.0 (Leads.here i own m t (subst (λ (a : Arguments). MeaningRefersTo fs i a m t) arguments h)))
    c.meaning_target-in-None.result c.meaning_target-in-None.ensures.found

pub returns-in-None-clause-none : goal.returns-in-None-clause-none
returns-in-None-clause-none c = λ empty t h.
    let fs = c.args.named.now in
    let i = c.args.file_index in
    let n = out-NamedType c.args.of.now in
    let m = c.in-Some.meaning in
    let lt : i < length fs = omega (arith, c.if-file_index-count.false, c.count.ensures) in
    let just = subst (λ (o : Option Meaning). IsJust (MeansType fs i (path_view n.path)) o) c.in-Some.is (just_meant fs i n.path c.in_ok-meaning.field-0 lt c.in_ok-meaning.ensures) in
    let given = arguments_view (option_copied c.as_ref-arguments.result) in
    let arguments : given ≡ arguments_view n.arguments = ap arguments_view c.as_ref-arguments.ensures.value in
    no_target fs i (path_view n.path) (arguments_view n.arguments) (constraints_view n.constraints) t m just.0
    (λ x k. c.meaning_target-in-None.ensures.none empty x (subst (λ (a : Arguments). MeaningRefersTo fs i a m x) (sym arguments) k)) (subst (λ (u : TypeUse). RefersTo fs i u t) (named_seen c.args.of.now) h)
