use Rattle.std.proofs.Common.{◌∙◌, refl, sym, subst, true≢false}
use Rattle.fidl_span.specs.declared.words.Span.{Span}
use Rattle.fidl_tree.specs.Views.{openness_view}
use Rattle.fidl_named.proofs.PathViews.{place_seen}
use Rattle.fidl_composition.specs.Compositions.{MayCompose, ComposesAt}
use Rattle.fidl_composition.proofs.Nodes.{openness_is, has_openness}
use Rattle.fidl_composition.proofs.composing.check_openness.Goals as goal

pub returns-in_default-clause-ok : goal.returns-in_default-clause-ok
returns-in_default-clause-ok c = λ other h. absurd (c.in_default.ensures.none refl (other, h))

pub returns-then-may_compose-clause-ok : goal.returns-then-may_compose-clause-ok
returns-then-may_compose-clause-ok c = λ other h.
    let d = c.in-Some.other.now in
    let same = openness_is c.args.scope.now.named.now c.args.composed d other c.in-Some.ensures.found h in
    subst (MayCompose (openness_view c.args.scope.now.protocol.now.openness)) same (c.may_compose.ensures.0 c.if-may_compose.true)

pub returns-clause-fault_is_true : goal.returns-clause-fault_is_true
returns-clause-fault_is_true c =
    let fs = c.args.scope.now.named.now in
    let p = c.args.scope.now.id in
    let d = c.args.scope.now.protocol.now in
    let other = c.in-Some.other.now in
    let span = c.path_span.ensures ∙ place_seen c.args.path.now in
    record {
      composing = p;
      composed = c.args.composed;
      one = openness_view d.openness;
      other = openness_view other.openness;
      composes = subst (λ (s : Span). ComposesAt fs p s c.args.composed) (sym span) c.requires.composes;
      one_is = has_openness fs p d c.requires.protocol;
      other_is = has_openness fs c.args.composed other c.in-Some.ensures.found;
      wrong = λ may. true≢false (sym (c.may_compose.ensures.1 may) ∙ c.if-may_compose.false);
      file_is = refl;
    }
