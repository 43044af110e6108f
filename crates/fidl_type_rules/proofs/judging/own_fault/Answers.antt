use Rattle.std.proofs.Common.{◌∙◌, true≢false, Option, refl, sym, subst}
use Rattle.std.specs.Prelude.{IfSome, IsNone}
use Rattle.fidl_tree.specs.Syntax.{TypeUse}
use Rattle.fidl_constraints.specs.BehindViews.{use_view}
use Rattle.fidl_constraints.specs.declared.type_use.TypeUse.{TypeUse as CodeUse}
use Rattle.fidl_type_rules.specs.Words.{BoxesOther}
use Rattle.fidl_type_rules.specs.Uses.{constraint_rule, box_rule, profile_rule}
use Rattle.fidl_type_rules.proofs.Stood.{breaks_there}
use Rattle.fidl_type_rules.proofs.judging.own_fault.Goals as goal

pub returns-then-branch : goal.returns-then-branch
returns-then-branch c = breaks_there c.args.sources.now.named.now c.args.used c.requires.stands profile_rule c.type_span-span.result (c.in_ok-is_left_out.ensures.0 c.if-branch.true, c.type_span-span.ensures)

pub returns-in-Some : goal.returns-in-Some
returns-in-Some c =
    let fs = c.args.sources.now.named.now in
    let used = c.args.used in
    let boxes = subst (λ (x : Option CodeUse). IfSome x (λ u. BoxesOther fs used.file_index (use_view used.of) (use_view u))) c.in-Some.is c.in_ok-content.ensures.found in
    breaks_there fs used c.requires.stands box_rule c.type_span-span-in-Some.result (record { content = use_view c.in-Some.content; boxes = boxes; place = c.type_span-span-in-Some.ensures })

pub returns : goal.returns
returns c =
    let fs = c.args.sources.now.named.now in
    let used = c.args.used in
    let none = subst (λ (x : Option CodeUse). IsNone x → (u : TypeUse) → BoxesOther fs used.file_index (use_view used.of) u → ⊥) c.in_default.is c.in_ok-content.ensures.none refl in
    breaks_there fs used c.requires.stands constraint_rule c.type_span-span-2.result (
      record {
        improper = c.requires.improper;
        made = c.requires.made;
        kept = λ h. true≢false (sym (c.in_ok-is_left_out.ensures.1 h) ∙ c.if-branch.false);
        boxed = none;
      },
      c.type_span-span-2.ensures,
    )
