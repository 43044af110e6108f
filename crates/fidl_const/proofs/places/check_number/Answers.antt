use Rattle.std.proofs.Common.{◌∙◌, ℕ, List, option_copied, inr, refl, sym, true≢false, subst}
use Rattle.std.specs.Prelude.{option_map, pos}
use Rattle.fidl_named.specs.declared.meaning.Wanted.{Wanted}
use Rattle.fidl_named.specs.Aliases.{Wants, IsArrayName}
use Rattle.fidl_tree.specs.Views.{path_view}
use Rattle.fidl_named.proofs.PathViews.{wants_view}
use Rattle.fidl_consts.specs.declared.const_type.NumberKind.TheVariants.{Uint32}
use Rattle.fidl_consts.specs.Literals.{number_of}
use Rattle.fidl_consts.specs.PlainValues.{InRange}
use Rattle.fidl_consts.specs.Places.{PlaceHolds, PlaceFails}
use Rattle.fidl_const.proofs.Wants.{wants_type}
use Rattle.fidl_const.proofs.places.check_number.Goals as goal

pub returns-then-not-wants_value-clause-ok : goal.returns-then-not-wants_value-clause-ok
returns-then-not-wants_value-clause-ok c =
    PlaceHolds.of_number (option_map path_view (option_copied c.args.argument_of)) c.args.word
    (wants_type c.args.scope.now.file.named.now c.args.scope.now.file.tree.now (option_map path_view (option_copied c.args.argument_of)) c.in_ok-kind.kind (wants_view c.args.scope.now.file.named.now c.args.scope.now.file.tree.now (option_copied c.args.argument_of) c.in_ok-kind.kind (c.in_ok-kind.ensures c.args.scope.now.file.tree.now c.args.scope.now.file.in_set))
    (λ is. true≢false (sym (c.wants_value.ensures.1 is) ∙ c.if-not-wants_value.true)))

pub returns-then-is_count-clause-ok : goal.returns-then-is_count-clause-ok
returns-then-is_count-clause-ok c =
    let wants = subst (λ (k : Wanted). Wants (IsArrayName c.args.scope.now.file.named.now c.args.scope.now.file.tree.now) (option_map path_view (option_copied c.args.argument_of)) k) (c.wants_value.ensures.0 c.if-not-wants_value.false)
    (wants_view c.args.scope.now.file.named.now c.args.scope.now.file.tree.now (option_copied c.args.argument_of) c.in_ok-kind.kind (c.in_ok-kind.ensures c.args.scope.now.file.tree.now c.args.scope.now.file.in_set)) in
    PlaceHolds.of_count (option_map path_view (option_copied c.args.argument_of)) c.args.word wants
    (subst (λ (t : List ℕ). InRange Uint32 (pos (number_of t))) c.text.ensures.bytes (c.is_count.ensures.0 c.if-is_count.true))

pub returns-clause-fault_is_true : goal.returns-clause-fault_is_true
returns-clause-fault_is_true c =
    let wants = subst (λ (k : Wanted). Wants (IsArrayName c.args.scope.now.file.named.now c.args.scope.now.file.tree.now) (option_map path_view (option_copied c.args.argument_of)) k) (c.wants_value.ensures.0 c.if-not-wants_value.false)
    (wants_view c.args.scope.now.file.named.now c.args.scope.now.file.tree.now (option_copied c.args.argument_of) c.in_ok-kind.kind (c.in_ok-kind.ensures c.args.scope.now.file.tree.now c.args.scope.now.file.in_set)) in
    inr (PlaceFails.of_count (option_map path_view (option_copied c.args.argument_of)) c.args.word wants
    (λ h. true≢false (sym (c.is_count.ensures.1 (subst (λ (t : List ℕ). InRange Uint32 (pos (number_of t))) (sym c.text.ensures.bytes) h)) ∙ c.if-is_count.false)) refl)
