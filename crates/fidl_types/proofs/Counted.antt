-- What definitions are there, by the number of forms.
use Rattle.std.proofs.Common.{◌≡◌, ◌<◌, ◌^◌, ◌∙◌, ℕ, List, length, map, nat_lt, refl, ap, sym, subst, inl, inr, arith}
use Rattle.std.proofs.lemmas.Bool.{cases_lt}
use Rattle.std.proofs.lemmas.Option.{slice_get_within}
use Rattle.fidl_tree.specs.Views.{file_view}
use Rattle.fidl_tree.specs.declared.file.File.{File}
use Rattle.fidl_consts.specs.Evaluated.{Evaluates}
use Rattle.fidl_member_rules.specs.Rules.{RulesHold}
use Rattle.fidl_member_rules.specs.ValueRules.{ValuesHold}
use Rattle.fidl_declarations.specs.declared.form.Form.{Form as CodeForm}
use Rattle.fidl_declarations.specs.FormViews.{form_view, forms_view}
use Rattle.fidl_cycles.specs.Cycles.{Leads, step, further}
use Rattle.fidl_lower_types.specs.Numbers.{all_forms}
use Rattle.fidl_type_rules.specs.Uses.{UsesHold}
use Rattle.fidl_wire.specs.Term.{Term}
use Rattle.fidl_lower_layouts.specs.Definitions.{DefinitionIs, DefinitionsAre}
use Rattle.fidl_member_rules.proofs.Listing.{zip_length}
use Rattle.std.proofs.Math.ListN.{length-map}
use Rattle.fidl_ir_rules.specs.Inline.{inline_names, HoldsInline}
use Rattle.fidl_ir_rules.specs.Faults.{IsTrueOf}
use Rattle.fidl_ir_rules.specs.declared.fault.DefinitionFault.{DefinitionFault}
use Rattle.fidl_ir_rules.specs.declared.fault.DefinitionFault.TheVariants as rule
use Rattle.fidl_ir_rules.specs.declared.mark.Mark.{Mark}
use Rattle.fidl_ir_rules.proofs.Targets.{holder_within, stands_in_itself}
use Rattle.fidl_types.proofs.Made.{definitions_exist}
use Rattle.fidl_types.proofs.ShapedFiles.{file_shaped}
use Rattle.std.specs.Prelude.{filter}

-- where the rules hold and there are no definitions, there are too many forms
pub too_many : (files : List File) → ((ts : List Term) → DefinitionsAre files ts → ⊥) → Evaluates files → RulesHold (map file_view files) → ValuesHold files → UsesHold files → 2 ^ 32 < length (all_forms files)
too_many files none evaluates holds numbers uses = elim (cases_lt (2 ^ 32) (length (all_forms files))) [
  | inl many ↦ many
  | inr few ↦
      let found = definitions_exist files evaluates.places holds numbers uses few file_shaped in
      absurd (none found.0 found.1)
]

-- what holds a definition inline is one itself
stands_within : (ts : List Term) (i j : ℕ) → Leads (HoldsInline ts) i j → i < length ts
stands_within ts i j (step a b h) = holder_within ts (length ts) refl (map (λ d. filter (λ k. nat_lt k (length ts)) (inline_names d)) ts) refl a b h
stands_within ts i j (further a b c h k) = holder_within ts (length ts) refl (map (λ d. filter (λ k. nat_lt k (length ts)) (inline_names d)) ts) refl a b h

module _ (files : List File) (forms : List CodeForm) (are : forms_view forms ≡ all_forms files) (ts : List Term) (definitions : DefinitionsAre files ts) where
  as_many : length ts ≡ length forms
  as_many =
      let long = zip_length (DefinitionIs files) (all_forms files) ts definitions in
      let seen = length-map forms form_view in
      sym long ∙ ap length (sym are) ∙ seen

  within : (i : ℕ) → i < length ts → i < length forms
  within i less = omega (arith, less, as_many)

  module _ (marks : List Mark) (fault : DefinitionFault) (told : IsTrueOf ts marks fault) where
    -- what a refusal names is the number of a form
    pub holder_there : (i m : ℕ) → fault ≡ rule.NotResource i m → i < length forms
    holder_there i m is =
        let holds = subst (λ (x : DefinitionFault). IsTrueOf ts marks x) is told in
        within i (slice_get_within ts i holds.definition holds.stands)

    pub cycle_there : (i : ℕ) → fault ≡ rule.InlineCycle i → i < length forms
    cycle_there i is = within i (stands_within ts i i (stands_in_itself ts i (subst (λ (x : DefinitionFault). IsTrueOf ts marks x) is told)))
