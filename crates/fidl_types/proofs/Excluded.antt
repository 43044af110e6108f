-- Files of which a refusal is true don't keep all rules of types, and their definitions are one list.
use Rattle.std.proofs.Common.{◌≡◌, ℕ, List, map, inl, inr, refl, subst}
use Rattle.std.specs.Prelude.{◌≢◌}
use Rattle.fidl_tree.specs.Views.{file_view}
use Rattle.fidl_tree.specs.declared.file.File.{File}
use Rattle.fidl_named.specs.declared.place.Place.{Place}
use Rattle.fidl_member_rules.specs.declared.fault.RuleFault.TheVariants as rule
use Rattle.fidl_member_rules.proofs.Excluded.{refused_not as layouts_not}
use Rattle.fidl_member_rules.specs.declared.value_fault.ValuesFault.TheVariants as value
use Rattle.fidl_member_rules.proofs.ValuesExcluded.{refused_not as values_not}
use Rattle.fidl_resource_rules.specs.declared.fault.ResourceFault.TheVariants as resource
use Rattle.fidl_resource_rules.proofs.Excluded.{refused_not as resources_not}
use Rattle.fidl_type_rules.specs.declared.fault.UseFault.TheVariants as used
use Rattle.fidl_type_rules.proofs.Excluded.{refused_not as uses_not}
use Rattle.fidl_wire.specs.Term.{Term}
use Rattle.fidl_lower_types.specs.Numbers.{all_forms}
use Rattle.fidl_lower_layouts.proofs.One.{one_definitions}
use Rattle.fidl_ir_rules.specs.Inline.{IsFirstInItself}
use Rattle.fidl_ir_rules.proofs.Targets.{stands_in_itself}
use Rattle.fidl_ir_rules.proofs.Excluded.{holds_not}
use Rattle.fidl_types.specs.declared.fault.TypeFault.{TypeFault}
use Rattle.fidl_types.specs.declared.fault.TypeFault.TheVariants.{NotResource, InlineCycle, BadOrdinal, DuplicateOrdinal, DuplicateValue, NotPowerOfTwo, EmptyStrict, OptionalMember, BadConstraint, BadBox, OutOfProfile, Memory}
use Rattle.fidl_types.specs.Marks.{marks_of}
use Rattle.fidl_types.specs.Types.{TypesAre}
use Rattle.fidl_types.specs.Faults.{SomeHolds, FormBreaks, IsTrueOfTypes}

module _ (files : List File) (ts : List Term) (holds : TypesAre files ts) where
  form_not : (Breaks : List Term → ℕ → Type 0) (place : Place) → ((i : ℕ) → Breaks ts i → ⊥) → FormBreaks files Breaks place → ⊥
  form_not Breaks place none h =
      let same : h.terms ≡ ts = one_definitions files h.terms ts h.definitions holds.definitions in
      none h.number (subst (λ (us : List Term). Breaks us h.number) same h.breaks)

  pub refused_not : (fault : TypeFault) → fault ≢ Memory → IsTrueOfTypes files fault → ⊥
  refused_not (NotResource place) other h = form_not (SomeHolds (marks_of (all_forms files))) place (λ i k. holds_not ts (marks_of (all_forms files)) i k.0 holds.kept.marked k.1) h
  refused_not (InlineCycle place) other h = form_not IsFirstInItself place (λ i k. holds.kept.apart i (stands_in_itself ts i k)) h
  refused_not (BadOrdinal place) other h = layouts_not (map file_view files) (rule.BadOrdinal place) (λ e. cc) h holds.layouts
  refused_not (DuplicateOrdinal place) other h = layouts_not (map file_view files) (rule.DuplicateOrdinal place) (λ e. cc) h holds.layouts
  refused_not (DuplicateValue place) other h = values_not files (value.DuplicateValue place) (λ e. cc) h holds.numbers
  refused_not (NotPowerOfTwo place) other h = values_not files (value.NotPowerOfTwo place) (λ e. cc) h holds.numbers
  refused_not (EmptyStrict place) other h = layouts_not (map file_view files) (rule.EmptyStrict place) (λ e. cc) h holds.layouts
  refused_not (OptionalMember place) other h = uses_not files (used.OptionalMember place) (λ e. cc) h holds.uses
  refused_not (BadConstraint place) other (inl h) = uses_not files (used.BadConstraint place) (λ e. cc) h holds.uses
  refused_not (BadConstraint place) other (inr h) = resources_not files (resource.BadConstraint place) (λ e. cc) h holds.resources
  refused_not (BadBox place) other h = uses_not files (used.BadBox place) (λ e. cc) h holds.uses
  refused_not (OutOfProfile place) other (inl h) = layouts_not (map file_view files) (rule.OutOfProfile place) (λ e. cc) h holds.layouts
  refused_not (OutOfProfile place) other (inr h) = uses_not files (used.OutOfProfile place) (λ e. cc) h holds.uses
  refused_not Memory other h = other refl
