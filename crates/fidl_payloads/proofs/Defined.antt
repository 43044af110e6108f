-- The definition that a payload is of is a struct, a table or a union that is never absent.
use Rattle.std.proofs.Common.{◌≡◌, ℕ, zero, suc, Bool, false, List, [], ◌∷◌, Some, refl, sym, subst}
use Rattle.std.specs.Prelude.{slice_get}
use Rattle.std.specs.List.{AllZip}
use Rattle.std.proofs.lemmas.Option.{same_Some, none-some}
use Rattle.fidl_tree.specs.Syntax.{TypeUse, Layout, values_layout, struct_layout, table_layout, union_layout}
use Rattle.fidl_tree.specs.declared.file.File.{File}
use Rattle.fidl_declarations.specs.declared.step.Step.{Step}
use Rattle.fidl_declarations.specs.Forms.{Form, FormKind, layout_form, result_form, empty_response_form}
use Rattle.fidl_wire.specs.Term.{Term}
use Rattle.fidl_lower_types.specs.Numbers.{all_forms}
use Rattle.fidl_lower_layouts.specs.Definitions.{LayoutIs, KindIs, DefinitionIs}
use Rattle.fidl_types.specs.Types.{TypesAre}
use Rattle.fidl_payloads.specs.Kinds.{IsPayloadLayout, IsPayloadForm, IsPayload, MayBePayload, IsPayloadDefinition}

module _ (files : List File) (number : ℕ) (f : File) where
  of_layout : (optional : Bool) (l : Layout) (t : Term) → optional ≡ false → IsPayloadLayout l → LayoutIs files number f optional l t → MayBePayload t
  of_layout optional (values_layout values strict keyword u ms) t present h is = absurd h
  of_layout optional (struct_layout is_resource keyword ms) t present h is = subst MayBePayload (sym is.is) tt
  of_layout optional (table_layout is_resource keyword ms) t present h is = subst MayBePayload (sym is.is) tt
  of_layout optional (union_layout strict is_resource keyword ms) t present h is = subst MayBePayload (sym is.is) present

  of_kind : (path : List Step) (kind : FormKind) (t : Term) → IsPayloadForm kind → KindIs files number f path kind t → MayBePayload t
  of_kind path (layout_form optional l) t h is = of_layout optional l t h.0 h.1 is
  of_kind path (result_form strict r) t h is = absurd h
  of_kind path empty_response_form t h is = absurd h

module _ (files : List File) where
  defined_at : (forms : List Form) (ts : List Term) (i : ℕ) (form : Form) → AllZip (DefinitionIs files) forms ts → slice_get forms i ≡ Some form → IsPayloadForm form.kind → IsPayloadDefinition ts i
  defined_at [] ts i form h at is = absurd (none-some form at)
  defined_at (x ∷ xs) [] i form h at is = absurd h
  defined_at (x ∷ xs) (t ∷ ts) zero form h at is =
      let own : IsPayloadForm x.kind = subst (λ (y : Form). IsPayloadForm y.kind) (sym (same_Some x form at)) is in
      record { definition = t; at = refl; may_be = of_kind files x.file h.0.file x.path x.kind t own h.0.is }
  defined_at (x ∷ xs) (t ∷ ts) (suc i) form h at is =
      let rest = defined_at xs ts i form h.1 at is in
      record { definition = rest.definition; at = rest.at; may_be = rest.may_be }

  pub defined : (number : ℕ) (t : TypeUse) (i : ℕ) (ts : List Term) → IsPayload files number t i → TypesAre files ts → IsPayloadDefinition ts i
  defined number t i ts h types = defined_at (all_forms files) ts i h.may_be.form types.definitions h.may_be.at h.may_be.is
