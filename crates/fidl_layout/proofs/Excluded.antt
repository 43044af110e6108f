-- Files of which a refusal is true are not laid out.
use Rattle.std.proofs.Common.{◌≡◌, ◌≤◌, ℕ, List, inl, inr, refl, subst, arith}
use Rattle.std.specs.Prelude.{◌≢◌, map}
use Rattle.std.specs.List.{Contains}
use Rattle.std.proofs.lemmas.Option.{slice_get_within, get_or_from_slice_get}
use Rattle.fidl_limits.specs.declared.limits.TheConstants.{MAX_LAYOUT_MEMBERS}
use Rattle.fidl_tree.specs.Syntax.{TypeUse}
use Rattle.fidl_tree.specs.Views.{file_view}
use Rattle.fidl_tree.specs.declared.file.File.{File}
use Rattle.fidl_named.specs.declared.place.Place.{Place}
use Rattle.fidl_declarations.specs.Forms.{Form}
use Rattle.fidl_wire.specs.Term.{Term}
use Rattle.fidl_declarations.specs.Sites.{file_sites}
use Rattle.fidl_lower_types.specs.Terms.{TermIs}
use Rattle.fidl_wire.specs.Figure.{Figure, figure_of}
use Rattle.fidl_ir.specs.declared.term.Definition.{Definition}
use Rattle.fidl_ir.specs.Terms.{definitions_view}
use Rattle.fidl_lower_types.specs.Numbers.{all_forms}
use Rattle.fidl_lower_layouts.proofs.One.{one_definitions}
use Rattle.fidl_type_shape.specs.declared.fault.FigureFault.TheVariants as figure
use Rattle.fidl_type_shape.specs.Faults.{IsTooNested, IsTooLarge, HasTooManyMembers}
use Rattle.fidl_type_shape.specs.Limits.{TypeFits}
use Rattle.fidl_type_shape.specs.declared.fault.Excess.{Excess}
use Rattle.fidl_type_shape.specs.declared.fault.Excess.TheVariants as excess
use Rattle.fidl_type_shape.proofs.Excluded.{excluded, excess_not}
use Rattle.fidl_reachable_types.specs.Reached.{IsReached, root, part}
use Rattle.fidl_reachable_types.proofs.Members.{at_most}
use Rattle.fidl_types.specs.Faults.{FormBreaks}
use Rattle.fidl_types.proofs.Made.{all_among}
use Rattle.fidl_layout.specs.declared.fault.LayoutFault.{LayoutFault}
use Rattle.fidl_layout.specs.declared.fault.LayoutFault.TheVariants.{TooNested, TooLarge, TooManyTypes, TooManyMembers, Memory}
use Rattle.fidl_layout.specs.Roots.{AreRoots}
use Rattle.fidl_layout.specs.Written.{written_values, HasTooManyValues}
use Rattle.fidl_layout.specs.Laid.{AreLaidOut}
use Rattle.fidl_layout.specs.Faults.{IsTrueOfLayout, UseExceeds, TypesAreTooMany}
use Rattle.fidl_layout.specs.Uses.{IsWritten, SiteFits}

-- what roots reach is reached from more roots
more_roots : (terms : List Term) (roots others : List ℕ) → ((i : ℕ) → Contains roots i → Contains others i) → (t : Term) → IsReached terms roots t → IsReached terms others t
more_roots terms roots others more t (root i h) = root i (more i h)
more_roots terms roots others more u (part t v h k) = part t v (more_roots terms roots others more t h) k

module _ (files : List File) (definitions : List Definition) (figures : List Figure) (laid : AreLaidOut files (record { terms = definitions_view definitions; figures = figures })) where
  no_form : (Breaks : List Term → ℕ → Type 0) (place : Place) → ((i : ℕ) → Breaks (definitions_view definitions) i → ⊥) → FormBreaks files Breaks place → ⊥
  no_form Breaks place none h =
      let same : h.terms ≡ definitions_view definitions = one_definitions files h.terms (definitions_view definitions) h.definitions laid.checked.definitions in
      none h.number (subst (λ (us : List Term). Breaks us h.number) same h.breaks)

  no_values : (i : ℕ) → HasTooManyValues (all_forms files) i → ⊥
  no_values i h =
      let lt = slice_get_within (all_forms files) i h.form h.at in
      let fits = all_among (λ (form : Form). written_values form.kind ≤ MAX_LAYOUT_MEMBERS) (all_forms files) h.form laid.values (i, lt, get_or_from_slice_get (all_forms files) i h.form h.form h.at) in
      let many = h.many in
      omega (arith, fits, many)

  same_roots : (one other : List ℕ) → AreRoots files one → AreRoots files other → (i : ℕ) → Contains one i → Contains other i
  same_roots one other a b i h = b.complete i (a.sound i h)

  no_types : (place : Place) → TypesAreTooMany files place → ⊥
  no_types place h =
      let t = laid.types in
      let same : h.terms ≡ definitions_view definitions = one_definitions files h.terms (definitions_view definitions) h.definitions laid.checked.definitions in
      let sound : (u : Term) → Contains h.many.types u → IsReached (definitions_view definitions) t.roots u = λ u k. more_roots (definitions_view definitions) h.roots t.roots (same_roots h.roots t.roots h.are t.are) u (subst (λ us. IsReached us h.roots u) same (h.many.sound u k)) in
      let fewer = at_most h.many.types t.types h.many.distinct (λ u k. t.reached.complete u (sound u k)) in
      let many = h.many.many in
      let few = t.few in
      omega (arith, fewer, many, few)

  -- what is written in files fits by the figures of their definitions, and they are one list
  fitting : (place : Place) (t : TypeUse) (term : Term) → IsWritten files place.file t → TermIs files place.file t term → TypeFits figures term
  fitting place t term is term_is =
      let at = is.at in
      let P = SiteFits files figures place.file in
      let sites = file_sites (file_view at.f) in
      let fits : P is.site = all_among P sites is.site (laid.uses place.file at.f at.file_at) at.among in
      fits t is.is term term_is

  no_use : (excess : Excess) (place : Place) → UseExceeds files excess place → ⊥
  no_use excess place h =
      let ds = h.declarations in
      let same : ds.terms ≡ definitions_view definitions = one_definitions files ds.terms (definitions_view definitions) h.definitions laid.checked.definitions in
      let solves : map (figure_of ds.figures) (definitions_view definitions) ≡ ds.figures = subst (λ (us : List Term). map (figure_of ds.figures) us ≡ ds.figures) same h.laid_out in
      excess_not definitions ds.figures figures solves laid.laid_out h.term excess h.exceeds (fitting place h.written h.term h.is h.term_is)

  pub refused_not : (fault : LayoutFault) → fault ≢ Memory → IsTrueOfLayout files fault → ⊥
  refused_not (TooNested place) other (inl h) = no_form IsTooNested place (λ i k. excluded definitions figures (figure.TooNested i) (λ e. cc) k laid.laid_out laid.limits) h
  refused_not (TooNested place) other (inr h) = no_use excess.Nest place h
  refused_not (TooLarge place) other (inl h) = no_form IsTooLarge place (λ i k. excluded definitions figures (figure.TooLarge i) (λ e. cc) k laid.laid_out laid.limits) h
  refused_not (TooLarge place) other (inr h) = no_use excess.Size place h
  refused_not (TooManyTypes place) other h = no_types place h
  refused_not (TooManyMembers place) other (inl h) = no_form HasTooManyMembers place (λ i k. excluded definitions figures (figure.TooManyMembers i) (λ e. cc) k laid.laid_out laid.limits) h
  refused_not (TooManyMembers place) other (inr h) = no_values h.number h.many
  refused_not Memory other h = other refl
