-- How many structs and arrays stand in one another from a term on.
use Rattle.std.proofs.Common.{◌≡◌, ℕ, zero, suc, ◌≤◌, ◌<◌, inl, inr, max, Bool, true, false, IsTrue, List, [], ◌∷◌, length, get_or, refl, ap, sym, ◌∙◌, subst, arith}
use Rattle.std.specs.List.{Contains}
use Rattle.std.proofs.lemmas.Bool.{cases_lt, and_cases}
use Rattle.std.proofs.lemmas.List.{get_or_past}
use Rattle.std.proofs.lemmas.Option.{slice_get-get_or}
use Rattle.fidl_wire.specs.Term.{Term, Fields, no_fields, field, nothing, IsNoName}
use Rattle.fidl_wire.specs.Term as ty
use Rattle.fidl_wire.specs.Figure.{Figure, figure, figure_of, nest_of}
use Rattle.fidl_type_shape.specs.Nesting.{Nested, none, empty, in_struct, in_array, by_name}
use Rattle.fidl_ir.specs.Members.{field_types}
use Rattle.fidl_type_shape.specs.Solutions.{is_settled, are_settled}
use Rattle.fidl_limits.specs.declared.limits.TheConstants.{MAX_NEST}
use Rattle.std.proofs.Math.ListN.{length-map}
use Rattle.fidl_ir.specs.declared.term.Definition.{Definition}
use Rattle.fidl_ir.specs.declared.term.Definition.TheVariants as Definitions
use Rattle.fidl_ir.specs.Terms.{definition_view, definitions_view}
use Rattle.fidl_type_shape.specs.Limits.{parts, parts_of_fields, parts_of_rows}
use Rattle.fidl_type_shape.specs.Faults.{IsTooNested}
use Rattle.fidl_type_shape.specs.Progress.{AreFound, AllWait}
use Rattle.fidl_type_shape.proofs.Lists.{among_first, among_more}
use Rattle.fidl_type_shape.proofs.Fields.{both_left, both_right}

-- where so many stand in one another, so do fewer
pub fewer : (terms : List Term) (n m : ℕ) (t : Term) → m ≤ n → Nested terms n t → Nested terms m t
fewer terms n zero t less h = none t
fewer terms n (suc m) t less (none u) = absurd (omega (arith, less))
fewer terms n (suc m) t less empty = let is : m ≡ 0 = omega (arith, less) in subst (λ (k : ℕ). Nested terms (suc k) (ty.struct no_fields)) (sym is) empty
fewer terms n (suc m) t less (in_struct k fs u among h) = in_struct m fs u among (fewer terms k m u (omega (arith, less)) h)
fewer terms n (suc m) t less (in_array k u c h) = in_array m u c (fewer terms k m u (omega (arith, less)) h)
fewer terms n (suc m) t less (by_name k i u at h) = by_name (suc m) i u at (fewer terms n (suc m) u less h)

module _ (terms : List Term) where
  -- a definition is followed by its name
  pub named : (n i : ℕ) → Nested terms n (get_or terms i nothing) → i < length terms → Nested terms n (ty.named i)
  named n i h within = by_name n i (get_or terms i nothing) (slice_get-get_or terms i nothing within) h

  -- a member from which on as many stand in one another as from all members
  record Deepest (n : ℕ) (fs : Fields) : Type 0 where
    u : Term
    among : Contains (field_types fs) u
    nested : Nested terms n u

  first_deepest : (name : List ℕ) (t : Term) (fs : Fields) (m n : ℕ) → m ≡ n → Nested terms m t → Deepest n (field name t fs)
  first_deepest name t fs m n e h = record { u = t; among = among_first t (field_types fs); nested = subst (λ (k : ℕ). Nested terms k t) e h }

  later_deepest : (name : List ℕ) (t : Term) (fs : Fields) (m n : ℕ) → m ≡ n → Deepest m fs → Deepest n (field name t fs)
  later_deepest name t fs m n e d = record { u = d.u; among = among_more t d.u (field_types fs) d.among; nested = subst (λ (k : ℕ). Nested terms k d.u) e d.nested }

  deeper : (name : List ℕ) (t : Term) (fs : Fields) (m n : ℕ) → Nested terms m t → Deepest n fs → Deepest (max m n) (field name t fs)
  deeper name t fs m n h d = elim (cases_lt m n) [
    | inl less ↦ later_deepest name t fs n (max m n) (omega (arith, less)) d
    | inr more ↦ first_deepest name t fs m (max m n) (omega (arith, more)) h
  ]

  module _ (figures : List Figure) (known : List Bool) (found : AreFound terms figures known) where
    past_the_last : (i : ℕ) → length terms ≤ i → IsTrue (get_or known i true) → (get_or figures i (figure 1 1 0)).nest ≡ 0
    past_the_last i past h = ap (λ (f : Figure). f.nest) (sym (found i h).solved.solves ∙ ap (figure_of figures) (get_or_past terms i nothing past))

    -- a struct without members has no deepest one
    abbrev IsDeepest : Fields → Type 0
    IsDeepest no_fields = Unit {0}
    IsDeepest (field name t fs) = Deepest (nest_of figures (field name t fs)) (field name t fs)

    deepen : (name : List ℕ) (t : Term) (fs : Fields) → Nested terms (figure_of figures t).nest t → IsDeepest fs → Deepest (nest_of figures (field name t fs)) (field name t fs)
    deepen name t no_fields h d = first_deepest name t no_fields (figure_of figures t).nest (max (figure_of figures t).nest 0) (omega arith) h
    deepen name t (field other u fs) h d = deeper name t (field other u fs) (figure_of figures t).nest (nest_of figures (field other u fs)) h d

    deep_struct : (fs : Fields) → IsDeepest fs → Nested terms (suc (nest_of figures fs)) (ty.struct fs)
    deep_struct no_fields d = empty
    deep_struct (field name t fs) d = in_struct (nest_of figures (field name t fs)) (field name t fs) d.u d.among d.nested

    mutual
      -- a figure's nest is true of its term
      pub nested_by : (t : Term) → IsTrue (is_settled known t) → Nested terms (figure_of figures t).nest t
      nested_by (ty.array t n) h = in_array (figure_of figures t).nest t n (nested_by t h)
      nested_by (ty.struct fs) h = deep_struct fs (deepest fs h)
      nested_by (ty.named i) h = elim (cases_lt i (length terms)) [
        | inl within ↦ named (get_or figures i (figure 1 1 0)).nest i (found i h).nested within
        | inr past ↦ subst (λ (k : ℕ). Nested terms k (ty.named i)) (sym (past_the_last i past h)) (none (ty.named i))
      ]
      nested_by ty.bool h = none ty.bool
      nested_by (ty.number kind) h = none (ty.number kind)
      nested_by (ty.bits kind mask) h = none (ty.bits kind mask)
      nested_by (ty.enum kind values) h = none (ty.enum kind values)
      nested_by (ty.handle optional subtype rights) h = none (ty.handle optional subtype rights)
      nested_by (ty.string optional bound) h = none (ty.string optional bound)
      nested_by (ty.vector optional bound t) h = none (ty.vector optional bound t)
      nested_by (ty.box t) h = none (ty.box t)
      nested_by (ty.table rows) h = none (ty.table rows)
      nested_by (ty.union optional strict rows) h = none (ty.union optional strict rows)

      deepest : (fs : Fields) → IsTrue (are_settled known fs) → IsDeepest fs
      deepest no_fields h = tt
      deepest (field name t fs) h = deepen name t fs (nested_by t (both_left (is_settled known t) (are_settled known fs) h)) (deepest fs (both_right (is_settled known t) (are_settled known fs) h))

  module _ (known : List Bool) (long : length known ≡ length terms) (n : ℕ) (waiting : (i : ℕ) → get_or known i true ≡ false → Nested terms n (get_or terms i nothing)) where
    is_within : (i : ℕ) → get_or known i true ≡ false → i < length terms
    is_within i h = elim (cases_lt i (length known)) [
      | inl within ↦ omega (arith, within, long)
      | inr past ↦ let e = get_or_past known i true past in absurd (cc (e, h))
    ]

    mutual
      -- what waits for a definition that isn't known stands around it
      around : (t : Term) → is_settled known t ≡ false → Nested terms n t
      around (ty.array t c) h = fewer terms (suc n) n (ty.array t c) (omega arith) (in_array n t c (around t h))
      around (ty.struct fs) h = fewer terms (suc n) n (ty.struct fs) (omega arith) (let d = waits fs h in in_struct n fs d.u d.among d.nested)
      around (ty.named i) h = named n i (waiting i h) (is_within i h)
      around ty.bool h = cc
      around (ty.number kind) h = cc
      around (ty.bits kind mask) h = cc
      around (ty.enum kind values) h = cc
      around (ty.handle optional subtype rights) h = cc
      around (ty.string optional bound) h = cc
      around (ty.vector optional bound t) h = cc
      around (ty.box t) h = cc
      around (ty.table rows) h = cc
      around (ty.union optional strict rows) h = cc

      waits : (fs : Fields) → are_settled known fs ≡ false → Deepest n fs
      waits no_fields h = cc
      waits (field name t fs) h = elim (and_cases (is_settled known t) (are_settled known fs) h) [
        | inl first ↦ first_deepest name t fs n n refl (around t first)
        | inr later ↦ later_deepest name t fs n n refl (waits fs later)
      ]

    pub around_definition : (t : Term) → IsNoName t → is_settled known t ≡ false → Nested terms (suc n) t
    around_definition (ty.array t c) k h = in_array n t c (around t h)
    around_definition (ty.struct fs) k h = let d = waits fs h in in_struct n fs d.u d.among d.nested
    around_definition (ty.named i) k h = absurd k
    around_definition ty.bool k h = cc
    around_definition (ty.number kind) k h = cc
    around_definition (ty.bits kind mask) k h = cc
    around_definition (ty.enum kind values) k h = cc
    around_definition (ty.handle optional subtype rights) k h = cc
    around_definition (ty.string optional bound) k h = cc
    around_definition (ty.vector optional bound t) k h = cc
    around_definition (ty.box t) k h = cc
    around_definition (ty.table rows) k h = cc
    around_definition (ty.union optional strict rows) k h = cc

no_name : (d : Definition) → IsNoName (definition_view d)
no_name (Definitions.Bits kind mask) = tt
no_name (Definitions.Enum kind values) = tt
no_name (Definitions.Struct fields) = tt
no_name (Definitions.Table rows) = tt
no_name (Definitions.Union optional strict rows) = tt

-- a definition is no name
pub no_name_at : (ds : List Definition) (i : ℕ) → IsNoName (get_or (definitions_view ds) i nothing)
no_name_at [] i = tt
no_name_at (d ∷ ds) zero = no_name d
no_name_at (d ∷ ds) (suc i) = no_name_at ds i

-- a term stands in itself
pub itself : (t : Term) → Contains (parts t) t
itself (ty.array t n) = among_first (ty.array t n) (parts t)
itself (ty.struct fs) = among_first (ty.struct fs) (parts_of_fields fs)
itself (ty.named i) = among_first (ty.named i) []
itself ty.bool = among_first ty.bool []
itself (ty.number kind) = among_first (ty.number kind) []
itself (ty.bits kind mask) = among_first (ty.bits kind mask) []
itself (ty.enum kind values) = among_first (ty.enum kind values) []
itself (ty.handle optional subtype rights) = among_first (ty.handle optional subtype rights) []
itself (ty.string optional bound) = among_first (ty.string optional bound) []
itself (ty.vector optional bound t) = among_first (ty.vector optional bound t) (parts t)
itself (ty.box t) = among_first (ty.box t) (parts t)
itself (ty.table rows) = among_first (ty.table rows) (parts_of_rows rows)
itself (ty.union optional strict rows) = among_first (ty.union optional strict rows) (parts_of_rows rows)

-- after one more visit of all, more stand in one another from each definition on that isn't known
pub next_turn : (ds : List Definition) (before after : List Bool) → length before ≡ length ds → (n : ℕ) → ((i : ℕ) → get_or before i true ≡ false → Nested (definitions_view ds) n (get_or (definitions_view ds) i nothing)) → AllWait (definitions_view ds) before after → (i : ℕ) → get_or after i true ≡ false → Nested (definitions_view ds) (suc n) (get_or (definitions_view ds) i nothing)
next_turn ds before after long n h wait i unknown = around_definition (definitions_view ds) before (long ∙ sym (length-map ds definition_view)) n h (get_or (definitions_view ds) i nothing) (no_name_at ds i) (wait i unknown)

-- a definition from which on too many stand in one another is refused
pub too_nested : (terms : List Term) (i : ℕ) → i < length terms → IsNoName (get_or terms i nothing) → Nested terms (suc MAX_NEST) (get_or terms i nothing) → IsTooNested terms i
too_nested terms i within own h = record {
  definition = get_or terms i nothing;
  part = get_or terms i nothing;
  stands = slice_get-get_or terms i nothing within;
  among = itself (get_or terms i nothing);
  own = own;
  nested = h;
}
