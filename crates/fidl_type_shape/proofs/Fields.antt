-- The members of a struct, as the code holds them.
use Rattle.std.proofs.Common.{◌≡◌, ℕ, zero, suc, ◌+◌, ◌≤◌, ◌<◌, ◌&&◌, max, Bool, true, false, IsTrue, List, [], ◌∷◌, length, get_or, drop, Result, Ok, Err, IfErr, refl, ap, sym, ◌∙◌, subst, arith}
use Rattle.std.specs.List.{Contains}
use Rattle.std.specs.Int.{next_multiple_of}
use Rattle.std.proofs.Math.Seq.{drop-cons}
use Rattle.fidl_wire.specs.Term.{Term, Fields, no_fields, field}
use Rattle.fidl_wire.specs.Term as ty
use Rattle.fidl_wire.specs.Figure.{figure, figure_of, struct_figure, end_of, align_of, nest_of}
use Rattle.fidl_wire.specs.Figure as wire
use Rattle.fidl_ir.specs.declared.term.Field.{Field}
use Rattle.fidl_ir.specs.declared.term.Row.{Row}
use Rattle.fidl_ir.specs.Terms.{term_view, fields_view, rows_view}
use Rattle.fidl_type_shape.specs.declared.figure.Figure.{Figure}
use Rattle.fidl_type_shape.specs.declared.fault.Refusal.{Refusal}
use Rattle.fidl_type_shape.specs.Limits.{parts_of_fields}
use Rattle.fidl_ir.specs.Members.{field_types, row_types}
use Rattle.fidl_type_shape.specs.Solutions.{is_settled, are_settled}
use Rattle.fidl_type_shape.specs.Excesses.{IsPast, HoldsPastInline, IsPastWithin}
use Rattle.fidl_type_shape.specs.declared.fault.Refusal.TheVariants.{Nest, Size, Members, Memory}
use Rattle.fidl_type_shape.proofs.Lists.{among_first, among_more}
use Rattle.fidl_type_shape.proofs.Flat.{field_type, fields_flat, among_flat}

-- there are as many members as the code holds
pub fields_counted : (fs : List Field) → length (field_types (fields_view fs)) ≡ length fs
fields_counted [] = refl
fields_counted (f ∷ fs) = ap suc (fields_counted fs)

pub rows_counted : (rs : List Row) → length (row_types (rows_view rs)) ≡ length rs
rows_counted [] = refl
rows_counted (r ∷ rs) = ap suc (rows_counted rs)

-- an alignment is at least 1
pub aligned_one : (figures : List wire.Figure) (fs : Fields) → max 1 (align_of figures fs) ≡ align_of figures fs
aligned_one figures no_fields = refl
aligned_one figures (field name t fs) = let e = aligned_one figures fs in omega (arith, e)

-- members end no sooner than they begin
next_rises : (x y : ℕ) → x ≤ next_multiple_of x y
next_rises x y = omega arith

end_rises : (figures : List wire.Figure) (from : ℕ) (fs : Fields) → from ≤ end_of figures from fs
end_rises figures from no_fields = omega arith
end_rises figures from (field name t fs) =
    let f = figure_of figures t in
    let below = end_rises figures (next_multiple_of from f.align + f.size) fs in
    let near = next_rises from f.align in
    omega (arith, below, near)

-- both of two tests
pub both_left : (a b : Bool) → IsTrue (a && b) → IsTrue a
both_left true b h = refl
both_left false b h = h

pub both_right : (a b : Bool) → IsTrue (a && b) → IsTrue b
both_right true b h = h
both_right false b h = cc

-- where the names of all members are chosen, those of one are
pub settled_field : (chosen : List Bool) (fs : List Field) (i : ℕ) (f : Field) → i < length fs → f ≡ get_or fs i f → IsTrue (are_settled chosen (fields_view fs)) → IsTrue (is_settled chosen (term_view f.of))
settled_field chosen [] i f within is h = absurd (omega (arith, within))
settled_field chosen (g ∷ fs) zero f within is h = subst (λ (k : Field). IsTrue (is_settled chosen (term_view k.of))) (sym is) (both_left (is_settled chosen (term_view g.of)) (are_settled chosen (fields_view fs)) h)
settled_field chosen (g ∷ fs) (suc i) f within is h = settled_field chosen fs i f (omega (arith, within)) is (both_right (is_settled chosen (term_view g.of)) (are_settled chosen (fields_view fs)) h)

-- what is past a limit in a member's type is so in the struct
pub past_in_struct : (figures : List wire.Figure) (fs : List Field) (i : ℕ) (f : Field) → i < length fs → f ≡ get_or fs i f → (refusal : Refusal) → HoldsPastInline figures (term_view f.of) refusal → HoldsPastInline figures (ty.struct (fields_view fs)) refusal
past_in_struct figures fs i f within is refusal h = record {
  part = h.part;
  among = among_more (ty.struct (fields_view fs)) h.part (parts_of_fields (fields_view fs)) (subst (λ (ts : List Term). Contains ts h.part) (sym (fields_flat fs)) (among_flat field_type fs i f within is h.part h.among));
  own = h.own;
  past = h.past;
  inline = λ chosen settled. h.inline chosen (settled_field chosen fs i f within is settled);
}

-- a struct that is past a limit itself, by the figure that its members come to
pub past_struct : (figures : List wire.Figure) (fs : Fields) (end align nest : ℕ) → end ≡ end_of figures 0 fs → align ≡ align_of figures fs → nest ≡ nest_of figures fs → (r : Result Figure Refusal) → IfErr r (λ refusal. IsPast refusal (struct_figure end align nest)) → IfErr r (HoldsPastInline figures (ty.struct fs))
past_struct figures fs end align nest e a n (Ok f) h = tt
past_struct figures fs end align nest e a n (Err refusal) h =
    let same : struct_figure end align nest ≡ figure_of figures (ty.struct fs) = λ i. struct_figure (e i) (a i) (n i) in
    record {
      part = ty.struct fs;
      among = among_first (ty.struct fs) (parts_of_fields fs);
      own = tt;
      past = subst (IsPast refusal) same h;
      inline = λ chosen settled. settled;
    }

-- a member of a struct begins within it
pub start_within : (figures : List wire.Figure) (fs : List Field) (i : ℕ) (f : Field) (end : ℕ) → i < length fs → f ≡ get_or fs i f → end_of figures end (fields_view (drop i fs)) ≡ end_of figures 0 (fields_view fs) → next_multiple_of end (figure_of figures (term_view f.of)).align ≤ (figure_of figures (ty.struct (fields_view fs))).size
start_within figures fs i f end within is h =
    let rest : drop i fs ≡ f ∷ drop (suc i) fs = drop-cons fs i f within ∙ ap (λ (g : Field). g ∷ drop (suc i) fs) (sym is) in
    let start = next_multiple_of end (figure_of figures (term_view f.of)).align in
    let behind = start + (figure_of figures (term_view f.of)).size in
    let same : end_of figures behind (fields_view (drop (suc i) fs)) ≡ end_of figures 0 (fields_view fs) = sym (ap (λ (gs : List Field). end_of figures end (fields_view gs)) rest) ∙ h in
    let below = end_rises figures behind (fields_view (drop (suc i) fs)) in
    let last = next_rises (max (end_of figures 0 (fields_view fs)) 1) (align_of figures (fields_view fs)) in
    omega (arith, same, below, last)

-- what is past a limit in a member's type is so within the struct
pub past_within : (figures : List wire.Figure) (fs : List Field) (i : ℕ) (f : Field) → i < length fs → f ≡ get_or fs i f → (refusal : Refusal) → HoldsPastInline figures (term_view f.of) refusal → IsPastWithin figures (ty.struct (fields_view fs)) refusal
past_within figures fs i f within is Nest h = let k = past_in_struct figures fs i f within is Nest h in record { part = k.part; among = k.among; own = k.own; past = k.past }
past_within figures fs i f within is Size h = let k = past_in_struct figures fs i f within is Size h in record { part = k.part; among = k.among; own = k.own; past = k.past }
past_within figures fs i f within is Members h = absurd h.past
past_within figures fs i f within is Memory h = absurd h.past
