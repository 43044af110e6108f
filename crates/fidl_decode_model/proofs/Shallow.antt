-- A value of at most four bytes has no object below it, so that its depth is 0.
use Rattle.std.proofs.Common.{◌≡◌, ℕ, ◌+◌, ◌*◌, ◌≤◌, arith, subst, refl, mul-suc}
use Rattle.std.specs.Int.{next_multiple_of}
use Rattle.fidl_wire.specs.Value.{Value, absent, bool, number, text, list, fields, handle, table, union, Values, none, value, count}
use Rattle.fidl_wire.specs.Term.{Term, Fields, no_fields, field, resolve}
use Rattle.fidl_wire.specs.Term as ty
use Rattle.fidl_wire.specs.Figure.{Declarations, IsLaidOut, figure_of, end_of, size_of}
use Rattle.fidl_wire.specs.Typed.{IsTyped, AllTyped, EachTyped}
use Rattle.fidl_wire.specs.Depth.{depth_of, elements_depth, fields_depth}
use Rattle.fidl_wire.proofs.Sizes.{size_of-resolve, end_of-le}
use Rattle.fidl_decode_model.proofs.Keeping.{ends_behind}

module _ (ds : Declarations) (laid : IsLaidOut ds) where
  mutual
    pub no_depth : (t : Term) (v : Value) → IsTyped ds t v → size_of ds t ≤ 4 → depth_of ds t v ≡ 0
    no_depth t absent h s = refl
    no_depth ty.bool (bool b) h s = refl
    no_depth (ty.number kind) (number z) h s = refl
    no_depth (ty.bits kind mask) (number z) h s = refl
    no_depth (ty.enum kind values) (number z) h s = refl
    no_depth (ty.string optional bound) (text bytes) h s = absurd (omega (arith, s))
    no_depth (ty.vector optional bound t) (list vs) h s = absurd (omega (arith, s))
    no_depth (ty.array t n) (list vs) h s = no_depth_elements (resolve ds.terms t) vs h.1 (rw (size_of-resolve ds laid t, h.0) s)
    no_depth (ty.struct fs) (fields vs) h s = no_depth_members fs 0 vs h (omega (arith, s, end_of-le ds fs))
    no_depth (ty.box t) (fields vs) h s = absurd (omega (arith, s))
    no_depth (ty.handle optional subtype rights) (handle i) h s = refl
    no_depth (ty.table rows) (table n ms) h s = absurd (omega (arith, s))
    no_depth (ty.union optional strict rows) (union ordinal m) h s = absurd (omega (arith, s))
    no_depth _ _ h s = absurd h

    no_depth_elements : (t : Term) (vs : Values) → AllTyped ds t vs → size_of ds t * count vs ≤ 4 → elements_depth ds t vs ≡ 0
    no_depth_elements t none h s = refl
    no_depth_elements t (value v vs) h s =
        let s' : size_of ds t * count vs + size_of ds t ≤ 4 = subst (λ k. k ≤ 4) (mul-suc (size_of ds t) (count vs)) s in
        omega (arith, no_depth t v h.0 (omega (arith, s')), no_depth_elements t vs h.1 (omega (arith, s')))

    no_depth_members : (fs : Fields) (from : ℕ) (vs : Values) → EachTyped ds fs vs → end_of ds.figures from fs ≤ 4 → fields_depth ds fs vs ≡ 0
    no_depth_members no_fields from none h s = refl
    no_depth_members (field name t fs) from (value v vs) h s =
        let f = figure_of ds.figures t in
        let at = next_multiple_of from f.align in
        omega (arith, no_depth (resolve ds.terms t) v h.0 (rw (size_of-resolve ds laid t) (omega (arith, s, ends_behind ds fs (at + f.size)))), no_depth_members fs (at + f.size) vs h.1 s)
    no_depth_members _ from _ h s = absurd h
