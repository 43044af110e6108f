-- Figures that agree on what stands inline in a term give it one figure.
use Rattle.std.proofs.Common.{◌≡◌, ℕ, suc, ◌+◌, ◌*◌, max, Bool, true, IsTrue, List, get_or, refl, ap, ◌∙◌}
use Rattle.std.specs.Int.{next_multiple_of}
use Rattle.std.proofs.lemmas.Bool.{and_from}
use Rattle.fidl_wire.specs.Term.{Term, Fields, no_fields, field}
use Rattle.fidl_wire.specs.Term as ty
use Rattle.fidl_wire.specs.Figure.{Figure, figure, struct_figure, figure_of, end_of, align_of, nest_of}
use Rattle.fidl_type_shape.specs.Solutions.{is_settled, are_settled}
use Rattle.fidl_type_shape.proofs.Fields.{both_left, both_right}

module _ (a b : List Figure) (chosen : List Bool) (agree : (i : ℕ) → IsTrue (get_or chosen i true) → get_or a i (figure 1 1 0) ≡ get_or b i (figure 1 1 0)) where
  record AreSame (fs : Fields) : Type 0 where
    ends : (from : ℕ) → end_of a from fs ≡ end_of b from fs
    aligns : align_of a fs ≡ align_of b fs
    nests : nest_of a fs ≡ nest_of b fs

  mutual
    pub same_by : (t : Term) → IsTrue (is_settled chosen t) → figure_of a t ≡ figure_of b t
    same_by (ty.array t n) h = ap (λ (f : Figure). figure (f.size * n) f.align (suc f.nest)) (same_by t h)
    same_by (ty.struct fs) h = let r = are_same fs h in λ i. struct_figure (r.ends 0 i) (r.aligns i) (r.nests i)
    same_by (ty.named i) h = agree i h
    same_by ty.bool h = refl
    same_by (ty.number kind) h = refl
    same_by (ty.bits kind mask) h = refl
    same_by (ty.enum kind values) h = refl
    same_by (ty.handle optional subtype rights) h = refl
    same_by (ty.string optional bound) h = refl
    same_by (ty.vector optional bound t) h = refl
    same_by (ty.box t) h = refl
    same_by (ty.table rows) h = refl
    same_by (ty.union optional strict rows) h = refl

    are_same : (fs : Fields) → IsTrue (are_settled chosen fs) → AreSame fs
    are_same no_fields h = record { ends = λ from. refl; aligns = refl; nests = refl }
    are_same (field name t fs) h =
        let e = same_by t (both_left (is_settled chosen t) (are_settled chosen fs) h) in
        let r = are_same fs (both_right (is_settled chosen t) (are_settled chosen fs) h) in
        record {
          ends = λ from. ap (λ (k : Figure). end_of a (next_multiple_of from k.align + k.size) fs) e ∙ r.ends (next_multiple_of from (figure_of b t).align + (figure_of b t).size);
          aligns = λ i. max (e i).align (r.aligns i);
          nests = λ i. max (e i).nest (r.nests i);
        }

module _ (less more : List Bool) (grows : (i : ℕ) → IsTrue (get_or less i true) → IsTrue (get_or more i true)) where
  mutual
    -- what is settled by some is settled by more
    pub settled_more : (t : Term) → IsTrue (is_settled less t) → IsTrue (is_settled more t)
    settled_more (ty.array t n) h = settled_more t h
    settled_more (ty.struct fs) h = are_settled_more fs h
    settled_more (ty.named i) h = grows i h
    settled_more ty.bool h = refl
    settled_more (ty.number kind) h = refl
    settled_more (ty.bits kind mask) h = refl
    settled_more (ty.enum kind values) h = refl
    settled_more (ty.handle optional subtype rights) h = refl
    settled_more (ty.string optional bound) h = refl
    settled_more (ty.vector optional bound t) h = refl
    settled_more (ty.box t) h = refl
    settled_more (ty.table rows) h = refl
    settled_more (ty.union optional strict rows) h = refl

    are_settled_more : (fs : Fields) → IsTrue (are_settled less fs) → IsTrue (are_settled more fs)
    are_settled_more no_fields h = refl
    are_settled_more (field name t fs) h =
        and_from (is_settled more t) (are_settled more fs) (settled_more t (both_left (is_settled less t) (are_settled less fs) h)) (are_settled_more fs (both_right (is_settled less t) (are_settled less fs) h))

-- where all are known, everything is settled
mutual
  pub settled_all : (known : List Bool) → ((i : ℕ) → IsTrue (get_or known i true)) → (t : Term) → IsTrue (is_settled known t)
  settled_all known all (ty.array t n) = settled_all known all t
  settled_all known all (ty.struct fs) = are_settled_all known all fs
  settled_all known all (ty.named i) = all i
  settled_all known all ty.bool = refl
  settled_all known all (ty.number kind) = refl
  settled_all known all (ty.bits kind mask) = refl
  settled_all known all (ty.enum kind values) = refl
  settled_all known all (ty.handle optional subtype rights) = refl
  settled_all known all (ty.string optional bound) = refl
  settled_all known all (ty.vector optional bound t) = refl
  settled_all known all (ty.box t) = refl
  settled_all known all (ty.table rows) = refl
  settled_all known all (ty.union optional strict rows) = refl

  are_settled_all : (known : List Bool) → ((i : ℕ) → IsTrue (get_or known i true)) → (fs : Fields) → IsTrue (are_settled known fs)
  are_settled_all known all no_fields = refl
  are_settled_all known all (field name t fs) = and_from (is_settled known t) (are_settled known fs) (settled_all known all t) (are_settled_all known all fs)
