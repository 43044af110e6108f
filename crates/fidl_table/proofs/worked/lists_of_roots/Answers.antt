use Rattle.std.proofs.Common.{◌<◌, ℕ, zero, suc, List, inl, inr, subst, sym, arith}
use Rattle.fidl_tree.specs.declared.file.File.{File}
use Rattle.fidl_wire.specs.Figure.{Declarations}
use Rattle.fidl_table.specs.Roots.{IsRootOf}
use Rattle.fidl_table.specs.Samples.{two_roots}
use Rattle.fidl_table.proofs.worked.lists_of_roots.Goals as goal

abbrev Is : List File → Declarations → (definition root : ℕ) → Type 0
Is files ds = IsRootOf files ds (two_roots 16 0 1)

one_of_two : (files : List File) (ds : Declarations) → Is files ds 2 0 → Is files ds 0 1 → (root : ℕ) → root < 2 → (definition : ℕ) × Is files ds definition root
one_of_two files ds a b zero lt = (2, a)
one_of_two files ds a b (suc zero) lt = (0, b)
one_of_two files ds a b (suc (suc n)) lt = absurd (omega (arith, lt))

pub returns-clause-both : goal.returns-clause-both
returns-clause-both c = λ files ds only a b. record {
  sound = one_of_two files ds a b;
  complete = λ i at. elim (only i at) [
    | inl is ↦ (0, omega arith, subst (λ i. Is files ds i 0) (sym is) a)
    | inr is ↦ (1, omega arith, subst (λ i. Is files ds i 1) (sym is) b)
  ];
}

pub returns-clause-fewer : goal.returns-clause-fewer
returns-clause-fewer c = λ files ds i at h.
    let r = h.complete i at in
    let lt : r.0 < 0 = r.1 in
    omega (arith, lt)
