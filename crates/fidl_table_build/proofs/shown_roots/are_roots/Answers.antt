use Rattle.std.proofs.Common.{◌≡◌, ◌∙◌, ℕ, List, Vec, Global, get_or, length, map, inl, inr, subst, sym, arith}
use Rattle.std.proofs.lemmas.Option.{get_or_from_slice_get, slice_get_within}
use Rattle.fidl_reachable_types.specs.Growing.{reference_view}
use Rattle.fidl_verify.proofs.Stated.{or_last}
use Rattle.fidl_table_build.specs.Roots.{ShowsRoot}
use Rattle.fidl_table_build.proofs.shown_roots.are_roots.Goals as goal

bytes_of : Vec ℕ Global → List ℕ
bytes_of name = name.items

pub loop-index-preserved : goal.loop-index-preserved
loop-index-preserved c = λ k d p at. elim (or_last k c.loop-index.index (omega (arith, p))) [
  | inl less ↦ c.loop-index.invariant k d less at
  | inr e ↦
      let Shown : ℕ → ℕ → Type 0 = λ x i. ShowsRoot (map (λ v. v.items) c.args.names.now) (map reference_view c.args.types.now) c.args.records.now x i in
      subst (λ x. Shown x k) (get_or_from_slice_get c.args.roots.now k d 0 at)
      (subst (λ i. Shown (get_or c.args.roots.now i 0) i) (sym e) (c.is_root.ensures c.if-not-is_root.false))
]

pub returns : goal.returns
returns c = λ is.
    let end : c.roots-index-end.result ≡ length c.args.roots.now = c.roots-index-end.ensures ∙ sym c.roots.ensures ∙ c.if-roots.false in
    record {
      count = sym c.roots.ensures ∙ c.if-roots.false;
      each = λ k d at. c.loop-index.invariant k d (omega (arith, slice_get_within c.args.roots.now k d at, c.loop-index-test.false, end)) at;
    }
