use Rattle.std.proofs.Common.{◌≡◌, ◌∙◌, ◌+◌, ℕ, Some, slice_get, map, inl, inr, ap, subst, sym, arith}
use Rattle.std.proofs.lemmas.Option.{get_or_from_slice_get, slice_get_within}
use Rattle.fidl_reachable_types.specs.Growing.{reference_view}
use Rattle.fidl_verify.proofs.Stated.{or_last}
use Rattle.fidl_table_build.specs.declared.listing.MethodEntry.{MethodEntry}
use Rattle.fidl_table_build.specs.Methods.{ShowsMethod}
use Rattle.fidl_table_build.proofs.shown_protocols.are_methods.Goals as goal

pub loop-place-preserved : goal.loop-place-preserved
loop-place-preserved c = λ k m p at. elim (or_last k c.loop-place.place (omega (arith, p))) [
  | inl less ↦ c.loop-place.invariant k m less at
  | inr e ↦
      let place = c.loop-place.place in
      let Shown : MethodEntry → ℕ → Type 0 = λ x i. ShowsMethod (map reference_view c.args.types.now) c.args.records.now x i in
      let is : c.index-methods-place.result ≡ m = c.index-methods-place.is ∙ get_or_from_slice_get c.args.methods.now place m c.index-methods-place.result (subst (λ i. slice_get c.args.methods.now i ≡ Some m) e at) in
      let number : c.in-Some.number ≡ c.args.first + k = c.in-Some.ensures ∙ ap (λ i. c.args.first + i) (sym e) in
      subst (Shown m) number (subst (λ x. Shown x c.in-Some.number) is (c.is_method.ensures c.if-not-is_method.false))
]

pub returns : goal.returns
returns c = λ is k m at. c.loop-place.invariant k m (omega (arith, slice_get_within c.args.methods.now k m at, c.loop-place-test.false)) at
