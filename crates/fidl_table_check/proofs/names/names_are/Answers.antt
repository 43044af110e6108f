use Rattle.std.proofs.Common.{◌≡◌, ℕ, Some, slice_get, map, inl, inr, subst, sym, arith}
use Rattle.std.proofs.Math.ListN.{length-map}
use Rattle.std.proofs.lemmas.Option.{slice_get_within}
use Rattle.fidl_wire.specs.Term as ty
use Rattle.fidl_reachable_types.specs.Growing.{reference_view}
use Rattle.fidl_table_check.specs.Numbered.{entry_name}
use Rattle.fidl_verify.proofs.Stated.{or_last}
use Rattle.fidl_table_check.proofs.names.names_are.Goals as goal

pub loop-number-preserved : goal.loop-number-preserved
loop-number-preserved c = λ number i p at.
    let types = map reference_view c.args.types.now in
    let names = map (λ name. name.items) c.args.names.now in
    elim (or_last number c.loop-number.number (omega (arith, p))) [
      | inl less ↦ c.loop-number.invariant number i less at
      | inr e ↦
          let P : ℕ → Type 0 = λ k. slice_get types k ≡ Some (ty.named i) → slice_get names i ≡ Some (entry_name c.args.table.now k) in
          subst P (sym e) (c.has_name.ensures c.if-not-has_name.false i) at
    ]

pub returns : goal.returns
returns c = λ is number i at.
    let types = map reference_view c.args.types.now in
    c.loop-number.invariant number i (omega (arith, slice_get_within types number (ty.named i) at, length-map c.args.types.now reference_view)) at
