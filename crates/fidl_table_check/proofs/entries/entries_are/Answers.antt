use Rattle.std.proofs.Common.{◌≡◌, ℕ, Some, slice_get, length, map, inl, inr, subst, sym, arith}
use Rattle.std.proofs.Math.ListN.{length-map}
use Rattle.fidl_wire.specs.Term.{resolve}
use Rattle.fidl_equivalence.specs.Alike.{Alike, IsNumbered}
use Rattle.fidl_ir.specs.Terms.{definitions_view}
use Rattle.fidl_reachable_types.specs.Growing.{reference_view}
use Rattle.fidl_table_format.specs.Section.{header_of, entry_at}
use Rattle.fidl_table_format.specs.Terms.{term_of}
use Rattle.fidl_verify.proofs.Stated.{or_last}
use Rattle.fidl_table_check.proofs.Levels.{are_entries}
use Rattle.fidl_table_check.proofs.entries.entries_are.Goals as goal

pub loop-number-preserved : goal.loop-number-preserved
loop-number-preserved c = λ k t p at.
    let types = map reference_view c.args.types.now in
    let bytes = c.args.table.now in
    elim (or_last k c.loop-number.number (omega (arith, p))) [
      | inl less ↦ c.loop-number.invariant k t less at
      | inr e ↦
          let P : ℕ → Type 0 = λ i. slice_get types i ≡ Some t → Alike (λ t u. IsNumbered types t u) (resolve (definitions_view c.args.definitions.now) t) (term_of bytes (header_of bytes) (entry_at bytes i)) in
          subst P (sym e) (c.entry_is.ensures c.if-not-entry_is.false t) at
    ]

pub returns : goal.returns
returns c = λ is figures.
    let types = map reference_view c.args.types.now in
    let long : (header_of c.args.table.now).entries ≡ length types = omega (arith, length-map c.args.types.now reference_view) in
    are_entries (record { terms = definitions_view c.args.definitions.now; figures = figures }) types c.args.table.now long (λ k t p at. c.loop-number.invariant k t (omega (arith, p)) at)
