use Rattle.std.proofs.Common.{◌≡◌, ◌+◌, sym, ap, subst, ◌∙◌, arith, inl, inr}
use Rattle.std.specs.Prelude.{Some}
use Rattle.std.proofs.lemmas.Bool.{cases_eq}
use Rattle.fidl_table_format.specs.declared.record.Row as raw
use Rattle.fidl_table_format.specs.declared.record.Entry.{Entry}
use Rattle.fidl_table_format.specs.Kind.{kind_of}
use Rattle.fidl_table_format.specs.Section.{header_of, entry_at, row_at}
use Rattle.fidl_decode_model.specs.Invariants.{is_leaf, IsLeafAt}
use Rattle.fidl_decode_values.proofs.decoder.Decoder.are_leaves.Goals as goal

pub loop-i-preserved : goal.loop-i-preserved
loop-i-preserved c =
    λ i from below.
    let t = c.args.self.now.table.now in
    let own = c.row-entry.ensures.value in
    let is : kind_of (entry_at t (row_at t (header_of t) (c.args.first + c.loop-i.i)).entry).kind ≡ Some c.in-Some.kind = ap (λ (w : raw.Row). kind_of (entry_at t w.entry).kind) (sym own) ∙ ap (λ (e : Entry). kind_of e.kind) (sym c.entry-e.ensures.value) ∙ sym c.from_number.ensures ∙ c.in-Some.is in
    elim (cases_eq i (c.args.first + c.loop-i.i)) [
      | inl same ↦ subst (λ n. IsLeafAt t (row_at t (header_of t) n).entry) (sym same)
          (c.in-Some.kind, is, ap (λ (w : raw.Row). is_leaf t (entry_at t w.entry) c.in-Some.kind) (sym own) ∙ sym c.is_leaf.ensures ∙ c.if-not-is_leaf.false)
      | inr other ↦ c.loop-i.invariant i from (omega (arith, below, other))
    ]

pub returns : goal.returns
returns c =
    λ so i from below.
    c.loop-i.invariant i from (omega (arith, below, c.loop-i-test.false))

pub is_leaf-requires-clause-kind : goal.is_leaf-requires-clause-kind
is_leaf-requires-clause-kind c = ap (λ (e : Entry). kind_of e.kind) (sym c.entry-e.ensures.value) ∙ sym c.from_number.ensures ∙ c.in-Some.is
