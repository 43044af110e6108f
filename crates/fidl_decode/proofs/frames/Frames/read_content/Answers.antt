use Rattle.fidl_decode_values.specs.Reading.{message}
use Rattle.fidl_decode_values.proofs.Fitting.{le_more, lt_le}
use Rattle.fidl_decode_values.proofs.Unchanged.{no_ok, same_le}
use Rattle.std.proofs.Common.{◌≡◌, sym, ap, ◌∙◌, arith}
use Rattle.std.specs.Prelude.{Some, None}
use Rattle.fidl_table_format.specs.declared.record.Entry.{Entry}
use Rattle.fidl_table_format.specs.Kind.{kind_of}
use Rattle.fidl_table_format.specs.Section.{entry_at}
use Rattle.fidl_decode_model.specs.declared.frame.Remaining.TheVariants.{Content}
use Rattle.fidl_decode_model.specs.Machine.{at_of}
use Rattle.fidl_decode_model.proofs.Turning.{passed_on}
use Rattle.fidl_decode_values.proofs.LeafContent.{leaf_known}
use Rattle.fidl_decode_columns.proofs.Leaves.{turns_stay}
use Rattle.fidl_decode.proofs.frames.Frames.read_content.Goals as goal

no_some : {A : Type 0} (a : A) → Some a ≡ None → ⊥
no_some a e = cc

pub entry-e-requires : goal.entry-e-requires
entry-e-requires c =
    let t = c.args.self.now.decoder.table.now in
    let m = message c.args.self.now.decoder in
    leaf_known t c.args.self.now.decoder.fine m c.args.frame c.args.entry c.args.size c.args.count c.args.until c.requires.left c.if-count-ne1.false (at_of c.args.state.now) c.requires.frame c.requires.state

pub unreachable-requires : goal.unreachable-requires
unreachable-requires c =
    let t = c.args.self.now.decoder.table.now in
    let m = message c.args.self.now.decoder in
    let f = c.args.self.now.decoder.fine.each c.args.entry (leaf_known t c.args.self.now.decoder.fine m c.args.frame c.args.entry c.args.size c.args.count c.args.until c.requires.left c.if-count-ne1.false (at_of c.args.state.now) c.requires.frame c.requires.state) in
    let none : kind_of (entry_at t c.args.entry).kind ≡ None = ap (λ (e : Entry). kind_of e.kind) (sym c.entry-e.ensures.value) ∙ sym c.from_number.ensures ∙ c.in_default.is in
    no_some f.0 (sym f.1.is ∙ none)

pub is_flat-requires : goal.is_flat-requires
is_flat-requires c = record {
  entry = leaf_known c.args.self.now.decoder.table.now c.args.self.now.decoder.fine (message c.args.self.now.decoder) c.args.frame c.args.entry c.args.size c.args.count c.args.until c.requires.left c.if-count-ne1.false (at_of c.args.state.now) c.requires.frame c.requires.state;
  kind = ap (λ (e : Entry). kind_of e.kind) (sym c.entry-e.ensures.value) ∙ sym c.from_number.ensures ∙ c.in-Some.is;
}

pub read_whole-requires-clause-kind : goal.read_whole-requires-clause-kind
read_whole-requires-clause-kind c =
    ap (λ (e : Entry). kind_of e.kind) (sym c.entry-e.ensures.value) ∙ sym c.from_number.ensures ∙ c.in-Some.is

pub read_whole-requires-clause-flat : goal.read_whole-requires-clause-flat
read_whole-requires-clause-flat c =
    c.is_flat.ensures c.if-not-is_flat.false

pub read_whole-requires-clause-left : goal.read_whole-requires-clause-left
read_whole-requires-clause-left c =
    c.requires.left ∙ ap (λ n. Content c.args.entry c.args.size n c.args.until) c.if-count-ne1.false

pub returns-then-count-ne1-clause-ended : goal.returns-then-count-ne1-clause-ended
returns-then-count-ne1-clause-ended c = tt

pub returns-then-count-ne1-clause-fault_is_true : goal.returns-then-count-ne1-clause-fault_is_true
returns-then-count-ne1-clause-fault_is_true c = tt

pub returns-then-not-is_flat-clause-ended : goal.returns-then-not-is_flat-clause-ended
returns-then-not-is_flat-clause-ended c = tt

pub returns-then-not-is_flat-clause-fault_is_true : goal.returns-then-not-is_flat-clause-fault_is_true
returns-then-not-is_flat-clause-fault_is_true c = tt

pub read_whole-requires-clause-frame : goal.read_whole-requires-clause-frame
read_whole-requires-clause-frame c = c.requires.frame

pub read_whole-requires-clause-state : goal.read_whole-requires-clause-state
read_whole-requires-clause-state c = c.requires.state

pub read_whole-requires-clause-budget : goal.read_whole-requires-clause-budget
read_whole-requires-clause-budget c = c.requires.budget

pub returns-in_err-read_whole-clause-ok : goal.returns-in_err-read_whole-clause-ok
returns-in_err-read_whole-clause-ok c = no_ok c.from_residual.result c.in_err-read_whole.field-0.0 _ c.from_residual.ensures.1

pub returns-in_err-read_whole-clause-grows : goal.returns-in_err-read_whole-clause-grows
returns-in_err-read_whole-clause-grows c = no_ok c.from_residual.result c.in_err-read_whole.field-0.0 _ c.from_residual.ensures.1

pub returns-in_err-read_whole-clause-ended : goal.returns-in_err-read_whole-clause-ended
returns-in_err-read_whole-clause-ended c = no_ok c.from_residual.result c.in_err-read_whole.field-0.0 _ c.from_residual.ensures.1

pub returns-in_err-read_whole-clause-cost : goal.returns-in_err-read_whole-clause-cost
returns-in_err-read_whole-clause-cost c = c.in_err-read_whole.ensures.cost

pub returns-in_err-read_whole-clause-fault_is_true : goal.returns-in_err-read_whole-clause-fault_is_true
returns-in_err-read_whole-clause-fault_is_true c = passed_on c.from_residual.result c.in_err-read_whole.field-0.0 _ c.from_residual.ensures.1 c.in_err-read_whole.ensures.fault_is_true

pub returns-clause-fault_is_true : goal.returns-clause-fault_is_true
returns-clause-fault_is_true c = tt

pub returns-clause-ok : goal.returns-clause-ok
returns-clause-ok c = c.in_ok-read_whole.ensures.ok

pub returns-clause-grows : goal.returns-clause-grows
returns-clause-grows c = lt_le _ _ c.in_ok-read_whole.ensures.rises

pub returns-clause-ended : goal.returns-clause-ended
returns-clause-ended c = c.in_ok-read_whole.ensures.rises

pub returns-clause-cost : goal.returns-clause-cost
returns-clause-cost c = c.in_ok-read_whole.ensures.cost

pub returns-then-count-ne1-clause-grows : goal.returns-then-count-ne1-clause-grows
returns-then-count-ne1-clause-grows c = same_le _

pub returns-then-count-ne1-clause-cost : goal.returns-then-count-ne1-clause-cost
returns-then-count-ne1-clause-cost c = le_more _ _

pub returns-then-not-is_flat-clause-grows : goal.returns-then-not-is_flat-clause-grows
returns-then-not-is_flat-clause-grows c = same_le _

pub returns-then-not-is_flat-clause-cost : goal.returns-then-not-is_flat-clause-cost
returns-then-not-is_flat-clause-cost c = le_more _ _

pub returns-then-count-ne1-clause-ok : goal.returns-then-count-ne1-clause-ok
returns-then-count-ne1-clause-ok c = turns_stay c.args.self.now.decoder.table.now (message c.args.self.now.decoder) c.args.frame (at_of c.args.state.now) c.requires.frame c.requires.state _ (omega arith)

pub returns-then-not-is_flat-clause-ok : goal.returns-then-not-is_flat-clause-ok
returns-then-not-is_flat-clause-ok c = turns_stay c.args.self.now.decoder.table.now (message c.args.self.now.decoder) c.args.frame (at_of c.args.state.now) c.requires.frame c.requires.state _ (omega arith)
