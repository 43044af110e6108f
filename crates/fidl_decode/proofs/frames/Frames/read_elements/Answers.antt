use Rattle.fidl_decode_values.specs.Reading.{message}
use Rattle.fidl_decode_values.proofs.Fitting.{le_more}
use Rattle.fidl_decode_values.proofs.Unchanged.{no_ok, same_le}
use Rattle.std.proofs.Common.{rules, ◌≡◌, sym, ap, ◌∙◌, arith}
use Rattle.std.specs.Prelude.{Some, None, true}
use Rattle.fidl_decode_model.specs.Invariants.{is_free}
use Rattle.fidl_table_format.specs.declared.record.Entry.{Entry}
use Rattle.fidl_table_format.specs.Kind.{kind_of}
use Rattle.fidl_table_format.specs.Section.{entry_at}
use Rattle.fidl_decode_model.specs.Machine.{at_of}
use Rattle.fidl_decode_model.proofs.Turning.{passed_on}
use Rattle.fidl_decode_columns.proofs.Leaves.{element_known, turns_stay}
use Rattle.fidl_decode_values.proofs.Sequences.{kind_free}
use Rattle.fidl_decode.proofs.frames.Frames.read_elements.Goals as goal

no_some : {A : Type 0} (a : A) → Some a ≡ None → ⊥
no_some a e = cc

pub entry-e-requires : goal.entry-e-requires
entry-e-requires c =
    element_known c.args.self.now.decoder.table.now c.args.self.now.decoder.fine (message c.args.self.now.decoder) c.args.frame (at_of c.args.state.now) c.requires.frame c.requires.state c.args.entry c.args.size c.args.count c.requires.left c.if-count-eq0.false

pub unreachable-requires : goal.unreachable-requires
unreachable-requires c =
    let f = c.args.self.now.decoder.fine.each c.args.entry (element_known c.args.self.now.decoder.table.now c.args.self.now.decoder.fine (message c.args.self.now.decoder) c.args.frame (at_of c.args.state.now) c.requires.frame c.requires.state c.args.entry c.args.size c.args.count
    c.requires.left c.if-count-eq0.false) in
    let none : kind_of (entry_at c.args.self.now.decoder.table.now c.args.entry).kind ≡ None = ap (λ (e : Entry). kind_of e.kind) (sym c.entry-e.ensures.value) ∙ sym c.from_number.ensures ∙ c.in_default.is in
    no_some f.0 (sym f.1.is ∙ none)

pub read_each-requires-clause-entry : goal.read_each-requires-clause-entry
read_each-requires-clause-entry c =
    element_known c.args.self.now.decoder.table.now c.args.self.now.decoder.fine (message c.args.self.now.decoder) c.args.frame (at_of c.args.state.now) c.requires.frame c.requires.state c.args.entry c.args.size c.args.count c.requires.left c.if-count-eq0.false

pub returns-in_err-read_each : goal.returns-in_err-read_each
returns-in_err-read_each c = record {
  holds = c.read_each.ensures.holds;
  ok = no_ok c.from_residual-in_err-read_each.result c.in_err-read_each.field-0.0 _ c.from_residual-in_err-read_each.ensures.1;
  grows = no_ok c.from_residual-in_err-read_each.result c.in_err-read_each.field-0.0 _ c.from_residual-in_err-read_each.ensures.1;
  ended = no_ok c.from_residual-in_err-read_each.result c.in_err-read_each.field-0.0 _ c.from_residual-in_err-read_each.ensures.1;
  cost = c.in_err-read_each.ensures.cost;
  fault_is_true = passed_on c.from_residual-in_err-read_each.result c.in_err-read_each.field-0.0 _ c.from_residual-in_err-read_each.ensures.1 c.in_err-read_each.ensures.fault_is_true;
}

pub returns-then-count-eq0-clause-ended : goal.returns-then-count-eq0-clause-ended
returns-then-count-eq0-clause-ended c = tt

pub returns-then-count-eq0-clause-fault_is_true : goal.returns-then-count-eq0-clause-fault_is_true
returns-then-count-eq0-clause-fault_is_true c = tt

pub returns-then-not-is_leaf-clause-ended : goal.returns-then-not-is_leaf-clause-ended
returns-then-not-is_leaf-clause-ended c = tt

pub returns-then-not-is_leaf-clause-fault_is_true : goal.returns-then-not-is_leaf-clause-fault_is_true
returns-then-not-is_leaf-clause-fault_is_true c = tt

pub read_each-requires-clause-frame : goal.read_each-requires-clause-frame
read_each-requires-clause-frame c = c.requires.frame

pub read_each-requires-clause-left : goal.read_each-requires-clause-left
read_each-requires-clause-left c = c.requires.left

pub read_each-requires-clause-state : goal.read_each-requires-clause-state
read_each-requires-clause-state c = c.requires.state

pub read_each-requires-clause-budget : goal.read_each-requires-clause-budget
read_each-requires-clause-budget c = c.requires.budget

pub returns-then-count-eq0-clause-grows : goal.returns-then-count-eq0-clause-grows
returns-then-count-eq0-clause-grows c = same_le _

pub returns-then-count-eq0-clause-cost : goal.returns-then-count-eq0-clause-cost
returns-then-count-eq0-clause-cost c = le_more _ _

pub returns-then-not-is_leaf-clause-grows : goal.returns-then-not-is_leaf-clause-grows
returns-then-not-is_leaf-clause-grows c = same_le _

pub returns-then-not-is_leaf-clause-cost : goal.returns-then-not-is_leaf-clause-cost
returns-then-not-is_leaf-clause-cost c = le_more _ _

pub is_leaf-requires : goal.is_leaf-requires
is_leaf-requires c = record {
  entry = element_known c.args.self.now.decoder.table.now c.args.self.now.decoder.fine (message c.args.self.now.decoder) c.args.frame (at_of c.args.state.now) c.requires.frame c.requires.state c.args.entry c.args.size c.args.count c.requires.left c.if-count-eq0.false;
  kind = ap (λ (e : Entry). kind_of e.kind) (sym c.entry-e.ensures.value) ∙ sym c.from_number.ensures ∙ c.in-Some.is;
}

pub pass_elements-requires-clause-free : goal.pass_elements-requires-clause-free
pass_elements-requires-clause-free c =
    let t = c.args.self.now.decoder.table.now in
    let free : is_free c.in-Some.kind (entry_at t c.args.entry) ≡ true = (let r = ap (λ (d : Entry). is_free c.in-Some.kind d) (sym c.entry-e.ensures.value) ∙ sym c.is_free.ensures in search (rules, r, c.if-is_free.true)) in
    kind_free t c.args.entry c.in-Some.kind (ap (λ (e : Entry). kind_of e.kind) (sym c.entry-e.ensures.value) ∙ sym c.from_number.ensures ∙ c.in-Some.is) free

pub returns-then-count-eq0-clause-ok : goal.returns-then-count-eq0-clause-ok
returns-then-count-eq0-clause-ok c = turns_stay c.args.self.now.decoder.table.now (message c.args.self.now.decoder) c.args.frame (at_of c.args.state.now) c.requires.frame c.requires.state _ (omega arith)

pub returns-then-not-is_leaf-clause-ok : goal.returns-then-not-is_leaf-clause-ok
returns-then-not-is_leaf-clause-ok c = turns_stay c.args.self.now.decoder.table.now (message c.args.self.now.decoder) c.args.frame (at_of c.args.state.now) c.requires.frame c.requires.state _ (omega arith)
