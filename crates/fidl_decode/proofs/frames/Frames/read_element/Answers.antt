use Rattle.fidl_decode_values.specs.Reading.{message}
use Rattle.std.proofs.Common.{◌+◌, ◌≤◌, sym, subst, arith}
use Rattle.std.specs.Prelude.{length}
use Rattle.std.proofs.lemmas.Result.{IfErr-weaker}
use Rattle.fidl_table_format.specs.declared.kind.EntryKind.TheVariants.{Table}
use Rattle.fidl_decode_model.specs.Machine.{at_of}
use Rattle.fidl_decode_model.proofs.Visiting.{size_as, leaf_breaks}
use Rattle.fidl_decode_columns.proofs.Wholly.{leaf_cost}
use Rattle.fidl_decode_values.proofs.Fitting.{le_one}
use Rattle.fidl_decode.proofs.Flags.{is_set}
use Rattle.fidl_decode_values.proofs.ReadyPlaces.{place_of}
use Rattle.fidl_decode.proofs.frames.Frames.read_element.Goals as goal

pub read_table-requires-clause-room : goal.read_table-requires-clause-room
read_table-requires-clause-room g c = subst (λ n. c.args.place + n ≤ length c.args.self.now.decoder.bytes.value.came)
    (sym (size_as c.args.self.now.decoder.table.now c.args.self.now.decoder.fine c.args.entry Table c.requires.entry (c.requires.kind (is_set g.row.TABLES c.if-this-ne0.true)))) c.requires.room

pub read_table-requires-clause-kind : goal.read_table-requires-clause-kind
read_table-requires-clause-kind g c = c.requires.kind (is_set g.row.TABLES c.if-this-ne0.true)

pub read_table-requires-clause-ready : goal.read_table-requires-clause-ready
read_table-requires-clause-ready g c = place_of c.args.self.now.decoder.table.now c.args.self.now.decoder.fine (message c.args.self.now.decoder) (at_of c.args.state.now) c.args.entry c.args.place Table c.requires.entry (c.requires.kind (is_set g.row.TABLES c.if-this-ne0.true)) c.requires.ready

pub returns-then-this-ne0-clause-fine : goal.returns-then-this-ne0-clause-fine
returns-then-this-ne0-clause-fine g c = c.read_table.ensures.fine c.args.in_envelope (le_one c.args.in_envelope _ c.requires.in_envelope)

pub returns-then-this-ne0-clause-fault_is_true : goal.returns-then-this-ne0-clause-fault_is_true
returns-then-this-ne0-clause-fault_is_true g c =
    IfErr-weaker c.read_table.result _ _ (λ fault b. leaf_breaks c.args.self.now.decoder.table.now c.args.self.now.decoder.fine (message c.args.self.now.decoder) c.args.depth
    c.args.entry c.args.place (at_of c.args.state.now) c.requires.entry c.requires.state c.requires.depth Table (c.requires.kind (is_set g.row.TABLES c.if-this-ne0.true)) fault b)
    c.read_table.ensures.fault_is_true

pub read_table-requires-clause-budget : goal.read_table-requires-clause-budget
read_table-requires-clause-budget g c = omega (arith, c.requires.budget)

pub returns-then-this-ne0-clause-cost : goal.returns-then-this-ne0-clause-cost
returns-then-this-ne0-clause-cost g c =
    let within = leaf_cost c.args.self.now.decoder.table.now c.args.self.now.decoder.fine c.args.self.now.decoder.bytes.value.came c.args.state.now.next c.args.entry c.requires.entry in
    omega (arith, within, c.read_table.ensures.spends.most)

pub returns-then-pass_item-clause-cost : goal.returns-then-pass_item-clause-cost
returns-then-pass_item-clause-cost g c =
    let within = leaf_cost c.args.self.now.decoder.table.now c.args.self.now.decoder.fine c.args.self.now.decoder.bytes.value.came c.args.state.now.next c.args.entry c.requires.entry in
    let v = c.pass_item.ensures.passed c.if-pass_item.true in
    let next = v.state.next in
    omega (arith, within, c.pass_item.ensures.pays, next)
