use Rattle.fidl_decode_values.specs.Reading.{message}
use Rattle.std.proofs.Common.{arith}
use Rattle.std.proofs.lemmas.Result.{IfErr-weaker}
use Rattle.fidl_decode_model.specs.Machine.{at_of}
use Rattle.fidl_decode_model.proofs.Turning.{on_ok_from}
use Rattle.fidl_decode_values.proofs.Sequences.{elements_room, elements_over, elements_break}
use Rattle.fidl_decode_values.proofs.decoder.Decoder.pass_elements.Goals as goal

pub overflow_add-from : goal.overflow_add-from
overflow_add-from c =
    let room = elements_room c.args.self.now.table.now c.args.self.now.fine (message c.args.self.now) c.args.frame (at_of c.args.state.now)
    c.requires.frame c.requires.state c.args.entry c.args.size c.args.count c.requires.left c.requires.free (λ i. omega (arith, c.args.self.now.octets i)) in
    let before = room.0 in
    let within = room.1 in
    record { fits = omega (arith, before, within) }

pub overflow_mul-from : goal.overflow_mul-from
overflow_mul-from c =
    let room = elements_room c.args.self.now.table.now c.args.self.now.fine (message c.args.self.now) c.args.frame (at_of c.args.state.now)
    c.requires.frame c.requires.state c.args.entry c.args.size c.args.count c.requires.left c.requires.free (λ i. omega (arith, c.args.self.now.octets i)) in
    let before = room.0 in
    let within = room.1 in
    record { fits = omega (arith, before, within) }

pub overflow_add-from-2 : goal.overflow_add-from-2
overflow_add-from-2 c =
    let room = elements_room c.args.self.now.table.now c.args.self.now.fine (message c.args.self.now) c.args.frame (at_of c.args.state.now)
    c.requires.frame c.requires.state c.args.entry c.args.size c.args.count c.requires.left c.requires.free (λ i. omega (arith, c.args.self.now.octets i)) in
    let before = room.0 in
    let within = room.1 in
    record { fits = omega (arith, before, within) }

pub overflow_sub-state : goal.overflow_sub-state
overflow_sub-state c =
    let room = elements_room c.args.self.now.table.now c.args.self.now.fine (message c.args.self.now) c.args.frame (at_of c.args.state.now)
    c.requires.frame c.requires.state c.args.entry c.args.size c.args.count c.requires.left c.requires.free (λ i. omega (arith, c.args.self.now.octets i)) in
    let before = room.0 in
    let within = room.1 in
    omega (arith, before, within)

pub zeros_at-requires-clause-order : goal.zeros_at-requires-clause-order
zeros_at-requires-clause-order c =
    let room = elements_room c.args.self.now.table.now c.args.self.now.fine (message c.args.self.now) c.args.frame (at_of c.args.state.now)
    c.requires.frame c.requires.state c.args.entry c.args.size c.args.count c.requires.left c.requires.free (λ i. omega (arith, c.args.self.now.octets i)) in
    let before = room.0 in
    let within = room.1 in
    omega (arith, before, within)

pub returns-clause-ok : goal.returns-clause-ok
returns-clause-ok c =
    on_ok_from c.zeros_at.result
    (elements_over c.args.self.now.table.now c.args.self.now.fine (message c.args.self.now) c.args.frame (at_of c.args.state.now)
    c.requires.frame c.requires.state c.args.entry c.args.size c.args.count c.requires.left c.requires.free (λ i. omega (arith, c.args.self.now.octets i)) _ (omega arith)) c.zeros_at.ensures.ok

pub returns-clause-fault_is_true : goal.returns-clause-fault_is_true
returns-clause-fault_is_true c =
    IfErr-weaker c.zeros_at.result _ _
    (elements_break c.args.self.now.table.now c.args.self.now.fine (message c.args.self.now) c.args.frame (at_of c.args.state.now)
    c.requires.frame c.requires.state c.args.entry c.args.size c.args.count c.requires.left c.requires.free (λ i. omega (arith, c.args.self.now.octets i))) c.zeros_at.ensures.fault_is_true
