use Rattle.fidl_decode_values.specs.Reading.{message}
use Rattle.fidl_decode_values.proofs.Fitting.{not_fewer}
use Rattle.fidl_decode_values.proofs.Unchanged.{no_ok}
use Rattle.std.proofs.Common.{◌≡◌, ◌+◌, ◌-◌, ◌∙◌, true, false, refl, sym, arith}
use Rattle.fidl_decode_model.specs.Machine.{at_of}
use Rattle.fidl_decode_model.specs.Envelopes.{IsUntil}
use Rattle.fidl_decode_model.proofs.Turning.{passed_on}
use Rattle.fidl_decode_values.proofs.LeafContent.{leaf_known, leaf_size, leaf_room, leaf_pays, leaf_breaks, end_room, end_less, leaf_over, leaf_miscounted, leaf_end_breaks, leaf_end_free}
use Rattle.fidl_decode_values.proofs.ReadyBelow.{content_ready}
use Rattle.fidl_decode.proofs.frames.Frames.read_whole.Goals as goal

no_true : false ≡ true → ⊥
no_true e = cc

pub overflow_add-at : goal.overflow_add-at
overflow_add-at c =
    let t = c.args.self.now.decoder.table.now in
    let m = message c.args.self.now.decoder in
    let room = leaf_room t c.args.self.now.decoder.fine m c.args.frame c.args.entry c.args.size 1 c.args.until c.requires.left refl (at_of c.args.state.now) c.requires.frame c.requires.state in
    record { fits = omega (arith, room.0, room.1, c.args.self.now.decoder.short) }

pub read_flat-requires-clause-entry : goal.read_flat-requires-clause-entry
read_flat-requires-clause-entry c =
    let t = c.args.self.now.decoder.table.now in
    let m = message c.args.self.now.decoder in
    leaf_known t c.args.self.now.decoder.fine m c.args.frame c.args.entry c.args.size 1 c.args.until c.requires.left refl (at_of c.args.state.now) c.requires.frame c.requires.state

pub read_flat-requires-clause-budget : goal.read_flat-requires-clause-budget
read_flat-requires-clause-budget c =
    let t = c.args.self.now.decoder.table.now in
    let m = message c.args.self.now.decoder in
    let pays = leaf_pays t c.args.self.now.decoder.fine m c.args.frame c.args.entry c.args.size 1 c.args.until c.requires.left refl (at_of c.args.state.now) c.requires.frame c.requires.state in
    omega (arith, c.requires.budget, pays)

pub read_flat-requires-clause-room : goal.read_flat-requires-clause-room
read_flat-requires-clause-room c =
    let t = c.args.self.now.decoder.table.now in
    let m = message c.args.self.now.decoder in
    let room = leaf_room t c.args.self.now.decoder.fine m c.args.frame c.args.entry c.args.size 1 c.args.until c.requires.left refl (at_of c.args.state.now) c.requires.frame c.requires.state in
    omega (arith, room.0, room.1)

pub returns-in_err-read_flat-clause-cost : goal.returns-in_err-read_flat-clause-cost
returns-in_err-read_flat-clause-cost c =
    let t = c.args.self.now.decoder.table.now in
    let m = message c.args.self.now.decoder in
    let pays = leaf_pays t c.args.self.now.decoder.fine m c.args.frame c.args.entry c.args.size 1 c.args.until c.requires.left refl (at_of c.args.state.now) c.requires.frame c.requires.state in
    let cost = c.in_err-read_flat.ensures.spends.most in
    omega (arith, cost, pays)

pub returns-in_err-read_flat-clause-fault_is_true : goal.returns-in_err-read_flat-clause-fault_is_true
returns-in_err-read_flat-clause-fault_is_true c =
    let t = c.args.self.now.decoder.table.now in
    let m = message c.args.self.now.decoder in
    passed_on c.from_residual.result c.in_err-read_flat.field-0.0 _ c.from_residual.ensures.1
    (leaf_breaks t c.args.self.now.decoder.fine m c.args.frame c.args.entry c.args.size 1 c.args.until c.requires.left refl (at_of c.args.state.now)
    c.requires.frame c.requires.state c.in_err-read_flat.field-0.0 c.in_err-read_flat.ensures.fault_is_true)

pub overflow_add-done : goal.overflow_add-done
overflow_add-done c =
    let t = c.args.self.now.decoder.table.now in
    let m = message c.args.self.now.decoder in
    let room = leaf_room t c.args.self.now.decoder.fine m c.args.frame c.args.entry c.args.size 1 c.args.until c.requires.left refl (at_of c.args.state.now) c.requires.frame c.requires.state in
    let size = leaf_size t c.args.self.now.decoder.fine m c.args.frame c.args.entry c.args.size 1 c.args.until c.requires.left refl (at_of c.args.state.now) c.requires.frame c.requires.state in
    record { fits = omega (arith, room.0, room.1, size, c.args.self.now.decoder.short) }

pub overflow_add-over : goal.overflow_add-over
overflow_add-over c =
    let t = c.args.self.now.decoder.table.now in
    let m = message c.args.self.now.decoder in
    let room = leaf_room t c.args.self.now.decoder.fine m c.args.frame c.args.entry c.args.size 1 c.args.until c.requires.left refl (at_of c.args.state.now) c.requires.frame c.requires.state in
    let size = leaf_size t c.args.self.now.decoder.fine m c.args.frame c.args.entry c.args.size 1 c.args.until c.requires.left refl (at_of c.args.state.now) c.requires.frame c.requires.state in
    record { fits = omega (arith, room.0, room.1, size, c.args.self.now.decoder.short) }

pub overflow_add-stop : goal.overflow_add-stop
overflow_add-stop c =
    let t = c.args.self.now.decoder.table.now in
    let m = message c.args.self.now.decoder in
    let room = leaf_room t c.args.self.now.decoder.fine m c.args.frame c.args.entry c.args.size 1 c.args.until c.requires.left refl (at_of c.args.state.now) c.requires.frame c.requires.state in
    record { fits = omega (arith, room.1, c.args.self.now.decoder.short) }

pub overflow_sub-state : goal.overflow_sub-state
overflow_sub-state c =
    let t = c.args.self.now.decoder.table.now in
    let m = message c.args.self.now.decoder in
    let end = end_room t c.args.self.now.decoder.fine m c.args.frame c.args.entry c.args.size 1 c.args.until c.requires.left refl (at_of c.args.state.now)
    c.requires.frame c.requires.state (at_of c.read_flat.new.state) (c.read_flat.new.state.steps - (c.args.state.now.steps + 1))
    c.in_ok-read_flat.ensures.ok in
    omega (arith, end.0)

pub overflow_add-state-2 : goal.overflow_add-state-2
overflow_add-state-2 c =
    let t = c.args.self.now.decoder.table.now in
    let m = message c.args.self.now.decoder in
    let room = leaf_room t c.args.self.now.decoder.fine m c.args.frame c.args.entry c.args.size 1 c.args.until c.requires.left refl (at_of c.args.state.now) c.requires.frame c.requires.state in
    record { fits = omega (arith, room.1, c.args.self.now.decoder.short) }

pub overflow_add-state-3 : goal.overflow_add-state-3
overflow_add-state-3 c =
    let t = c.args.self.now.decoder.table.now in
    let m = message c.args.self.now.decoder in
    let room = leaf_room t c.args.self.now.decoder.fine m c.args.frame c.args.entry c.args.size 1 c.args.until c.requires.left refl (at_of c.args.state.now) c.requires.frame c.requires.state in
    let end = end_room t c.args.self.now.decoder.fine m c.args.frame c.args.entry c.args.size 1 c.args.until c.requires.left refl (at_of c.args.state.now)
    c.requires.frame c.requires.state (at_of c.read_flat.new.state) (c.read_flat.new.state.steps - (c.args.state.now.steps + 1))
    c.in_ok-read_flat.ensures.ok in
    let less = end_less t c.args.self.now.decoder.fine m c.args.frame c.args.entry c.args.size 1 c.args.until c.requires.left refl (at_of c.args.state.now)
    c.requires.frame c.requires.state (at_of c.read_flat.new.state) (c.read_flat.new.state.steps - (c.args.state.now.steps + 1))
    c.in_ok-read_flat.ensures.ok in
    let grows = (not_fewer _ _ _ c.in_ok-read_flat.ensures.spends) in
    record { fits = omega (arith, room.1, c.args.self.now.decoder.short, c.requires.budget, less, end.1, grows) }

pub zeros_at-requires-clause-order : goal.zeros_at-requires-clause-order
zeros_at-requires-clause-order c =
    let t = c.args.self.now.decoder.table.now in
    let m = message c.args.self.now.decoder in
    let end = end_room t c.args.self.now.decoder.fine m c.args.frame c.args.entry c.args.size 1 c.args.until c.requires.left refl (at_of c.args.state.now)
    c.requires.frame c.requires.state (at_of c.read_flat.new.state) (c.read_flat.new.state.steps - (c.args.state.now.steps + 1))
    c.in_ok-read_flat.ensures.ok in
    omega (arith, end.0)

pub zeros_at-requires-clause-room : goal.zeros_at-requires-clause-room
zeros_at-requires-clause-room c =
    let t = c.args.self.now.decoder.table.now in
    let m = message c.args.self.now.decoder in
    let room = leaf_room t c.args.self.now.decoder.fine m c.args.frame c.args.entry c.args.size 1 c.args.until c.requires.left refl (at_of c.args.state.now) c.requires.frame c.requires.state in
    room.1

pub returns-in_err-zeros_at-clause-cost : goal.returns-in_err-zeros_at-clause-cost
returns-in_err-zeros_at-clause-cost c =
    let t = c.args.self.now.decoder.table.now in
    let m = message c.args.self.now.decoder in
    let end = end_room t c.args.self.now.decoder.fine m c.args.frame c.args.entry c.args.size 1 c.args.until c.requires.left refl (at_of c.args.state.now)
    c.requires.frame c.requires.state (at_of c.read_flat.new.state) (c.read_flat.new.state.steps - (c.args.state.now.steps + 1))
    c.in_ok-read_flat.ensures.ok in
    let less = end_less t c.args.self.now.decoder.fine m c.args.frame c.args.entry c.args.size 1 c.args.until c.requires.left refl (at_of c.args.state.now)
    c.requires.frame c.requires.state (at_of c.read_flat.new.state) (c.read_flat.new.state.steps - (c.args.state.now.steps + 1))
    c.in_ok-read_flat.ensures.ok in
    let grows = (not_fewer _ _ _ c.in_ok-read_flat.ensures.spends) in
    omega (arith, less, end.1, end.0, grows)

pub returns-in_err-zeros_at-clause-fault_is_true : goal.returns-in_err-zeros_at-clause-fault_is_true
returns-in_err-zeros_at-clause-fault_is_true c =
    let t = c.args.self.now.decoder.table.now in
    let m = message c.args.self.now.decoder in
    passed_on c.from_residual-in_err-zeros_at.result c.in_err-zeros_at.field-0.0 _ c.from_residual-in_err-zeros_at.ensures.1
    (leaf_end_breaks t c.args.self.now.decoder.fine m c.args.frame c.args.entry c.args.size 1 c.args.until c.requires.left refl (at_of c.args.state.now)
    c.requires.frame c.requires.state (at_of c.read_flat.new.state) (c.read_flat.new.state.steps - (c.args.state.now.steps + 1))
    c.in_ok-read_flat.ensures.ok c.in_err-zeros_at.field-0.0 c.in_err-zeros_at.ensures.fault_is_true)

pub returns-then-not-is_counted-clause-cost : goal.returns-then-not-is_counted-clause-cost
returns-then-not-is_counted-clause-cost c =
    let t = c.args.self.now.decoder.table.now in
    let m = message c.args.self.now.decoder in
    let end = end_room t c.args.self.now.decoder.fine m c.args.frame c.args.entry c.args.size 1 c.args.until c.requires.left refl (at_of c.args.state.now)
    c.requires.frame c.requires.state (at_of c.read_flat.new.state) (c.read_flat.new.state.steps - (c.args.state.now.steps + 1))
    c.in_ok-read_flat.ensures.ok in
    let less = end_less t c.args.self.now.decoder.fine m c.args.frame c.args.entry c.args.size 1 c.args.until c.requires.left refl (at_of c.args.state.now)
    c.requires.frame c.requires.state (at_of c.read_flat.new.state) (c.read_flat.new.state.steps - (c.args.state.now.steps + 1))
    c.in_ok-read_flat.ensures.ok in
    let grows = (not_fewer _ _ _ c.in_ok-read_flat.ensures.spends) in
    omega (arith, less, end.1, end.0, grows)

pub returns-then-not-is_counted-clause-fault_is_true : goal.returns-then-not-is_counted-clause-fault_is_true
returns-then-not-is_counted-clause-fault_is_true c =
    let t = c.args.self.now.decoder.table.now in
    let m = message c.args.self.now.decoder in
    let other : IsUntil c.args.until (at_of c.read_flat.new.state) → ⊥ = λ u. no_true (sym c.if-not-is_counted.true ∙ c.is_counted.ensures.1 u) in
    leaf_miscounted t c.args.self.now.decoder.fine m c.args.frame c.args.entry c.args.size 1 c.args.until c.requires.left refl (at_of c.args.state.now)
    c.requires.frame c.requires.state (at_of c.read_flat.new.state) (c.read_flat.new.state.steps - (c.args.state.now.steps + 1))
    c.in_ok-read_flat.ensures.ok c.in_ok-zeros_at.ensures.ok other

pub returns-clause-ok : goal.returns-clause-ok
returns-clause-ok c =
    let t = c.args.self.now.decoder.table.now in
    let m = message c.args.self.now.decoder in
    let grows = (not_fewer _ _ _ c.in_ok-read_flat.ensures.spends) in
    leaf_over t c.args.self.now.decoder.fine m c.args.frame c.args.entry c.args.size 1 c.args.until c.requires.left refl (at_of c.args.state.now)
    c.requires.frame c.requires.state (at_of c.read_flat.new.state) (c.read_flat.new.state.steps - (c.args.state.now.steps + 1))
    c.in_ok-read_flat.ensures.ok c.in_ok-zeros_at.ensures.ok (c.is_counted.ensures.0 c.if-not-is_counted.false) _ (omega (arith, grows))

pub returns-clause-rises : goal.returns-clause-rises
returns-clause-rises c =
    let grows = (not_fewer _ _ _ c.in_ok-read_flat.ensures.spends) in
    omega (arith, grows)

pub returns-clause-cost : goal.returns-clause-cost
returns-clause-cost c =
    let t = c.args.self.now.decoder.table.now in
    let m = message c.args.self.now.decoder in
    let end = end_room t c.args.self.now.decoder.fine m c.args.frame c.args.entry c.args.size 1 c.args.until c.requires.left refl (at_of c.args.state.now)
    c.requires.frame c.requires.state (at_of c.read_flat.new.state) (c.read_flat.new.state.steps - (c.args.state.now.steps + 1))
    c.in_ok-read_flat.ensures.ok in
    let less = end_less t c.args.self.now.decoder.fine m c.args.frame c.args.entry c.args.size 1 c.args.until c.requires.left refl (at_of c.args.state.now)
    c.requires.frame c.requires.state (at_of c.read_flat.new.state) (c.read_flat.new.state.steps - (c.args.state.now.steps + 1))
    c.in_ok-read_flat.ensures.ok in
    let grows = (not_fewer _ _ _ c.in_ok-read_flat.ensures.spends) in
    omega (arith, less, end.1, end.0, grows)

pub read_flat-requires-clause-kind : goal.read_flat-requires-clause-kind
read_flat-requires-clause-kind c = c.requires.kind

pub read_flat-requires-clause-flat : goal.read_flat-requires-clause-flat
read_flat-requires-clause-flat c = c.requires.flat

pub read_flat-requires-clause-state : goal.read_flat-requires-clause-state
read_flat-requires-clause-state c = c.requires.state

pub returns-in_err-read_flat-clause-ok : goal.returns-in_err-read_flat-clause-ok
returns-in_err-read_flat-clause-ok c = no_ok c.from_residual.result c.in_err-read_flat.field-0.0 _ c.from_residual.ensures.1

pub returns-in_err-read_flat-clause-rises : goal.returns-in_err-read_flat-clause-rises
returns-in_err-read_flat-clause-rises c = no_ok c.from_residual.result c.in_err-read_flat.field-0.0 _ c.from_residual.ensures.1

pub returns-in_err-zeros_at-clause-ok : goal.returns-in_err-zeros_at-clause-ok
returns-in_err-zeros_at-clause-ok c = no_ok c.from_residual-in_err-zeros_at.result c.in_err-zeros_at.field-0.0 _ c.from_residual-in_err-zeros_at.ensures.1

pub returns-in_err-zeros_at-clause-rises : goal.returns-in_err-zeros_at-clause-rises
returns-in_err-zeros_at-clause-rises c = no_ok c.from_residual-in_err-zeros_at.result c.in_err-zeros_at.field-0.0 _ c.from_residual-in_err-zeros_at.ensures.1

pub returns-then-not-is_counted-clause-ok : goal.returns-then-not-is_counted-clause-ok
returns-then-not-is_counted-clause-ok c = tt

pub returns-then-not-is_counted-clause-rises : goal.returns-then-not-is_counted-clause-rises
returns-then-not-is_counted-clause-rises c = tt

pub returns-clause-fault_is_true : goal.returns-clause-fault_is_true
returns-clause-fault_is_true c = tt

pub read_flat-requires-clause-ready : goal.read_flat-requires-clause-ready
read_flat-requires-clause-ready c = content_ready c.args.self.now.decoder.table.now (message c.args.self.now.decoder)
    (at_of c.args.state.now) c.args.self.now.decoder.fine c.args.frame c.args.entry c.args.size 1 c.args.until c.requires.left (omega arith) c.requires.frame c.requires.state c.requires.ready

pub zeros_at-requires-clause-free : goal.zeros_at-requires-clause-free
zeros_at-requires-clause-free c =
    let t = c.args.self.now.decoder.table.now in
    let m = message c.args.self.now.decoder in
    let old = at_of c.args.state.now in
    let new = c.read_flat.new.state in
    leaf_end_free t c.args.self.now.decoder.fine m c.args.frame c.args.entry c.args.size 1 c.args.until c.requires.left refl old c.requires.frame c.requires.state (at_of new) (new.steps - (c.args.state.now.steps + 1)) c.in_ok-read_flat.ensures.ok c.requires.ready
