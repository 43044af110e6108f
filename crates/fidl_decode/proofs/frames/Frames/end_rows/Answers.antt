use Rattle.fidl_decode_values.specs.Reading.{message}
use Rattle.fidl_decode_values.proofs.Fitting.{spends_some}
use Rattle.std.proofs.Common.{refl, arith}
use Rattle.fidl_decode_model.specs.Machine.{at_of}
use Rattle.std.proofs.lemmas.Result.{IfErr-weaker}
use Rattle.fidl_decode_model.proofs.Turning.{on_ok_from}
use Rattle.fidl_decode_columns.proofs.Leaves.{turns_start, over_room, over_turns, over_breaks}
use Rattle.fidl_decode.proofs.frames.Frames.end_rows.Goals as goal

pub overflow_add-over : goal.overflow_add-over
overflow_add-over c =
    let t = c.args.self.now.decoder.table.now in
    let m = message c.args.self.now.decoder in
    let f = c.args.frame in
    let old = at_of c.args.state.now in
    let start = turns_start t m f old c.requires.frame c.requires.state f refl in
    let room = over_room t c.args.self.now.decoder.fine m f old old 0 f start in
    record { fits = omega (arith, room.0, room.1, c.args.self.now.decoder.short) }

pub overflow_add-stop : goal.overflow_add-stop
overflow_add-stop c =
    let t = c.args.self.now.decoder.table.now in
    let m = message c.args.self.now.decoder in
    let f = c.args.frame in
    let old = at_of c.args.state.now in
    let start = turns_start t m f old c.requires.frame c.requires.state f refl in
    let room = over_room t c.args.self.now.decoder.fine m f old old 0 f start in
    record { fits = omega (arith, room.1, c.args.self.now.decoder.short) }

pub overflow_sub-state : goal.overflow_sub-state
overflow_sub-state c =
    let t = c.args.self.now.decoder.table.now in
    let m = message c.args.self.now.decoder in
    let f = c.args.frame in
    let old = at_of c.args.state.now in
    let start = turns_start t m f old c.requires.frame c.requires.state f refl in
    let room = over_room t c.args.self.now.decoder.fine m f old old 0 f start in
    omega (arith, room.0)

pub overflow_add-state : goal.overflow_add-state
overflow_add-state c =
    let t = c.args.self.now.decoder.table.now in
    let m = message c.args.self.now.decoder in
    let f = c.args.frame in
    let old = at_of c.args.state.now in
    let start = turns_start t m f old c.requires.frame c.requires.state f refl in
    let room = over_room t c.args.self.now.decoder.fine m f old old 0 f start in
    record { fits = omega (arith, room.1, c.args.self.now.decoder.short) }

pub overflow_add-state-2 : goal.overflow_add-state-2
overflow_add-state-2 c =
    let t = c.args.self.now.decoder.table.now in
    let m = message c.args.self.now.decoder in
    let f = c.args.frame in
    let old = at_of c.args.state.now in
    let start = turns_start t m f old c.requires.frame c.requires.state f refl in
    let room = over_room t c.args.self.now.decoder.fine m f old old 0 f start in
    record { fits = omega (arith, room.1, c.args.self.now.decoder.short, c.requires.budget) }

pub zeros_at-requires-clause-order : goal.zeros_at-requires-clause-order
zeros_at-requires-clause-order c =
    let t = c.args.self.now.decoder.table.now in
    let m = message c.args.self.now.decoder in
    let f = c.args.frame in
    let old = at_of c.args.state.now in
    let start = turns_start t m f old c.requires.frame c.requires.state f refl in
    let room = over_room t c.args.self.now.decoder.fine m f old old 0 f start in
    omega (arith, room.0)

pub zeros_at-requires-clause-room : goal.zeros_at-requires-clause-room
zeros_at-requires-clause-room c =
    let t = c.args.self.now.decoder.table.now in
    let m = message c.args.self.now.decoder in
    let f = c.args.frame in
    let old = at_of c.args.state.now in
    let start = turns_start t m f old c.requires.frame c.requires.state f refl in
    let room = over_room t c.args.self.now.decoder.fine m f old old 0 f start in
    omega (arith, room.1)

pub returns-clause-ok : goal.returns-clause-ok
returns-clause-ok c =
    let t = c.args.self.now.decoder.table.now in
    let m = message c.args.self.now.decoder in
    let f = c.args.frame in
    let old = at_of c.args.state.now in
    let start = turns_start t m f old c.requires.frame c.requires.state f refl in
    on_ok_from c.zeros_at.result (λ z. over_turns t c.args.self.now.decoder.fine m f old old 0 f start c.requires.over c.requires.plain _ (omega arith) (omega arith) z) c.zeros_at.ensures.ok

pub returns-clause-fault_is_true : goal.returns-clause-fault_is_true
returns-clause-fault_is_true c =
    let t = c.args.self.now.decoder.table.now in
    let m = message c.args.self.now.decoder in
    let f = c.args.frame in
    let old = at_of c.args.state.now in
    let start = turns_start t m f old c.requires.frame c.requires.state f refl in
    IfErr-weaker c.zeros_at.result _ _ (λ fault bad. over_breaks t c.args.self.now.decoder.fine m f old old 0 f start c.requires.over c.requires.plain fault bad) c.zeros_at.ensures.fault_is_true

pub returns-clause-spends : goal.returns-clause-spends
returns-clause-spends c =
    let t = c.args.self.now.decoder.table.now in
    let m = message c.args.self.now.decoder in
    let f = c.args.frame in
    let old = at_of c.args.state.now in
    let start = turns_start t m f old c.requires.frame c.requires.state f refl in
    let room = over_room t c.args.self.now.decoder.fine m f old old 0 f start in
    spends_some _ _ _ (omega arith) (omega (arith, room.0, room.2))
