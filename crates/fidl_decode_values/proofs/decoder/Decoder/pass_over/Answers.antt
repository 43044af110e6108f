use Rattle.fidl_decode_model.proofs.Turning.{done_fits}
use Rattle.fidl_decode_values.specs.Reading.{message}
use Rattle.std.proofs.Common.{◌≡◌, ◌+◌, ◌-◌, refl, sym, subst, arith}
use Rattle.std.specs.Prelude.{Some}
use Rattle.fidl_decode_model.specs.declared.frame.Frame.{Frame}
use Rattle.fidl_decode_model.specs.Machine.{Turns, at_of, behind_rows}
use Rattle.fidl_decode_columns.proofs.Leaves.{left_over, turns_start}
use Rattle.fidl_decode_values.proofs.ReadyRows.{flag_free}
use Rattle.fidl_decode_values.proofs.decoder.Decoder.pass_over.Goals as goal

pub is_good-requires : goal.is_good-requires
is_good-requires c =
    let p = c.args.plain.now in
    record {
      holds = c.requires.holds;
      short = omega (arith, c.requires.frame.room, c.args.self.now.short);
      free = flag_free c.args.self.now.table.now c.args.self.now.fine (message c.args.self.now) c.args.frame (at_of c.args.state.now) c.requires.frame c.requires.start c.requires.state p.rows p.first p.count p.done p.flag c.requires.passes p.inside c.requires.ready;
    }

pub returns-then-not-is_good-clause-turns : goal.returns-then-not-is_good-clause-turns
returns-then-not-is_good-clause-turns c =
    let t = c.args.self.now.table.now in
    let m = message c.args.self.now in
    let f = c.args.frame in
    let old = at_of c.args.state.now in
    let none : 0 ≡ c.args.state.now.steps - c.args.state.now.steps = omega arith in
    subst (λ n. Turns t m f old old n (left_over (Some f))) none (turns_start t m f old c.requires.frame c.requires.state f refl)

pub overflow_add-state : goal.overflow_add-state
overflow_add-state c =
    let less = (c.requires.passes c.args.frame (at_of c.args.state.now) c.requires.frame refl c.requires.start c.requires.state (c.is_good.ensures c.if-not-is_good.false)).less in
    record { fits = omega (arith, less, c.from.ensures, c.requires.budget) }

pub returns-clause-turns : goal.returns-clause-turns
returns-clause-turns c =
    let t = c.args.self.now.table.now in
    let m = message c.args.self.now in
    let f = c.args.frame in
    let old = at_of c.args.state.now in
    let spent : c.args.plain.now.rows ≡ c.args.state.now.steps + c.from.result - c.args.state.now.steps = omega (arith, c.from.ensures) in
    let one = c.requires.passes f old c.requires.frame refl c.requires.start c.requires.state (c.is_good.ensures c.if-not-is_good.false) in
    let counted = subst (λ (g : Frame). Turns t m f old old c.args.plain.now.rows (left_over (Some g))) (sym c.rows_from.ensures) one in
    subst (λ n. Turns t m f old old n (left_over (Some c.rows_from.result))) spent counted

pub rows_from-requires : goal.rows_from-requires
rows_from-requires c =
    let p = c.args.plain.now in
    let g = behind_rows c.args.frame p.first p.count p.done in
    let one = c.requires.passes c.args.frame (at_of c.args.state.now) c.requires.frame refl c.requires.start c.requires.state (c.is_good.ensures c.if-not-is_good.false) in
    let read = done_fits c.args.self.now.table.now c.args.self.now.fine (message c.args.self.now) g (at_of c.args.state.now) one.rest_fine.0 one.state in
    record { small = omega (arith, read, c.requires.frame.room, c.args.self.now.short) }
