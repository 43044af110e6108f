use Rattle.fidl_decode_values.specs.Reading.{message}
use Rattle.std.proofs.Common.{◌≡◌, ◌+◌, ◌-◌, ◌<◌, ◌≤◌, ap, subst, ◌∙◌, arith}
use Rattle.std.specs.Prelude.{Option, Some, None, IfSome, length, ℕ}
use Rattle.fidl_limits.specs.declared.limits.TheConstants.{MAX_DEPTH}
use Rattle.fidl_table_format.specs.Section.{entry_at}
use Rattle.fidl_decode_model.specs.State.{Position}
use Rattle.fidl_wire.specs.Term as ty
use Rattle.fidl_wire.specs.Figure.{size_of}
use Rattle.fidl_table_format.specs.declared.record.Entry.{Entry}
use Rattle.fidl_table_format.specs.Terms.{declarations_of}
use Rattle.fidl_decode_model.specs.declared.frame.Remaining.TheVariants.{Rows}
use Rattle.fidl_decode_model.specs.Rows.{Row}
use Rattle.fidl_decode_model.specs.Machine.{StateFine, IsGood, Visits, Turns}
use Rattle.fidl_decode_model.proofs.Visiting.{positive, size_is}
use Rattle.fidl_decode_columns.proofs.Leaves.{going_on, left_over, same_frame, turns_start, next_room, next_turns, rows_next, no_zeros}
use Rattle.std.proofs.lemmas.Option.{IfSome_then}
use Rattle.fidl_decode_values.proofs.decoder.Decoder.plain_rows.Goals as goal

pub loop-i-init : goal.loop-i-init
loop-i-init c =
    let t = c.args.self.now.table.now in
    let m = message c.args.self.now in
    let none : 0 ≡ c.args.first - c.args.first = omega arith in
    let all : c.args.count ≡ c.args.first + c.args.count - c.args.first = omega arith in
    let left = Rows c.args.first (c.args.first + c.args.count - c.args.first) in
    record {
      passes = λ f s ff is start state good.
          let begun = turns_start t m f s ff state (going_on f left f.done) (same_frame f left (is ∙ ap (λ n. Rows c.args.first n) all)) in
          let zero = subst (λ d. Turns t m f s s 0 (left_over (Some (going_on f left d)))) start begun in
          subst (λ n. Turns t m f s s n (left_over (Some (going_on f left 0)))) none zero;
      wide = omega arith;
      inside = tt;
    }

pub loop-i-preserved : goal.loop-i-preserved
loop-i-preserved c =
    let t = c.args.self.now.table.now in
    let m = message c.args.self.now in
    let end = c.args.first + c.args.count in
    let row = c.row-row.result in
    let before : c.loop-i.i < end = omega (arith, c.loop-i-test.true, c.few_rows-few.ensures.few) in
    let one = rows_next t c.loop-i.i end c.loop-i.done (row.key + size_of (declarations_of t) (ty.named row.entry)) row c.row-row.ensures.value before in
    let there = subst (λ (o : Option (Option ℕ)). IfSome o (λ next. row.key ≡ c.loop-i.done)) c.in-Some.is c.next_flag.ensures.stands in
    let keeps = subst (λ (o : Option (Option ℕ)). IfSome o (λ next. (base : ℕ) → IsGood m.bytes base next → IsGood m.bytes base c.loop-i.flag)) c.in-Some.is c.next_flag.ensures.keeps in
    let visits = subst (λ (o : Option (Option ℕ)). IfSome o (λ next. (base depth : ℕ) → (s : Position) → depth ≤ MAX_DEPTH → StateFine m s → base +
    row.key + (entry_at t row.entry).size ≤ length m.bytes → IsGood m.bytes base next → Visits t m depth row.entry (base + row.key) s s 0 None))
    c.in-Some.is c.next_flag.ensures.visits in
    let size = ap (λ (d : Entry). d.size) c.entry.ensures.value in
    record {
      passes = λ f s ff is start state good.
          let here = c.loop-i.invariant.passes f s ff is start state (keeps f.base good) in
          let g = going_on f (Rows c.loop-i.i (end - c.loop-i.i)) c.loop-i.done in
          let member : Row = record { offset = row.key; entry = row.entry } in
          let left = Rows (c.loop-i.i + 1) (end - (c.loop-i.i + 1)) in
          let room = next_room t c.args.self.now.fine m f s s (c.loop-i.i - c.args.first) g here member left one in
          let seen : Visits t m f.depth row.entry (f.base + row.key) s s 0 None = visits f.base f.depth s ff.depth state (omega (arith, room.1, room.2)) good in
          let none : f.base + row.key - (f.base + c.loop-i.done) ≡ 0 = omega (arith, there) in
          next_turns t c.args.self.now.fine m f s s (c.loop-i.i - c.args.first) g here member left one tt (omega (arith, c.requires.within, before))
          tt s (row.key + c.entry.result.size) 0 (c.loop-i.i + 1 - c.args.first) (omega (arith, size)) (omega (arith, c.loop-i.auto.i))
          (omega (arith, c.loop-i.auto.i)) (no_zeros m.bytes (f.base + c.loop-i.done) _ none) seen;
      wide = (let some = positive t c.args.self.now.fine row.entry c.row-row.ensures.entry in let own = size_is t c.args.self.now.fine row.entry c.row-row.ensures.entry in omega (arith, c.loop-i.invariant.wide, c.loop-i.auto.i, there, some, own, size));
      inside =
          let some = positive t c.args.self.now.fine row.entry c.row-row.ensures.entry in
          let own = size_is t c.args.self.now.fine row.entry c.row-row.ensures.entry in
          let stays = subst (λ (o : Option (Option ℕ)). IfSome o (λ next. (end : ℕ) → row.key < end → IfSome c.loop-i.flag (λ k. k < end) → IfSome next (λ k. k < end))) c.in-Some.is c.next_flag.ensures.inside in
          stays (row.key + c.entry.result.size) (omega (arith, some, own, size)) (IfSome_then c.loop-i.flag c.loop-i.invariant.inside (λ k lt. omega (arith, lt, there)));
    }

pub returns-clause-passes : goal.returns-clause-passes
returns-clause-passes c =
    let t = c.args.self.now.table.now in
    let m = message c.args.self.now in
    let end = c.args.first + c.args.count in
    let few = c.few_rows-few.result in
    let over : c.loop-i.i ≡ c.args.first + few = omega (arith, c.loop-i-test.false, c.loop-i.auto.i, c.loop-i.auto.i-end) in
    let rest : end - c.loop-i.i ≡ c.args.count - few = omega (arith, over, c.few_rows-few.ensures.few) in
    let read : c.loop-i.i - c.args.first ≡ few = omega (arith, over) in
    λ f s ff is start state good.
    let here = c.loop-i.invariant.passes f s ff is start state good in
    let counted = subst (λ n. Turns t m f s s n (left_over (Some (going_on f (Rows c.loop-i.i (end - c.loop-i.i)) c.loop-i.done)))) read here in
    subst (λ k. Turns t m f s s few (left_over (Some (going_on f (Rows k (c.args.count - few)) c.loop-i.done)))) over (subst (λ k. Turns t m f s s few (left_over (Some (going_on f (Rows c.loop-i.i k) c.loop-i.done)))) rest counted)

pub returns-clause-wide : goal.returns-clause-wide
returns-clause-wide c = omega (arith, c.loop-i.invariant.wide, c.loop-i-test.false, c.loop-i.auto.i, c.loop-i.auto.i-end)
