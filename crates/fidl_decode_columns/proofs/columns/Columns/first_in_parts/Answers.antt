use Rattle.std.proofs.Common.{◌≡◌, ℕ, ◌+◌, ◌*◌, ◌<◌, ◌≤◌, ℤ, List, sym, subst, arith}
use Rattle.std.specs.Prelude.{Bool, Contains}
use Rattle.std.specs.Int.{byte_len}
use Rattle.fidl_wire.specs.Term.{Kind, width}
use Rattle.fidl_table_format.specs.Number.{number_standing}
use Rattle.fidl_table_format.specs.Section.{header_of, entry_at}
use Rattle.fidl_table_format.specs.Terms.{underlying, value_number, values_from}
use Rattle.fidl_decode_columns.specs.declared.column.Column.{Column}
use Rattle.fidl_decode_columns.specs.Columns.{place_of, HasRoom, AreValues}
use Rattle.fidl_decode_columns.proofs.Examples.{none_marked}
use Rattle.fidl_decode_columns.proofs.Narrowed.{all_hold, behind_too, first_behind}
use Rattle.fidl_decode_columns.proofs.Raw.{part_room, part_place}
use Rattle.fidl_decode_columns.proofs.columns.Columns.first_in_parts.Goals as goal
use Rattle.fidl_decode_columns.proofs.columns.Columns.first_in_parts.Goals.{then-limit-done-lt-PART, else-limit-done-lt-PART, then-done-eq0+else-first-count, else-done-eq0+else-not-are_noted}

pub loop-done-init : goal.loop-done-init
loop-done-init c = record {
  within = omega arith;
  before = λ k lt. absurd (omega (arith, lt));
  noted = λ n one. absurd (none_marked 256 n one);
  grows = omega arith;
  cost = omega arith;
}

pub are_noted-requires : goal.are_noted-requires
are_noted-requires c =
    let within : c.loop-done.done + c.if-limit-done-lt-PART.count ≤ c.args.limit = elim c.if-limit-done-lt-PART.branch [
      | then-limit-done-lt-PART w ↦ omega (arith, w.count-is, c.loop-done-test.true)
      | else-limit-done-lt-PART w ↦ omega (arith, w.count-is, w.if-limit-done-lt-PART.false)
    ] in
    let part : Column = record { base = c.args.column.base + c.args.column.size * c.loop-done.done; size = c.args.column.size; offset = c.args.column.offset } in
    record {
      room = subst (λ (u : Kind). HasRoom c.args.self.now.links.now part (byte_len (width u)) c.if-limit-done-lt-PART.count) (sym c.requires.underlying) (part_room c.args.self.now.links.now c.args.column _ c.args.limit c.loop-done.done c.if-limit-done-lt-PART.count within c.requires.room);
    }

pub first_not_found-first-requires-clause-room : goal.first_not_found-first-requires-clause-room
first_not_found-first-requires-clause-room c =
    let within : c.loop-done.done + c.if-limit-done-lt-PART.count ≤ c.args.limit = elim c.if-limit-done-lt-PART.branch [
      | then-limit-done-lt-PART w ↦ omega (arith, w.count-is, c.loop-done-test.true)
      | else-limit-done-lt-PART w ↦ omega (arith, w.count-is, w.if-limit-done-lt-PART.false)
    ] in
    part_room c.args.self.now.links.now c.args.column _ c.args.limit c.loop-done.done c.if-limit-done-lt-PART.count within c.requires.room

pub returns-then-first-count-clause-value : goal.returns-then-first-count-clause-value
returns-then-first-count-clause-value c =
    let t = c.args.self.now.table.now in
    let d = entry_at t c.args.entry in
    let m = c.args.self.now.links.now.came in
    let within : c.loop-done.done + c.if-limit-done-lt-PART.count ≤ c.args.limit = elim c.if-limit-done-lt-PART.branch [
      | then-limit-done-lt-PART w ↦ omega (arith, w.count-is, c.loop-done-test.true)
      | else-limit-done-lt-PART w ↦ omega (arith, w.count-is, w.if-limit-done-lt-PART.false)
    ] in
    let part : Column = record { base = c.args.column.base + c.args.column.size * c.loop-done.done; size = c.args.column.size; offset = c.args.column.offset } in
    let Has : ℕ → Type 0 = λ p. Contains (values_from t (header_of t) (underlying d) d.first d.count) (number_standing (underlying d) m p) in
    first_behind (λ k. Has (place_of c.args.column k)) (λ k. Has (place_of part k)) c.loop-done.done c.if-limit-done-lt-PART.count (λ j y. subst Has (part_place c.args.column c.loop-done.done j) y) c.loop-done.invariant.before c.args.limit c.first_not_found-first.result within
    (λ j y. subst Has (sym (part_place c.args.column c.loop-done.done j)) y) c.if-first-count.true c.first_not_found-first.ensures.value

pub loop-done-preserved : goal.loop-done-preserved
loop-done-preserved c =
    let t = c.args.self.now.table.now in
    let d = entry_at t c.args.entry in
    let m = c.args.self.now.links.now.came in
    let count = c.if-limit-done-lt-PART.count in
    let within : c.loop-done.done + count ≤ c.args.limit = elim c.if-limit-done-lt-PART.branch [
      | then-limit-done-lt-PART w ↦ omega (arith, w.count-is, c.loop-done-test.true)
      | else-limit-done-lt-PART w ↦ omega (arith, w.count-is, w.if-limit-done-lt-PART.false)
    ] in
    let part : Column = record { base = c.args.column.base + c.args.column.size * c.loop-done.done; size = c.args.column.size; offset = c.args.column.offset } in
    let Is : ℤ → Type 0 = λ z. Contains (values_from t (header_of t) (underlying d) d.first d.count) z in
    let Has : ℕ → Type 0 = λ p. Is (number_standing (underlying d) m p) in
    let more : (j : ℕ) → j < count → Has (place_of part j) = elim c.if-done-eq0.branch [
      | then-done-eq0+else-first-count w ↦ λ j lt. w.first_not_found-first.ensures.value.before j (omega (arith, lt, w.if-first-count.false))
      | else-done-eq0+else-not-are_noted w ↦ λ j lt.
          let y = w.are_noted.ensures w.if-not-are_noted.false j lt in
          let read : value_number (underlying d) y.0 ≡ number_standing (underlying d) m (place_of part j) = subst (λ (u : Kind). value_number u y.0 ≡ number_standing u m (place_of part j)) c.requires.underlying y.1 in
          subst Is read (c.loop-done.invariant.noted y.0 y.2)
    ] in
    record {
      within = within;
      before = behind_too (λ k. Has (place_of c.args.column k)) (λ k. Has (place_of part k)) c.loop-done.done count (λ j y. subst Has (part_place c.args.column c.loop-done.done j) y) c.loop-done.invariant.before count more;
      noted = elim c.if-done-eq0.branch [
        | then-done-eq0+else-first-count w ↦ subst (λ (l : List Bool). AreValues t c.args.entry l) (sym w.noted-is) w.first_not_found-first.ensures.noted
        | else-done-eq0+else-not-are_noted w ↦ subst (λ (l : List Bool). AreValues t c.args.entry l) (sym w.noted-is) c.loop-done.invariant.noted
      ];
      grows = elim c.if-done-eq0.branch [
        | then-done-eq0+else-first-count w ↦ omega (arith, w.steps-is, w.first_not_found-first.ensures.grows, c.loop-done.invariant.grows)
        | else-done-eq0+else-not-are_noted w ↦ omega (arith, w.steps-is, c.loop-done.invariant.grows)
      ];
      cost = elim c.if-done-eq0.branch [
        | then-done-eq0+else-first-count w ↦ omega (arith, w.steps-is, w.first_not_found-first.ensures.cost, c.loop-done.invariant.cost)
        | else-done-eq0+else-not-are_noted w ↦ omega (arith, w.steps-is, c.loop-done.invariant.cost)
      ];
    }

pub returns-clause-value : goal.returns-clause-value
returns-clause-value c =
    let t = c.args.self.now.table.now in
    let d = entry_at t c.args.entry in
    all_hold (λ k. Contains (values_from t (header_of t) (underlying d) d.first d.count) (number_standing (underlying d) c.args.self.now.links.now.came (place_of c.args.column k))) c.args.limit c.loop-done.done (omega (arith, c.loop-done-test.false)) c.loop-done.invariant.before
