use Rattle.std.proofs.Common.{rules, ◌≡◌, ◌+◌, ℤ, sym, ap, subst, ◌∙◌, arith}
use Rattle.std.specs.Prelude.{Contains}
use Rattle.fidl_wire.specs.Term.{Kind}
use Rattle.fidl_table_format.specs.Number.{number_standing}
use Rattle.fidl_table_format.specs.Section.{header_of, entry_at}
use Rattle.fidl_table_format.specs.Terms.{underlying, value_number, values_from}
use Rattle.fidl_decode_columns.specs.Columns.{place_of}
use Rattle.fidl_decode_columns.proofs.Raw.{Agrees, member_number}
use Rattle.fidl_decode_columns.proofs.Sizes.{next_start}
use Rattle.fidl_decode_columns.proofs.Narrowed.{one_more, first_here, all_hold}
use Rattle.fidl_decode_columns.proofs.columns.Columns.first_not_found.Goals as goal

pub loop-i-init : goal.loop-i-init
loop-i-init c = record {
  start = omega arith;
  before = λ k lt. absurd (omega (arith, lt));
  noted = c.requires.noted;
  grows = omega arith;
  cost = omega arith;
}

pub loop-i-preserved : goal.loop-i-preserved
loop-i-preserved c =
    let t = c.args.self.now.table.now in
    let d = entry_at t c.args.entry in
    let u = underlying d in
    let m = c.args.self.now.links.now in
    let a : Agrees m c.raw-bytes.result.now = record { len = c.raw-bytes.ensures.same_length; byte = c.raw-bytes.ensures.agree } in
    let Has : ℤ → Type 0 = λ z. Contains (values_from t (header_of t) u d.first d.count) z in
    let there : c.loop-i.start + c.args.column.offset ≡ place_of c.args.column c.loop-i.i = ap (λ n. n + c.args.column.offset) c.loop-i.invariant.start in
    let read : value_number u c.number_bits-number.result ≡ number_standing u c.raw-bytes.result.now (c.loop-i.start + c.args.column.offset) =
    subst (λ (v : Kind). value_number v c.number_bits-number.result ≡ number_standing v c.raw-bytes.result.now (c.loop-i.start + c.args.column.offset)) c.requires.underlying c.number_bits-number.ensures in
    let stands = read ∙ ap (λ p. number_standing u c.raw-bytes.result.now p) there ∙ member_number m c.raw-bytes.result.now a u c.args.column c.args.limit c.loop-i.i c.requires.room c.loop-i-test.true in
    record {
      start = next_start c.loop-i.start c.args.column.base c.args.column.size c.loop-i.i c.loop-i.invariant.start;
      before = one_more (λ k. Has (number_standing u m.came (place_of c.args.column k))) c.loop-i.i c.loop-i.invariant.before (subst Has stands (c.is_value.ensures.value.0 c.if-not-is_value.false));
      noted = c.is_value.ensures.noted;
      grows = omega (arith, c.loop-i.invariant.grows, c.is_value.ensures.grows);
      cost = omega (arith, c.loop-i.invariant.cost, c.is_value.ensures.few);
    }

pub returns-then-not-is_value-clause-value : goal.returns-then-not-is_value-clause-value
returns-then-not-is_value-clause-value c =
    let t = c.args.self.now.table.now in
    let d = entry_at t c.args.entry in
    let u = underlying d in
    let m = c.args.self.now.links.now in
    let a : Agrees m c.raw-bytes.result.now = record { len = c.raw-bytes.ensures.same_length; byte = c.raw-bytes.ensures.agree } in
    let Has : ℤ → Type 0 = λ z. Contains (values_from t (header_of t) u d.first d.count) z in
    let there : c.loop-i.start + c.args.column.offset ≡ place_of c.args.column c.loop-i.i = ap (λ n. n + c.args.column.offset) c.loop-i.invariant.start in
    let read : value_number u c.number_bits-number.result ≡ number_standing u c.raw-bytes.result.now (c.loop-i.start + c.args.column.offset) =
    subst (λ (v : Kind). value_number v c.number_bits-number.result ≡ number_standing v c.raw-bytes.result.now (c.loop-i.start + c.args.column.offset)) c.requires.underlying c.number_bits-number.ensures in
    let stands = read ∙ ap (λ p. number_standing u c.raw-bytes.result.now p) there ∙ member_number m c.raw-bytes.result.now a u c.args.column c.args.limit c.loop-i.i c.requires.room c.loop-i-test.true in
    first_here (λ k. Has (number_standing u m.came (place_of c.args.column k))) c.args.limit c.loop-i.i c.loop-i-test.true c.loop-i.invariant.before
    (λ y. let has = c.is_value.ensures.value.1 (subst Has (sym stands) y) in search (rules, has, c.if-not-is_value.true))

pub returns-clause-value : goal.returns-clause-value
returns-clause-value c =
    let t = c.args.self.now.table.now in
    let d = entry_at t c.args.entry in
    all_hold (λ k. Contains (values_from t (header_of t) (underlying d) d.first d.count) (number_standing (underlying d) c.args.self.now.links.now.came (place_of c.args.column k))) c.args.limit c.loop-i.i (omega (arith, c.loop-i-test.false)) c.loop-i.invariant.before
