use Rattle.std.proofs.Common.{◌≡◌, ℕ, ◌+◌, ◌%◌, ap, subst, ◌∙◌, arith}
use Rattle.std.specs.Prelude.{Bool, true, false, ◌&&◌, IsTrue, slice_index_or, bit_or}
use Rattle.std.proofs.lemmas.Bool.{ltb-true}
use Rattle.std.proofs.lemmas.Nat.{le_or_l}
use Rattle.fidl_table_format.specs.Number.{number_standing}
use Rattle.fidl_table_format.specs.Terms.{as_number, value_number}
use Rattle.fidl_decode_columns.specs.Columns.{place_of}
use Rattle.fidl_decode_columns.proofs.Narrowed.{one_more}
use Rattle.fidl_decode_columns.proofs.Raw.{Agrees, member_number}
use Rattle.fidl_decode_columns.proofs.Sizes.{next_start}
use Rattle.fidl_decode_columns.proofs.Words.{within_trans, within_left, within_right}
use Rattle.fidl_decode_columns.proofs.columns.Columns.are_noted.Goals as goal

both : (a b : Bool) → IsTrue (a && b) → IsTrue a × IsTrue b
both true true e = (e, e)
both true false e = absurd (let h : false ≡ true = e in cc)
both false b e = absurd (let h : false ≡ true = e in cc)

pub loop-i-preserved : goal.loop-i-preserved
loop-i-preserved c =
    let m = c.args.self.now.links.now in
    let raw = c.raw-bytes.result.now in
    let a : Agrees m raw = record { len = c.raw-bytes.ensures.same_length; byte = c.raw-bytes.ensures.agree } in
    let there : c.loop-i.start + c.args.column.offset ≡ place_of c.args.column c.loop-i._i = ap (λ n. n + c.args.column.offset) c.loop-i.invariant.start in
    let u = as_number c.args.kind in
    let x = c.number_bits-number.result in
    let mark : ℕ → Bool = λ n. slice_index_or c.args.noted.now (n % 256) false in
    let stands : value_number u x ≡ number_standing u m.came (place_of c.args.column c.loop-i._i) = c.number_bits-number.ensures ∙ ap (λ p. number_standing u raw p) there ∙ member_number m raw a u c.args.column c.args.limit c.loop-i._i c.requires.room c.loop-i-test.true in
    let Is : ℕ → Type 0 = λ k. (n : ℕ) × (value_number u n ≡ number_standing u m.came (place_of c.args.column k)) × (bit_or n (bit_or c.loop-i.seen x) ≡ bit_or c.loop-i.seen x) × (IsTrue (c.loop-i.all && mark x) → IsTrue (mark n)) in
    record {
      start = next_start c.loop-i.start c.args.column.base c.args.column.size c.loop-i._i c.loop-i.invariant.start;
      before = one_more Is c.loop-i._i
          (λ k lt.
          let y = c.loop-i.invariant.before k lt in
          (y.0, y.1, within_trans y.0 c.loop-i.seen (bit_or c.loop-i.seen x) y.2 (within_left c.loop-i.seen x), (λ e. y.3 (both c.loop-i.all (mark x) e).0)))
          (x, stands, within_right c.loop-i.seen x, (λ e. (both c.loop-i.all (mark x) e).1));
    }

pub returns-then-all : goal.returns-then-all
returns-then-all c = λ less k lt.
    let y = c.loop-i.invariant.before k (omega (arith, lt, c.loop-i-test.false)) in
    let small : y.0 % 256 ≡ y.0 = omega (arith, ltb-true _ _ less, le_or_l y.0 c.loop-i.seen, y.2) in
    (y.0, y.1, subst (λ n. IsTrue (slice_index_or c.args.noted.now n false)) small (y.3 c.if-all.true))
