use Rattle.std.proofs.Common.{◌≡◌, ◌+◌, sym, ap, subst, ◌∙◌}
use Rattle.fidl_wire.specs.Typed.{InMask}
use Rattle.fidl_table_format.specs.Number.{number_standing}
use Rattle.fidl_table_format.specs.Terms.{as_number, value_number}
use Rattle.fidl_decode_columns.specs.Columns.{place_of}
use Rattle.fidl_decode_columns.proofs.Narrowed.{one_more, first_here}
use Rattle.fidl_decode_columns.proofs.Raw.{Agrees, member_number}
use Rattle.fidl_decode_columns.proofs.Sizes.{next_start}
use Rattle.fidl_decode_columns.proofs.columns.Columns.first_outside_mask.Goals as goal

pub loop-i-preserved : goal.loop-i-preserved
loop-i-preserved c =
    let m = c.args.self.now.links.now in
    let a : Agrees m c.raw-bytes.result.now = record { len = c.raw-bytes.ensures.same_length; byte = c.raw-bytes.ensures.agree } in
    let there : c.loop-i.start + c.args.column.offset ≡ place_of c.args.column c.loop-i.i = ap (λ n. n + c.args.column.offset) c.loop-i.invariant.start in
    let u = as_number c.args.kind in
    let came = member_number m c.raw-bytes.result.now a u c.args.column c.args.limit c.loop-i.i c.requires.room c.loop-i-test.true in
    let stands : value_number u c.number_bits-number.result ≡ number_standing u m.came (place_of c.args.column c.loop-i.i) = c.number_bits-number.ensures ∙ ap (λ p. number_standing u c.raw-bytes.result.now p) there ∙ came in
    let is = sym (c.requires.kind c.number_bits-number.result) ∙ stands in
    record {
      start = next_start c.loop-i.start c.args.column.base c.args.column.size c.loop-i.i c.loop-i.invariant.start;
      before = one_more (λ k. InMask c.args.mask (number_standing u m.came (place_of c.args.column k))) c.loop-i.i c.loop-i.invariant.before (subst (InMask c.args.mask) is c.if-number-mask.false);
    }

pub returns-then-number-mask : goal.returns-then-number-mask
returns-then-number-mask c =
    let m = c.args.self.now.links.now in
    let a : Agrees m c.raw-bytes.result.now = record { len = c.raw-bytes.ensures.same_length; byte = c.raw-bytes.ensures.agree } in
    let there : c.loop-i.start + c.args.column.offset ≡ place_of c.args.column c.loop-i.i = ap (λ n. n + c.args.column.offset) c.loop-i.invariant.start in
    let u = as_number c.args.kind in
    let came = member_number m c.raw-bytes.result.now a u c.args.column c.args.limit c.loop-i.i c.requires.room c.loop-i-test.true in
    let stands : value_number u c.number_bits-number.result ≡ number_standing u m.came (place_of c.args.column c.loop-i.i) = c.number_bits-number.ensures ∙ ap (λ p. number_standing u c.raw-bytes.result.now p) there ∙ came in
    let is = sym stands ∙ c.requires.kind c.number_bits-number.result in
    first_here (λ k. InMask c.args.mask (number_standing u m.came (place_of c.args.column k))) c.args.limit c.loop-i.i c.loop-i-test.true c.loop-i.invariant.before
    (λ y. c.if-number-mask.true (subst (InMask c.args.mask) is y))
