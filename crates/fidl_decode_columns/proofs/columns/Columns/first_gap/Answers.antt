use Rattle.std.proofs.Common.{◌≡◌, ◌+◌, ◌-◌, ap, subst, arith}
use Rattle.fidl_wire.specs.Encoding.{zeros}
use Rattle.fidl_wire.specs.Standing.{Stands}
use Rattle.fidl_decode_model.specs.Breaks.{IsPadding}
use Rattle.fidl_decode_columns.specs.Columns.{place_of}
use Rattle.fidl_decode_columns.proofs.Narrowed.{one_more}
use Rattle.fidl_decode_columns.proofs.Raw.{Agrees, member_zeros, member_padding}
use Rattle.fidl_decode_columns.proofs.Sizes.{next_start}
use Rattle.fidl_decode_columns.proofs.columns.Columns.first_gap.Goals as goal

pub returns-in-Err : goal.returns-in-Err
returns-in-Err c =
    let m = c.args.self.now.links.now in
    let raw = c.raw-bytes.result.now in
    let a : Agrees m raw = record { len = c.raw-bytes.ensures.same_length; byte = c.raw-bytes.ensures.agree } in
    let there : c.loop-element.start + c.args.column.offset ≡ place_of c.args.column c.loop-element.element = ap (λ n. n + c.args.column.offset) c.loop-element.invariant.start in
    let here = subst (λ p. IsPadding raw p (p + c.args.width) c.in-Err.fault) there c.in-Err.ensures.fault_is_true in
    (c.loop-element-test.true, c.loop-element.invariant.before, member_padding m raw a c.args.column c.args.width c.args.limit c.loop-element.element c.requires.room c.loop-element-test.true c.in-Err.fault here)

pub loop-element-preserved : goal.loop-element-preserved
loop-element-preserved c =
    let m = c.args.self.now.links.now in
    let raw = c.raw-bytes.result.now in
    let a : Agrees m raw = record { len = c.raw-bytes.ensures.same_length; byte = c.raw-bytes.ensures.agree } in
    let there : c.loop-element.start + c.args.column.offset ≡ place_of c.args.column c.loop-element.element = ap (λ n. n + c.args.column.offset) c.loop-element.invariant.start in
    let from = place_of c.args.column c.loop-element.element in
    let wide : from + c.args.width - from ≡ c.args.width = omega arith in
    let stands = subst (λ n. Stands raw from (zeros n)) wide (subst (λ p. Stands raw p (zeros (p + c.args.width - p))) there c.in_default.ensures.ok) in
    record {
      start = next_start c.loop-element.start c.args.column.base c.args.column.size c.loop-element.element c.loop-element.invariant.start;
      before = one_more (λ k. Stands m.came (place_of c.args.column k) (zeros c.args.width)) c.loop-element.element c.loop-element.invariant.before ((member_zeros m raw a c.args.column c.args.width c.args.limit c.loop-element.element c.requires.room c.loop-element-test.true).0 stands);
    }
