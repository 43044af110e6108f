use Rattle.std.proofs.Common.{◌≡◌, ◌+◌, ◌*◌, sym, ap, ◌∙◌}
use Rattle.std.specs.Prelude.{bit_or}
use Rattle.std.specs.Int.{w64}
use Rattle.fidl_wire.specs.Field.{number_at}
use Rattle.fidl_decode_columns.proofs.Narrowed.{one_more}
use Rattle.fidl_decode_columns.proofs.Sizes.{next_start}
use Rattle.fidl_decode_columns.proofs.Words.{within_trans, within_left, within_right}
use Rattle.fidl_decode_columns.proofs.window.gather.Goals as goal

pub loop-i-preserved : goal.loop-i-preserved
loop-i-preserved c =
    let bytes = c.args.bytes.now in
    let x = c.u64_at-seen.result in
    let all = bit_or c.loop-i.seen x in
    let own : number_at w64 bytes (c.args.start + c.args.apart * c.loop-i._i) ≡ x = ap (λ p. number_at w64 bytes p) (sym c.loop-i.invariant.place) ∙ sym c.u64_at-seen.ensures in
    record {
      place = next_start c.loop-i.place c.args.start c.args.apart c.loop-i._i c.loop-i.invariant.place;
      before = one_more (λ k. bit_or (number_at w64 bytes (c.args.start + c.args.apart * k)) all ≡ all) c.loop-i._i
          (λ k lt. within_trans (number_at w64 bytes (c.args.start + c.args.apart * k)) c.loop-i.seen all (c.loop-i.invariant.before k lt) (within_left c.loop-i.seen x)) (ap (λ n. bit_or n all) own ∙ within_right c.loop-i.seen x);
    }
