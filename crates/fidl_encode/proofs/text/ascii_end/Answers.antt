use Rattle.std.proofs.Common.{◌+◌, ◌≤◌, length, sym, ap, ◌∙◌, arith, inl, inr}
use Rattle.std.specs.Int.Bits.{bit_and}
use Rattle.std.proofs.lemmas.Bool.{cases_lt}
use Rattle.fidl_encode.proofs.Ascii.{high_bits, ascii_word}
use Rattle.fidl_encode.proofs.text.ascii_end.Goals as goal

pub loop-at-preserved : goal.loop-at-preserved
loop-at-preserved c =
    let room : c.loop-at.at + 8 ≤ length c.args.text.now = omega (arith, c.loop-at-test.true, c.loop-at.invariant.within) in record {
      within = room;
      ascii = λ k before. elim (cases_lt k c.loop-at.at) [
        | inl lt ↦ c.loop-at.invariant.ascii k lt
        | inr le ↦ ascii_word c.args.text.now c.loop-at.at room (λ i. (c.type_inv.text i).fits) (ap (λ n. bit_and n high_bits) (sym c.u64_at.ensures) ∙ c.if-u64_at-eq0.true) k le before
      ];
    }
