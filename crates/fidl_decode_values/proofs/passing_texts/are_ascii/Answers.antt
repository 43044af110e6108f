use Rattle.std.proofs.Common.{◌+◌, ◌≤◌, sym, ap, ◌∙◌, arith, inl, inr}
use Rattle.std.specs.Int.Bits.{bit_and}
use Rattle.std.proofs.lemmas.Bool.{cases_lt}
use Rattle.fidl_decode_values.proofs.Words.{high_bits, ascii_word}
use Rattle.fidl_decode_values.proofs.passing_texts.are_ascii.Goals as goal

pub returns : goal.returns
returns c = λ so k within. c.loop-at.invariant.ascii (c.args.from + k) (omega arith) (omega (arith, c.loop-at-test.false))

pub loop-at-preserved : goal.loop-at-preserved
loop-at-preserved c =
    let more : c.loop-at.at + 8 ≤ c.args.from + c.args.size = omega (arith, c.loop-at-test.true) in record {
      after = omega arith;
      before = more;
      whole = omega arith;
      ascii = λ k a b. elim (cases_lt k c.loop-at.at) [
        | inl lt ↦ c.loop-at.invariant.ascii k a lt
        | inr le ↦ ascii_word c.args.bytes.now c.loop-at.at (omega (arith, c.requires.room)) (λ i. (c.type_inv.bytes i).fits) (ap (λ n. bit_and n high_bits) (sym c.u64_at.ensures) ∙ c.if-u64_at-ne0.false) k le b
      ];
    }
