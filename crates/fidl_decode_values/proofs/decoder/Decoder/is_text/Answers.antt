use Rattle.std.proofs.Common.{refl, arith}
use Rattle.fidl_decode_values.proofs.TextMember.{ascii_text}
use Rattle.fidl_decode_values.proofs.decoder.Decoder.is_text.Goals as goal

pub returns-then-are_ascii : goal.returns-then-are_ascii
returns-then-are_ascii c =
    let good = ascii_text c.args.self.now.bytes.value.came c.args.from c.args.count (omega (arith, c.requires.within, c.requires.room)) (λ k lt. c.are_ascii.ensures c.if-are_ascii.true k (omega (arith, lt, c.requires.within))) in
    ((λ h. good), (λ u. refl))
