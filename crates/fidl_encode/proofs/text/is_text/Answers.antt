use Rattle.std.proofs.Common.{rules, arith}
use Rattle.std.proofs.lemmas.Str.{IsUtf8-from_ascii}
use Rattle.std.proofs.lemmas.Str.Ascii.{IsAscii-from_reads}
use Rattle.fidl_encode.proofs.text.is_text.Goals as goal

pub returns : goal.returns
returns c =
    let ascii = IsUtf8-from_ascii c.args.text.now (IsAscii-from_reads c.args.text.now c.loop-i.i (omega (arith, c.loop-i-test.false)) c.loop-i.invariant.ascii) in
    ((λ h. ascii), (λ u. search rules))
