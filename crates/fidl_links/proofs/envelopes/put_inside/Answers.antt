use Rattle.std.proofs.Common.{◌≡◌, ◌+◌, ◌*◌, ◌/◌, ◌%◌, ◌^◌, subst, arith}
use Rattle.fidl_wire.specs.Envelope.{handles_below}
use Rattle.fidl_links.specs.Coding.{inline}
use Rattle.fidl_links.specs.Words.{word, Put}
use Rattle.fidl_links.proofs.Numbers.{word_at}
use Rattle.fidl_links.proofs.envelopes.put_inside.Goals as goal

pub returns-clause-put : goal.returns-clause-put
returns-clause-put c =
    let bytes = c.args.bytes.now in
    let at = c.args.envelope in
    let is : c.u64_at-member.result % 2 ^ 32 + (c.from.result * 2 ^ 48 + c.args.first * 2 ^ 55) + 2 ^ 63 ≡ inline (word bytes (at / 8)) (handles_below bytes at) c.args.first =
    omega (arith, word_at bytes at c.requires.aligned, c.u64_at-member.ensures, c.handle_count_at-handles.ensures, c.from.ensures) in
    subst (λ x. Put bytes c.put_word.new.bytes (at / 8) x) is c.put_word.ensures.put
