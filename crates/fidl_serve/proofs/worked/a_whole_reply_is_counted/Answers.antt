use Rattle.std.proofs.Common.{length, ap, arith, length-append}
use Rattle.fidl_serve.proofs.worked.a_whole_reply_is_counted.Goals as goal

pub returns : goal.returns
returns c = λ k.
    let written = ap length k.written in
    let next = ap length k.next in
    let some = k.part (omega arith) in
    omega (arith, length-append k.front k.rest, written, next, some)
