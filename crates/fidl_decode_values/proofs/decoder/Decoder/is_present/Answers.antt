use Rattle.std.proofs.Common.{rules, sym, ◌∙◌, arith}
use Rattle.fidl_decode_values.proofs.Marked.{ones_read, ones_stand}
use Rattle.fidl_decode_values.proofs.decoder.Decoder.is_present.Goals as goal

pub returns : goal.returns
returns c =
    let m = c.args.self.now.bytes.value.came in
    let to = ones_stand m c.args.place c.requires.room (λ i. omega (arith, c.args.self.now.octets i)) in
    let from = ones_read m c.args.place in
    ((λ h. to (sym c.u64_at.ensures ∙ (search (rules, h)))), (λ z. let e = from z in search (rules, e, c.u64_at.ensures)))
