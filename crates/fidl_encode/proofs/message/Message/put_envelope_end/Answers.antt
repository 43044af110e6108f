use Rattle.std.proofs.Common.{◌+◌, ◌≡◌, subst, arith}
use Rattle.std.specs.Int.{to_le_bytes, w16}
use Rattle.fidl_encode.specs.Writing.{IsOver}
use Rattle.fidl_encode.proofs.Adding.{over_both}
use Rattle.fidl_encode.proofs.message.Message.put_envelope_end.Goals as goal

pub returns-clause-over : goal.returns-clause-over
returns-clause-over c =
    let next : c.args.at + 6 ≡ c.args.at + 4 + 2 = omega arith in
    over_both c.args.self.now.bytes.items c.put.new.self.bytes.items c.put-2.new.self.bytes.items (c.args.at + 4) (to_le_bytes w16 c.args.handles) (to_le_bytes w16 c.args.flags)
    (subst (λ x. IsOver c.args.self.now.bytes.items c.put.new.self.bytes.items (c.args.at + 4) x) c.to_le_bytes.ensures c.put.ensures.over)
    (subst (λ n. IsOver c.put.new.self.bytes.items c.put-2.new.self.bytes.items n (to_le_bytes w16 c.args.flags)) next (subst (λ x. IsOver c.put.new.self.bytes.items c.put-2.new.self.bytes.items (c.args.at + 6) x) c.to_le_bytes-2.ensures c.put-2.ensures.over))
