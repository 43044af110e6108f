use Rattle.std.proofs.Common.{◌++◌, subst}
use Rattle.std.specs.Int.{to_le_bytes, w16, w32}
use Rattle.fidl_encode.specs.Writing.{IsOver}
use Rattle.fidl_encode.proofs.Adding.{over_both}
use Rattle.fidl_encode.proofs.message.Message.put_envelope.Goals as goal

pub returns-clause-over : goal.returns-clause-over
returns-clause-over c =
    over_both c.args.self.now.bytes.items c.put.new.self.bytes.items c.put_envelope_end.new.self.bytes.items c.args.at (to_le_bytes w32 c.args.bytes) (to_le_bytes w16 c.args.handles ++ to_le_bytes w16 0)
    (subst (λ x. IsOver c.args.self.now.bytes.items c.put.new.self.bytes.items c.args.at x) c.to_le_bytes.ensures c.put.ensures.over)
    c.put_envelope_end.ensures.over
