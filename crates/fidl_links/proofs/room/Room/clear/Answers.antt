use Rattle.std.proofs.Common.{ap, ◌∙◌}
use Rattle.fidl_links.specs.Bits.{bit}
use Rattle.fidl_links.proofs.ByteBits.{written_back}
use Rattle.fidl_links.proofs.room.Room.clear.Goals as goal

pub returns-clause-markers : goal.returns-clause-markers
returns-clause-markers c = λ i lt. ap (λ l. bit l i 0) (written_back c.self.inside.marks.len _ _ _ c.clear.ensures.len c.deref_mut.ensures.len) ∙ c.clear.ensures.clear i 0 lt

pub returns-clause-envelopes : goal.returns-clause-envelopes
returns-clause-envelopes c = λ i lt. ap (λ l. bit l i 1) (written_back c.self.inside.marks.len _ _ _ c.clear.ensures.len c.deref_mut.ensures.len) ∙ c.clear.ensures.clear i 1 lt
