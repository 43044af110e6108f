use Rattle.std.proofs.Common.{◌+◌, ◌/◌, ◌%◌, inr, ap, arith}
use Rattle.fidl_links.specs.Marks.{Kept}
use Rattle.fidl_links.proofs.ByteBits.{refilled, apart}
use Rattle.fidl_links.proofs.room.Room.mark_handle.Goals as goal

pub returns-clause-elsewhere : goal.returns-clause-elsewhere
returns-clause-elsewhere c = λ k ne. refilled c.self.inside.marks.len _ _ _ _ c.set_bit.ensures.len c.deref_mut.ensures.len c.deref_mut.ensures.value (ap (λ (k : Kept). k.marks) c.self.view_is) (k / 2) (2 + k % 2) (c.set_bit.ensures.elsewhere (k / 2) (2 + k % 2) (apart k c.args.j ne))

pub returns-clause-markers : goal.returns-clause-markers
returns-clause-markers c = λ i. refilled c.self.inside.marks.len _ _ _ _ c.set_bit.ensures.len c.deref_mut.ensures.len c.deref_mut.ensures.value (ap (λ (k : Kept). k.marks) c.self.view_is) i 0 (c.set_bit.ensures.elsewhere i 0 (inr (λ e. omega (arith, e))))

pub returns-clause-envelopes : goal.returns-clause-envelopes
returns-clause-envelopes c = λ i. refilled c.self.inside.marks.len _ _ _ _ c.set_bit.ensures.len c.deref_mut.ensures.len c.deref_mut.ensures.value (ap (λ (k : Kept). k.marks) c.self.view_is) i 1 (c.set_bit.ensures.elsewhere i 1 (inr (λ e. omega (arith, e))))
