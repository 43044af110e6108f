use Rattle.std.proofs.Common.{◌+◌, ◌/◌, ◌%◌, inl, inr, ap, arith}
use Rattle.fidl_links.specs.Marks.{Kept}
use Rattle.fidl_links.proofs.ByteBits.{refilled}
use Rattle.fidl_links.proofs.room.Room.mark_marker.Goals as goal

pub returns-clause-elsewhere : goal.returns-clause-elsewhere
returns-clause-elsewhere c = λ j ne. refilled c.self.inside.marks.len _ _ _ _ c.set_bit.ensures.len c.deref_mut.ensures.len c.deref_mut.ensures.value (ap (λ (k : Kept). k.marks) c.self.view_is) j 0 (c.set_bit.ensures.elsewhere j 0 (inl ne))

pub returns-clause-envelopes : goal.returns-clause-envelopes
returns-clause-envelopes c = λ j. refilled c.self.inside.marks.len _ _ _ _ c.set_bit.ensures.len c.deref_mut.ensures.len c.deref_mut.ensures.value (ap (λ (k : Kept). k.marks) c.self.view_is) j 1 (c.set_bit.ensures.elsewhere j 1 (inr (λ e. omega (arith, e))))

pub returns-clause-handles : goal.returns-clause-handles
returns-clause-handles c = λ j. refilled c.self.inside.marks.len _ _ _ _ c.set_bit.ensures.len c.deref_mut.ensures.len c.deref_mut.ensures.value (ap (λ (k : Kept). k.marks) c.self.view_is) (j / 2) (2 + j % 2) (c.set_bit.ensures.elsewhere (j / 2) (2 + j % 2) (inr (λ e. omega (arith, e))))
