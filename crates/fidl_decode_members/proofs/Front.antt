-- The envelopes of a table whose members are noted, before the first is read.
use Rattle.std.proofs.Common.{◌≡◌, ◌-◌, ◌*◌, arith}
use Rattle.fidl_decode_model.specs.declared.frame.Remaining.TheVariants.{Envelopes}
use Rattle.fidl_decode_model.specs.Machine.{most_nest}
use Rattle.fidl_decode_values.specs.Body.{envelopes_of}
use Rattle.fidl_decode_members.specs.declared.envelopes.Envelopes as run
use Rattle.fidl_decode_members.specs.declared.members.Members.{Members}
use Rattle.fidl_decode_members.specs.Members.{rest_of}

pub none_read : (x : Members) (e : run.Envelopes) → envelopes_of x.entry e.base e.count e.depth ≡ rest_of x e 0
none_read x e =
    let left : e.count ≡ e.count - 0 = omega arith in
    λ i. record { left = Envelopes x.entry 0 (left i); base = e.base; done = 0; size = 8 * e.count; nest = most_nest; depth = e.depth; in_envelope = 0 }
