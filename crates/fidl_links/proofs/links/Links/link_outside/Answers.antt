use Rattle.std.proofs.Common.{◌+◌, refl, sym, arith}
use Rattle.fidl_wire.specs.Envelope.{bytes_below, handles_below}
use Rattle.fidl_links.proofs.ByPlace.{outside_at}
use Rattle.fidl_links.proofs.FreeBytes.{same_16, same_32}
use Rattle.fidl_links.proofs.Seen.{Seen, as_long}
use Rattle.fidl_links.proofs.links.Links.link_outside.Goals as goal

pub put_outside-requires : goal.put_outside-requires
put_outside-requires c =
    let seen : Seen c.self.inside.bytes.now c.self.inside.room.now.marks c.args.self.now = record { is = c.self.view_is; sound = c.self.invariant.2 } in
    let octets = c.self.invariant.1 in
    let bytes = same_32 _ _ _ seen octets c.args.envelope c.requires.aligned c.requires.within c.requires.free c.args.envelope (omega arith) (omega arith) in
    let number = same_16 _ _ _ seen octets c.args.envelope c.requires.aligned c.requires.within c.requires.free (c.args.envelope + 4) (omega arith) (omega arith) in
    let long = as_long _ _ _ seen in
    let few = c.self.invariant.0 in
    record {
      aligned = c.requires.aligned;
      room = omega (arith, long, c.requires.within);
      object = c.requires.few;
      count = omega (arith, bytes, c.requires.short);
      handles = omega (arith, number, c.requires.handles);
      first = c.requires.first;
    }

pub mark_envelope-requires : goal.mark_envelope-requires
mark_envelope-requires c =
    let seen : Seen c.self.inside.bytes.now c.self.inside.room.now.marks c.args.self.now = record { is = c.self.view_is; sound = c.self.invariant.2 } in
    omega (arith, as_long _ _ _ seen, c.self.invariant.0, c.requires.within)

pub invariant_of-self : goal.invariant_of-self
invariant_of-self c =
    let seen : Seen c.self.inside.bytes.now c.self.inside.room.now.marks c.args.self.now = record { is = c.self.view_is; sound = c.self.invariant.2 } in
    let octets = c.self.invariant.1 in
    let bytes = same_32 _ _ _ seen octets c.args.envelope c.requires.aligned c.requires.within c.requires.free c.args.envelope (omega arith) (omega arith) in
    let number = same_16 _ _ _ seen octets c.args.envelope c.requires.aligned c.requires.within c.requires.free (c.args.envelope + 4) (omega arith) (omega arith) in
    let few = c.self.invariant.0 in
    let done =
    outside_at c.self.inside.bytes.now c.put_outside.new.bytes c.self.inside.room.now.marks c.mark_envelope.new.self.marks c.args.envelope _ c.args.self.now seen c.requires.aligned c.requires.within c.requires.free c.put_outside.ensures.put (omega (arith, bytes, number, c.requires))
    c.mark_envelope.ensures.here c.mark_envelope.ensures.elsewhere c.mark_envelope.ensures.markers c.mark_envelope.ensures.handles c.args.object (bytes_below c.self.inside.bytes.now c.args.envelope) (handles_below c.self.inside.bytes.now c.args.envelope) c.args.first
    refl c.requires.object c.requires.some c.requires.few (sym bytes) (sym number) c.requires.flags (omega (arith, bytes, c.requires.eights)) (omega (arith, bytes, c.requires.short)) (omega (arith, number, c.requires.handles)) c.requires.first in
    (omega (arith, c.put_outside.ensures.put.len, few), c.put_outside.ensures.octets, done.sound)

pub returns-clause-came : goal.returns-clause-came
returns-clause-came c =
    let seen : Seen c.self.inside.bytes.now c.self.inside.room.now.marks c.args.self.now = record { is = c.self.view_is; sound = c.self.invariant.2 } in
    let octets = c.self.invariant.1 in
    let bytes = same_32 _ _ _ seen octets c.args.envelope c.requires.aligned c.requires.within c.requires.free c.args.envelope (omega arith) (omega arith) in
    let number = same_16 _ _ _ seen octets c.args.envelope c.requires.aligned c.requires.within c.requires.free (c.args.envelope + 4) (omega arith) (omega arith) in
    let done =
    outside_at c.self.inside.bytes.now c.put_outside.new.bytes c.self.inside.room.now.marks c.mark_envelope.new.self.marks c.args.envelope _ c.args.self.now seen c.requires.aligned c.requires.within c.requires.free c.put_outside.ensures.put (omega (arith, bytes, number, c.requires))
    c.mark_envelope.ensures.here c.mark_envelope.ensures.elsewhere c.mark_envelope.ensures.markers c.mark_envelope.ensures.handles c.args.object (bytes_below c.self.inside.bytes.now c.args.envelope) (handles_below c.self.inside.bytes.now c.args.envelope) c.args.first
    refl c.requires.object c.requires.some c.requires.few (sym bytes) (sym number) c.requires.flags (omega (arith, bytes, c.requires.eights)) (omega (arith, bytes, c.requires.short)) (omega (arith, number, c.requires.handles)) c.requires.first in
    done.came

pub returns-clause-objects : goal.returns-clause-objects
returns-clause-objects c =
    let seen : Seen c.self.inside.bytes.now c.self.inside.room.now.marks c.args.self.now = record { is = c.self.view_is; sound = c.self.invariant.2 } in
    let octets = c.self.invariant.1 in
    let bytes = same_32 _ _ _ seen octets c.args.envelope c.requires.aligned c.requires.within c.requires.free c.args.envelope (omega arith) (omega arith) in
    let number = same_16 _ _ _ seen octets c.args.envelope c.requires.aligned c.requires.within c.requires.free (c.args.envelope + 4) (omega arith) (omega arith) in
    let done =
    outside_at c.self.inside.bytes.now c.put_outside.new.bytes c.self.inside.room.now.marks c.mark_envelope.new.self.marks c.args.envelope _ c.args.self.now seen c.requires.aligned c.requires.within c.requires.free c.put_outside.ensures.put (omega (arith, bytes, number, c.requires))
    c.mark_envelope.ensures.here c.mark_envelope.ensures.elsewhere c.mark_envelope.ensures.markers c.mark_envelope.ensures.handles c.args.object (bytes_below c.self.inside.bytes.now c.args.envelope) (handles_below c.self.inside.bytes.now c.args.envelope) c.args.first
    refl c.requires.object c.requires.some c.requires.few (sym bytes) (sym number) c.requires.flags (omega (arith, bytes, c.requires.eights)) (omega (arith, bytes, c.requires.short)) (omega (arith, number, c.requires.handles)) c.requires.first in
    done.objects_are

pub returns-clause-records : goal.returns-clause-records
returns-clause-records c =
    let seen : Seen c.self.inside.bytes.now c.self.inside.room.now.marks c.args.self.now = record { is = c.self.view_is; sound = c.self.invariant.2 } in
    let octets = c.self.invariant.1 in
    let bytes = same_32 _ _ _ seen octets c.args.envelope c.requires.aligned c.requires.within c.requires.free c.args.envelope (omega arith) (omega arith) in
    let number = same_16 _ _ _ seen octets c.args.envelope c.requires.aligned c.requires.within c.requires.free (c.args.envelope + 4) (omega arith) (omega arith) in
    let done =
    outside_at c.self.inside.bytes.now c.put_outside.new.bytes c.self.inside.room.now.marks c.mark_envelope.new.self.marks c.args.envelope _ c.args.self.now seen c.requires.aligned c.requires.within c.requires.free c.put_outside.ensures.put (omega (arith, bytes, number, c.requires))
    c.mark_envelope.ensures.here c.mark_envelope.ensures.elsewhere c.mark_envelope.ensures.markers c.mark_envelope.ensures.handles c.args.object (bytes_below c.self.inside.bytes.now c.args.envelope) (handles_below c.self.inside.bytes.now c.args.envelope) c.args.first
    refl c.requires.object c.requires.some c.requires.few (sym bytes) (sym number) c.requires.flags (omega (arith, bytes, c.requires.eights)) (omega (arith, bytes, c.requires.short)) (omega (arith, number, c.requires.handles)) c.requires.first in
    done.records_are
