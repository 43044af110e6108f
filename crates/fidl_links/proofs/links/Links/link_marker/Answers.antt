use Rattle.std.proofs.Common.{arith}
use Rattle.fidl_links.proofs.ByPlace.{marker_at}
use Rattle.fidl_links.proofs.Seen.{Seen, as_long}
use Rattle.fidl_links.proofs.links.Links.link_marker.Goals as goal

pub put_word-requires : goal.put_word-requires
put_word-requires c =
    let seen : Seen c.self.inside.bytes.now c.self.inside.room.now.marks c.args.self.now = record { is = c.self.view_is; sound = c.self.invariant.2 } in
    let long = as_long _ _ _ seen in
    let few = c.self.invariant.0 in
    omega (arith, long, c.requires.within)

pub mark_marker-requires : goal.mark_marker-requires
mark_marker-requires c =
    let seen : Seen c.self.inside.bytes.now c.self.inside.room.now.marks c.args.self.now = record { is = c.self.view_is; sound = c.self.invariant.2 } in
    omega (arith, as_long _ _ _ seen, c.self.invariant.0, c.requires.within)

pub invariant_of-self : goal.invariant_of-self
invariant_of-self c =
    let seen : Seen c.self.inside.bytes.now c.self.inside.room.now.marks c.args.self.now = record { is = c.self.view_is; sound = c.self.invariant.2 } in
    let few = c.self.invariant.0 in
    let done =
    marker_at c.self.inside.bytes.now c.put_word.new.bytes c.self.inside.room.now.marks c.mark_marker.new.self.marks c.args.marker c.args.object c.args.self.now seen c.requires.aligned c.requires.within c.requires.free c.put_word.ensures.put (omega (arith, c.requires.few))
    c.mark_marker.ensures.here c.mark_marker.ensures.elsewhere c.mark_marker.ensures.envelopes c.mark_marker.ensures.handles c.requires.some c.requires.few c.requires.present in
    (omega (arith, c.put_word.ensures.len, few), c.put_word.ensures.octets, done.sound)

pub returns-clause-came : goal.returns-clause-came
returns-clause-came c =
    let seen : Seen c.self.inside.bytes.now c.self.inside.room.now.marks c.args.self.now = record { is = c.self.view_is; sound = c.self.invariant.2 } in
    let done =
    marker_at c.self.inside.bytes.now c.put_word.new.bytes c.self.inside.room.now.marks c.mark_marker.new.self.marks c.args.marker c.args.object c.args.self.now seen c.requires.aligned c.requires.within c.requires.free c.put_word.ensures.put (omega (arith, c.requires.few))
    c.mark_marker.ensures.here c.mark_marker.ensures.elsewhere c.mark_marker.ensures.envelopes c.mark_marker.ensures.handles c.requires.some c.requires.few c.requires.present in
    done.came

pub returns-clause-objects : goal.returns-clause-objects
returns-clause-objects c =
    let seen : Seen c.self.inside.bytes.now c.self.inside.room.now.marks c.args.self.now = record { is = c.self.view_is; sound = c.self.invariant.2 } in
    let done =
    marker_at c.self.inside.bytes.now c.put_word.new.bytes c.self.inside.room.now.marks c.mark_marker.new.self.marks c.args.marker c.args.object c.args.self.now seen c.requires.aligned c.requires.within c.requires.free c.put_word.ensures.put (omega (arith, c.requires.few))
    c.mark_marker.ensures.here c.mark_marker.ensures.elsewhere c.mark_marker.ensures.envelopes c.mark_marker.ensures.handles c.requires.some c.requires.few c.requires.present in
    done.objects_are

pub returns-clause-records : goal.returns-clause-records
returns-clause-records c =
    let seen : Seen c.self.inside.bytes.now c.self.inside.room.now.marks c.args.self.now = record { is = c.self.view_is; sound = c.self.invariant.2 } in
    let done =
    marker_at c.self.inside.bytes.now c.put_word.new.bytes c.self.inside.room.now.marks c.mark_marker.new.self.marks c.args.marker c.args.object c.args.self.now seen c.requires.aligned c.requires.within c.requires.free c.put_word.ensures.put (omega (arith, c.requires.few))
    c.mark_marker.ensures.here c.mark_marker.ensures.elsewhere c.mark_marker.ensures.envelopes c.mark_marker.ensures.handles c.requires.some c.requires.few c.requires.present in
    done.records_are
