use Rattle.std.proofs.Common.{◌+◌, arith}
use Rattle.fidl_links.proofs.ByPlace.{handle_at}
use Rattle.fidl_links.proofs.Seen.{Seen, as_long}
use Rattle.fidl_links.proofs.links.Links.link_handle.Goals as goal

pub put_half-requires : goal.put_half-requires
put_half-requires c =
    let seen : Seen c.self.inside.bytes.now c.self.inside.room.now.marks c.args.self.now = record { is = c.self.view_is; sound = c.self.invariant.2 } in
    let long = as_long _ _ _ seen in
    let few = c.self.invariant.0 in
    omega (arith, long, c.requires.within, c.requires.aligned)

pub mark_handle-requires : goal.mark_handle-requires
mark_handle-requires c =
    let seen : Seen c.self.inside.bytes.now c.self.inside.room.now.marks c.args.self.now = record { is = c.self.view_is; sound = c.self.invariant.2 } in
    omega (arith, as_long _ _ _ seen, c.self.invariant.0, c.requires.within)

pub invariant_of-self : goal.invariant_of-self
invariant_of-self c =
    let seen : Seen c.self.inside.bytes.now c.self.inside.room.now.marks c.args.self.now = record { is = c.self.view_is; sound = c.self.invariant.2 } in
    let few = c.self.invariant.0 in
    let done =
    handle_at c.self.inside.bytes.now c.put_half.new.bytes c.self.inside.room.now.marks c.mark_handle.new.self.marks c.args.self.now seen c.self.invariant.1 (c.args.index + 1) c.args.place c.requires.aligned record {
      within = c.requires.within;
      len = c.put_half.ensures.len;
      here = c.put_half.ensures.here;
      before = c.put_half.ensures.before;
      behind = c.put_half.ensures.behind;
      some = omega arith;
      small = omega (arith, c.requires.few);
      ones = c.requires.present;
      free = c.requires.free;
      mark = c.mark_handle.ensures.here;
      others = c.mark_handle.ensures.elsewhere;
      markers = c.mark_handle.ensures.markers;
      envelopes = c.mark_handle.ensures.envelopes;
    } in
    (omega (arith, c.put_half.ensures.len, few), c.put_half.ensures.octets, done.sound)

pub returns-clause-came : goal.returns-clause-came
returns-clause-came c =
    let seen : Seen c.self.inside.bytes.now c.self.inside.room.now.marks c.args.self.now = record { is = c.self.view_is; sound = c.self.invariant.2 } in
    let done =
    handle_at c.self.inside.bytes.now c.put_half.new.bytes c.self.inside.room.now.marks c.mark_handle.new.self.marks c.args.self.now seen c.self.invariant.1 (c.args.index + 1) c.args.place c.requires.aligned record {
      within = c.requires.within;
      len = c.put_half.ensures.len;
      here = c.put_half.ensures.here;
      before = c.put_half.ensures.before;
      behind = c.put_half.ensures.behind;
      some = omega arith;
      small = omega (arith, c.requires.few);
      ones = c.requires.present;
      free = c.requires.free;
      mark = c.mark_handle.ensures.here;
      others = c.mark_handle.ensures.elsewhere;
      markers = c.mark_handle.ensures.markers;
      envelopes = c.mark_handle.ensures.envelopes;
    } in
    done.came

pub returns-clause-objects : goal.returns-clause-objects
returns-clause-objects c =
    let seen : Seen c.self.inside.bytes.now c.self.inside.room.now.marks c.args.self.now = record { is = c.self.view_is; sound = c.self.invariant.2 } in
    let done =
    handle_at c.self.inside.bytes.now c.put_half.new.bytes c.self.inside.room.now.marks c.mark_handle.new.self.marks c.args.self.now seen c.self.invariant.1 (c.args.index + 1) c.args.place c.requires.aligned record {
      within = c.requires.within;
      len = c.put_half.ensures.len;
      here = c.put_half.ensures.here;
      before = c.put_half.ensures.before;
      behind = c.put_half.ensures.behind;
      some = omega arith;
      small = omega (arith, c.requires.few);
      ones = c.requires.present;
      free = c.requires.free;
      mark = c.mark_handle.ensures.here;
      others = c.mark_handle.ensures.elsewhere;
      markers = c.mark_handle.ensures.markers;
      envelopes = c.mark_handle.ensures.envelopes;
    } in
    done.objects_are

pub returns-clause-records : goal.returns-clause-records
returns-clause-records c =
    let seen : Seen c.self.inside.bytes.now c.self.inside.room.now.marks c.args.self.now = record { is = c.self.view_is; sound = c.self.invariant.2 } in
    let done =
    handle_at c.self.inside.bytes.now c.put_half.new.bytes c.self.inside.room.now.marks c.mark_handle.new.self.marks c.args.self.now seen c.self.invariant.1 (c.args.index + 1) c.args.place c.requires.aligned record {
      within = c.requires.within;
      len = c.put_half.ensures.len;
      here = c.put_half.ensures.here;
      before = c.put_half.ensures.before;
      behind = c.put_half.ensures.behind;
      some = omega arith;
      small = omega (arith, c.requires.few);
      ones = c.requires.present;
      free = c.requires.free;
      mark = c.mark_handle.ensures.here;
      others = c.mark_handle.ensures.elsewhere;
      markers = c.mark_handle.ensures.markers;
      envelopes = c.mark_handle.ensures.envelopes;
    } in
    done.records_are
