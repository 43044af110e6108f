use Rattle.std.proofs.Common.{arith}
use Rattle.fidl_links.proofs.FreeBytes.{same_part}
use Rattle.fidl_links.proofs.Seen.{Seen, as_long}
use Rattle.fidl_links.proofs.links.Links.part.Goals as goal

pub slice_bounds-result-end : goal.slice_bounds-result-end
slice_bounds-result-end c =
    let seen : Seen c.self.inside.bytes.now c.self.inside.room.now.marks c.args.self.now = record { is = c.self.view_is; sound = c.self.invariant.2 } in
    omega (arith, as_long _ _ _ seen, c.requires.room)

pub returns : goal.returns
returns c =
    let seen : Seen c.self.inside.bytes.now c.self.inside.room.now.marks c.args.self.now = record { is = c.self.view_is; sound = c.self.invariant.2 } in
    same_part _ _ _ seen c.self.invariant.1 c.args.from c.args.to c.requires.room c.requires.free
