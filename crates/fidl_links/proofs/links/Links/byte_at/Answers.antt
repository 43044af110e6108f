use Rattle.std.proofs.Common.{arith}
use Rattle.fidl_links.proofs.FreeBytes.{free_byte}
use Rattle.fidl_links.proofs.Seen.{Seen, as_long}
use Rattle.fidl_links.proofs.links.Links.byte_at.Goals as goal

pub bounds-self-inside-place : goal.bounds-self-inside-place
bounds-self-inside-place c =
    let seen : Seen c.self.inside.bytes.now c.self.inside.room.now.marks c.args.self.now = record { is = c.self.view_is; sound = c.self.invariant.2 } in
    omega (arith, as_long _ _ _ seen, c.requires.room)

pub returns : goal.returns
returns c =
    let seen : Seen c.self.inside.bytes.now c.self.inside.room.now.marks c.args.self.now = record { is = c.self.view_is; sound = c.self.invariant.2 } in
    free_byte _ _ _ seen c.self.invariant.1 c.args.place c.requires.room c.requires.free
