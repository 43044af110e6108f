use Rattle.std.proofs.Common.{arith}
use Rattle.fidl_links.proofs.FreeBytes.{same_marker}
use Rattle.fidl_links.proofs.Seen.{Seen, as_long}
use Rattle.fidl_links.proofs.links.Links.presence_at.Goals as goal

pub presence_at-requires-clause-room : goal.presence_at-requires-clause-room
presence_at-requires-clause-room c =
    let seen : Seen c.self.inside.bytes.now c.self.inside.room.now.marks c.args.self.now = record { is = c.self.view_is; sound = c.self.invariant.2 } in
    omega (arith, as_long _ _ _ seen, c.requires.room)

pub returns : goal.returns
returns c =
    let seen : Seen c.self.inside.bytes.now c.self.inside.room.now.marks c.args.self.now = record { is = c.self.view_is; sound = c.self.invariant.2 } in
    same_marker _ _ _ seen c.self.invariant.1 c.args.place c.args.size _ c.requires.room c.requires.free c.presence_at.ensures
