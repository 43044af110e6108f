use Rattle.std.proofs.Common.{◌+◌, ◌∙◌, arith}
use Rattle.std.specs.Int.{w64}
use Rattle.fidl_links.proofs.FreeBytes.{same_number}
use Rattle.fidl_links.proofs.Seen.{Seen, as_long}
use Rattle.fidl_links.proofs.links.Links.u64_at.Goals as goal

pub u64_at-requires : goal.u64_at-requires
u64_at-requires c =
    let seen : Seen c.self.inside.bytes.now c.self.inside.room.now.marks c.args.self.now = record { is = c.self.view_is; sound = c.self.invariant.2 } in
    omega (arith, as_long _ _ _ seen, c.requires.room)

pub returns : goal.returns
returns c =
    let seen : Seen c.self.inside.bytes.now c.self.inside.room.now.marks c.args.self.now = record { is = c.self.view_is; sound = c.self.invariant.2 } in
    c.u64_at.ensures ∙ same_number _ _ _ seen c.self.invariant.1 w64 c.args.place (c.args.place + 8) c.args.place c.requires.room c.requires.free (omega arith) (omega arith)
