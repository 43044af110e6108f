use Rattle.std.proofs.Common.{◌-◌, ap, ◌∙◌, arith}
use Rattle.fidl_links.proofs.ReadAt.{record_read_at}
use Rattle.fidl_links.proofs.Seen.{Seen, as_long}
use Rattle.fidl_links.proofs.links.Links.record_of.Goals as goal

pub u32_at-requires : goal.u32_at-requires
u32_at-requires c =
    let seen : Seen c.self.inside.bytes.now c.self.inside.room.now.marks c.args.self.now = record { is = c.self.view_is; sound = c.self.invariant.2 } in
    let long = as_long _ _ _ seen in
    omega (arith, long, c.requires.room)

pub overflow_sub-result : goal.overflow_sub-result
overflow_sub-result c =
    let seen : Seen c.self.inside.bytes.now c.self.inside.room.now.marks c.args.self.now = record { is = c.self.view_is; sound = c.self.invariant.2 } in
    let is = record_read_at _ _ _ seen c.self.invariant.1 c.args.place c.requires.aligned c.requires.present c.requires.linked in
    omega (arith, is, c.u32_at.ensures, c.requires.linked)

pub returns : goal.returns
returns c =
    let seen : Seen c.self.inside.bytes.now c.self.inside.room.now.marks c.args.self.now = record { is = c.self.view_is; sound = c.self.invariant.2 } in
    let is = record_read_at _ _ _ seen c.self.invariant.1 c.args.place c.requires.aligned c.requires.present c.requires.linked in
    ap (λ n. n - 1) (c.u32_at.ensures ∙ is)
