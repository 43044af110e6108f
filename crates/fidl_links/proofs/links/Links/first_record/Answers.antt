use Rattle.std.proofs.Common.{◌/◌, ◌%◌, ◌^◌, ap, ◌∙◌, arith}
use Rattle.fidl_links.proofs.ReadAt.{first_read_at}
use Rattle.fidl_links.proofs.Seen.{Seen, as_long}
use Rattle.fidl_links.proofs.links.Links.first_record.Goals as goal

pub u64_at-requires : goal.u64_at-requires
u64_at-requires c =
    let seen : Seen c.self.inside.bytes.now c.self.inside.room.now.marks c.args.self.now = record { is = c.self.view_is; sound = c.self.invariant.2 } in
    let long = as_long _ _ _ seen in
    omega (arith, long, c.requires.within)

pub returns : goal.returns
returns c =
    let seen : Seen c.self.inside.bytes.now c.self.inside.room.now.marks c.args.self.now = record { is = c.self.view_is; sound = c.self.invariant.2 } in
    ap (λ n. n / 2 ^ 55 % 2 ^ 7) c.u64_at.ensures ∙ first_read_at _ _ _ seen c.args.envelope c.requires.aligned c.requires.within c.requires.no_handle c.requires.linked
