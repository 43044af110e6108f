use Rattle.std.proofs.Common.{◌∙◌, arith}
use Rattle.std.proofs.lemmas.Bool.{eq-eqb, ne_eqb}
use Rattle.fidl_links.proofs.Blank.{is_blank_half}
use Rattle.fidl_links.proofs.ReadAt.{record_read_at}
use Rattle.fidl_links.proofs.Seen.{Seen, as_long}
use Rattle.fidl_links.proofs.links.Links.is_blank_handle.Goals as goal

pub u32_at-requires : goal.u32_at-requires
u32_at-requires c =
    let seen : Seen c.self.inside.bytes.now c.self.inside.room.now.marks c.args.self.now = record { is = c.self.view_is; sound = c.self.invariant.2 } in
    let long = as_long _ _ _ seen in
    omega (arith, long, c.requires.room)

pub returns-clause-absent : goal.returns-clause-absent
returns-clause-absent c free none =
    let seen : Seen c.self.inside.bytes.now c.self.inside.room.now.marks c.args.self.now = record { is = c.self.view_is; sound = c.self.invariant.2 } in
    eq-eqb _ _ (c.u32_at.ensures ∙ is_blank_half _ _ _ seen c.self.invariant.1 c.args.place c.requires.aligned c.requires.room free none)

pub returns-clause-linked : goal.returns-clause-linked
returns-clause-linked c ones some =
    let seen : Seen c.self.inside.bytes.now c.self.inside.room.now.marks c.args.self.now = record { is = c.self.view_is; sound = c.self.invariant.2 } in
    let is = record_read_at _ _ _ seen c.self.invariant.1 c.args.place c.requires.aligned (λ half. ones) some in
    ne_eqb _ _ (λ e. omega (arith, e, is, c.u32_at.ensures, some))
