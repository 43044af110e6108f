use Rattle.std.proofs.Common.{sym, ◌∙◌, arith}
use Rattle.std.proofs.lemmas.Bool.{eq-eqb, eqb-true}
use Rattle.fidl_links.proofs.Blank.{blank_is, is_blank}
use Rattle.fidl_links.proofs.Seen.{Seen, as_long}
use Rattle.fidl_links.proofs.links.Links.is_blank.Goals as goal

pub u64_at-requires : goal.u64_at-requires
u64_at-requires c =
    let seen : Seen c.self.inside.bytes.now c.self.inside.room.now.marks c.args.self.now = record { is = c.self.view_is; sound = c.self.invariant.2 } in
    let long = as_long _ _ _ seen in
    omega (arith, long, c.requires.within)

pub returns : goal.returns
returns c =
    let seen : Seen c.self.inside.bytes.now c.self.inside.room.now.marks c.args.self.now = record { is = c.self.view_is; sound = c.self.invariant.2 } in
    let octets = c.self.invariant.1 in (
      λ yes. blank_is _ _ _ seen octets c.args.place c.requires.aligned c.requires.within (sym c.u64_at.ensures ∙ eqb-true _ _ yes),
      λ both. eq-eqb _ _ (c.u64_at.ensures ∙ is_blank _ _ _ seen octets c.args.place c.requires.aligned c.requires.within both.0 both.1),
    )
