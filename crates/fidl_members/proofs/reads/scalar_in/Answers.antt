use Rattle.std.proofs.Common.{◌+◌, ◌≤◌, length, ap, sym, ◌∙◌, arith}
use Rattle.std.proofs.Math.Logic.{∥∥₁_elim}
use Rattle.std.proofs.Math.Bridge.{le_prop}
use Rattle.fidl_decode_model.specs.Model.{Shown}
use Rattle.fidl_members.specs.Scalars.{scalar_size, value_standing}
use Rattle.fidl_members.proofs.Read as read
use Rattle.fidl_members.proofs.reads.scalar_in.Goals as goal

pub at-requires : goal.at-requires
at-requires g c =
    let view = c.args.view in
    let d = view.decoded.now in
    let k = g.S.Scalar.kind in
    let room : view.place + scalar_size k ≤ length d.bytes = ∥∥₁_elim view.shown le_prop (λ h. (read.shown_read d view.index view.place k c.requires h.0 h.1).room) in
    let long = c.raw.ensures.same_length ∙ ap length c.links.ensures.came ∙ ap (λ (s : Shown). length s.bytes) c.decoded.ensures in
    omega (arith, room, long, c.place.ensures)

pub returns : goal.returns
returns g c v s =
    let view = c.args.view in
    let d = view.decoded.now in
    let k = g.S.Scalar.kind in
    let r = read.shown_read d view.index view.place k c.requires v s in
    let came = c.links.ensures.came ∙ ap (λ (x : Shown). x.bytes) c.decoded.ensures in
    let noted = c.links.ensures.noted ∙ ap (λ (x : Shown). x.links) c.decoded.ensures in
    let same = read.same_read c.links.result.now d.bytes d.links came noted c.raw.result.now c.raw.ensures.same_length c.raw.ensures.agree view.place k r.room r.free in
    r.value ∙ sym same ∙ ap (λ p. value_standing k c.raw.result.now p) (sym c.place.ensures) ∙ sym c.at.ensures
