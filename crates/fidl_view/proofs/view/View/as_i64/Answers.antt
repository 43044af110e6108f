use Rattle.std.proofs.Common.{ap, ◌∙◌, length, arith}
use Rattle.fidl_view.proofs.Viewing as viewing
use Rattle.fidl_view.proofs.NumberRead.{signed_read}
use Rattle.fidl_view.proofs.view.View.as_i64.Goals as goal

pub signed-requires-in_default : goal.signed-requires-in_default
signed-requires-in_default c =
    let s = c.args.self in
    let k = c.kind.result in
    let fits = viewing.fits_else s.decoded.now c.kind.ensures.well_formed s.index s.place s.in_range k c.kind.ensures.of c.in_default.not-Bits c.in_default.not-Enum in
    let long = ap length c.links.ensures.came in
    omega (arith, fits, s.room, c.raw-bytes.ensures.same_length, long)

pub returns-in-Bits : goal.returns-in-Bits
returns-in-Bits c v shown =
    let s = c.args.self in
    c.signed.ensures
    ∙ signed_read s.decoded.now c.kind.ensures.well_formed s.index s.place s.in_range c.links.result.now c.links.ensures.came c.links.ensures.noted c.raw-bytes.result.now c.raw-bytes.ensures.same_length c.raw-bytes.ensures.agree
    c.underlying.result c.underlying.ensures.numbers c.underlying.ensures.room v shown

pub returns-in_default : goal.returns-in_default
returns-in_default c v shown =
    let s = c.args.self in
    let k = c.kind.result in
    let w = c.kind.ensures.well_formed in
    let fits = viewing.fits_else s.decoded.now w s.index s.place s.in_range k c.kind.ensures.of c.in_default.not-Bits c.in_default.not-Enum in
    c.signed-in_default.ensures
    ∙ signed_read s.decoded.now w s.index s.place s.in_range c.links.result.now c.links.ensures.came c.links.ensures.noted c.raw-bytes.result.now c.raw-bytes.ensures.same_length c.raw-bytes.ensures.agree
    k (viewing.numbers_else s.decoded.now w s.index s.place s.in_range k c.kind.ensures.of c.in_default.not-Bits c.in_default.not-Enum) (omega (arith, fits, s.room)) v shown
