use Rattle.std.proofs.Common.{ℕ, List, length, ap, ◌∙◌, arith}
use Rattle.fidl_table_format.specs.Number.{number_standing}
use Rattle.fidl_table_format.specs.Terms.{as_number}
use Rattle.fidl_decode_columns.proofs.Raw.{Agrees, number_came}
use Rattle.fidl_decode_values.proofs.decoder.Decoder.number_bits.Goals as goal

pub returns : goal.returns
returns c =
    let w = c.args.state.now.links in
    let a : Agrees w c.raw.result.now = record { len = c.raw.ensures.same_length; byte = c.raw.ensures.agree } in
    let same = ap length c.requires.holds in
    c.number_bits.ensures ∙ number_came w c.raw.result.now a (as_number c.args.kind) c.args.place (omega (arith, same, c.requires.room)) c.requires.free
    ∙ ap (λ (b : List ℕ). number_standing (as_number c.args.kind) b c.args.place) c.requires.holds
