use Rattle.std.proofs.Common.{◌≡◌, ◌-◌, ◌*◌, ◌/◌, ◌^◌, sym, ap, ◌∙◌, arith}
use Rattle.std.proofs.lemmas.Bool.{eqb-true}
use Rattle.std.specs.Int.{w64}
use Rattle.fidl_wire.specs.Field.{number_at}
use Rattle.fidl_decode_model.proofs.Stand.{zeros_stand}
use Rattle.fidl_decode_columns.proofs.Words.{zero_from}
use Rattle.fidl_decode_columns.proofs.zeros.are_few_zeros.Goals as goal

pub returns : goal.returns
returns c =
    let n = c.args.to - c.args.from in
    let bytes = c.args.bytes.now in
    λ yes.
    let none : number_at w64 bytes (c.args.to - 8) / 2 ^ (8 * (8 - n)) ≡ 0 = ap (λ x. x / 2 ^ (8 * (8 - n))) (sym c.u64_at.ensures) ∙ eqb-true _ _ yes in
    zeros_stand bytes c.args.from c.args.to (omega (arith, c.requires.order)) c.requires.room
    (λ k from to. zero_from bytes (c.args.to - 8) (omega (arith, c.requires.room, c.if-to-lt8.false)) (λ i. (c.type_inv.bytes i).fits) n (omega (arith, c.if-to-from-gt8.false)) none k (omega (arith, from, c.requires.order, c.if-to-lt8.false)) (omega (arith, to, c.if-to-lt8.false)))
