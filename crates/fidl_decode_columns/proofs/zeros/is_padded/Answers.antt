use Rattle.std.proofs.Common.{◌≡◌, ◌+◌, ◌-◌, ◌*◌, ◌/◌, ◌%◌, ◌^◌, ◌<◌, ◌≤◌, ℕ, sym, ap, subst, ◌∙◌, arith}
use Rattle.std.proofs.lemmas.Bool.{eqb-true}
use Rattle.std.specs.Int.{w64}
use Rattle.fidl_wire.specs.Field.{number_at}
use Rattle.fidl_decode_model.proofs.Stand.{zeros_stand}
use Rattle.fidl_decode_columns.proofs.Words.{zero_from}
use Rattle.fidl_decode_columns.proofs.zeros.is_padded.Goals as goal

-- where nothing is used of the last eight bytes, nothing is left of them
no_bytes : (from to : ℕ) → from ≤ to → to < from + 8 → to % 8 ≡ 0 → from % 8 ≡ 0 → to ≡ from
no_bytes from to le lt end is = omega (arith, le, lt, end, is)

pub returns-then-used-eq0 : goal.returns-then-used-eq0
returns-then-used-eq0 c = λ yes.
    let bytes = c.args.bytes.now in
    let same = no_bytes c.args.from c.args.to c.requires.order c.requires.few c.requires.aligned c.if-used-eq0.true in
    zeros_stand bytes c.args.from c.args.to c.requires.order c.requires.room (λ k from to. absurd (omega (arith, from, to, same)))

pub returns : goal.returns
returns c = λ yes.
    let bytes = c.args.bytes.now in
    let n = c.args.to - c.args.from in
    let used = c.args.from % 8 in
    let place : c.args.from - used ≡ c.args.to - 8 = omega (arith, c.requires.order, c.requires.few, c.requires.aligned, c.if-used-eq0.false) in
    let rest : used ≡ 8 - n = omega (arith, c.requires.order, c.requires.few, c.requires.aligned, c.if-used-eq0.false) in
    let some : 8 ≤ c.args.to = omega (arith, c.requires.order, c.requires.few, c.requires.aligned, c.if-used-eq0.false) in
    let none : number_at w64 bytes (c.args.to - 8) / 2 ^ (8 * (8 - n)) ≡ 0 =
    subst (λ k. number_at w64 bytes (c.args.to - 8) / 2 ^ (8 * k) ≡ 0) rest
    (subst (λ k. number_at w64 bytes k / 2 ^ (8 * used) ≡ 0) place
    (ap (λ x. x / 2 ^ (8 * used)) (sym c.u64_at.ensures) ∙ eqb-true _ _ yes)) in
    zeros_stand bytes c.args.from c.args.to c.requires.order c.requires.room
    (λ k from to. zero_from bytes (c.args.to - 8) (omega (arith, c.requires.room, some)) (λ i. (c.type_inv.bytes i).fits) n (omega (arith, c.requires.few)) none k (omega (arith, from, c.requires.order, some)) (omega (arith, to, some)))
