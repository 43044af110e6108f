use Rattle.std.proofs.Common.{◌≡◌, ◌+◌, ◌-◌, ◌*◌, ◌/◌, ◌%◌, ◌^◌, sym, ap, subst, ◌∙◌, get_or, arith}
use Rattle.std.specs.Prelude.{bit_or}
use Rattle.std.proofs.lemmas.Bool.{eqb-true}
use Rattle.fidl_decode_columns.specs.declared.window.Window.{Window}
use Rattle.fidl_decode_columns.specs.Columns.{place_of, IsWindow, bits_at}
use Rattle.fidl_decode_columns.proofs.Words.{bits_within, within_trans}
use Rattle.fidl_decode_columns.proofs.columns.Columns.are_within.Goals as goal
use Rattle.fidl_decode_columns.proofs.columns.Columns.are_within.Goals.{then-not-covers, else-not-covers}

pub returns-then-covers-clause-value : goal.returns-then-covers-clause-value
returns-then-covers-clause-value c =
    let m = c.args.self.now.links.now.came in
    let base = c.args.column.base in
    let size = c.args.column.size in
    let w = c.if-not-covers.window in
    let has = c.covers-2.ensures c.if-covers.true in
    let skip = base + c.args.column.offset - w.start in
    let seen : IsWindow m base size w = elim c.if-not-covers.branch [
      | then-not-covers y ↦ subst (λ (v : Window). IsWindow m base size v) (sym y.window-is) y.window_at.ensures
      | else-not-covers y ↦ subst (λ (v : Window). IsWindow m base size v) (sym y.window-is) c.requires.window
    ] in
    λ yes k lt.
    let p = place_of c.args.column k in
    let part = w.seen / 2 ^ (8 * skip) % 2 ^ (8 * c.args.width) in
    let bits = bits_within m p w.seen skip c.args.width c.args.self.now.octets
    (λ j few.
    let there : w.start + (skip + j) + size * k ≡ p + j = omega (arith, has.0) in
    subst (λ q. bit_or (get_or m q 0) (w.seen / 2 ^ (8 * (skip + j)) % 2 ^ 8) ≡ w.seen / 2 ^ (8 * (skip + j)) % 2 ^ 8) there
    (seen k (skip + j) (omega (arith, lt, has.2)) (omega (arith, few, has.0, has.1)) (omega (arith, has.0)) (omega (arith, few, has.0, c.requires.room.member)))) in
    within_trans (bits_at m p c.args.width) part c.args.mask bits (ap (λ n. bit_or n c.args.mask) (sym c.part_of.ensures) ∙ eqb-true _ _ yes)
