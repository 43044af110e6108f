use Rattle.std.proofs.Common.{rules, ◌≡◌, false, ap, sym, ◌∙◌, true≢false}
use Rattle.std.specs.Prelude.{ℤ, pos, negsuc, bit_or}
use Rattle.std.proofs.lemmas.Int.{to_z-of_z, to_z_pos}
use Rattle.std.proofs.lemmas.Nat.{or_lt}
use lib.Signed.{lt_z}
use mir.Val.{SFits, of_z, to_z}
use mir.Syntax.{w128}
use Rattle.fidl_consts.specs.PlainValues.{a_number, joined}
use Rattle.fidl_consts.proofs.const_value.ConstValue.joined.Goals as goal

or_joined : (a b : ℤ) → SFits w128 a → SFits w128 b → lt_z a (pos 0) ≡ false → lt_z b (pos 0) ≡ false
    → a_number (to_z w128 (bit_or (of_z w128 a) (of_z w128 b))) ≡ joined (a_number a) (a_number b)
or_joined (pos a) (pos b) f g h k = ap a_number (to_z_pos w128 (bit_or a b) (or_lt 127 a b f.sfits g.sfits))
or_joined (pos a) (negsuc b) f g h k = absurd (true≢false k)
or_joined (negsuc a) b f g h k = absurd (true≢false h)

pub returns-else-two-lt0 : goal.returns-else-two-lt0
returns-else-two-lt0 c =
    let one = c.in-Number-Number.one in
    let two = c.in-Number-Number.two in
    let f : SFits w128 one = search rules in
    let g : SFits w128 two = search rules in
    let h : lt_z one (pos 0) ≡ false = ap (λ z. lt_z z (pos 0)) (sym (to_z-of_z w128 one f)) ∙ c.if-one-lt0.false in
    let k : lt_z two (pos 0) ≡ false = ap (λ z. lt_z z (pos 0)) (sym (to_z-of_z w128 two g)) ∙ c.if-two-lt0.false in
    rw (c.in-Number-Number.is-0, c.in-Number-Number.is-1) (or_joined one two f g h k)
