-- Values that are read whole where they stand.
use Rattle.std.proofs.Common.{◌≡◌, ℕ, ◌+◌, ◌-◌, ◌<◌, ◌≤◌, List, length, refl, sym, subst, arith}
use Rattle.std.specs.Prelude.{Some, None}
use Rattle.std.proofs.Math.Nat.{mul-le-mul_left}
use Rattle.fidl_wire.specs.Term as ty
use Rattle.fidl_wire.specs.Figure.{size_of}
use Rattle.fidl_table_format.specs.Section.{header_of, entry_at}
use Rattle.fidl_table_format.specs.Terms.{declarations_of}
use Rattle.fidl_decode_model.proofs.Moving.{moves_below}
use Rattle.fidl_decode_model.specs.declared.frame.Frame.{Frame}
use Rattle.fidl_decode_model.specs.Invariants.{IsFine}
use Rattle.fidl_decode_model.specs.State.{Message, Position}
use Rattle.fidl_decode_model.specs.Machine.{Visits, Turns, inline_work, value_work, probes}
use Rattle.fidl_decode_model.proofs.Visiting.{size_is, positive}
use Rattle.fidl_decode_columns.proofs.Leaves.{left_over}

-- the work of a leaf is within that of a value
pub leaf_cost : (t : List ℕ) → IsFine t → (m : List ℕ) (next e : ℕ) → e < (header_of t).entries → 1 + probes + (length m - next) ≤ value_work m next (entry_at t e)
leaf_cost t fine m next e lt =
    let size = size_is t fine e lt in
    let pos = positive t fine e lt in
    let some : 1 ≤ (entry_at t e).size = omega (arith, size, pos) in
    let many : 1 + probes ≤ inline_work (entry_at t e).nest = omega arith in
    omega (arith, many, mul-le-mul_left (inline_work (entry_at t e).nest) some)

module _ (t : List ℕ) (m : Message) (held e place : ℕ) (old mid : Position) (a : ℕ) (g : Frame) (v : Visits t m held e place old mid a (Some g)) where
  -- what a visit leaves is read to its end
  pub visits_over : (new : Position) (b n : ℕ) → n ≡ a + b → Turns t m g mid new b (left_over None) → Visits t m held e place old new n None
  visits_over new b n le turns = record {
    same = λ to. (
      (λ x. let p = (turns.same to).0 ((v.same to).0 x) in subst (λ (s : Position). s ≡ to) (sym p.1) p.2),
      (λ y. (v.same to).1 ((turns.same to).1 (new, refl, y))),
    );
    breaks = λ fault b. absurd b;
    least = λ to w y. let x = v.least to (0 + w + b) (turns.least to new 0 w refl y) in let worth = x.1 in (x.0, omega (arith, worth, le));
    state = turns.state;
    moves = λ ahead read even. let p = v.moves ahead read even in moves_below t m place (place + size_of (declarations_of t) (ty.named e)) g old mid new None None p (turns.moves p.ahead p.below_clear);
    less = omega (arith, le, v.less, turns.less);
  }
