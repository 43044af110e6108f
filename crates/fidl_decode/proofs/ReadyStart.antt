-- Where no link stands yet, a whole message can be read.
use Rattle.std.proofs.Common.{◌≡◌, inr, ℕ, ◌%◌, ◌<◌, ◌≤◌, List, length, refl, subst, sym, arith}
use Rattle.std.specs.Int.{next_multiple_of}
use Rattle.fidl_wire.specs.Term as ty
use Rattle.fidl_wire.proofs.Sizes.{le-next_multiple_of}
use Rattle.fidl_table_format.specs.Section.{header_of, entry_at}
use Rattle.fidl_table_format.specs.Terms.{declarations_of}
use Rattle.fidl_decode_model.specs.Invariants.{IsFine}
use Rattle.fidl_decode_model.specs.State.{Message, Position}
use Rattle.fidl_decode_model.specs.Frontier.{AreFree}
use Rattle.fidl_decode_model.proofs.Aligned.{even_eights, even_next, no_names}
use Rattle.fidl_decode_model.proofs.Visiting.{size_is}
use Rattle.fidl_decode_values.specs.Ready.{ValueReady}

pub start_ready : (t : List ℕ) → IsFine t → (m : Message) (e : ℕ) → e < (header_of t).entries → (s : Position) → s.next ≡ next_multiple_of (entry_at t e).size 8 → s.next ≤ length m.bytes → AreFree s 0 (length m.bytes) → ValueReady t m s e 0
start_ready t fine m e lt s whole within free =
    let size = size_is t fine e lt in
    let reach = le-next_multiple_of (entry_at t e).size 8 in (
      record {
        even = subst (λ n. n % 8 ≡ 0) (sym whole) (even_next 8 (entry_at t e).size (inr (inr (inr refl))));
        free = λ k from to. free k (omega arith) to;
      },
      record {
        before = omega (arith, size, whole, reach);
        free = λ k from to. free k (omega arith) (omega (arith, to, size, whole, reach, within));
      },
      even_eights (declarations_of t) fine.laid_out (no_names t) (ty.named e) 0 refl,
    )
