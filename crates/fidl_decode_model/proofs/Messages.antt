-- Whole messages: the primary object, its padding, and all below it.
use Rattle.std.proofs.Common.{◌≡◌, ℕ, ◌+◌, ◌-◌, ◌*◌, ◌<◌, ◌≤◌, List, ◌++◌, length, Option, Some, None, refl, sym, ap, subst, ◌∙◌, arith, length-append}
use Rattle.fidl_limits.specs.declared.limits.TheConstants.{MAX_MESSAGE_BYTES, MAX_MESSAGE_HANDLES}
use Rattle.std.specs.Option.{option_to_list}
use Rattle.std.proofs.Math.Nat.{mul-le-mul_right}
use Rattle.std.specs.Int.{next_multiple_of}
use Rattle.fidl_wire.specs.declared.handle.HandleInfo.{HandleInfo}
use Rattle.fidl_wire.specs.Value.{Value}
use Rattle.fidl_wire.specs.Term.{Term, resolve}
use Rattle.fidl_wire.specs.Term as ty
use Rattle.fidl_wire.specs.Figure.{Declarations, figure_of, size_of}
use Rattle.fidl_wire.specs.Typed.{IsTyped}
use Rattle.fidl_wire.specs.Encoding.{zeros, pad8, object, encoding_of}
use Rattle.fidl_wire.specs.Message.{Encodes, IsEncoding}
use Rattle.fidl_wire.specs.Standing.{Stands}
use Rattle.fidl_wire.proofs.Stand.{stands_to, stands_front, stands_back, stands_both, all_from_stands, stands_from_all}
use Rattle.fidl_table_format.specs.Section.{header_of, entry_at}
use Rattle.fidl_table_format.specs.Terms.{declarations_of}
use Rattle.fidl_decode_model.specs.Invariants.{IsFine}
use Rattle.fidl_decode_model.specs.declared.frame.Frame.{Frame}
use Rattle.fidl_decode_model.specs.State.{Message, Position, after, ValueAt}
use Rattle.fidl_decode_model.specs.Machine.{IsWhole, stack_work, frame_work_if, inline_work}
use Rattle.fidl_decode_model.proofs.Stand.{all_from_carries, carries_from_all}
use Rattle.fidl_decode_model.proofs.After.{length-pad8, after_past}
use Rattle.fidl_decode_model.proofs.Rows.{length-entry}
use Rattle.fidl_decode_model.proofs.Visiting.{size_is, nest_is}

-- where a message begins, with what is linked from before
abbrev pub begins : (objects records : List ℕ) (size : ℕ) → Position
begins objects records size = record { next = next_multiple_of size 8; handle = 0; objects = objects; records = records }

pub stack_work_only : (o : Option Frame) → stack_work (option_to_list o) ≡ frame_work_if o
stack_work_only None = refl
stack_work_only (Some f) = omega arith

-- an entry read whole is within 89 steps a byte
pub entry_work : (t : List ℕ) → IsFine t → (e : ℕ) → e < (header_of t).entries → inline_work (figure_of (declarations_of t).figures (ty.named e)).nest * size_of (declarations_of t) (ty.named e) ≤ 89 * (entry_at t e).size
entry_work t fine e lt =
    let f = (fine.each e lt).1 in
    let n = nest_is t fine e lt in
    let s = size_is t fine e lt in
    let small : inline_work (figure_of (declarations_of t).figures (ty.named e)).nest ≤ 89 = (let k = f.nest in omega arith) in
    let le = mul-le-mul_right (size_of (declarations_of t) (ty.named e)) small in
    omega (arith, le)

pub near-next_multiple_of : (n : ℕ) → next_multiple_of n 8 ≤ n + 7
near-next_multiple_of n = omega arith

module _ (t : List ℕ) (fine : IsFine t) (m : Message) (e : ℕ) (lt : e < (header_of t).entries) where
  abbrev ds : Declarations
  ds = declarations_of t

  abbrev term : Term
  term = resolve ds.terms (ty.named e)

  pub inline_size : (v : Value) → IsTyped ds term v → length (encoding_of ds term v).inline ≡ (entry_at t e).size
  inline_size v h = length-entry ds fine.laid_out e v h ∙ size_is t fine e lt

  pub inline_length : (v : Value) → IsTyped ds term v → length (pad8 (encoding_of ds term v).inline) ≡ next_multiple_of (entry_at t e).size 8
  inline_length v h =
      length-pad8 (encoding_of ds term v).inline ∙ ap (λ n. next_multiple_of n 8) (inline_size v h)

  module _ (objects records : List ℕ) where
    abbrev start : Position
    start = begins objects records (entry_at t e).size

    pub item_encodes : length m.bytes ≤ MAX_MESSAGE_BYTES → length m.handles ≤ MAX_MESSAGE_HANDLES → Stands m.bytes (entry_at t e).size
        (zeros (next_multiple_of (entry_at t e).size 8 - (entry_at t e).size)) → (to : Position) → IsWhole m to → (x : ValueAt ds m 0 term 0 start to)
        → Encodes ds (ty.named e) x.value m.bytes m.handles
    item_encodes short few z to is x =
        let p = encoding_of ds term x.value in
        let len : length p.inline ≡ (entry_at t e).size = inline_size x.value x.typed in
        let long = inline_length x.value x.typed in
        let gap = zeros (next_multiple_of (length p.inline) 8 - length p.inline) in
        let z' : Stands m.bytes (length p.inline) gap = subst (λ n. Stands m.bytes n (zeros (next_multiple_of n 8 - n))) (sym len) z in
        let front = stands_both m.bytes 0 p.inline gap x.stands.inline (stands_to m.bytes (length p.inline) (0 + length p.inline) gap (omega arith) z') in
        let all = stands_both m.bytes 0 (pad8 p.inline) p.out front (stands_to m.bytes (next_multiple_of (entry_at t e).size 8) (0 + length (pad8 p.inline)) p.out (omega arith) x.stands.out) in
        let led = after_past ds fine.laid_out term x.value 0 start x.typed in
        let next : to.next ≡ next_multiple_of (entry_at t e).size 8 + length p.out = ap (λ (s : Position). s.next) x.end ∙ led.0 in
        let hand : to.handle ≡ 0 + length p.handles = ap (λ (s : Position). s.handle) x.end ∙ led.1 in
        let ends = is.bytes in
        let ends' = is.handles in
        let spelled : m.bytes ≡ object p = all_from_stands m.bytes (pad8 p.inline ++ p.out) (omega (arith, length-append (pad8 p.inline) p.out)) all in
        let carried : m.handles ≡ p.handles = all_from_carries m.handles p.handles (omega arith) x.stands.carried in
        record {
          typed = x.typed;
          shallow = omega (arith, x.shallow);
          message = λ i. (sym spelled i, sym carried i);
          short = short;
          few = few;
        }

    pub item_message : length m.bytes ≤ MAX_MESSAGE_BYTES → length m.handles ≤ MAX_MESSAGE_HANDLES → Stands m.bytes (entry_at t e).size
        (zeros (next_multiple_of (entry_at t e).size 8 - (entry_at t e).size)) → (to : Position) → IsWhole m to → ValueAt ds m 0 term 0 start to →
        IsEncoding ds (ty.named e) m.bytes m.handles
    item_message short few z to is x = (x.value, item_encodes short few z to is x)

    pub message_item : IsEncoding ds (ty.named e) m.bytes m.handles → (next_multiple_of (entry_at t e).size 8 ≤ length m.bytes) × Stands m.bytes
        (entry_at t e).size (zeros (next_multiple_of (entry_at t e).size 8 - (entry_at t e).size)) ×
        ((to : Position) × IsWhole m to × ValueAt ds m 0 term 0 start to)
    message_item y =
        let v = y.0 in
        let r = y.1 in
        let p = encoding_of ds term v in
        let to = after ds term v 0 start in
        let led = after_past ds fine.laid_out term v 0 start r.typed in
        let len : length p.inline ≡ (entry_at t e).size = inline_size v r.typed in
        let long = inline_length v r.typed in
        let gap = zeros (next_multiple_of (length p.inline) 8 - length p.inline) in
        let spelled : m.bytes ≡ object p = sym (ap (λ (x : List ℕ × List HandleInfo). x.0) r.message) in
        let carried : m.handles ≡ p.handles = sym (ap (λ (x : List ℕ × List HandleInfo). x.1) r.message) in
        let all = stands_from_all m.bytes (pad8 p.inline ++ p.out) spelled in
        let whole : length m.bytes ≡ length (pad8 p.inline ++ p.out) = ap length spelled in
        let count : length m.handles ≡ length p.handles = ap length carried in
        let parts : length (pad8 p.inline ++ p.out) ≡ length (pad8 p.inline) + length p.out = length-append (pad8 p.inline) p.out in
        let front = stands_front m.bytes 0 (pad8 p.inline) p.out all in
        let z = stands_to m.bytes (0 + length p.inline) (length p.inline) gap (omega arith) (stands_back m.bytes 0 p.inline gap front) in (
          omega arith,
          subst (λ n. Stands m.bytes n (zeros (next_multiple_of n 8 - n))) len z,
          (
            to,
            record { bytes = omega (arith, led.0); handles = omega (arith, led.1) },
            record {
              value = v;
              typed = r.typed;
              shallow = omega (arith, r.shallow);
              stands = record {
                inline = stands_front m.bytes 0 p.inline gap front;
                out = stands_to m.bytes (0 + length (pad8 p.inline)) (next_multiple_of (entry_at t e).size 8) p.out (omega arith) (stands_back m.bytes 0 (pad8 p.inline) p.out all);
                carried = carries_from_all m.handles p.handles carried;
              };
              end = refl;
            },
          ),
        )
