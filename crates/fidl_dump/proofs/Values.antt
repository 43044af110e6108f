-- A value that a body encodes, a refusal of a body, and a body of nothing.
use Rattle.std.proofs.Common.{◌≡◌, ℕ, List, length, drop, arith, sym, ap, subst, ◌∙◌}
use Rattle.std.proofs.lemmas.List.{drop_all, nil_from_length}
use Rattle.fidl_wire.specs.declared.handle.HandleInfo.{HandleInfo}
use Rattle.fidl_wire.specs.Term as ty
use Rattle.fidl_wire.specs.Value.{Value}
use Rattle.fidl_wire.specs.Message.{Encodes, IsEncoding}
use Rattle.fidl_table_format.specs.Terms.{declarations_of}
use Rattle.fidl_header.specs.declared.header.Header.{Header}
use Rattle.fidl_decode_model.specs.Faults.{IsTold}
use Rattle.fidl_decode_model.specs.Model.{Shown}
use Rattle.fidl_decode_model.specs.declared.fault.DecodeFault.{DecodeFault}
use Rattle.fidl_requests.specs.Frame.{message_of, handles_of}
use Rattle.fidl_dump.specs.Lines.{body_of, IsBare, Holds, value_text, value_line}
use Rattle.fidl_dump.specs.Faults.{IsBodyFault}

module _ (table : List ℕ) (entry : ℕ) (frame body : List ℕ) (handles : List HandleInfo) (b : body ≡ body_of frame) (h : handles ≡ handles_of frame) where
  -- a refusal of a body and handles by other names
  pub told_of : (f : DecodeFault) → IsTold (declarations_of table) (ty.named entry) body handles f → IsBodyFault table entry frame f
  told_of f t =
      subst (λ (l : List ℕ). IsTold (declarations_of table) (ty.named entry) l (handles_of frame) f) b (subst (λ (l : List HandleInfo). IsTold (declarations_of table) (ty.named entry) body l f) h t)

  holds : (v : Value) → Encodes (declarations_of table) (ty.named entry) v body handles → Holds table entry frame v
  holds v e =
      subst (λ (l : List ℕ). Encodes (declarations_of table) (ty.named entry) v l (handles_of frame)) b (subst (λ (l : List HandleInfo). Encodes (declarations_of table) (ty.named entry) v body l) h e)

  -- the message that was decoded
  module _ (d : Shown) (t : d.table ≡ table) (n : d.entry ≡ entry) (bs : d.bytes ≡ body) (hs : d.handles ≡ handles) where
    encodes : (v : Value) → Encodes (declarations_of table) (ty.named entry) v body handles → Encodes (declarations_of d.table) (ty.named d.entry) v d.bytes d.handles
    encodes v e =
        subst (λ (l : List ℕ). Encodes (declarations_of l) (ty.named d.entry) v d.bytes d.handles) (sym t)
        (subst (λ (k : ℕ). Encodes (declarations_of table) (ty.named k) v d.bytes d.handles) (sym n)
        (subst (λ (l : List ℕ). Encodes (declarations_of table) (ty.named entry) v l d.handles) (sym bs)
        (subst (λ (l : List HandleInfo). Encodes (declarations_of table) (ty.named entry) v body l) (sym hs) e)))

    same_text : (v : Value) → value_text d.table d.entry v ≡ value_text table entry v
    same_text v = ap (λ (l : List ℕ). value_text l d.entry v) t ∙ ap (λ (k : ℕ). value_text table k v) n

    -- what is written of it is the line of a value that the frame holds
    pub line_of : (P : List ℕ → Type 0) (header : Header) (name : List ℕ) → IsEncoding (declarations_of table) (ty.named entry) body handles
        → ((v : Value) → Encodes (declarations_of d.table) (ty.named d.entry) v d.bytes d.handles → P (value_line header name (value_text d.table d.entry v)))
        → (line : List ℕ) × ((v : Value) × Holds table entry frame v × (line ≡ value_line header name (value_text table entry v))) × P line
    line_of P header name y w = (
      value_line header name (value_text d.table d.entry y.0),
      (y.0, holds y.0 y.1, ap (λ (l : List ℕ). value_line header name l) (same_text y.0)),
      w y.0 (encodes y.0 y.1),
    )

-- a message of no more than its header, and no handles
pub is_bare : (frame message : List ℕ) (handles : List HandleInfo) → message ≡ message_of frame → handles ≡ handles_of frame → length message ≡ 16 → length handles ≡ 0 → IsBare frame
is_bare frame message handles m h long none = (ap (λ (l : List ℕ). drop 16 l) (sym m) ∙ drop_all 16 message (omega (arith, long)), sym h ∙ nil_from_length handles none)
