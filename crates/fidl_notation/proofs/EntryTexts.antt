-- What is written of an entry's value, by the entry's kind and members.
use Rattle.std.proofs.Common.{◌≡◌, ℕ, suc, ◌+◌, ◌-◌, ◌<◌, List, ◌++◌, sym, ap, subst, ◌∙◌, arith}
use Rattle.std.specs.Prelude.{Some, nat_lt, codes, false}
use mathlib.Core.List.{append_assoc}
use Rattle.fidl_wire.specs.Value.{Value, Values, fields}
use Rattle.fidl_wire.specs.Term.{Term, Kind, Fields, fields_of, resolve, int8, int16, int32, int64, uint8, uint16, uint32, uint64}
use Rattle.fidl_wire.specs.Term as ty
use Rattle.fidl_wire.specs.Encoding as encoding
use Rattle.fidl_wire.specs.Text.{text_of, fields_text, comma_if}
use Rattle.fidl_table_format.specs.declared.record.Row.{Row}
use Rattle.fidl_table_format.specs.Section.{header_of, entry_at, row_at, name_at}
use Rattle.fidl_table_format.specs.Terms.{declarations_of, fields_from}
use Rattle.fidl_table_format.specs.WellFormed.{WellFormed}
use Rattle.fidl_view.specs.declared.view.View.{View}
use Rattle.fidl_view.specs.Within.{IsMembers}
use Rattle.fidl_notation.specs.Slots.{named_text}
use Rattle.fidl_view.specs.Parts.{nth}
use Rattle.fidl_notation.proofs.Printing.{fields_at, fields_end}
use Rattle.fidl_view.proofs.Listed.{values_after}

module _ (b : List ℕ) (w : WellFormed b) (i : ℕ) (lt : i < (header_of b).entries) where
  -- the members of a struct, as its view answers them
  module _ (view : View) (t : Term) (vs : Values) (p : IsMembers b i view t vs) where
    abbrev member : ℕ → Row
    member k = row_at b (header_of b) ((entry_at b i).first + k)

    abbrev type_at : ℕ → Term
    type_at k = resolve (declarations_of b).terms (ty.named (member k).entry)

    abbrev left_at : ℕ → List ℕ
    left_at k = fields_text (declarations_of b) (fields_from b (header_of b) ((entry_at b i).first + k) ((entry_at b i).count - k)) (nat_lt 0 k) (values_after k vs) ++ codes "}"

    pub members_begin : text_of (declarations_of b) t (fields vs) ≡ codes "{" ++ left_at 0
    members_begin =
        let e = entry_at b i in
        let first : e.first ≡ e.first + 0 = omega arith in
        let n : e.count ≡ e.count - 0 = omega arith in
        append_assoc (codes "{") (fields_text (declarations_of b) (encoding.content_of (declarations_of b) t) false vs) (codes "}")
        ∙ ap (λ (fs : Fields). codes "{" ++ (fields_text (declarations_of b) fs false vs ++ codes "}")) p.each
        ∙ ap (λ k. codes "{" ++ (fields_text (declarations_of b) (fields_from b (header_of b) k e.count) false vs ++ codes "}")) first
        ∙ ap (λ k. codes "{" ++ (fields_text (declarations_of b) (fields_from b (header_of b) (e.first + 0) k) false vs ++ codes "}")) n

    pub members_step : (k next : ℕ) (x : Value) → nth vs k ≡ Some x → k < (entry_at b i).count → next ≡ suc k
        → left_at k ≡ (comma_if (nat_lt 0 k) ++ named_text b (member k) x) ++ left_at next
    members_step k next x e less is =
        let comma = comma_if (nat_lt 0 k) in
        let name = name_at b (header_of b) (member k).name_place (member k).name_length in
        let text = text_of (declarations_of b) (type_at k) x in
        fields_at (declarations_of b) b (header_of b) (entry_at b i).first (entry_at b i).count vs k next x (codes "}") e less is
        ∙ ap (λ (l : List ℕ). l ++ left_at next) (ap (λ (l : List ℕ). l ++ text) (append_assoc comma name (codes ": ")) ∙ append_assoc comma (name ++ codes ": ") text)

    pub members_end : (k : ℕ) → k ≡ (entry_at b i).count → left_at k ≡ codes "}"
    members_end k e =
        subst (λ n. left_at n ≡ codes "}") (sym e) (fields_end (declarations_of b) b (header_of b) (entry_at b i).first (entry_at b i).count vs (nat_lt 0 (entry_at b i).count) (codes "}"))
