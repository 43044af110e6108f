-- The members of a struct stand in order in it, and apart.
use Rattle.std.proofs.Common.{◌≡◌, ℕ, zero, suc, ◌+◌, ◌<◌, ◌≤◌, max, List, get_or, ap, sym, ◌∙◌, subst, arith}
use Rattle.std.specs.Int.{next_multiple_of}
use Rattle.fidl_wire.specs.Term.{Fields, no_fields, field}
use Rattle.fidl_wire.specs.Figure.{Figure, figure, figure_of, end_of, align_of, offsets}
use Rattle.fidl_table_format.specs.declared.record.Header.{Header}
use Rattle.fidl_table_format.specs.declared.kind.EntryKind.TheVariants.{Struct}
use Rattle.fidl_table_format.specs.Section.{header_of, entry_at, row_at}
use Rattle.fidl_table_format.specs.Terms.{fields_from}
use Rattle.fidl_table_format.specs.Entry.{IsOf, figures_of, keys_from, IsApart}
use Rattle.fidl_table_format.specs.Uses.{uses_rows}
use Rattle.fidl_table_format.specs.WellFormed.{WellFormed}
use Rattle.fidl_verify.proofs.Stated.{stated_at}
use Rattle.fidl_verify.proofs.Known.{test_of, figure_as}

rounded : (x a : ℕ) → x ≤ next_multiple_of x a
rounded x a = omega arith

above : (x a size y : ℕ) → next_multiple_of x a + size ≤ y → x ≤ y
above x a size y p = omega (arith, rounded x a, p)

ended : (key size size' end whole align : ℕ) → size ≡ size' → whole ≡ next_multiple_of (max end 1) align → key + size ≤ end → key + size' ≤ whole
ended key size size' end whole align a b p = omega (arith, a, b, p, rounded (max end 1) align)

end_grows : (figures : List Figure) (from : ℕ) (fs : Fields) → from ≤ end_of figures from fs
end_grows figures from no_fields = omega arith
end_grows figures from (field name t fs) =
    let f = figure_of figures t in
    omega (arith, rounded from f.align, end_grows figures (next_multiple_of from f.align + f.size) fs)

module _ (bytes : List ℕ) (h : Header) where
  -- the size that stands for the member of a row
  abbrev size_at : (row : ℕ) → ℕ
  size_at row = (get_or (figures_of bytes h) (row_at bytes h row).entry (figure 1 1 0)).size

  -- where the members that begin behind `from` stand
  record Stands (from end first count k : ℕ) : Type 0 where
    low : from ≤ (row_at bytes h (first + k)).key
    high : (row_at bytes h (first + k)).key + size_at (first + k) ≤ end
    next : suc k < count → (row_at bytes h (first + k)).key + size_at (first + k) ≤ (row_at bytes h (first + suc k)).key

  -- the same, from other names for its key and size
  in_order : (from end first count k key size : ℕ) → (row_at bytes h (first + k)).key ≡ key → size_at (first + k) ≡ size → from ≤ key → key + size ≤ end
      → (suc k < count → key + size ≤ (row_at bytes h (first + suc k)).key) → Stands from end first count k
  in_order from end first count k key size a b l m n = record {
    low = subst (λ x. from ≤ x) (sym a) l;
    high = subst (λ x. x + size_at (first + k) ≤ end) (sym a) (subst (λ y. key + y ≤ end) (sym b) m);
    next = λ q. subst (λ x. x + size_at (first + k) ≤ (row_at bytes h (first + suc k)).key) (sym a) (subst (λ y. key + y ≤ (row_at bytes h (first + suc k)).key) (sym b) (n q));
  }

  stand : (from first count : ℕ) → keys_from bytes h first count ≡ offsets (figures_of bytes h) from (fields_from bytes h first count) → (k : ℕ) → k < count
      → Stands from (end_of (figures_of bytes h) from (fields_from bytes h first count)) first count k
  stand from first zero e k p = absurd (omega (arith, p))
  stand from first (suc n) e zero p =
      let f = get_or (figures_of bytes h) (row_at bytes h first).entry (figure 1 1 0) in
      let head : (row_at bytes h first).key ≡ next_multiple_of from f.align = cc e in
      let tail : keys_from bytes h (suc first) n ≡ offsets (figures_of bytes h) (next_multiple_of from f.align + f.size) (fields_from bytes h (suc first) n) = cc e in
      let same_key : (row_at bytes h first).key ≡ (row_at bytes h (first + 0)).key = ap (λ row. (row_at bytes h row).key) (omega arith) in
      let same_size : f.size ≡ size_at (first + 0) = ap (λ row. size_at row) (omega arith) in
      let same_next : (row_at bytes h (suc first + 0)).key ≡ (row_at bytes h (first + suc 0)).key = ap (λ row. (row_at bytes h row).key) (omega arith) in
      let behind : (q : 0 < n) → next_multiple_of from f.align + f.size ≤ (row_at bytes h (suc first + 0)).key
      = λ q. (stand (next_multiple_of from f.align + f.size) (suc first) n tail 0 q).low in
      in_order from (end_of (figures_of bytes h) from (fields_from bytes h first (suc n))) first (suc n) 0 (next_multiple_of from f.align) f.size (sym same_key ∙ head) (sym same_size) (rounded from f.align)
      (end_grows (figures_of bytes h) (next_multiple_of from f.align + f.size) (fields_from bytes h (suc first) n))
      (λ q. subst (λ key. next_multiple_of from f.align + f.size ≤ key) same_next (behind (omega (arith, q))))
  stand from first (suc n) e (suc k) p =
      let f = get_or (figures_of bytes h) (row_at bytes h first).entry (figure 1 1 0) in
      let tail : keys_from bytes h (suc first) n ≡ offsets (figures_of bytes h) (next_multiple_of from f.align + f.size) (fields_from bytes h (suc first) n) = cc e in
      let s = stand (next_multiple_of from f.align + f.size) (suc first) n tail k (omega (arith, p)) in
      let this : suc first + k ≡ first + suc k = omega arith in
      let after : suc first + suc k ≡ first + suc (suc k) = omega arith in
      in_order from (end_of (figures_of bytes h) from (fields_from bytes h first (suc n))) first (suc n) (suc k) (row_at bytes h (suc first + k)).key (size_at (suc first + k))
      (ap (λ row. (row_at bytes h row).key) (sym this)) (ap (λ row. size_at row) (sym this)) (above from f.align f.size (row_at bytes h (suc first + k)).key s.low)
      s.high
      (λ q. subst (λ row. (row_at bytes h (suc first + k)).key + size_at (suc first + k) ≤ (row_at bytes h row).key) after (s.next (omega (arith, q))))

-- a member stands behind the one before it, and ends within the struct
pub members_stand : (bytes : List ℕ) → WellFormed bytes → (index : ℕ) → index < (header_of bytes).entries → IsOf Struct (entry_at bytes index) → (k : ℕ) → k < (entry_at bytes index).count
    → IsApart bytes (header_of bytes) (entry_at bytes index) k
members_stand bytes w index p is k q =
    let h = header_of bytes in
    let e = entry_at bytes index in
    let kept = w.entries index p in
    let s = stand bytes h 0 e.first e.count (kept.offsets is) k q in
    let sized = ap (λ f. f.size) (stated_at bytes h (row_at bytes h (e.first + k)).entry (figure 1 1 0) (kept.children.members (test_of uses_rows Struct e is) k q)) in
    let own = kept.size.size ∙ ap (λ f. f.size) (figure_as bytes h Struct e is) in
    record {
      within = ended (row_at bytes h (e.first + k)).key (size_at bytes h (e.first + k)) (entry_at bytes (row_at bytes h (e.first + k)).entry).size (end_of (figures_of bytes h) 0 (fields_from bytes h e.first e.count)) e.size (align_of (figures_of bytes h) (fields_from bytes h e.first e.count)) sized own s.high;
      before = λ r. subst (λ size. (row_at bytes h (e.first + k)).key + size ≤ (row_at bytes h (e.first + suc k)).key) sized (s.next r);
    }
