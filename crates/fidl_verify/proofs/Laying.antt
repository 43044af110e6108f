-- A struct's members are laid out one by one.
use Rattle.std.proofs.Common.{◌≡◌, ◌≢◌, ◌↔◌, ℕ, suc, ◌+◌, ◌≤◌, max, List, ◌∷◌, get_or, refl, ap, sym, subst, ◌∙◌, arith}
use Rattle.std.specs.Int.{next_multiple_of}
use Rattle.fidl_wire.specs.Figure.{Figure, figure, figure_of, end_of, align_of, nest_of, offsets}
use Rattle.fidl_wire.specs.Term.{Fields, no_fields, field}
use Rattle.fidl_wire.specs.Term as ty
use Rattle.fidl_table_format.specs.declared.record.Header.{Header}
use Rattle.fidl_table_format.specs.Section.{row_at}
use Rattle.fidl_table_format.specs.Terms.{fields_from}
use Rattle.fidl_table_format.specs.Entry.{figures_of, keys_from, AreOffsets}

-- the rows that are left, from an end, an alignment and a nest so far, give the whole struct
pub record Left (bytes : List ℕ) (h : Header) (first count index left end align nest : ℕ) : Type 0 where
  pub keys : AreOffsets bytes h first count ↔ (keys_from bytes h index left ≡ offsets (figures_of bytes h) end (fields_from bytes h index left))
  pub ends : end_of (figures_of bytes h) end (fields_from bytes h index left) ≡ end_of (figures_of bytes h) 0 (fields_from bytes h first count)
  pub aligns : max align (align_of (figures_of bytes h) (fields_from bytes h index left)) ≡ align_of (figures_of bytes h) (fields_from bytes h first count)
  pub nests : max nest (nest_of (figures_of bytes h) (fields_from bytes h index left)) ≡ nest_of (figures_of bytes h) (fields_from bytes h first count)
  pub aligned : 1 ≤ align

some_align : (figures : List Figure) (fs : Fields) → 1 ≤ align_of figures fs
some_align figures no_fields = omega arith
some_align figures (field name t fs) = omega (arith, some_align figures fs)

module _ (bytes : List ℕ) (h : Header) (first count : ℕ) where
  pub begin : (left : ℕ) → left ≡ count → Left bytes h first count first left 0 1 0
  begin left e = subst (λ n. Left bytes h first count first n 0 1 0) (sym e) (record {
    keys = (λ k. k, λ k. k);
    ends = refl;
    aligns = omega (arith, some_align (figures_of bytes h) (fields_from bytes h first count));
    nests = omega arith;
    aligned = omega arith;
  })

  module _ (index left end align nest : ℕ) (g : Figure) (q : get_or (figures_of bytes h) (row_at bytes h index).entry (figure 1 1 0) ≡ g) (offset : ℕ) (o : offset ≡ next_multiple_of end g.align) where
    same_offset : offset ≡ next_multiple_of end (get_or (figures_of bytes h) (row_at bytes h index).entry (figure 1 1 0)).align
    same_offset = o ∙ ap (λ f. next_multiple_of end f.align) (sym q)

    same_end : offset + g.size ≡ next_multiple_of end (get_or (figures_of bytes h) (row_at bytes h index).entry (figure 1 1 0)).align + (get_or (figures_of bytes h) (row_at bytes h index).entry (figure 1 1 0)).size
    same_end = (λ i. same_offset i + g.size) ∙ ap (λ f. next_multiple_of end (get_or (figures_of bytes h) (row_at bytes h index).entry (figure 1 1 0)).align + f.size) (sym q)

    same_keys : (row_at bytes h index).key ≡ offset
        → (keys_from bytes h index (suc left) ≡ offsets (figures_of bytes h) end (fields_from bytes h index (suc left)))
        ↔ (keys_from bytes h (suc index) left ≡ offsets (figures_of bytes h) (offset + g.size) (fields_from bytes h (suc index) left))
    same_keys k = (
      λ e. let tails : keys_from bytes h (suc index) left ≡ offsets (figures_of bytes h) (next_multiple_of end (get_or (figures_of bytes h) (row_at bytes h index).entry (figure 1 1 0)).align + (get_or (figures_of bytes h) (row_at bytes h index).entry (figure 1 1 0)).size) (fields_from bytes h (suc index) left) = cc e in
          tails ∙ ap (λ z. offsets (figures_of bytes h) z (fields_from bytes h (suc index) left)) (sym same_end),
      λ e. let tails = e ∙ ap (λ z. offsets (figures_of bytes h) z (fields_from bytes h (suc index) left)) same_end in
          let heads = k ∙ same_offset in λ i. heads i ∷ tails i,
    )

    pub more : (row_at bytes h index).key ≡ offset → Left bytes h first count index (suc left) end align nest
        → Left bytes h first count (suc index) left (offset + g.size) (max g.align align) (max g.nest nest)
    more k l =
        let s = same_keys k in
        let a : (get_or (figures_of bytes h) (row_at bytes h index).entry (figure 1 1 0)).align ≡ g.align = ap (λ f. f.align) q in
        let n : (get_or (figures_of bytes h) (row_at bytes h index).entry (figure 1 1 0)).nest ≡ g.nest = ap (λ f. f.nest) q in
        record {
          keys = (λ w. s.0 (l.keys.0 w), λ w. l.keys.1 (s.1 w));
          ends = ap (λ z. end_of (figures_of bytes h) z (fields_from bytes h (suc index) left)) same_end ∙ l.ends;
          aligns = omega (arith, l.aligns, a);
          nests = omega (arith, l.nests, n);
          aligned = omega (arith, l.aligned);
        }

    pub wrong : (row_at bytes h index).key ≢ offset → Left bytes h first count index (suc left) end align nest → AreOffsets bytes h first count → ⊥
    wrong n l a = let e = l.keys.0 a in n (cc (e, same_offset))

  -- the same with other names for the numbers
  pub renamed : (index left end align nest index' end' align' nest' : ℕ) → index ≡ index' → end ≡ end' → align ≡ align' → nest ≡ nest'
      → Left bytes h first count index left end align nest → Left bytes h first count index' left end' align' nest'
  renamed index left end align nest index' end' align' nest' a b c d l =
      subst (λ x. Left bytes h first count index' left end' align' x) d (subst (λ x. Left bytes h first count index' left end' x nest) c
      (subst (λ x. Left bytes h first count index' left x align nest) b (subst (λ x. Left bytes h first count x left end align nest) a l)))

  pub done : (index left end align nest : ℕ) → left ≡ 0 → Left bytes h first count index left end align nest
      → AreOffsets bytes h first count × (figure (next_multiple_of (max end 1) align) align (nest + 1) ≡ figure_of (figures_of bytes h) (ty.struct (fields_from bytes h first count)))
  done index left end align nest e l = ended (subst (λ n. Left bytes h first count index n end align nest) e l)
    where
      ended : Left bytes h first count index 0 end align nest
          → AreOffsets bytes h first count × (figure (next_multiple_of (max end 1) align) align (nest + 1) ≡ figure_of (figures_of bytes h) (ty.struct (fields_from bytes h first count)))
      ended l =
          let a : align ≡ align_of (figures_of bytes h) (fields_from bytes h first count) = omega (arith, l.aligns, l.aligned) in
          let n : nest + 1 ≡ suc (nest_of (figures_of bytes h) (fields_from bytes h first count)) = omega (arith, l.nests) in
          (l.keys.1 refl, λ i. figure (next_multiple_of (max (l.ends i) 1) (a i)) (a i) (n i))
