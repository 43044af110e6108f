-- The figures that the entries state, one by one.
use Rattle.std.proofs.Common.{◌≡◌, ℕ, zero, suc, ◌+◌, ◌*◌, ◌<◌, List, [], ◌∷◌, ◌++◌, length, get_or, refl, ap, sym, ◌∙◌, arith, add-one, length-append, ◌⊎◌, inl, inr}
use Rattle.std.proofs.Math.ListN.{get_or-append}
use Rattle.std.proofs.Math.Seq.{get_or-append_seam}
use Rattle.std.proofs.lemmas.List.{get_or-map}
use Rattle.std.proofs.lemmas.Bool.{cases_order}
use Rattle.fidl_wire.specs.Figure.{Figure, figure, figure_of}
use Rattle.fidl_wire.specs.Term as ty
use Rattle.fidl_table_format.specs.declared.record.Header.{Header}
use Rattle.fidl_table_format.specs.declared.record.Entry.{Entry}
use Rattle.fidl_table_format.specs.Section.{entry_at}
use Rattle.fidl_table_format.specs.Terms.{below, stated_figure}
use Rattle.fidl_table_format.specs.Entry.{figures_of}

pub length-below : (n : ℕ) → length (below n) ≡ n
length-below zero = refl
length-below (suc n) = length-append (below n) (n ∷ []) ∙ omega (arith, length-below n)

pub or_last : (i n : ℕ) → i < suc n → (i < n) ⊎ (i ≡ n)
or_last i n p = elim (cases_order i n) [ inl e ↦ inr e | inr (inl q) ↦ inl q | inr (inr q) ↦ absurd (omega (arith, p, q)) ]

pub get_or-below : (n i : ℕ) → i < n → get_or (below n) i 0 ≡ i
get_or-below zero i p = absurd (omega (arith, p))
get_or-below (suc n) i p =
    elim (or_last i n p) [
      | inl q ↦ get_or-append (below n) (n ∷ []) 0 i (omega (arith, length-below n, q)) ∙ get_or-below n i q
      | inr q ↦ ap (λ j. get_or (below n ++ n ∷ []) j 0) (q ∙ sym (length-below n)) ∙ get_or-append_seam (below n) n [] 0 ∙ sym q
    ]

-- the figure at an entry's number is the one that the entry states
pub stated_at : (bytes : List ℕ) (h : Header) (i : ℕ) (d : Figure) → i < h.entries → get_or (figures_of bytes h) i d ≡ stated_figure (entry_at bytes i)
stated_at bytes h i d p =
    get_or-map (λ i. stated_figure (entry_at bytes i)) (below h.entries) i 0 d (omega (arith, length-below h.entries, p))
    ∙ ap (λ i. stated_figure (entry_at bytes i)) (get_or-below h.entries i p)

-- the figure of an array, from the fields of its element's entry
pub array_figure : (bytes : List ℕ) (h : Header) (i count : ℕ) (e : Entry) (size n nest : ℕ) → i < h.entries → e ≡ entry_at bytes i → size ≡ e.size → n ≡ count → nest ≡ e.nest
    → figure (size * n) e.alignment (nest + 1) ≡ figure_of (figures_of bytes h) (ty.array (ty.named i) count)
array_figure bytes h i count e size n nest p is a b d =
    let q : get_or (figures_of bytes h) i (figure 1 1 0) ≡ stated_figure e = stated_at bytes h i (figure 1 1 0) p ∙ ap stated_figure (sym is) in
    let base : figure (size * n) e.alignment (nest + 1) ≡ figure (e.size * count) e.alignment (suc e.nest) = cc (add-one nest) in
    base ∙ ap (λ f. figure (f.size * count) f.align (suc f.nest)) (sym q)
