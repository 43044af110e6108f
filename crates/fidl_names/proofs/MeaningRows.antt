-- What a new end in rows of meanings changes.
use Rattle.std.proofs.Common.{◌≡◌, ◌<◌, ◌≤◌, ◌+◌, ℕ, zero, suc, List, [], ◌∷◌, ◌++◌, Some, length, get_or, set, inl, inr, refl, ap, sym, subst, ◌∙◌, arith, length-set, get_or-set_same, get_or-set_other}
use Rattle.std.specs.Prelude.{slice_get}
use Rattle.std.proofs.lemmas.List.{length_push, get_or_push, get_or_append_left}
use Rattle.std.proofs.lemmas.Option.{get_or_from_slice_get, slice_get_within, same_Some}
use Rattle.fidl_tree.specs.declared.file.File.{File}
use Rattle.fidl_named.specs.declared.place.DeclarationId.{DeclarationId}
use Rattle.fidl_named.specs.declared.ends.AliasEnd.{AliasEnd}
use Rattle.fidl_named.specs.declared.meaning.Meaning.TheVariants as meaning
use Rattle.fidl_named.specs.Aliases.{IsEnd, HasEnd}
use Rattle.fidl_named.specs.FullNames.{HasDeclaration}
use Rattle.fidl_names.specs.MeaningRows.{IsWithin, with_end}
use Rattle.fidl_named.proofs.FullNames.{at}
use Rattle.fidl_cycles.proofs.Trails.{same_or_not}

module _ {X : Type 0} where
  get_set : (xs : List X) (i : ℕ) (x : X) → i < length xs → slice_get (set xs i x) i ≡ Some x
  get_set [] i x lt = let no : ⊥ = omega (arith, lt) in absurd no
  get_set (y ∷ xs) zero x lt = refl
  get_set (y ∷ xs) (suc i) x lt = let less : i < length xs = omega (arith, lt) in get_set xs i x less

  get_set_other : (xs : List X) (i j : ℕ) (x : X) → (j ≡ i → ⊥) → slice_get (set xs i x) j ≡ slice_get xs j
  get_set_other [] i j x other = refl
  get_set_other (y ∷ xs) zero zero x other = absurd (other refl)
  get_set_other (y ∷ xs) zero (suc j) x other = refl
  get_set_other (y ∷ xs) (suc i) zero x other = refl
  get_set_other (y ∷ xs) (suc i) (suc j) x other = get_set_other xs i j x (λ e. other (ap suc e))

pub same_id : (p q : DeclarationId) → p.file ≡ q.file → p.index ≡ q.index → p ≡ q
same_id p q file index = ap (λ n. at n p.index) file ∙ ap (at q.file) index

module _ (rows : List (List AliasEnd)) (p : DeclarationId) (m : AliasEnd) (lt : IsWithin rows p) where
  abbrev old_row : List AliasEnd
  old_row = get_or rows p.file []

  abbrev row : List AliasEnd
  row = set old_row p.index m

  pub within_more : (q : DeclarationId) → IsWithin rows q → IsWithin (with_end rows p m) q
  within_more q h = elim (same_or_not q.file p.file) as (λ _. IsWithin (with_end rows p m) q) [
    | inl same ↦
        let now : get_or (with_end rows p m) q.file [] ≡ row = ap (λ n. get_or (with_end rows p m) n []) same ∙ get_or-set_same rows p.file row [] lt.0 in
        let before : get_or rows q.file [] ≡ old_row = ap (λ n. get_or rows n []) same in
        let long = length-set old_row p.index m in
        let inside : q.index < length row = subst (λ n. q.index < n) (ap length before ∙ sym long) h.1 in (
          subst (λ n. q.file < n) (sym (length-set rows p.file row)) h.0,
          subst (λ (l : List AliasEnd). q.index < length l) (sym now) inside,
        )
    | inr other ↦ (
      subst (λ n. q.file < n) (sym (length-set rows p.file row)) h.0,
      subst (λ (l : List AliasEnd). q.index < length l) (sym (get_or-set_other rows p.file q.file row [] other)) h.1,
    )
  ]

  module _ (files : List File) (is : IsEnd files (meaning.Declared p) m) where
    pub end_here : HasEnd files (with_end rows p m) p
    end_here = record {
      row = row;
      end = m;
      row_at = get_set rows p.file row lt.0;
      end_at = get_set old_row p.index m lt.1;
      is = is;
    }

    same_file : (q : DeclarationId) → HasEnd files rows q → q.file ≡ p.file → HasEnd files (with_end rows p m) q
    same_file q h same = elim (same_or_not q.index p.index) as (λ _. HasEnd files (with_end rows p m) q) [
      | inl index ↦ subst (HasEnd files (with_end rows p m)) (sym (same_id q p same index)) end_here
      | inr other ↦
          let its : old_row ≡ h.row = ap (λ n. get_or rows n []) (sym same) ∙ get_or_from_slice_get rows q.file h.row [] h.row_at in
          record {
            row = row;
            end = h.end;
            row_at = ap (slice_get (with_end rows p m)) same ∙ get_set rows p.file row lt.0;
            end_at = get_set_other old_row p.index q.index m other ∙ ap (λ l. slice_get l q.index) its ∙ h.end_at;
            is = h.is;
          }
    ]

    pub end_kept : (q : DeclarationId) → HasEnd files rows q → HasEnd files (with_end rows p m) q
    end_kept q h = elim (same_or_not q.file p.file) as (λ _. HasEnd files (with_end rows p m) q) [
      | inl same ↦ same_file q h same
      | inr other ↦ record {
        row = h.row;
        end = h.end;
        row_at = get_set_other rows p.file q.file row other ∙ h.row_at;
        end_at = h.end_at;
        is = h.is;
      }
    ]

-- rows for the files before one, each as long as its file
pub record AreRowsTo (files : List File) (k : ℕ) (rows : List (List AliasEnd)) : Type 0 where
  pub long : length rows ≡ k
  pub each : (i : ℕ) (f : File) → i < k → slice_get files i ≡ Some f → length (get_or rows i []) ≡ length f.declarations.items

pub rows_none : (files : List File) → AreRowsTo files 0 []
rows_none files = record { long = refl; each = λ i f lt at. let never : ⊥ = omega (arith, lt) in absurd never }

pub rows_more : (files : List File) (k : ℕ) (rows : List (List AliasEnd)) (row : List AliasEnd) (f : File) → AreRowsTo files k rows → slice_get files k ≡ Some f → length row ≡ length f.declarations.items → AreRowsTo files (k + 1) (rows ++ row ∷ [])
rows_more files k rows row f h at long =
    let more = length_push rows row in
    let before = h.long in
    record { long = omega (arith, more, before); each = each }
  where
    each : (i : ℕ) (g : File) → i < k + 1 → slice_get files i ≡ Some g → length (get_or (rows ++ row ∷ []) i []) ≡ length g.declarations.items
    each i g lt there = elim (same_or_not i k) as (λ _. length (get_or (rows ++ row ∷ []) i []) ≡ length g.declarations.items) [
      | inl same ↦
          let file = same_Some f g (sym at ∙ ap (slice_get files) (sym same) ∙ there) in
          ap length (get_or_push rows row [] i (h.long ∙ sym same)) ∙ long ∙ ap (λ (x : File). length x.declarations.items) file
      | inr other ↦
          let less : i < k = omega (arith, lt, other) in
          let long_rows = h.long in
          let within : i < length rows = omega (arith, less, long_rows) in
          ap length (get_or_append_left rows (row ∷ []) [] i within) ∙ h.each i g less there
    ]

pub rows_within : (files : List File) (k : ℕ) (rows : List (List AliasEnd)) → length files ≤ k → AreRowsTo files k rows → (p : DeclarationId) → HasDeclaration files p → IsWithin rows p
rows_within files k rows all h p there =
    let inside = slice_get_within files p.file there.file there.file_at in
    let less : p.file < k = omega (arith, all, inside) in
    let long = h.long in
    let index = slice_get_within there.file.declarations.items p.index there.declaration there.stands in
    (omega (arith, less, long), subst (λ n. p.index < n) (sym (h.each p.file there.file less there.file_at)) index)
