-- Members that are sought by their names in the map of their union.
use Rattle.std.proofs.Common.{◌≡◌, ◌+◌, ◌<◌, ◌≤◌, ℕ, List, [], ◌∷◌, ◌++◌, length, get_or, below_more, Option, Some, None, refl, ap, sym, subst, ◌∙◌, arith}
use Rattle.std.specs.Prelude.{MatchOption}
use Rattle.std.specs.BTreeMap.{BTreeMap}
use Rattle.std.specs.Global.{Vec}
use Rattle.std.proofs.lemmas.Option.{slice_get_read, slice_get-get_or}
use Rattle.std.proofs.Math.ListN.{get_or-append}
use Rattle.std.proofs.Math.Seq.{get_or-append_seam}
use Rattle.fidl_table_format.specs.declared.record.Row.{Row}
use Rattle.fidl_table_format.specs.Section.{header_of, entry_at, row_at}
use Rattle.fidl_reading.specs.declared.named_rows.TheConstants.{LONGEST_NAME}
use Rattle.fidl_reading.specs.Found.{row_of, IsFirst, Finds, FindsOf, AreFound}
use Rattle.fidl_reading.specs.Keys.{name_of_row, HasNoRow}

-- the maps of one entry more
pub one_more : (b : List ℕ) (old new : List (Option (BTreeMap (Vec ℕ) ℕ))) (o : Option (BTreeMap (Vec ℕ) ℕ)) (n : ℕ) → length old ≡ n → new ≡ old ++ o ∷ []
    → ((i : ℕ) → i < n → FindsOf b (entry_at b i) (get_or old i None)) → FindsOf b (entry_at b n) o → (i : ℕ) → i < n + 1 → FindsOf b (entry_at b i) (get_or new i None)
one_more b old new o n long is before here =
    let at : get_or new n None ≡ o = ap (λ l. get_or l n None) is ∙ ap (λ k. get_or (old ++ o ∷ []) k None) (sym long) ∙ get_or-append_seam old o [] None in
    below_more (λ i. FindsOf b (entry_at b i) (get_or new i None)) n (λ i less. (
    let kept : get_or new i None ≡ get_or old i None = ap (λ l. get_or l i None) is ∙ get_or-append old (o ∷ []) None i (omega (arith, less, long)) in
    subst (FindsOf b (entry_at b i)) (sym kept) (before i less)
    )) (subst (FindsOf b (entry_at b n)) (sym at) here)

-- the map of an entry
pub map_at : (b : List ℕ) (all : List (Option (BTreeMap (Vec ℕ) ℕ))) → AreFound b all → (index : ℕ) → index < (header_of b).entries → index < length all
    → (o : Option (BTreeMap (Vec ℕ) ℕ)) → o ≡ get_or all index o → (rows : BTreeMap (Vec ℕ) ℕ) → o ≡ Some rows → Finds b (entry_at b index).first (entry_at b index).count rows
map_at b all found index known within o at rows is =
    let here : Some o ≡ Some (get_or all index None) = sym (slice_get_read all (length all) index o refl within at) ∙ slice_get-get_or all index None within in
    let same : get_or all index None ≡ Some rows = cc (here, is) in
    subst (FindsOf b (entry_at b index)) same (found index known)

module _ (b : List ℕ) (first count : ℕ) (rows : BTreeMap (Vec ℕ) ℕ) (finds : Finds b first count rows) (name : List ℕ) (short : length name ≤ LONGEST_NAME) where
  -- what the map has
  pub first_row : (row : ℕ) → Some row ≡ row_of rows name → IsFirst b first count name row
  first_row row e = subst (λ o. MatchOption o (HasNoRow b first count name) (IsFirst b first count name)) (sym e) (finds name short)

  -- what it does not have
  pub no_first : None ≡ row_of rows name → HasNoRow b first count name
  no_first e = subst (λ o. MatchOption o (HasNoRow b first count name) (IsFirst b first count name)) (sym e) (finds name short)

module _ (b : List ℕ) (first count : ℕ) (name : List ℕ) (place : ℕ) (h : IsFirst b first count name place) where
  pub lies_in : first + count ≤ (header_of b).rows → place < (header_of b).rows
  lies_in within = omega (arith, within, h.within, h.place)

  pub sought : (row : Row) → row ≡ row_at b (header_of b) place → (k : ℕ) × (k < count) × (row ≡ row_at b (header_of b) (first + k)) × (name_of_row b (first + k) ≡ name) × HasNoRow b first k name
  sought row e = (h.k, h.within, e ∙ ap (row_at b (header_of b)) h.place, h.bears, h.lowest)
