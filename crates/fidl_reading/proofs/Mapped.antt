-- What a map has at a name.
use Rattle.std.proofs.Common.{◌≡◌, ◌<◌, ◌+◌, ℕ, List, length, Bool, true, false, refl, sym, ap, subst, ◌∙◌, arith, inl, inr, below_more}
use Rattle.std.specs.Prelude.{Option, Some, None, MatchOption, is_some}
use Rattle.std.specs.Global.{Vec}
use Rattle.std.proofs.Common.{Ordering}
use Rattle.std.specs.Ordering.{is_eq, nat_cmp}
use Rattle.std.specs.Cmp.{eq_by_cmp_equiv}
use Rattle.std.specs.Cmp.Lexicographic.{slice_cmp, bytes_decides, nat_list_cmp_total, nat_list_eq_equiv}
use Rattle.std.specs.Str.{bytes_eq}
use Rattle.std.specs.BTreeMap.{BTreeMap, UpdatesBy, IsEmpty}
use Rattle.std.specs.Map.{lookup, IsKeyTest, AreApart, KeepsOthers}
use Rattle.std.proofs.lemmas.Bool.{cases_Bool}
use Rattle.std.proofs.lemmas.Map.Text.{is_eq-slice_cmp}
use Rattle.fidl_reading.specs.declared.named_rows.TheConstants.{LONGEST_NAME}
use Rattle.fidl_reading.specs.Found.{row_of, IsFirst, Finds}
use Rattle.fidl_reading.specs.Keys.{name_of_row, HasNoRow}

abbrev pub by_items : Vec ℕ → Vec ℕ → Ordering
by_items x y = slice_cmp nat_cmp x.items y.items

module _ {K : Type 0} (eq : K → K → Bool) (test : K → Bool) where
  other_entries : {X : Type 0} (old new : List (K × X)) → KeepsOthers eq test old new → (other : K → Bool) → IsKeyTest eq other → AreApart test other → lookup other new ≡ lookup other old
  unfolding KeepsOthers
  other_entries old new h = h

apart_in_order : (bs cs ks : List ℕ) → bytes_eq bs cs ≡ false → is_eq (slice_cmp nat_cmp bs ks) ≡ true → is_eq (slice_cmp nat_cmp cs ks) ≡ false
apart_in_order bs cs ks n y =
    is_eq-slice_cmp cs ks ∙ nat_list_eq_equiv.symm cs ks ∙ sym (nat_list_eq_equiv.congr bs ks cs (sym (is_eq-slice_cmp bs ks) ∙ y)) ∙ n

-- at other names nothing changes
other_names : (bs : List ℕ) (m n : BTreeMap (Vec ℕ) ℕ) (w : Option ℕ) → UpdatesBy by_items (λ k. slice_cmp nat_cmp bs k.items) m n w → (cs : List ℕ) → bytes_eq bs cs ≡ false → row_of n cs ≡ row_of m cs
other_names bs m n w h cs e = other_entries _ _ _ _ h.3 _ (λ x y. (eq_by_cmp_equiv nat_list_cmp_total).congr cs x.items y.items) (λ k. apart_in_order bs cs k.items e)

apart_names : (own name : List ℕ) → bytes_eq own name ≡ false → own ≡ name → ⊥
apart_names own name n e = let y = (bytes_decides own name).1 e in absurd (cc (n, y))

-- whether a map has a name
pub has_none : (r : Bool) (o : Option ℕ) → r ≡ is_some o → r ≡ false → o ≡ None
has_none r None e h = refl
has_none r (Some row) e h = absurd (cc (e, h))

pub has_some : (r : Bool) (o : Option ℕ) → r ≡ is_some o → r ≡ true → (row : ℕ) × (o ≡ Some row)
has_some r (Some row) e h = (row, refl)
has_some r None e h = absurd (cc (e, h))

module _ (b : List ℕ) (first : ℕ) where
  pub none_found : (rows : BTreeMap (Vec ℕ) ℕ) → IsEmpty rows → Finds b first 0 rows
  none_found rows e name short = subst (λ o. MatchOption o (HasNoRow b first 0 name) (IsFirst b first 0 name)) (sym (ap (λ es. lookup (λ (key : Vec ℕ). is_eq (slice_cmp nat_cmp name key.items)) es) e)) (λ k less. absurd (omega (arith, less)))

  module _ (k : ℕ) (rows : BTreeMap (Vec ℕ) ℕ) (own : List ℕ) (is : name_of_row b (first + k) ≡ own) (before : Finds b first k rows) where
    longer : (name : List ℕ) (row : ℕ) → IsFirst b first k name row → IsFirst b first (k + 1) name row
    longer name row h = record { k = h.k; within = omega (arith, h.within); place = h.place; bears = h.bears; lowest = h.lowest }

    -- a row of another name
    other : (name : List ℕ) (o : Option ℕ) → (name ≡ own → ⊥) → MatchOption o (HasNoRow b first k name) (IsFirst b first k name) → MatchOption o (HasNoRow b first (k + 1) name) (IsFirst b first (k + 1) name)
    other name None differ h = below_more _ _ h (λ e. differ (sym e ∙ is))
    other name (Some row) differ h = longer name row h

    -- a row of a name that the map has
    has : (name : List ℕ) (row : ℕ) (o : Option ℕ) → o ≡ Some row → MatchOption o (HasNoRow b first k name) (IsFirst b first k name) → MatchOption o (HasNoRow b first (k + 1) name) (IsFirst b first (k + 1) name)
    has name row None e h = absurd (cc e)
    has name row (Some r) e h = longer name r h

    pub found_before : (row : ℕ) → row_of rows own ≡ Some row → Finds b first (k + 1) rows
    found_before row e name short = elim (cases_Bool (bytes_eq own name)) [
      | inl y ↦ let same = (bytes_decides own name).0 y in has name row (row_of rows name) (ap (row_of rows) (sym same) ∙ e) (before name short)
      | inr n ↦ other name (row_of rows name) (λ e. apart_names own name n (sym e)) (before name short)
    ]

    -- a row of a long name
    pub found_long : LONGEST_NAME < length own → Finds b first (k + 1) rows
    found_long long name short = other name (row_of rows name) (λ e. let same : length name ≡ length own = ap length e in omega (arith, same)) (before name short)

    absent_before : (name : List ℕ) (o : Option ℕ) → o ≡ None → MatchOption o (HasNoRow b first k name) (IsFirst b first k name) → HasNoRow b first k name
    absent_before name None e h = h
    absent_before name (Some r) e h = absurd (cc e)

    pub found_now : (more : BTreeMap (Vec ℕ) ℕ) → row_of rows own ≡ None → UpdatesBy by_items (λ key. slice_cmp nat_cmp own key.items) rows more (Some (first + k)) → Finds b first (k + 1) more
    found_now more absent h name short = elim (cases_Bool (bytes_eq own name)) [
      | inl y ↦
          let same = (bytes_decides own name).0 y in
          let put : row_of more name ≡ Some (first + k) = ap (row_of more) (sym same) ∙ h.1 in
          subst (λ o. MatchOption o (HasNoRow b first (k + 1) name) (IsFirst b first (k + 1) name)) (sym put)
          (record { k = k; within = omega arith; place = refl; bears = is ∙ same; lowest = absent_before name (row_of rows name) (ap (row_of rows) (sym same) ∙ absent) (before name short) })
      | inr n ↦ subst (λ o. MatchOption o (HasNoRow b first (k + 1) name) (IsFirst b first (k + 1) name)) (sym (other_names own rows more (Some (first + k)) h name n)) (other name (row_of rows name) (λ e. apart_names own name n (sym e)) (before name short))
    ]
