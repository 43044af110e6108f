-- What a map of methods has at a name.
use Rattle.std.proofs.Common.{◌≡◌, ◌<◌, ◌≤◌, ◌+◌, ℕ, List, length, Bool, true, false, sym, ap, subst, ◌∙◌, arith, inl, inr, below_more}
use Rattle.std.specs.Prelude.{Option, Some, None, MatchOption}
use Rattle.std.specs.Global.{Vec}
use Rattle.std.specs.Ordering.{is_eq, nat_cmp}
use Rattle.std.specs.Cmp.{eq_by_cmp_equiv}
use Rattle.std.specs.Cmp.Lexicographic.{slice_cmp, bytes_decides, nat_list_cmp_total, nat_list_eq_equiv}
use Rattle.std.specs.Str.{bytes_eq}
use Rattle.std.specs.BTreeMap.{BTreeMap, UpdatesBy, IsEmpty}
use Rattle.std.specs.Map.{lookup, IsKeyTest, AreApart, KeepsOthers}
use Rattle.std.proofs.lemmas.Bool.{cases_Bool}
use Rattle.std.proofs.lemmas.Map.Text.{is_eq-slice_cmp}
use Rattle.fidl_reading.proofs.Mapped.{by_items}
use Rattle.fidl_verify.specs.Lookups.{TableProtocol}
use Rattle.fidl_script.specs.declared.methods.TheConstants.{LONGEST_NAME}
use Rattle.fidl_script.specs.Named.{name_of_method, HasNoneNamed, IsFirstNamed, place_at, Finds}

module _ {K : Type 0} (eq : K → K → Bool) (test : K → Bool) where
  other_entries : {X : Type 0} (old new : List (K × X)) → KeepsOthers eq test old new → (other : K → Bool) → IsKeyTest eq other → AreApart test other → lookup other new ≡ lookup other old
  unfolding KeepsOthers
  other_entries old new h = h

apart_in_order : (bs cs ks : List ℕ) → bytes_eq bs cs ≡ false → is_eq (slice_cmp nat_cmp bs ks) ≡ true → is_eq (slice_cmp nat_cmp cs ks) ≡ false
apart_in_order bs cs ks n y =
    is_eq-slice_cmp cs ks ∙ nat_list_eq_equiv.symm cs ks ∙ sym (nat_list_eq_equiv.congr bs ks cs (sym (is_eq-slice_cmp bs ks) ∙ y)) ∙ n

-- at other names nothing changes
other_names : (bs : List ℕ) (m n : BTreeMap (Vec ℕ) ℕ) (w : Option ℕ) → UpdatesBy by_items (λ k. slice_cmp nat_cmp bs k.items) m n w → (cs : List ℕ) → bytes_eq bs cs ≡ false → place_at n cs ≡ place_at m cs
other_names bs m n w h cs e = other_entries _ _ _ _ h.3 _ (λ x y. (eq_by_cmp_equiv nat_list_cmp_total).congr cs x.items y.items) (λ k. apart_in_order bs cs k.items e)

apart_names : (own name : List ℕ) → bytes_eq own name ≡ false → own ≡ name → ⊥
apart_names own name n e = let y = (bytes_decides own name).1 e in absurd (cc (n, y))

module _ (p : TableProtocol) where
  pub none_found : (places : BTreeMap (Vec ℕ) ℕ) → IsEmpty places → Finds p 0 places
  none_found places e name short = subst (λ o. MatchOption o (HasNoneNamed p 0 name) (IsFirstNamed p 0 name)) (sym (ap (λ es. lookup (λ (key : Vec ℕ). is_eq (slice_cmp nat_cmp name key.items)) es) e)) (λ k less. absurd (omega (arith, less)))

  module _ (k : ℕ) (places : BTreeMap (Vec ℕ) ℕ) (own : List ℕ) (is : name_of_method p k ≡ own) (before : Finds p k places) where
    longer : (name : List ℕ) (place : ℕ) → IsFirstNamed p k name place → IsFirstNamed p (k + 1) name place
    longer name place h = record { within = omega (arith, h.within); named = h.named; first = h.first }

    -- a method of another name
    other : (name : List ℕ) (o : Option ℕ) → (name ≡ own → ⊥) → MatchOption o (HasNoneNamed p k name) (IsFirstNamed p k name) → MatchOption o (HasNoneNamed p (k + 1) name) (IsFirstNamed p (k + 1) name)
    other name None differ h = below_more _ _ h (λ e. differ (sym e ∙ is))
    other name (Some place) differ h = longer name place h

    -- a method of a name that the map has
    has : (name : List ℕ) (place : ℕ) (o : Option ℕ) → o ≡ Some place → MatchOption o (HasNoneNamed p k name) (IsFirstNamed p k name) → MatchOption o (HasNoneNamed p (k + 1) name) (IsFirstNamed p (k + 1) name)
    has name place None e h = absurd (cc e)
    has name place (Some r) e h = longer name r h

    pub found_before : (place : ℕ) → place_at places own ≡ Some place → Finds p (k + 1) places
    found_before place e name short = elim (cases_Bool (bytes_eq own name)) [
      | inl y ↦ let same = (bytes_decides own name).0 y in has name place (place_at places name) (ap (place_at places) (sym same) ∙ e) (before name short)
      | inr n ↦ other name (place_at places name) (λ e. apart_names own name n (sym e)) (before name short)
    ]

    -- a method of a long name
    pub found_long : LONGEST_NAME < length own → Finds p (k + 1) places
    found_long long name short = other name (place_at places name) (λ e. let same : length name ≡ length own = ap length e in omega (arith, same)) (before name short)

    absent_before : (name : List ℕ) (o : Option ℕ) → o ≡ None → MatchOption o (HasNoneNamed p k name) (IsFirstNamed p k name) → HasNoneNamed p k name
    absent_before name None e h = h
    absent_before name (Some r) e h = absurd (cc e)

    pub found_now : (more : BTreeMap (Vec ℕ) ℕ) → place_at places own ≡ None → UpdatesBy by_items (λ key. slice_cmp nat_cmp own key.items) places more (Some k) → Finds p (k + 1) more
    found_now more absent h name short = elim (cases_Bool (bytes_eq own name)) [
      | inl y ↦
          let same = (bytes_decides own name).0 y in
          let put : place_at more name ≡ Some k = ap (place_at more) (sym same) ∙ h.1 in
          subst (λ o. MatchOption o (HasNoneNamed p (k + 1) name) (IsFirstNamed p (k + 1) name)) (sym put)
          (record { within = omega arith; named = is ∙ same; first = absent_before name (place_at places name) (ap (place_at places) (sym same) ∙ absent) (before name short) })
      | inr n ↦ subst (λ o. MatchOption o (HasNoneNamed p (k + 1) name) (IsFirstNamed p (k + 1) name)) (sym (other_names own places more (Some k) h name n)) (other name (place_at places name) (λ e. apart_names own name n (sym e)) (before name short))
    ]

  module _ (count : ℕ) (places : BTreeMap (Vec ℕ) ℕ) (finds : Finds p count places) (name : List ℕ) (short : length name ≤ LONGEST_NAME) where
    -- what the map has
    pub first_place : (place : ℕ) → Some place ≡ place_at places name → IsFirstNamed p count name place
    first_place place e = subst (λ o. MatchOption o (HasNoneNamed p count name) (IsFirstNamed p count name)) (sym e) (finds name short)

    -- what it does not have
    pub no_place : None ≡ place_at places name → HasNoneNamed p count name
    no_place e = subst (λ o. MatchOption o (HasNoneNamed p count name) (IsFirstNamed p count name)) (sym e) (finds name short)
