-- What a word before a member says of it.
use Rattle.std.proofs.Common.{◌≡◌, ◌≢◌, ◌<◌, ◌≤◌, ◌^◌, ◌+◌, inl, inr, ℕ, suc, List, ◌∷◌, true, false, IsTrue, refl, sym, ap, subst, ◌∙◌, arith, nat_eq}
use Rattle.std.specs.Prelude.{Option, Some, None, codes}
use Rattle.std.proofs.Math.Nat.{eq-or-lt_of_le}
use Rattle.std.specs.Cmp.Lexicographic.{pointwise}
use Rattle.std.proofs.lemmas.Cmp.{nat_list_eq_equiv}
use Rattle.fidl_wire.specs.Figure.{Declarations}
use Rattle.fidl_wire.specs.Value.{Value, Member, known, unknown}
use Rattle.fidl_wire.specs.Encoding.{term_or}
use Rattle.fidl_wire.specs.Term.{Term, Rows, find, resolve}
use Rattle.fidl_wire.specs.Term as ty
use Rattle.fidl_table_format.specs.declared.record.Row.{Row}
use Rattle.fidl_table_format.specs.Section.{header_of, entry_at, row_at}
use Rattle.fidl_table_format.specs.Terms.{members_of, rows_from}
use Rattle.fidl_table_format.specs.Uses.{uses_ordinals}
use Rattle.fidl_table_format.specs.Entry.{kind_is, row_key}
use Rattle.fidl_table_format.specs.WellFormed.{WellFormed}
use Rattle.fidl_verify.proofs.Ordered.{rising_keys, rows_declared}
use Rattle.fidl_verify.proofs.Members.{lies_within, rises, if_some}
use Rattle.fidl_spelling.specs.Words.{Words}
use Rattle.fidl_spelling.specs.Spells.{The, One, IsNumberBelow, Bears, Means, AMember, Spelled}
use Rattle.fidl_spelling.proofs.Det.{word_head, word_tail}
use Rattle.fidl_reading.specs.Keys.{is_name, name_of_row, HasNoRow, ANameOf, Tells}
use Rattle.fidl_reading.specs.Reads.{StandsNot, ARaw}
use Rattle.fidl_reading.proofs.Named.{identifier_name, number_no_name, row_identifier, borne, bears_at}

-- keys that rise
not_below : (key : ℕ → ℕ) (n : ℕ) → ((j : ℕ) → suc j < n → key j < key (suc j)) → (k i : ℕ) → k ≤ i → i < n → key k ≤ key i
not_below key n step k i le less =
    elim (eq-or-lt_of_le le) [
      | inl e ↦ subst (λ j. key k ≤ key j) e (omega arith)
      | inr p ↦ let before = rising_keys key n step k i p less in omega (arith, before)
    ]

-- texts that are not the same
pub differ : (x y : List ℕ) → pointwise nat_eq x y ≡ false → x ≡ y → ⊥
differ x y h e =
    let same : pointwise nat_eq x y ≡ pointwise nat_eq y y = ap (λ l. pointwise nat_eq l y) e in
    let yes = nat_list_eq_equiv.refl y in
    absurd (cc (h, same, yes))

-- a word that neither means a member nor is an ordinal
pub no_member : (rows : Rows) (ws : Words) (word : List ℕ) (rest : Words) → ws ≡ word ∷ rest → ((o : ℕ) → ¬ (Means rows o word)) → ((o : ℕ) → ¬ (IsNumberBelow (2 ^ 64) o word)) → (ds : Declarations) (o : ℕ) (m : Member)
    → StandsNot (AMember ds rows o m) ws
no_member rows ws word rest e no_name no_number ds o (known v) r p = no_name o (subst (Means rows o) (word_head p.1.0 word p.0 rest (sym p.1.2 ∙ e)) p.1.1)
no_member rows ws word rest e no_name no_number ds o (unknown i x hs) r p = no_number o (subst (IsNumberBelow (2 ^ 64) o) (word_head p.1.0 word p.0 rest (sym p.1.2 ∙ e)) p.1.1)

-- a word with no colon behind it
pub no_colon : (rows : Rows) (ws : Words) (word : List ℕ) (rest : Words) → ws ≡ word ∷ rest → StandsNot (The ":") rest → (ds : Declarations) (o : ℕ) (m : Member) → StandsNot (AMember ds rows o m) ws
no_colon rows ws word rest e colon ds o (known v) r p = colon p.2.0 (subst (λ l. The ":" l p.2.0) (word_tail p.1.0 word p.0 rest (sym p.1.2 ∙ e)) p.2.1)
no_colon rows ws word rest e colon ds o (unknown i x hs) r p = colon p.2.0 (subst (λ l. The ":" l p.2.0) (word_tail p.1.0 word p.0 rest (sym p.1.2 ∙ e)) p.2.1)

-- a struct member's name with no colon behind it
pub name_no_colon : (b : List ℕ) (row : ℕ) (ws : Words) (word : List ℕ) (rest : Words) → ws ≡ word ∷ rest → StandsNot (The ":") rest → StandsNot (ANameOf b row) ws
name_no_colon b row ws word rest e colon r p = colon r (subst (λ l. The ":" l r) (word_tail p.1.0 word p.0 rest (sym p.1.2 ∙ e)) p.2)

-- a struct member's name is another
pub name_differs : (b : List ℕ) (row : ℕ) (ws : Words) (word : List ℕ) (rest : Words) → ws ≡ word ∷ rest → pointwise nat_eq (name_of_row b row) word ≡ false → StandsNot (ANameOf b row) ws
name_differs b row ws word rest e other r p = differ (name_of_row b row) word other (sym p.1.1 ∙ word_head p.1.0 word p.0 rest (sym p.1.2 ∙ e))

-- an ordinal is no name
pub name_no_number : (word : List ℕ) → is_name word ≡ true → (o : ℕ) → ¬ (IsNumberBelow (2 ^ 64) o word)
name_no_number word is o h = let e = number_no_name _ word h.1 in absurd (cc (e, is))

module _ (b : List ℕ) (w : WellFormed b) (index : ℕ) (lt : index < (header_of b).entries) (is : IsTrue (kind_is uses_ordinals (entry_at b index))) where
  abbrev first : ℕ
  first = (entry_at b index).first

  abbrev count : ℕ
  count = (entry_at b index).count

  rows_are : members_of b index ≡ rows_from b (header_of b) first count
  rows_are = rows_declared b (header_of b) (entry_at b index) is

  within : first + count ≤ (header_of b).rows
  within = lies_within b w index lt is (entry_at b index) refl

  row_of : (word : List ℕ) (o : ℕ) → Bears (members_of b index) word o → (k : ℕ) × (k < count) × (word ≡ name_of_row b (first + k)) × (o ≡ (row_at b (header_of b) (first + k)).key)
  row_of word o h = borne b w first count within word o (subst (λ rows. Bears rows word o) rows_are h)

  -- a word that no row bears means none
  pub no_row : (word : List ℕ) → HasNoRow b first count word → (o : ℕ) → ¬ (Means (members_of b index) o word)
  no_row word none o h = let x = row_of word o h.bears in none x.0 x.1 (sym x.2)

  -- a word that means a member is a name
  pub means_name : (word : List ℕ) → is_name word ≡ false → (o : ℕ) → ¬ (Means (members_of b index) o word)
  means_name word not_one o h =
      let x = row_of word o h.bears in
      let yes = identifier_name (name_of_row b (first + x.0)) (row_identifier b w (first + x.0) (omega (arith, x.1, within))) in
      let same : is_name word ≡ is_name (name_of_row b (first + x.0)) = ap is_name x.2 in
      absurd (cc (yes, same, not_one))

  -- the first row that bears the word is what it means
  pub row_means : (word : List ℕ) (row : Row) (k : ℕ) → k < count → row ≡ row_at b (header_of b) (first + k) → name_of_row b (first + k) ≡ word → HasNoRow b first k word → Means (members_of b index) row.key word
  row_means word row k less here name none =
      let key : (row_at b (header_of b) (first + k)).key ≡ row.key = ap (λ (r : Row). r.key) (sym here) in
      record {
        bears = subst (λ rows. Bears rows word row.key) (sym rows_are) (subst (λ o. Bears (rows_from b (header_of b) first count) word o) key (subst (λ n. Bears (rows_from b (header_of b) first count) n (row_at b (header_of b) (first + k)).key) name (bears_at b w first count k less)));
        lowest = λ o h. (
            let x = row_of word o h in
            let at_least : k ≤ x.0 = not_before (λ j. name_of_row b (first + j)) word k x.0 none x.2 in
            let rising = not_below (λ j. row_key b (header_of b) (entry_at b index) j) count (rises b w index lt is (entry_at b index) refl) k x.0 at_least x.1 in
            omega (arith, rising, key, x.3)
            );
      }
    where
      not_before : (name_at : ℕ → List ℕ) (word : List ℕ) (k i : ℕ) → ((j : ℕ) → j < k → name_at j ≢ word) → word ≡ name_at i → k ≤ i
      not_before name_at word k i none e = let no : i < k → ⊥ = λ l. none i l (sym e) in omega (arith, no)

  pub row_found : (row : Row) (k : ℕ) → k < count → row ≡ row_at b (header_of b) (first + k) → find (members_of b index) row.key ≡ Some (ty.named row.entry)
  row_found row k less here = if_some b w index lt is (entry_at b index) refl row.key (Some row) (k, less, here, refl)

-- what a key says of the member that follows it
module _ (ds : Declarations) (rows : Rows) (ordinal : ℕ) (word : List ℕ) (ws rest : Words) (is : ws ≡ word ∷ codes ":" ∷ rest) where
  -- the words behind a key
  behind_key : (A : List ℕ → Type 0) (mid last : Words) → (p : One A ws mid) → The ":" mid last → A word × (last ≡ rest)
  behind_key A mid last p c =
      let head = word_head p.0 word mid (codes ":" ∷ rest) (sym p.2 ∙ is) in
      let tail = word_tail p.0 word mid (codes ":" ∷ rest) (sym p.2 ∙ is) in
      (subst A head p.1, word_tail _ _ last rest (sym c ∙ tail))

  -- a named one
  module _ (entry : ℕ) (tells : Tells rows ordinal (Some entry) word) where
    pub known_made : (v : Value) (r : Words) → Spelled ds (resolve ds.terms (ty.named entry)) v rest r → AMember ds rows ordinal (known v) ws r
    known_made v r p = (codes ":" ∷ rest, (word, tells.1, is), (rest, (λ i. codes ":" ∷ rest), subst (λ (o : Option Term). Spelled ds (resolve ds.terms (term_or o)) v rest r) (sym tells.2) p))

    pub known_left : (o : ℕ) (m : Member) (r : Words) → AMember ds rows o m ws r → (v : Value) × (Spelled ds (resolve ds.terms (ty.named entry)) v rest r)
    known_left o (known v) r p =
        let x = behind_key (Means rows o) p.0 p.2.0 p.1 p.2.1 in
        let low = tells.1.lowest o x.0.bears in
        let other = x.0.lowest ordinal tells.1.bears in
        let same : o ≡ ordinal = omega (arith, low, other) in
        let found : find rows o ≡ Some (ty.named entry) = ap (find rows) same ∙ tells.2 in
        (v, subst (λ (t : Option Term). Spelled ds (resolve ds.terms (term_or t)) v rest r) found (subst (λ l. Spelled ds (resolve ds.terms (term_or (find rows o))) v l r) x.1 p.2.2))
    known_left o (unknown i x hs) r p =
        let k = behind_key (IsNumberBelow (2 ^ 64) o) p.0 p.2.0 p.1 p.2.1 in
        absurd (name_no_number word tells.0 o k.0)

  -- one by its ordinal
  module _ (tells : Tells rows ordinal None word) (names : (o : ℕ) → ¬ (Means rows o word)) where
    pub raw_made : (m : Member) (r : Words) → ARaw m rest r → AMember ds rows ordinal m ws r
    raw_made (unknown i x hs) r p = (codes ":" ∷ rest, (word, tells.1, is), (rest, (λ i. codes ":" ∷ rest), p))
    raw_made (known v) r p = absurd p

    pub raw_left : (o : ℕ) (m : Member) (r : Words) → AMember ds rows o m ws r → ARaw m rest r
    raw_left o (known v) r p = let x = behind_key (Means rows o) p.0 p.2.0 p.1 p.2.1 in absurd (names o x.0)
    raw_left o (unknown i x hs) r p =
        let k = behind_key (IsNumberBelow (2 ^ 64) o) p.0 p.2.0 p.1 p.2.1 in
        subst (λ l. ARaw (unknown i x hs) l r) k.1 p.2.2
