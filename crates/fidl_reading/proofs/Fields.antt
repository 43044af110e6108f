-- Members of a struct, one by one.
use Rattle.std.proofs.Common.{◌≡◌, List, [], ◌∷◌, ◌++◌, ℕ, suc, ◌+◌, ◌-◌, ◌<◌, ◌≤◌, Bool, true, false, refl, sym, ap, subst, ◌∙◌, arith}
use Rattle.fidl_wire.specs.Value.{Value, Values, none, value, values_of, fields, absent}
use Rattle.fidl_wire.specs.Term.{Term, Fields, no_fields, field, fields_of, resolve}
use Rattle.fidl_wire.specs.Term as ty
use Rattle.fidl_wire.specs.Figure.{Declarations}
use Rattle.fidl_table_format.specs.Section.{header_of, row_at}
use Rattle.fidl_table_format.specs.Terms.{declarations_of, fields_from}
use Rattle.fidl_spelling.specs.Words.{Words}
use Rattle.fidl_spelling.specs.Spells.{The, One, ◌⨾◌, CommaIf, Spelled, Named}
use Rattle.fidl_spelling.proofs.Det.{Det, det_comma, word_tail}
use Rattle.fidl_reading.specs.Reads.{StandsNot, has_some, type_at}
use Rattle.fidl_reading.specs.Keys.{name_of_row, ANameOf}
use Rattle.fidl_reading.proofs.Narrowing.{Narrows}
use Rattle.fidl_reading.proofs.Leading.{Leads, leads_as, leads_word, some_more}
use Rattle.fidl_reading.proofs.Elements.{behind, behind_one, behind_all}

-- members up to the brace that closes their struct
abbrev pub FieldsLeft : Declarations → Fields → (later : Bool) → Values → Words → Words → Type 0
FieldsLeft ds fs later vs = Named ds fs later vs ⨾ The "}"

-- a name and its colon end at one place
name_ends : (name : List ℕ) (ws r s : Words) → (One (λ w. w ≡ name) ⨾ The ":") ws r → (One (λ w. w ≡ name) ⨾ The ":") ws s → r ≡ s
name_ends name ws r s p q =
    let same : p.0 ≡ q.0 = word_tail p.1.0 q.1.0 p.0 q.0 (sym p.1.2 ∙ q.1.2) in
    word_tail _ _ r s (sym p.2 ∙ same ∙ q.2)

module _ (ds : Declarations) (name : List ℕ) (t : Term) (fs : Fields) where
  -- what is left behind a member
  rest_of : ((v u : Value) → Det (Spelled ds (resolve ds.terms t) v) (Spelled ds (resolve ds.terms t) u) (v ≡ u)) → (later : Bool) (to : Words) (v : Value) (mid start next : Words) → CommaIf later to mid → (One (λ w. w ≡ name) ⨾ The ":") mid start
      → Spelled ds (resolve ds.terms t) v start next → (vs : Values) (r : Words) → FieldsLeft ds (field name t fs) later vs to r → (us : Values) × FieldsLeft ds fs true us next r
  rest_of single later to v mid start next c m a none r p = absurd p.1
  rest_of single later to v mid start next c m a (value u us) r p =
      let same = det_comma later to mid p.1.0 c p.1.1 in
      let here = name_ends name mid start p.1.2.2.0 m (p.1.2.0, subst (λ l. One (λ w. w ≡ name) l p.1.2.0) (sym same.1) p.1.2.1, p.1.2.2.1) in
      let x = single v u start next p.1.2.2.2.0 a (subst (λ l. Spelled ds (resolve ds.terms t) u l p.1.2.2.2.0) (sym here) p.1.2.2.2.1) in
      (us, (p.0, subst (λ l. Named ds fs true us l p.0) (sym x.1) p.1.2.2.2.2, p.2))

  module _ {U : Type 0} {Whole : U → Words → Words → Type 0} {from : Words} (later : Bool) (to : Words) where
    pub field_read : ((v u : Value) → Det (Spelled ds (resolve ds.terms t) v) (Spelled ds (resolve ds.terms t) u) (v ≡ u)) → (join : Values → U) (v : Value) (mid start next : Words) → Leads Whole from (FieldsLeft ds (field name t fs) later) to join
        → CommaIf later to mid → (One (λ w. w ≡ name) ⨾ The ":") mid start → Spelled ds (resolve ds.terms t) v start next → Leads Whole from (FieldsLeft ds fs true) next (λ vs. join (value v vs))
    field_read single join v mid start next n c m a =
        record {
          narrows = record { narrow = λ u r p. let x = n.narrows.narrow u r p in rest_of single later to v mid start next c m a x.0 r x.1 };
          sound = λ vs r p. n.sound (value v vs) r (p.0, (mid, c, (m.0, m.1, (start, m.2, (next, a, p.1)))), p.2);
        }

    -- no member can be read
    pub no_comma : (join : Values → U) → Leads Whole from (FieldsLeft ds (field name t fs) later) to join → StandsNot (CommaIf later) to → (u : U) → StandsNot (Whole u) from
    no_comma join n c u r p = let x = n.narrows.narrow u r p in go x.0 x.1
      where
        go : (vs : Values) → FieldsLeft ds (field name t fs) later vs to r → ⊥
        go none q = q.1
        go (value v vs) q = c q.1.0 q.1.1

    pub no_name : (join : Values → U) (mid : Words) → Leads Whole from (FieldsLeft ds (field name t fs) later) to join → CommaIf later to mid → StandsNot (One (λ w. w ≡ name) ⨾ The ":") mid → (u : U) → StandsNot (Whole u) from
    no_name join mid n c m u r p = let x = n.narrows.narrow u r p in go x.0 x.1
      where
        go : (vs : Values) → FieldsLeft ds (field name t fs) later vs to r → ⊥
        go none q = q.1
        go (value v vs) q =
            let same = det_comma later to mid q.1.0 c q.1.1 in
            m q.1.2.2.0 (q.1.2.0, subst (λ l. One (λ w. w ≡ name) l q.1.2.0) (sym same.1) q.1.2.1, q.1.2.2.1)

    pub no_item : (join : Values → U) (mid start : Words) → Leads Whole from (FieldsLeft ds (field name t fs) later) to join → CommaIf later to mid → (One (λ w. w ≡ name) ⨾ The ":") mid start
        → ((v : Value) → StandsNot (Spelled ds (resolve ds.terms t) v) start) → (u : U) → StandsNot (Whole u) from
    no_item join mid start n c m a u r p = let x = n.narrows.narrow u r p in go x.0 x.1
      where
        go : (vs : Values) → FieldsLeft ds (field name t fs) later vs to r → ⊥
        go none q = q.1
        go (value v vs) q =
            let same = det_comma later to mid q.1.0 c q.1.1 in
            let here = name_ends name mid start q.1.2.2.0 m (q.1.2.0, subst (λ l. One (λ w. w ≡ name) l q.1.2.0) (sym same.1) q.1.2.1, q.1.2.2.1) in
            a v q.1.2.2.2.0 (subst (λ l. Spelled ds (resolve ds.terms t) v l q.1.2.2.2.0) (sym here) q.1.2.2.2.1)

-- by the rows of a table: those from the k-th on are left
module _ (b : List ℕ) (first count : ℕ) where
  abbrev ds : Declarations
  ds = declarations_of b

  abbrev pub RowsLeft : (k : ℕ) (later : Bool) → Values → Words → Words → Type 0
  RowsLeft k later = FieldsLeft ds (fields_from b (header_of b) (first + k) (count - k)) later

  abbrev row_type : ℕ → Term
  row_type k = ty.named (row_at b (header_of b) (first + k)).entry

  -- the next of them
  next_row : (k : ℕ) → k < count
      → fields_from b (header_of b) (first + k) (count - k) ≡ field (name_of_row b (first + k)) (row_type k) (fields_from b (header_of b) (first + (k + 1)) (count - (k + 1)))
  next_row k less =
      let more : count - k ≡ suc (count - (k + 1)) = omega (arith, less) in
      let further : suc (first + k) ≡ first + (k + 1) = omega arith in
      ap (fields_from b (header_of b) (first + k)) more ∙ ap (λ n. field (name_of_row b (first + k)) (row_type k) (fields_from b (header_of b) n (count - (k + 1)))) further

  none_left : (k : ℕ) → count ≤ k → fields_from b (header_of b) (first + k) (count - k) ≡ no_fields
  none_left k le = let nothing : count - k ≡ 0 = omega (arith, le) in ap (fields_from b (header_of b) (first + k)) nothing

  module _ {U : Type 0} {Whole : U → Words → Words → Type 0} {from : Words} (k : ℕ) (later : Bool) (to : Words) (less : k < count) (join : Values → U) (n : Leads Whole from (RowsLeft k later) to join) where
    here : Leads Whole from (FieldsLeft ds (field (name_of_row b (first + k)) (row_type k) (fields_from b (header_of b) (first + (k + 1)) (count - (k + 1)))) later) to join
    here = subst (λ (fs : Fields). Leads Whole from (FieldsLeft ds fs later) to join) (next_row k less) n

    pub row_no_comma : StandsNot (CommaIf later) to → (u : U) → StandsNot (Whole u) from
    row_no_comma c = no_comma ds _ _ _ later to join here c

    pub row_no_name : (mid : Words) → CommaIf later to mid → StandsNot (ANameOf b (first + k)) mid → (u : U) → StandsNot (Whole u) from
    row_no_name mid c m = no_name ds _ _ _ later to join mid here c m

    pub row_no_item : (mid start : Words) → CommaIf later to mid → ANameOf b (first + k) mid start → ((v : Value) → StandsNot (Spelled ds (type_at b (row_at b (header_of b) (first + k)).entry) v) start) → (u : U) → StandsNot (Whole u) from
    row_no_item mid start c m a = no_item ds _ _ _ later to join mid start here c m a

  -- one more behind those that were read
  pub row_more : {U : Type 0} {Whole : U → Words → Words → Type 0} {from : Words} (k : ℕ) → k < count
      → ((v u : Value) → Det (Spelled ds (type_at b (row_at b (header_of b) (first + k)).entry) v) (Spelled ds (type_at b (row_at b (header_of b) (first + k)).entry) u) (v ≡ u))
      → (xs ys : List Value) (v : Value) (to mid start next : Words) (join : Values → U) → ys ≡ xs ++ v ∷ [] → Leads Whole from (RowsLeft k (has_some xs)) to (λ vs. join (behind xs vs))
      → CommaIf (has_some xs) to mid → ANameOf b (first + k) mid start → Spelled ds (type_at b (row_at b (header_of b) (first + k)).entry) v start next
      → Leads Whole from (RowsLeft (k + 1) (has_some ys)) next (λ vs. join (behind ys vs))
  row_more {Whole = Whole} {from = from} k less single xs ys v to mid start next join e n c m a =
      subst (λ zs. Leads Whole from (RowsLeft (k + 1) (has_some zs)) next (λ vs. join (behind zs vs))) (sym e)
      (subst (λ b. Leads Whole from (RowsLeft (k + 1) b) next (λ vs. join (behind (xs ++ v ∷ []) vs))) (sym (some_more xs v))
      (leads_as (λ vs. join (behind xs (value v vs))) (λ vs. join (behind (xs ++ v ∷ []) vs)) (λ vs. ap join (behind_one xs v vs))
      (field_read ds _ _ _ (has_some xs) to single (λ vs. join (behind xs vs)) v mid start next (here k (has_some xs) to less (λ vs. join (behind xs vs)) n) c m a)))

  -- all were read
  pub rows_read : {U : Type 0} {Whole : U → Words → Words → Type 0} {from : Words} (k : ℕ) → count ≤ k → (later : Bool) (to rest : Words) (xs : List Value) (join : Values → U) → Leads Whole from (RowsLeft k later) to (λ vs. join (behind xs vs))
      → The "}" to rest → Whole (join (values_of xs)) from rest
  rows_read {Whole = Whole} {from = from} k le later to rest xs join n e =
      subst (λ vs. Whole (join vs) from rest) (behind_all xs)
      (n.sound none rest (to, subst (λ (fs : Fields). Named ds fs later none to to) (sym (none_left k le)) (λ i. to), e))

  pub rows_not_closed : {U : Type 0} {Whole : U → Words → Words → Type 0} {from : Words} (k : ℕ) → count ≤ k → (later : Bool) (to : Words) (join : Values → U) → Leads Whole from (RowsLeft k later) to join → StandsNot (The "}") to
      → (u : U) → StandsNot (Whole u) from
  rows_not_closed k le later to join n close u r p = let x = n.narrows.narrow u r p in go x.0 (subst (λ (fs : Fields). FieldsLeft ds fs later x.0 to r) (none_left k le) x.1)
    where
      go : (vs : Values) → FieldsLeft ds no_fields later vs to r → ⊥
      go none q = close r (q.1 ∙ q.2)
      go (value v vs) q = q.1

-- the brace that opens the struct was read
module _ (ds : Declarations) (fs : Fields) where
  struct_narrows : (from : Words) → Narrows (Spelled ds (ty.struct fs)) from (λ vs. The "{" ⨾ FieldsLeft ds fs false vs) from
  struct_narrows from = record { narrow = λ u r p. go u r p }
    where
      go : (u : Value) (r : Words) → Spelled ds (ty.struct fs) u from r → (vs : Values) × (The "{" ⨾ FieldsLeft ds fs false vs) from r
      go (fields vs) r p = (vs, p)
      go absent r p = absurd p
      go _ r p = absurd p

  pub no_struct : (from : Words) → StandsNot (The "{") from → (v : Value) → StandsNot (Spelled ds (ty.struct fs) v) from
  no_struct from missing u r p = let x = (struct_narrows from).narrow u r p in missing x.1.0 x.1.1

  pub struct_begun : (xs : List Value) (from to : Words) → xs ≡ [] → The "{" from to → Leads (Spelled ds (ty.struct fs)) from (FieldsLeft ds fs (has_some xs)) to (λ vs. fields (behind xs vs))
  struct_begun xs from to e p =
      subst (λ zs. Leads (Spelled ds (ty.struct fs)) from (FieldsLeft ds fs (has_some zs)) to (λ vs. fields (behind zs vs))) (sym e)
      (leads_word "{" (FieldsLeft ds fs false) from to (record { narrows = struct_narrows from; sound = λ vs r q. q }) p)

  -- a box that is present is spelled as its struct is
  module _ (t : Term) (is : resolve ds.terms t ≡ ty.struct fs) where
    pub as_box : (v : Value) (ws r : Words) → Spelled ds (ty.struct fs) v ws r → Spelled ds (ty.box t) v ws r
    as_box (fields vs) ws r p = subst (λ u. (The "{" ⨾ Named ds (fields_of u) false vs ⨾ The "}") ws r) (sym is) p
    as_box absent ws r p = absurd p
    as_box _ ws r p = absurd p

    pub of_box : (v : Value) (ws r : Words) → (v ≡ absent → ⊥) → Spelled ds (ty.box t) v ws r → Spelled ds (ty.struct fs) v ws r
    of_box (fields vs) ws r a p = subst (λ u. (The "{" ⨾ Named ds (fields_of u) false vs ⨾ The "}") ws r) is p
    of_box absent ws r a p = absurd (a refl)
    of_box _ ws r a p = absurd p

-- by the rows of a table
pub rows_begun : (b : List ℕ) (first count : ℕ) (xs : List Value) (from to : Words) → xs ≡ [] → The "{" from to
    → Leads (Spelled (declarations_of b) (ty.struct (fields_from b (header_of b) first count))) from (RowsLeft b first count 0 (has_some xs)) to (λ vs. fields (behind xs vs))
rows_begun b first count xs from to e p =
    let whole = fields_from b (header_of b) first count in
    let at : first + 0 ≡ first = omega arith in
    let of : count - 0 ≡ count = omega arith in
    let same : fields_from b (header_of b) (first + 0) (count - 0) ≡ whole = ap (λ n. fields_from b (header_of b) n (count - 0)) at ∙ ap (fields_from b (header_of b) first) of in
    subst (λ (fs : Fields). Leads (Spelled (declarations_of b) (ty.struct whole)) from (FieldsLeft (declarations_of b) fs (has_some xs)) to (λ vs. fields (behind xs vs))) (sym same) (struct_begun (declarations_of b) whole xs from to e p)
