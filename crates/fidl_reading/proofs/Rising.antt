-- Members of a table, one by one, and the member of a union.
use Rattle.std.proofs.Common.{◌≡◌, List, [], ◌∷◌, ◌++◌, ℕ, suc, ◌^◌, ◌≤◌, Bool, true, false, refl, sym, ap, subst, ◌∙◌}
use Rattle.std.specs.Prelude.{codes}
use Rattle.fidl_wire.specs.Value.{Value, Member, Members, empty, member, members_of, table, union, absent}
use Rattle.fidl_wire.specs.Term.{Term, Rows}
use Rattle.fidl_wire.specs.Term as ty
use Rattle.fidl_wire.specs.Figure.{Declarations}
use Rattle.fidl_spelling.specs.Words.{Words}
use Rattle.fidl_spelling.specs.Spells.{The, ◌⨾◌, CommaIf, IsNumberBelow, Spelled, AMember, Rising}
use Rattle.fidl_spelling.proofs.Det.{Det, det_comma, det_the, det_one, det_then, natural_one}
use Rattle.fidl_reading.specs.Reads.{StandsNot, has_some, ACount}
use Rattle.fidl_reading.proofs.Narrowing.{Narrows, the_word, passed}
use Rattle.fidl_reading.proofs.Leading.{Leads, leads_as, some_more}

-- members, and then others
abbrev pub ahead : List (ℕ × Member) → Members → Members
ahead [] ms = ms
ahead (x ∷ xs) ms = member x.0 x.1 (ahead xs ms)

ahead_one : (xs : List (ℕ × Member)) (o : ℕ) (m : Member) (ms : Members) → ahead xs (member o m ms) ≡ ahead (xs ++ (o, m) ∷ []) ms
ahead_one [] o m ms = refl
ahead_one (x ∷ xs) o m ms = ap (member x.0 x.1) (ahead_one xs o m ms)

ahead_all : (xs : List (ℕ × Member)) → ahead xs empty ≡ members_of xs
ahead_all [] = refl
ahead_all (x ∷ xs) = ap (member x.0 x.1) (ahead_all xs)

-- members that read alike are one
abbrev pub AreSingle : Declarations → Rows → Type 0
AreSingle ds rows = (i j : ℕ) (x y : Member) → Det (AMember ds rows i x) (AMember ds rows j y) ((i ≡ j) × (x ≡ y))

module _ (ds : Declarations) (rows : Rows) where
  -- members up to the brace that closes their table
  abbrev pub MembersLeft : (later : Bool) (least : ℕ) → Members → Words → Words → Type 0
  MembersLeft later least ms = Rising ds rows later least ms ⨾ The "}"

  -- what is left behind a member
  rest_of : AreSingle ds rows → (later : Bool) (least : ℕ) (to : Words) → StandsNot (The "}") to → (o : ℕ) (m : Member) (mid next : Words) → CommaIf later to mid → AMember ds rows o m mid next → (ms : Members) (r : Words) → MembersLeft later least ms to r
      → (us : Members) × MembersLeft true (suc o) us next r × (least ≤ o)
  rest_of single later least to going o m mid next c a empty r p = absurd (going r (p.1 ∙ p.2))
  rest_of single later least to going o m mid next c a (member i x us) r p =
      let q = p.1.1 in
      let same = det_comma later to mid q.0 c q.1 in
      let k = single o i m x mid next q.2.0 a (subst (λ l. AMember ds rows i x l q.2.0) (sym same.1) q.2.1) in
      let e = k.0.0 in
      let there = subst (λ j. Rising ds rows true (suc j) us next p.0) (sym e) (subst (λ l. Rising ds rows true (suc i) us l p.0) (sym k.1) q.2.2) in
      (us, (p.0, there, p.2), subst (λ j. least ≤ j) (sym e) p.1.0)

  module _ {U : Type 0} {Whole : U → Words → Words → Type 0} {from : Words} (later : Bool) (least : ℕ) (to : Words) (going : StandsNot (The "}") to) where
    -- no member can be read
    pub no_comma : (join : Members → U) → Leads Whole from (MembersLeft later least) to join → StandsNot (CommaIf later) to → (u : U) → StandsNot (Whole u) from
    no_comma join n c u r p = let x = n.narrows.narrow u r p in go x.0 x.1
      where
        go : (ms : Members) → MembersLeft later least ms to r → ⊥
        go empty q = going r (q.1 ∙ q.2)
        go (member i x ms) q = c q.1.1.0 q.1.1.1

    pub no_item : (join : Members → U) (mid : Words) → Leads Whole from (MembersLeft later least) to join → CommaIf later to mid → ((o : ℕ) (m : Member) → StandsNot (AMember ds rows o m) mid) → (u : U) → StandsNot (Whole u) from
    no_item join mid n c a u r p = let x = n.narrows.narrow u r p in go x.0 x.1
      where
        go : (ms : Members) → MembersLeft later least ms to r → ⊥
        go empty q = going r (q.1 ∙ q.2)
        go (member i x ms) q =
            let same = det_comma later to mid q.1.1.0 c q.1.1.1 in
            a i x q.1.1.2.0 (subst (λ l. AMember ds rows i x l q.1.1.2.0) (sym same.1) q.1.1.2.1)

    pub no_rise : AreSingle ds rows → (join : Members → U) (o : ℕ) (m : Member) (mid next : Words) → Leads Whole from (MembersLeft later least) to join → CommaIf later to mid → AMember ds rows o m mid next → (least ≤ o → ⊥)
        → (u : U) → StandsNot (Whole u) from
    no_rise single join o m mid next n c a falls u r p =
        let x = n.narrows.narrow u r p in
        let k = rest_of single later least to going o m mid next c a x.0 r x.1 in
        falls k.2

  -- all were read
  pub all_read : {U : Type 0} {Whole : U → Words → Words → Type 0} {from : Words} (later : Bool) (least : ℕ) (to rest : Words) (xs : List (ℕ × Member)) (join : Members → U) → Leads Whole from (MembersLeft later least) to (λ ms. join (ahead xs ms))
      → The "}" to rest → Whole (join (members_of xs)) from rest
  all_read {Whole = Whole} {from = from} later least to rest xs join n e = subst (λ ms. Whole (join ms) from rest) (ahead_all xs) (n.sound empty rest (to, (λ i. to), e))

  -- one more behind those that were read
  pub one_more : {U : Type 0} {Whole : U → Words → Words → Type 0} {from : Words} → AreSingle ds rows → (least : ℕ) (xs ys : List (ℕ × Member)) (o : ℕ) (m : Member) (to mid next : Words) (join : Members → U) → ys ≡ xs ++ (o, m) ∷ []
      → Leads Whole from (MembersLeft (has_some xs) least) to (λ ms. join (ahead xs ms)) → StandsNot (The "}") to → CommaIf (has_some xs) to mid → AMember ds rows o m mid next → least ≤ o
      → Leads Whole from (MembersLeft (has_some ys) (suc o)) next (λ ms. join (ahead ys ms))
  one_more {Whole = Whole} {from = from} single least xs ys o m to mid next join e n going c a rises =
      subst (λ zs. Leads Whole from (MembersLeft (has_some zs) (suc o)) next (λ ms. join (ahead zs ms))) (sym e)
      (subst (λ b. Leads Whole from (MembersLeft b (suc o)) next (λ ms. join (ahead (xs ++ (o, m) ∷ []) ms))) (sym (some_more xs (o, m)))
      (leads_as (λ ms. join (ahead xs (member o m ms))) (λ ms. join (ahead (xs ++ (o, m) ∷ []) ms)) (λ ms. ap join (ahead_one xs o m ms))
      (record {
        narrows = record {
          narrow = λ u r p.
              let x = n.narrows.narrow u r p in
              let k = rest_of single (has_some xs) least to going o m mid next c a x.0 r x.1 in
              (k.0, k.1);
        };
        sound = λ ms r p. n.sound (member o m ms) r (p.0, (rises, (mid, c, (next, a, p.1))), p.2);
      })))

  -- what comes before the members of a table
  count_one : (n k : ℕ) → Det (ACount n) (ACount k) (Unit {0} × (Unit {0} × ((n ≡ k) × (Unit {0} × Unit {0}))))
  count_one n k = det_then _ _ _ _ _ _ (det_the (codes "table")) (det_then _ _ _ _ _ _ (det_the (codes "(")) (det_then _ _ _ _ _ _ (det_one (IsNumberBelow (2 ^ 64) n) (IsNumberBelow (2 ^ 64) k) (n ≡ k) (natural_one (2 ^ 64) n k))
      (det_then _ _ _ _ _ _ (det_the (codes ")")) (det_the (codes "{")))))

  -- a table's parts
  table_parts : (u : Value) (from r : Words) → Spelled ds (ty.table rows) u from r → (k : ℕ) × ((ms : Members) × ((ACount k ⨾ MembersLeft false 0 ms) from r))
  table_parts (table k ms) from r p = (k, (ms, (p.2.2.2.2.0, (p.0, p.1, (p.2.0, p.2.1, (p.2.2.0, p.2.2.1, (p.2.2.2.0, p.2.2.2.1, p.2.2.2.2.1)))), p.2.2.2.2.2)))
  table_parts absent from r p = absurd p
  table_parts _ from r p = absurd p

  pub no_table : (from : Words) → ((k : ℕ) → StandsNot (ACount k) from) → (v : Value) → StandsNot (Spelled ds (ty.table rows) v) from
  no_table from none u r p = let x = table_parts u from r p in none x.0 x.1.1.0 x.1.1.1

  pub table_begun : (xs : List (ℕ × Member)) (n : ℕ) (from to : Words) → xs ≡ [] → ACount n from to → Leads (Spelled ds (ty.table rows)) from (MembersLeft (has_some xs) 0) to (λ ms. table n (ahead xs ms))
  table_begun xs n from to e c =
      subst (λ zs. Leads (Spelled ds (ty.table rows)) from (MembersLeft (has_some zs) 0) to (λ ms. table n (ahead zs ms))) (sym e)
      (record {
        narrows = record {
          narrow = λ u r p.
              let x = table_parts u from r p in
              let same = count_one n x.0 from to x.1.1.0 c x.1.1.1 in
              (x.1.0, subst (λ l. MembersLeft false 0 x.1.0 l r) (sym same.1) x.1.1.2);
        };
        sound = λ ms r p. (c.0, c.1, (c.2.0, c.2.1, (c.2.2.0, c.2.2.1, (c.2.2.2.0, c.2.2.2.1, (to, c.2.2.2.2, p)))));
      })

  -- a union that is present
  abbrev pub Present : (o s : Bool) → Value → Words → Words → Type 0
  Present o s v ws r = (v ≡ absent → ⊥) × Spelled ds (ty.union o s rows) v ws r

  pub union_narrows : (o s : Bool) (from : Words) → Narrows (Present o s) from (λ (x : ℕ × Member). The "union" ⨾ (The "(" ⨾ (AMember ds rows x.0 x.1 ⨾ The ")"))) from
  union_narrows o s from = record { narrow = λ u r p. go u r p.0 p.1 }
    where
      go : (u : Value) (r : Words) → (u ≡ absent → ⊥) → Spelled ds (ty.union o s rows) u from r → (x : ℕ × Member) × (The "union" ⨾ (The "(" ⨾ (AMember ds rows x.0 x.1 ⨾ The ")"))) from r
      go (union i m) r a p = ((i, m), p)
      go absent r a p = absurd (a refl)
      go _ r a p = absurd p

  module _ (o s : Bool) (from to mid : Words) (e : The "union" from to) (f : The "(" to mid) where
    inside : Narrows (Present o s) from (λ (x : ℕ × Member). AMember ds rows x.0 x.1 ⨾ The ")") mid
    inside = the_word "(" _ to mid (the_word "union" _ from to (union_narrows o s from) e) f

    pub no_member : ((i : ℕ) (m : Member) → StandsNot (AMember ds rows i m) mid) → (v : Value) → (v ≡ absent → ⊥) → StandsNot (Spelled ds (ty.union o s rows) v) from
    no_member none v a r p = let x = inside.narrow v r (a, p) in none x.0.0 x.0.1 x.1.0 x.1.1

    pub no_close : AreSingle ds rows → (i : ℕ) (m : Member) (next : Words) → AMember ds rows i m mid next → StandsNot (The ")") next → (v : Value) → (v ≡ absent → ⊥) → StandsNot (Spelled ds (ty.union o s rows) v) from
    no_close single i m next q close v a r p =
        let n = passed (λ (x : ℕ × Member). AMember ds rows x.0 x.1) (λ x. The ")") mid next inside (λ x l b. (single i x.0 m x.1 mid next l q b).1) in
        let x = n.narrow v r (a, p) in
        close r x.1

  pub no_union : (o s : Bool) (from : Words) → StandsNot (The "union") from → (v : Value) → (v ≡ absent → ⊥) → StandsNot (Spelled ds (ty.union o s rows) v) from
  no_union o s from none v a r p = let x = (union_narrows o s from).narrow v r (a, p) in none x.1.0 x.1.1

  pub no_bracket : (o s : Bool) (from to : Words) → The "union" from to → StandsNot (The "(") to → (v : Value) → (v ≡ absent → ⊥) → StandsNot (Spelled ds (ty.union o s rows) v) from
  no_bracket o s from to e none v a r p = let x = (the_word "union" _ from to (union_narrows o s from) e).narrow v r (a, p) in none x.1.0 x.1.1
