-- Elements of a list, one by one.
use Rattle.std.proofs.Common.{◌≡◌, List, [], ◌∷◌, ◌++◌, ℕ, Bool, true, false, refl, sym, ap, subst, ◌∙◌}
use Rattle.fidl_wire.specs.Value.{Value, Values, none, value, values_of, list, absent}
use Rattle.fidl_wire.specs.Term.{Term, resolve}
use Rattle.fidl_wire.specs.Term as ty
use Rattle.fidl_wire.specs.Figure.{Declarations}
use Rattle.fidl_spelling.specs.Words.{Words}
use Rattle.fidl_spelling.specs.Spells.{The, ◌⨾◌, CommaIf, Spelled, Elements}
use Rattle.fidl_spelling.proofs.Det.{Det, det_comma}
use Rattle.fidl_reading.specs.Reads.{StandsNot, has_some}
use Rattle.fidl_reading.proofs.Narrowing.{Narrows}
use Rattle.fidl_reading.proofs.Leading.{Leads, leads_as, leads_word, some_more}

-- values, and then others
abbrev pub behind : List Value → Values → Values
behind [] vs = vs
behind (x ∷ xs) vs = value x (behind xs vs)

pub behind_one : (xs : List Value) (v : Value) (vs : Values) → behind xs (value v vs) ≡ behind (xs ++ v ∷ []) vs
behind_one [] v vs = refl
behind_one (x ∷ xs) v vs = ap (value x) (behind_one xs v vs)

pub behind_all : (xs : List Value) → behind xs none ≡ values_of xs
behind_all [] = refl
behind_all (x ∷ xs) = ap (value x) (behind_all xs)

module _ (ds : Declarations) (t : Term) where
  -- elements up to the bracket that closes their list
  abbrev pub ElementsLeft : (later : Bool) → Values → Words → Words → Type 0
  ElementsLeft later vs = Elements ds t later vs ⨾ The "]"

  -- what is left behind an element
  rest_of : ((v u : Value) → Det (Spelled ds t v) (Spelled ds t u) (v ≡ u)) → (later : Bool) (to : Words) → StandsNot (The "]") to → (v : Value) (mid next : Words) → CommaIf later to mid → Spelled ds t v mid next → (vs : Values) (r : Words)
      → ElementsLeft later vs to r → (us : Values) × ElementsLeft true us next r
  rest_of single later to going v mid next c a none r p = absurd (going r (p.1 ∙ p.2))
  rest_of single later to going v mid next c a (value u us) r p =
      let same = det_comma later to mid p.1.0 c p.1.1 in
      let x = single v u mid next p.1.2.0 a (subst (λ m. Spelled ds t u m p.1.2.0) (sym same.1) p.1.2.1) in
      (us, (p.0, subst (λ m. Elements ds t true us m p.0) (sym x.1) p.1.2.2, p.2))

  module _ {U : Type 0} {Whole : U → Words → Words → Type 0} {from : Words} (later : Bool) (to : Words) (going : StandsNot (The "]") to) where
    -- no element can be read
    pub no_comma : (join : Values → U) → Leads Whole from (ElementsLeft later) to join → StandsNot (CommaIf later) to → (u : U) → StandsNot (Whole u) from
    no_comma join n c u r p = let x = n.narrows.narrow u r p in go x.0 x.1
      where
        go : (vs : Values) → ElementsLeft later vs to r → ⊥
        go none q = going r (q.1 ∙ q.2)
        go (value v vs) q = c q.1.0 q.1.1

    pub no_item : (join : Values → U) (mid : Words) → Leads Whole from (ElementsLeft later) to join → CommaIf later to mid → ((v : Value) → StandsNot (Spelled ds t v) mid) → (u : U) → StandsNot (Whole u) from
    no_item join mid n c a u r p = let x = n.narrows.narrow u r p in go x.0 x.1
      where
        go : (vs : Values) → ElementsLeft later vs to r → ⊥
        go none q = going r (q.1 ∙ q.2)
        go (value v vs) q =
            let same = det_comma later to mid q.1.0 c q.1.1 in
            a v q.1.2.0 (subst (λ m. Spelled ds t v m q.1.2.0) (sym same.1) q.1.2.1)

  -- all were read
  pub all_read : {U : Type 0} {Whole : U → Words → Words → Type 0} {from : Words} (later : Bool) (to rest : Words) (xs : List Value) (join : Values → U) → Leads Whole from (ElementsLeft later) to (λ vs. join (behind xs vs)) → The "]" to rest
      → Whole (join (values_of xs)) from rest
  all_read {Whole = Whole} {from = from} later to rest xs join n e = subst (λ vs. Whole (join vs) from rest) (behind_all xs) (n.sound none rest (to, (λ i. to), e))

  -- one more behind those that were read
  pub one_more : {U : Type 0} {Whole : U → Words → Words → Type 0} {from : Words} → ((v u : Value) → Det (Spelled ds t v) (Spelled ds t u) (v ≡ u)) → (xs ys : List Value) (v : Value) (to mid next : Words) (join : Values → U) → ys ≡ xs ++ v ∷ []
      → Leads Whole from (ElementsLeft (has_some xs)) to (λ vs. join (behind xs vs)) → StandsNot (The "]") to → CommaIf (has_some xs) to mid → Spelled ds t v mid next
      → Leads Whole from (ElementsLeft (has_some ys)) next (λ vs. join (behind ys vs))
  one_more {Whole = Whole} {from = from} single xs ys v to mid next join e n going c a =
      subst (λ zs. Leads Whole from (ElementsLeft (has_some zs)) next (λ vs. join (behind zs vs))) (sym e)
      (subst (λ b. Leads Whole from (ElementsLeft b) next (λ vs. join (behind (xs ++ v ∷ []) vs))) (sym (some_more xs v))
      (leads_as (λ vs. join (behind xs (value v vs))) (λ vs. join (behind (xs ++ v ∷ []) vs)) (λ vs. ap join (behind_one xs v vs))
      (record {
        narrows = record { narrow = λ u r p. let x = n.narrows.narrow u r p in rest_of single (has_some xs) to going v mid next c a x.0 r x.1 };
        sound = λ vs r p. n.sound (value v vs) r (p.0, (mid, c, (next, a, p.1)), p.2);
      })))

-- the bracket that opens the list was read
module _ (ds : Declarations) (t : Term) where
  list_narrows : (from : Words) → Narrows (Spelled ds (ty.array t 0)) from (λ vs. The "[" ⨾ ElementsLeft ds (resolve ds.terms t) false vs) from
  list_narrows from = record { narrow = λ u r p. go u r p }
    where
      go : (u : Value) (r : Words) → Spelled ds (ty.array t 0) u from r → (vs : Values) × (The "[" ⨾ ElementsLeft ds (resolve ds.terms t) false vs) from r
      go (list vs) r p = (vs, p)
      go absent r p = absurd p
      go _ r p = absurd p

  pub no_list : (from : Words) → StandsNot (The "[") from → (v : Value) → StandsNot (Spelled ds (ty.array t 0) v) from
  no_list from missing u r p = let x = (list_narrows from).narrow u r p in missing x.1.0 x.1.1

  pub list_begun : (xs : List Value) (from to : Words) → xs ≡ [] → The "[" from to
      → Leads (Spelled ds (ty.array t 0)) from (ElementsLeft ds (resolve ds.terms t) (has_some xs)) to (λ vs. list (behind xs vs))
  list_begun xs from to e p =
      subst (λ zs. Leads (Spelled ds (ty.array t 0)) from (ElementsLeft ds (resolve ds.terms t) (has_some zs)) to (λ vs. list (behind zs vs))) (sym e)
      (leads_word "[" (ElementsLeft ds (resolve ds.terms t) false) from to (record { narrows = list_narrows from; sound = λ vs r q. q }) p)

  -- a vector that is present is spelled as an array is
  pub as_vector : (o : Bool) (n : ℕ) (v : Value) (ws r : Words) → Spelled ds (ty.array t 0) v ws r → Spelled ds (ty.vector o n t) v ws r
  as_vector o n (list vs) ws r p = p
  as_vector o n absent ws r p = absurd p
  as_vector o n _ ws r p = absurd p

  pub of_vector : (o : Bool) (n : ℕ) (v : Value) (ws r : Words) → (v ≡ absent → ⊥) → Spelled ds (ty.vector o n t) v ws r → Spelled ds (ty.array t 0) v ws r
  of_vector o n (list vs) ws r a p = p
  of_vector o n absent ws r a p = absurd (a refl)
  of_vector o n _ ws r a p = absurd p

  pub as_array : (n : ℕ) (v : Value) (ws r : Words) → Spelled ds (ty.array t 0) v ws r → Spelled ds (ty.array t n) v ws r
  as_array n (list vs) ws r p = p
  as_array n absent ws r p = absurd p
  as_array n _ ws r p = absurd p

  pub of_array : (n : ℕ) (v : Value) (ws r : Words) → Spelled ds (ty.array t n) v ws r → Spelled ds (ty.array t 0) v ws r
  of_array n (list vs) ws r p = p
  of_array n absent ws r p = absurd p
  of_array n _ ws r p = absurd p
