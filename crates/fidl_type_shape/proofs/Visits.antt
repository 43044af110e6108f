-- What a visit of one definition leaves true of all.
use Rattle.std.proofs.Common.{◌≡◌, ◌≢◌, ℕ, suc, ◌+◌, ◌≤◌, [], Some, ◌<◌, inl, inr, Bool, true, false, IsTrue, List, length, get_or, refl, ap, sym, ◌∙◌, subst, arith}
use Rattle.std.specs.Prelude.{slice_set}
use Rattle.std.proofs.lemmas.Bool.{cases_eq, cases_Bool, cases_lt}
use Rattle.std.proofs.Math.ListN.{get_or-map, length-map}
use Rattle.std.proofs.lemmas.Option.{slice_get-get_or}
use Rattle.std.proofs.lemmas.List.{get_or-set_same, get_or-set_other, get_or_past, get_or_default}
use Rattle.fidl_limits.specs.declared.limits.TheConstants.{MAX_LAYOUT_MEMBERS, MAX_NEST}
use Rattle.fidl_ir.specs.declared.term.Definition.{Definition}
use Rattle.fidl_ir.specs.Terms.{definition_view, definitions_view}
use Rattle.fidl_type_shape.specs.declared.fault.Refusal.{Refusal}
use Rattle.fidl_type_shape.specs.declared.fault.Refusal.TheVariants.{Nest, Size, Members, Memory}
use Rattle.fidl_type_shape.specs.Excesses.{IsDefinitionPast}
use Rattle.fidl_type_shape.specs.Faults.{IsTrueOf}
use Rattle.fidl_wire.specs.Term.{Term, nothing}
use Rattle.fidl_wire.specs.Figure.{Figure, figure, figure_of}
use Rattle.fidl_type_shape.specs.Limits.{member_count}
use Rattle.fidl_type_shape.specs.Nesting.{Nested}
use Rattle.fidl_type_shape.specs.Solutions.{is_settled}
use Rattle.fidl_type_shape.specs.Progress.{AreFound, IsFound, IsVisited, skipped, found, fault_of}
use Rattle.fidl_type_shape.proofs.Agree.{same_by, settled_more}
use Rattle.fidl_type_shape.proofs.Nests.{nested_by, fewer}

-- a definition is added to the known ones
module _ (terms : List Term) (figures : List Figure) (known : List Bool) (right : AreFound terms figures known) (i : ℕ) (here : i < length figures) (there : i < length known) (unknown : get_or known i true ≡ false) (ready : IsTrue (is_settled known (get_or terms i nothing))) (few : member_count (get_or terms i nothing) ≤ MAX_LAYOUT_MEMBERS) where
  d : Term
  d = get_or terms i nothing

  f : Figure
  f = figure_of figures (get_or terms i nothing)

  others : (j : ℕ) → IsTrue (get_or known j true) → j ≢ i
  others j h same = let e : get_or known j true ≡ get_or known i true = ap (λ (k : ℕ). get_or known k true) same in cc

  pub known_more : (j : ℕ) → IsTrue (get_or known j true) → IsTrue (get_or (slice_set known i true) j true)
  known_more j h = get_or-set_other known i j true true (others j h) ∙ h

  figures_agree : (j : ℕ) → IsTrue (get_or known j true) → get_or (slice_set figures i (figure_of figures (get_or terms i nothing))) j (figure 1 1 0) ≡ get_or figures j (figure 1 1 0)
  figures_agree j h = get_or-set_other figures i j (figure_of figures (get_or terms i nothing)) (figure 1 1 0) (others j h)

  same : (t : Term) → IsTrue (is_settled known t) → figure_of (slice_set figures i (figure_of figures (get_or terms i nothing))) t ≡ figure_of figures t
  same = same_by (slice_set figures i (figure_of figures (get_or terms i nothing))) figures known figures_agree

  at_i : IsFound terms (slice_set figures i (figure_of figures (get_or terms i nothing))) (slice_set known i true) i
  at_i =
      let is = get_or-set_same figures i (figure_of figures (get_or terms i nothing)) (figure 1 1 0) here in
      record {
        solved = record {
          settled = settled_more known (slice_set known i true) known_more (get_or terms i nothing) ready;
          solves = same (get_or terms i nothing) ready ∙ sym is;
        };
        nested = subst (λ (g : Figure). Nested terms g.nest (get_or terms i nothing)) (sym is) (nested_by terms figures known right (get_or terms i nothing) ready);
        few = few;
      }

  at_other : (j : ℕ) → j ≢ i → IsTrue (get_or (slice_set known i true) j true) → IsFound terms (slice_set figures i (figure_of figures (get_or terms i nothing))) (slice_set known i true) j
  at_other j apart h =
      let before : IsTrue (get_or known j true) = sym (get_or-set_other known i j true true apart) ∙ h in
      let was = right j before in
      let is = figures_agree j before in
      record {
        solved = record {
          settled = settled_more known (slice_set known i true) known_more (get_or terms j nothing) was.solved.settled;
          solves = same (get_or terms j nothing) was.solved.settled ∙ was.solved.solves ∙ sym is;
        };
        nested = subst (λ (g : Figure). Nested terms g.nest (get_or terms j nothing)) (sym is) was.nested;
        few = was.few;
      }

  pub added : AreFound terms (slice_set figures i (figure_of figures (get_or terms i nothing))) (slice_set known i true)
  added j h = elim (cases_eq j i) [
    | inl e ↦ subst (IsFound terms (slice_set figures i (figure_of figures (get_or terms i nothing))) (slice_set known i true)) (sym e) at_i
    | inr apart ↦ at_other j apart h
  ]

-- after a visit the known ones are still right, they are no fewer, and the visited one is known or waits
pub record IsFurther (terms : List Term) (known : List Bool) (i : ℕ) (figures' : List Figure) (known' : List Bool) : Type 0 where
  pub right : AreFound terms figures' known'
  pub grows : (j : ℕ) → IsTrue (get_or known j true) → IsTrue (get_or known' j true)
  pub visited : get_or known' i true ≡ false → is_settled known (get_or terms i nothing) ≡ false

pub further : (terms : List Term) (figures : List Figure) (known : List Bool) → AreFound terms figures known → (i : ℕ) → i < length figures → i < length known → (t : Term) → t ≡ get_or terms i nothing → (figures' : List Figure) (known' : List Bool) → IsVisited t i figures known figures' known' → IsFurther terms known i figures' known'
further terms figures known right i here there t is figures' known' (skipped e k (inl was)) = record {
  right = λ j h. subst (λ (fs : List Figure). IsFound terms fs known' j) (sym e) (subst (λ (ks : List Bool). IsFound terms figures ks j) (sym k) (right j (subst (λ (ks : List Bool). IsTrue (get_or ks j true)) k h)));
  grows = λ j h. subst (λ (ks : List Bool). IsTrue (get_or ks j true)) (sym k) h;
  visited = λ h. let was' : get_or known' i true ≡ get_or known i true = ap (λ (ks : List Bool). get_or ks i true) k in cc;
}
further terms figures known right i here there t is figures' known' (skipped e k (inr waits)) = record {
  right = λ j h. subst (λ (fs : List Figure). IsFound terms fs known' j) (sym e) (subst (λ (ks : List Bool). IsFound terms figures ks j) (sym k) (right j (subst (λ (ks : List Bool). IsTrue (get_or ks j true)) k h)));
  grows = λ j h. subst (λ (ks : List Bool). IsTrue (get_or ks j true)) (sym k) h;
  visited = λ h. sym (ap (is_settled known) is) ∙ waits;
}
further terms figures known right i here there t is figures' known' (found unknown ready few e k) =
    let ready' = subst (λ (u : Term). IsTrue (is_settled known u)) is ready in
    let few' = subst (λ (u : Term). member_count u ≤ MAX_LAYOUT_MEMBERS) is few in
    let e' = e ∙ ap (λ (u : Term). slice_set figures i (figure_of figures u)) is in
    let done = added terms figures known right i here there unknown ready' few' in
    record {
      right = λ j h. subst (λ (fs : List Figure). IsFound terms fs known' j) (sym e') (subst (λ (ks : List Bool). IsFound terms (slice_set figures i (figure_of figures (get_or terms i nothing))) ks j) (sym k) (done j (subst (λ (ks : List Bool). IsTrue (get_or ks j true)) k h)));
      grows = λ j h. subst (λ (ks : List Bool). IsTrue (get_or ks j true)) (sym k) (known_more terms figures known right i here there unknown ready' few' j h);
      visited = λ h. let now : get_or known' i true ≡ true = ap (λ (ks : List Bool). get_or ks i true) k ∙ get_or-set_same known i true true there in cc;
    }

-- what isn't known was not known before, and what waits waited
pub unknown_before : (less more : List Bool) → ((j : ℕ) → IsTrue (get_or less j true) → IsTrue (get_or more j true)) → (j : ℕ) → get_or more j true ≡ false → get_or less j true ≡ false
unknown_before less more grows j h = elim (cases_Bool (get_or less j true)) [ inl was ↦ let e = grows j was in absurd (cc (e, h)) | inr not ↦ not ]

pub waited : (less more : List Bool) → ((j : ℕ) → IsTrue (get_or less j true) → IsTrue (get_or more j true)) → (t : Term) → is_settled more t ≡ false → is_settled less t ≡ false
waited less more grows t h = elim (cases_Bool (is_settled less t)) [ inl was ↦ let e = settled_more less more grows t was in absurd (cc (e, h)) | inr not ↦ not ]

pub unknown_within : (known : List Bool) (i : ℕ) → get_or known i true ≡ false → i < length known
unknown_within known i h = elim (cases_lt i (length known)) [ inl within ↦ within | inr past ↦ let e = get_or_past known i true past in absurd (cc (e, h)) ]

-- the visited ones that aren't known waited at the start
pub waiting : (terms : List Term) (initial known : List Bool) (i : ℕ) (figures' : List Figure) (known' : List Bool) → IsFurther terms known i figures' known' → ((j : ℕ) → IsTrue (get_or initial j true) → IsTrue (get_or known j true)) → ((j : ℕ) → j < i → get_or known j true ≡ false → is_settled initial (get_or terms j nothing) ≡ false) → (j : ℕ) → j < i + 1 → get_or known' j true ≡ false → is_settled initial (get_or terms j nothing) ≡ false
waiting terms initial known i figures' known' step grows wait j less h = elim (cases_lt j i) [
  | inl below ↦ wait j below (unknown_before known known' step.grows j h)
  | inr above ↦
      let same : j ≡ i = omega (arith, less, above) in
      let h' : get_or known' i true ≡ false = subst (λ (k : ℕ). get_or known' k true ≡ false) same h in
      subst (λ (k : ℕ). is_settled initial (get_or terms k nothing) ≡ false) (sym same) (waited initial known grows (get_or terms i nothing) (step.visited h'))
]

-- a definition, by its number
pub definition_is : (ds : List Definition) (i : ℕ) (d : Definition) → i < length ds → d ≡ get_or ds i d → definition_view d ≡ get_or (definitions_view ds) i nothing
definition_is ds i d within is =
    let lt : i < length (definitions_view ds) = omega (arith, within, length-map ds definition_view) in
    ap definition_view is ∙ sym (get_or-map definition_view ds i d) ∙ get_or_default (definitions_view ds) i (definition_view d) nothing lt

-- the refusal of a definition that is past a limit is true
pub refused : (terms : List Term) (figures : List Figure) (known : List Bool) → AreFound terms figures known → (i : ℕ) → i < length terms → (t : Term) → t ≡ get_or terms i nothing → IsTrue (is_settled known t) → (refusal : Refusal) → IsDefinitionPast figures t refusal → IsTrueOf terms (fault_of i refusal)
refused terms figures known right i within t is settled Nest h = record {
  definition = t;
  part = h.part;
  stands = slice_get-get_or terms i nothing within ∙ ap Some (sym is);
  among = h.among;
  own = h.own;
  nested = fewer terms (figure_of figures h.part).nest (suc MAX_NEST) h.part h.past (nested_by terms figures known right h.part (h.inline known settled));
}
refused terms figures known right i within t is settled Size h = record {
  definition = t;
  part = h.part;
  stands = slice_get-get_or terms i nothing within ∙ ap Some (sym is);
  among = h.among;
  own = h.own;
  figures = figures;
  chosen = known;
  solve = λ j k. (right j k).solved;
  settled = h.inline known settled;
  large = h.past;
}
refused terms figures known right i within t is settled Members h = record {
  definition = t;
  stands = slice_get-get_or terms i nothing within ∙ ap Some (sym is);
  many = h;
}
refused terms figures known right i within t is settled Memory h = absurd h

-- where all are known, all figures are right, whatever is chosen
pub all_known : (terms : List Term) (figures : List Figure) (known : List Bool) → AreFound terms figures known → ((i : ℕ) → IsTrue (get_or known i true)) → AreFound terms figures []
all_known terms figures known right all i h =
    let was = right i (all i) in
    record {
      solved = record { settled = settled_more known [] (λ j k. refl) (get_or terms i nothing) was.solved.settled; solves = was.solved.solves };
      nested = was.nested;
      few = was.few;
    }
