-- Where the figures of all definitions are right.
use Rattle.std.proofs.Common.{◌≡◌, ℕ, suc, ◌≤◌, ◌<◌, ◌+◌, ◌++◌, ◌∷◌, drop, inl, inr, Bool, true, false, List, [], length, map, get_or, Some, refl, ap, sym, ◌∙◌, subst, arith}
use Rattle.std.specs.Prelude.{replicate}
use Rattle.std.specs.List.{AllByRecursion}
use Rattle.std.proofs.lemmas.Bool.{cases_lt}
use Rattle.std.proofs.lemmas.List.{ext_get_or, get_or-replicate, get_or_past, get_or_default, map-append}
use Rattle.std.proofs.lemmas.Option.{slice_get-get_or}
use Rattle.std.proofs.Math.ListN.{get_or-map, length-map}
use Rattle.std.proofs.Math.Seq.{drop-cons}
use Rattle.std.proofs.Common.{append_assoc}
use Rattle.std.specs.Global.{Vec}
use Rattle.fidl_limits.specs.declared.limits.TheConstants.{MAX_LAYOUT_MEMBERS, MAX_NEST}
use Rattle.fidl_wire.specs.Term.{Term, nothing}
use Rattle.fidl_wire.specs.Figure.{figure, figure_of}
use Rattle.fidl_wire.specs.Figure as wire
use Rattle.fidl_ir.specs.declared.term.Definition.{Definition}
use Rattle.fidl_ir.specs.Terms.{definition_view, definitions_view}
use Rattle.fidl_type_shape.specs.declared.figure.Figure.{Figure}
use Rattle.fidl_type_shape.specs.declared.fault.Refusal.{Refusal}
use Rattle.fidl_type_shape.specs.declared.fault.Refusal.TheVariants.{Nest, Size, Members, Memory}
use Rattle.fidl_type_shape.specs.Limits.{IsWithin, member_count}
use Rattle.fidl_type_shape.specs.Nesting.{Nested, none}
use Rattle.fidl_type_shape.specs.Solutions.{is_settled}
use Rattle.fidl_type_shape.specs.Excesses.{IsPastWithin}
use Rattle.fidl_type_shape.specs.Faults.{IsTrueOf}
use Rattle.fidl_type_shape.specs.Views.{figure_view, figures_view, lists}
use Rattle.fidl_type_shape.specs.Progress.{AreFound, IsFound, fault_of}
use Rattle.fidl_type_shape.proofs.Lists.{all_of}
use Rattle.fidl_type_shape.proofs.Parts.{within_named}
use Rattle.fidl_type_shape.proofs.Agree.{settled_all}
use Rattle.fidl_type_shape.proofs.Nests.{nested_by, fewer}
use Rattle.fidl_type_shape.proofs.Visits.{definition_is}

-- where nothing is known, nothing is wrong
pub none_known : (ds : List Definition) (figures : List wire.Figure) (known : List Bool) → length figures ≡ length ds → known ≡ replicate (length ds) false → AreFound (definitions_view ds) figures known
none_known ds figures known long none_yet i h = elim (cases_lt i (length ds)) [
  | inl within ↦
      let e : get_or known i true ≡ false = ap (λ (ks : List Bool). get_or ks i true) none_yet ∙ get_or-replicate (length ds) i false true within in
      absurd (cc (e, h))
  | inr past ↦
      let term : get_or (definitions_view ds) i nothing ≡ nothing = get_or_past (definitions_view ds) i nothing (omega (arith, past, length-map ds definition_view)) in
      let own : get_or figures i (figure 1 1 0) ≡ figure 1 1 0 = get_or_past figures i (figure 1 1 0) (omega (arith, past, long)) in
      past_all (definitions_view ds) figures known i term own
]
  where
    past_all : (terms : List Term) (figures : List wire.Figure) (known : List Bool) (i : ℕ) → get_or terms i nothing ≡ nothing → get_or figures i (figure 1 1 0) ≡ figure 1 1 0 → IsFound terms figures known i
    past_all terms figures known i t f = record {
      solved = record { settled = ap (is_settled known) t; solves = ap (figure_of figures) t ∙ sym f };
      nested = subst (λ (n : ℕ). Nested terms n (get_or terms i nothing)) (sym (ap (λ (g : wire.Figure). g.nest) f)) (none (get_or terms i nothing));
      few = subst (λ (u : Term). member_count u ≤ MAX_LAYOUT_MEMBERS) (sym t) (omega arith);
    }

module _ (ds : List Definition) (figures : List Figure) (right : AreFound (definitions_view ds) (figures_view figures) []) where
  -- the figure of a definition is within the limits, and its members are few
  pub few_at : (i : ℕ) (d : Definition) → i < length ds → d ≡ get_or ds i d → member_count (definition_view d) ≤ MAX_LAYOUT_MEMBERS
  few_at i d within is = subst (λ (t : Term). member_count t ≤ MAX_LAYOUT_MEMBERS) (sym (definition_is ds i d within is)) (right i refl).few

  pub own_at : (i : ℕ) (d : Definition) → i < length ds → d ≡ get_or ds i d → IsWithin (figure_of (figures_view figures) (definition_view d))
  own_at i d within is =
      let e = ap (figure_of (figures_view figures)) (definition_is ds i d within is) ∙ (right i refl).solved.solves in
      subst IsWithin (sym e) (within_named figures i)

  -- the refusal of what stands in a definition is true
  pub refused_within : (i : ℕ) (d : Definition) → i < length ds → d ≡ get_or ds i d → (refusal : Refusal) → IsPastWithin (figures_view figures) (definition_view d) refusal → IsTrueOf (definitions_view ds) (fault_of i refusal)
  refused_within i d within is Nest h = record {
    definition = definition_view d;
    part = h.part;
    stands = slice_get-get_or (definitions_view ds) i nothing (omega (arith, within, length-map ds definition_view)) ∙ ap Some (sym (definition_is ds i d within is));
    among = h.among;
    own = h.own;
    nested = fewer (definitions_view ds) (figure_of (figures_view figures) h.part).nest (suc MAX_NEST) h.part h.past (nested_by (definitions_view ds) (figures_view figures) [] right h.part (settled_all [] (λ j. refl) h.part));
  }
  refused_within i d within is Size h = record {
    definition = definition_view d;
    part = h.part;
    stands = slice_get-get_or (definitions_view ds) i nothing (omega (arith, within, length-map ds definition_view)) ∙ ap Some (sym (definition_is ds i d within is));
    among = h.among;
    own = h.own;
    figures = figures_view figures;
    chosen = [];
    solve = λ j k. (right j k).solved;
    settled = settled_all [] (λ j. refl) h.part;
    large = h.past;
  }
  refused_within i d within is Members h = absurd h
  refused_within i d within is Memory h = tt

  -- the figures solve all equations
  pub laid_out : length figures ≡ length ds → map (figure_of (figures_view figures)) (definitions_view ds) ≡ figures_view figures
  laid_out long = ext_get_or (figure 1 1 0) (map (figure_of (figures_view figures)) (definitions_view ds)) (figures_view figures) (omega (arith, long, length-map (definitions_view ds) (figure_of (figures_view figures)), length-map ds definition_view, length-map figures figure_view)) (λ i within. get_or-map (figure_of (figures_view figures)) (definitions_view ds) i nothing ∙ (right i refl).solved.solves)

  pub all_few : AllByRecursion (λ d. member_count d ≤ MAX_LAYOUT_MEMBERS) (definitions_view ds)
  all_few = all_of (λ d. member_count d ≤ MAX_LAYOUT_MEMBERS) (definitions_view ds) (λ i t within. subst (λ (u : Term). member_count u ≤ MAX_LAYOUT_MEMBERS) (sym (get_or_default (definitions_view ds) i t nothing within)) (right i refl).few)

-- one more list of offsets
pub offsets_more : (F : Term → List ℕ) (ds : List Definition) (all : List (Vec ℕ)) (i : ℕ) (d : Definition) (new : Vec ℕ) → i < length ds → d ≡ get_or ds i d → new.items ≡ F (definition_view d) → lists all ++ map F (definitions_view (drop i ds)) ≡ map F (definitions_view ds) → lists (all ++ new ∷ []) ++ map F (definitions_view (drop (i + 1) ds)) ≡ map F (definitions_view ds)
offsets_more F ds all i d new within is item h =
    let rest : drop i ds ≡ d ∷ drop (suc i) ds = drop-cons ds i d within ∙ ap (λ (e : Definition). e ∷ drop (suc i) ds) (sym is) in
    let step = sym (ap (λ (es : List Definition). lists all ++ map F (definitions_view es)) rest) ∙ h in
    let M = map F (definitions_view (drop (suc i) ds)) in
    let pushed = map-append (λ (v : Vec ℕ). v.items) all (new ∷ []) in
    let joined = ap (λ (xs : List (List ℕ)). xs ++ M) pushed ∙ append_assoc (lists all) (new.items ∷ []) M ∙ ap (λ (x : List ℕ). lists all ++ (x ∷ M)) item ∙ step in
    let one_more : suc i ≡ i + 1 = omega arith in
    subst (λ (n : ℕ). lists (all ++ new ∷ []) ++ map F (definitions_view (drop n ds)) ≡ map F (definitions_view ds)) one_more joined
