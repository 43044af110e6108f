-- A list on the way to all that roots reach.
use Rattle.std.proofs.Common.{◌≡◌, ◌∙◌, ◌<◌, ◌≤◌, ◌+◌, ℕ, List, [], ◌∷◌, ◌++◌, Some, None, get_or, length, map, take, ap, sym, subst, inl, inr, arith}
use Rattle.std.specs.Prelude.{slice_get, flat_map}
use Rattle.std.specs.List.{Contains}
use Rattle.std.proofs.lemmas.List.{append-nil, take_all, take_more, take-append-le, flat_map_more}
use Rattle.std.proofs.lemmas.List.Elements.{Contains-append_left, Contains-append_right, Contains-append_cases}
use Rattle.std.proofs.lemmas.Option.{slice_get-get_or, slice_get_within, same_Some, none-some}
use Rattle.std.proofs.lemmas.Bool.{cases_lt}
use Rattle.fidl_wire.specs.Term.{Term, nothing}
use Rattle.fidl_wire.specs.Term as ty
use Rattle.fidl_reachable_types.specs.Reached.{held, IsReached, root, part, IsJoined, parts_of, AreReached, AreDistinct}
use Rattle.fidl_reachable_types.specs.Growing.{types_of, Adds, IsReaching, IsFullBy}
use Rattle.fidl_reachable_types.specs.declared.fault.EntryFault.{EntryFault}
use Rattle.fidl_reachable_types.specs.declared.fault.EntryFault.TheVariants.{TooMany, Memory}
use Rattle.fidl_reachable_types.specs.declared.list.TypeList.{TypeList}
use Rattle.fidl_reachable_types.specs.Faults.{IsTrueOf}
use Rattle.fidl_reachable_types.proofs.Members.{here, there, nothing_there, first_or_rest}
use Rattle.fidl_reachable_types.proofs.Growth.{joined_then, joined_adds, joined_has}

pub none_distinct : AreDistinct []
none_distinct i j d lt past = absurd (omega (arith, past))

module _ (terms : List Term) (roots : List ℕ) where
  root_of : (is : List ℕ) (t : Term) → Contains (map ty.named is) t → (i : ℕ) × Contains is i × (ty.named i ≡ t)
  root_of [] t h = absurd (nothing_there t h)
  root_of (i ∷ is) t h = elim (first_or_rest (ty.named i) (map ty.named is) t h) [
    | inl e ↦ (i, here i is, e)
    | inr rest ↦ let r = root_of is t rest in (r.0, there i is r.0 r.1, r.2)
  ]

  -- the roots are reached
  pub root_sound : (t : Term) → Contains (map ty.named roots) t → IsReached terms roots t
  root_sound t h = let r = root_of roots t h in subst (IsReached terms roots) r.2 (root r.0 r.1)

  -- so is what is added of what a reached type holds
  pub added_sound : (old new parts : List Term) → Adds old new parts → ((t : Term) → Contains old t → IsReached terms roots t) → ((t : Term) → Contains parts t → IsReached terms roots t) → (t : Term) → Contains new t → IsReached terms roots t
  added_sound old new parts a before of_parts t h = elim (Contains-append_cases old a.added t (subst (λ l. Contains l t) a.is h)) [ inl l ↦ before t l | inr r ↦ of_parts t (a.only t r) ]

  there_at : (types : List Term) (k : ℕ) (t : Term) → slice_get types k ≡ Some t → Contains types t
  there_at types k t at = let lt = slice_get_within types k t at in (k, lt, same_Some (get_or types k t) t (sym (slice_get-get_or types k t lt) ∙ at))

  -- what a type of a list holds is among what its types hold
  held_among : (types : List Term) (t u : Term) → Contains types t → Contains (held terms t) u → Contains (flat_map (held terms) types) u
  held_among [] t u h k = absurd (nothing_there t h)
  held_among (v ∷ types) t u h k = elim (first_or_rest v types t h) [
    | inl e ↦ Contains-append_left (held terms v) (flat_map (held terms) types) u (subst (λ w. Contains (held terms w) u) (sym e) k)
    | inr rest ↦ Contains-append_right (held terms v) (flat_map (held terms) types) u (held_among types t u rest k)
  ]

  named_there : (is : List ℕ) (i : ℕ) → Contains is i → Contains (map ty.named is) (ty.named i)
  named_there [] i h = absurd (nothing_there i h)
  named_there (j ∷ is) i h = elim (first_or_rest j is i h) [
    | inl e ↦ subst (λ k. Contains (ty.named k ∷ map ty.named is) (ty.named i)) (sym e) (here (ty.named i) (map ty.named is))
    | inr rest ↦ there (ty.named j) (map ty.named is) (ty.named i) (named_there is i rest)
  ]

  -- a list that has its own parts has all that is reached
  pub closed : (types : List Term) → ((u : Term) → Contains (parts_of terms roots types) u → Contains types u) → (t : Term) → IsReached terms roots t → Contains types t
  closed types has t (root i h) = has (ty.named i) (Contains-append_left (map ty.named roots) (flat_map (held terms) types) (ty.named i) (named_there roots i h))
  closed types has u (part t v h k) = has u (Contains-append_right (map ty.named roots) (flat_map (held terms) types) u (held_among types t u (closed types has t h) k))

  module _ (types : List Term) (order : IsJoined [] (parts_of terms roots types) types) where
    pub complete : (t : Term) → IsReached terms roots t → Contains types t
    complete = closed types (joined_has [] (parts_of terms roots types) types order)

    pub all_distinct : AreDistinct types
    all_distinct = (joined_adds [] (parts_of terms roots types) types order).distinct none_distinct

  -- where no type stands at the place, all that is reached is there
  pub whole : (types : List Term) (place : ℕ) → length types ≤ place → IsReaching terms roots place types → AreReached terms roots types
  whole types place past r =
      let order = subst (λ l. IsJoined [] (parts_of terms roots l) types) (take_all place types past) r.order in
      record { distinct = all_distinct types order; sound = r.sound; complete = complete types order; order = order }

  module _ (old : List Term) (empty : old ≡ []) where
    none_before : (t : Term) → Contains old t → IsReached terms roots t
    none_before t h = absurd (nothing_there t (subst (λ l. Contains l t) empty h))

    pub roots_distinct : (new : List Term) → Adds old new (map ty.named roots) → AreDistinct new
    roots_distinct new a = a.distinct (subst AreDistinct (sym empty) none_distinct)

    pub roots_sound : (new : List Term) → Adds old new (map ty.named roots) → (t : Term) → Contains new t → IsReached terms roots t
    roots_sound new a = added_sound old new (map ty.named roots) a none_before root_sound

    pub begin : (new : List Term) → IsJoined old (map ty.named roots) new → IsReaching terms roots 0 new
    begin new joined = record {
      sound = roots_sound new (joined_adds old (map ty.named roots) new joined);
      order = subst (λ l. IsJoined [] l new) (sym (append-nil (map ty.named roots))) (subst (λ l. IsJoined l (map ty.named roots) new) empty joined);
    }

  module _ (old : List Term) (place : ℕ) (t : Term) (at : slice_get old place ≡ Some t) (r : IsReaching terms roots place old) where
    pub next_distinct : (new : List Term) → Adds old new (held terms t) → AreDistinct new
    next_distinct new a = a.distinct ((joined_adds [] (parts_of terms roots (take place old)) old r.order).distinct none_distinct)

    pub next_sound : (new : List Term) → Adds old new (held terms t) → (u : Term) → Contains new u → IsReached terms roots u
    next_sound new a = added_sound old new (held terms t) a r.sound (λ u k. part t u (r.sound t (there_at old place t at)) k)

    -- the types up to the place are those before it, and the one that stands there
    one_further : (new : List Term) → Adds old new (held terms t) → take (place + 1) new ≡ take place old ++ t ∷ []
    one_further new a =
        let within = slice_get_within old place t at in
        let found : t ≡ get_or old place t = same_Some t (get_or old place t) (sym at ∙ slice_get-get_or old place t within) in
        ap (take (place + 1)) a.is ∙ take-append-le (place + 1) old a.added (omega (arith, within)) ∙ take_more old place t within ∙ ap (λ u. take place old ++ u ∷ []) (sym found)

    further_parts : (new : List Term) → Adds old new (held terms t) → parts_of terms roots (take (place + 1) new) ≡ parts_of terms roots (take place old) ++ held terms t
    further_parts new a =
        ap (parts_of terms roots) (one_further new a) ∙ sym (flat_map_more (held terms) (map ty.named roots) (take place old) t)

    pub next : (new : List Term) → IsJoined old (held terms t) new → IsReaching terms roots (place + 1) new
    next new joined =
        let a = joined_adds old (held terms t) new joined in
        record {
          sound = next_sound new a;
          order = subst (λ l. IsJoined [] l new) (sym (further_parts new a)) (joined_then [] (parts_of terms roots (take place old)) old (held terms t) new r.order joined);
        }

  module _ (limit : ℕ) (list : TypeList) (same : list.limit ≡ limit) where
    pub roots_past : types_of list ≡ [] → (fault : EntryFault) → IsFullBy list (map ty.named roots) fault → IsTrueOf terms roots limit fault
    roots_past empty TooMany full = record { types = full.more; distinct = roots_distinct (types_of list) empty full.more full.adds; sound = roots_sound (types_of list) empty full.more full.adds; many = subst (λ n. n < length full.more) same full.many }
    roots_past empty Memory full = tt

    pub held_past : (place : ℕ) (t : Term) → slice_get (types_of list) place ≡ Some t → IsReaching terms roots place (types_of list) → (fault : EntryFault) → IsFullBy list (held terms t) fault → IsTrueOf terms roots limit fault
    held_past place t at r TooMany full = record { types = full.more; distinct = next_distinct (types_of list) place t at r full.more full.adds; sound = next_sound (types_of list) place t at r full.more full.adds; many = subst (λ n. n < length full.more) same full.many }
    held_past place t at r Memory full = tt

  pub past_end : (types : List Term) (place : ℕ) → slice_get types place ≡ None → length types ≤ place
  past_end types place none = elim (cases_lt place (length types)) [
    | inl lt ↦ absurd (none-some (get_or types place nothing) (sym none ∙ slice_get-get_or types place nothing lt))
    | inr le ↦ le
  ]
