-- An owned tree while it grows: what is there, with what is left, is the whole.
use Rattle.std.proofs.Common.{◌≡◌, ℕ, zero, suc, ◌<◌, ◌≤◌, List, [], ◌∷◌, ◌++◌, true, false, refl, sym, ap, subst, ◌∙◌}
use Rattle.std.specs.Prelude.{Option, Some, None, Result, Ok, Err, IfOk}
use Rattle.fidl_wire.specs.Value.{Value, absent, bool, number, text, list, fields, handle, table, union, Values, none, value, count, values_of, Member, Members, empty, member, members_of}
use Rattle.fidl_wire.specs.declared.value.Value.{Value as Tree}
use Rattle.fidl_wire.specs.Views.{value_view}
use Rattle.fidl_wire.specs.Term.{Term, Fields, Rows}
use Rattle.fidl_wire.specs.Figure.{Declarations}
use Rattle.fidl_wire.specs.Typed.{EachTyped}
use Rattle.fidl_table_format.specs.declared.record.Header.{Header}
use Rattle.fidl_table_format.specs.Section.{header_of, entry_at}
use Rattle.fidl_table_format.specs.Terms.{declarations_of, fields_from}
use Rattle.fidl_table_format.specs.Terms as terms
use Rattle.fidl_table_format.specs.WellFormed.{WellFormed}
use Rattle.fidl_view.specs.declared.view.View.{View}
use Rattle.fidl_view.specs.Parts.{absence_of, nth, at_ordinal, variant_of}
use Rattle.fidl_view.specs.Within.{IsElements, IsMembers, IsValueOf}
use Rattle.fidl_view.specs.Trees.{listed_at}
use Rattle.fidl_view.proofs.Listed.{values_after, values_at, values_end, each_typed}
use Rattle.fidl_view.proofs.Held as held

-- values in front of others
abbrev pub before : List Value → Values → Values
before [] vs = vs
before (x ∷ xs) vs = value x (before xs vs)

pub before_more : (xs : List Value) (x : Value) (vs : Values) → before (xs ++ x ∷ []) vs ≡ before xs (value x vs)
before_more [] x vs = refl
before_more (y ∷ xs) x vs = ap (λ (us : Values). value y us) (before_more xs x vs)

pub before_none : (xs : List Value) → before xs none ≡ values_of xs
before_none [] = refl
before_none (x ∷ xs) = ap (λ (us : Values). value x us) (before_none xs)

-- members in front of others
abbrev pub ahead : List (ℕ × Member) → Members → Members
ahead [] ms = ms
ahead (x ∷ xs) ms = member x.0 x.1 (ahead xs ms)

pub ahead_more : (xs : List (ℕ × Member)) (ordinal : ℕ) (o : Option Member) (ms : Members) → ahead (xs ++ listed_at ordinal o) ms ≡ ahead xs (held.with_held ordinal o ms)
ahead_more [] ordinal None ms = refl
ahead_more [] ordinal (Some x) ms = refl
ahead_more (y ∷ xs) ordinal o ms = ap (λ (ns : Members). member y.0 y.1 ns) (ahead_more xs ordinal o ms)

pub ahead_none : (xs : List (ℕ × Member)) → ahead xs empty ≡ members_of xs
ahead_none [] = refl
ahead_none (x ∷ xs) = ap (λ (ms : Members). member x.0 x.1 ms) (ahead_none xs)

-- the elements up to a place are there
pub record AreElements (b : List ℕ) (element at : ℕ) (view : View) (trees : List Value) : Type 0 where
  pub so_far : (t : Term) (vs : Values) → IsElements b element view t vs → before trees (values_after at vs) ≡ vs

-- the members up to a place are there
pub record AreMembers (b : List ℕ) (index at : ℕ) (view : View) (trees : List Value) : Type 0 where
  pub so_far : (t : Term) (vs : Values) → IsMembers b index view t vs → before trees (values_after at vs) ≡ vs

-- the members up to an ordinal are there
pub record AreHeld (b : List ℕ) (index at : ℕ) (view : View) (trees : List (ℕ × Member)) : Type 0 where
  pub so_far : (n : ℕ) (ms : Members) → IsValueOf b index view (table n ms)
      → (rest : Members) × held.IsRest (declarations_of b) (terms.members_of b index) at n ms rest × (ahead trees rest ≡ ms)

-- one value more
pub grown : (old new : List Value) (y x : Value) (vs : Values) (at next : ℕ) → new ≡ old ++ y ∷ [] → y ≡ x → nth vs at ≡ Some x → next ≡ suc at → before old (values_after at vs) ≡ vs
    → before new (values_after next vs) ≡ vs
grown old new y x vs at next more same here is so_far =
    ap (λ (l : List Value). before l (values_after next vs)) more
    ∙ before_more old y (values_after next vs)
    ∙ ap (λ (z : Value). before old (value z (values_after next vs))) same
    ∙ ap (λ k. before old (value x (values_after k vs))) is
    ∙ ap (λ (us : Values). before old us) (sym (values_at vs at x here))
    ∙ so_far

-- all values are there
pub all_there : (trees : List Value) (vs : Values) (at : ℕ) → at ≡ count vs → before trees (values_after at vs) ≡ vs → values_of trees ≡ vs
all_there trees vs at end so_far =
    sym (before_none trees) ∙ ap (λ (us : Values). before trees us) (sym (ap (λ k. values_after k vs) end ∙ values_end vs)) ∙ so_far

-- a struct has no more values than members
none_after : (ds : Declarations) (b : List ℕ) (h : Header) (first n : ℕ) (vs : Values) → EachTyped ds (fields_from b h first n) vs → values_after n vs ≡ none
none_after ds b h first zero none typed = refl
none_after ds b h first zero (value v vs) typed = absurd typed
none_after ds b h first (suc n) none typed = absurd typed
none_after ds b h first (suc n) (value v vs) typed = none_after ds b h (suc first) n vs typed.1

pub all_members : (b : List ℕ) (w : WellFormed b) (i : ℕ) (lt : i < (header_of b).entries) (view : View) (t : Term) (vs : Values) → IsMembers b i view t vs → (trees : List Value) (at : ℕ) → at ≡ (entry_at b i).count
    → before trees (values_after at vs) ≡ vs → values_of trees ≡ vs
all_members b w i lt view t vs p trees at end so_far =
    let typed = subst (λ (fs : Fields). EachTyped (declarations_of b) fs vs) p.each (each_typed (declarations_of b) t vs p.part.typed) in
    let gone = none_after (declarations_of b) b (header_of b) (entry_at b i).first (entry_at b i).count vs typed in
    sym (before_none trees) ∙ ap (λ (us : Values). before trees us) (sym (ap (λ k. values_after k vs) end ∙ gone)) ∙ so_far

pub absent_is : (v : Value) → true ≡ absence_of v → absent ≡ v
absent_is absent e = refl
absent_is _ e = differ (sym e)
  where
    differ : {P : Type 0} → false ≡ true → P
    differ e = cc

abbrev pub of_list : List (ℕ × Member) → Members
of_list = members_of

-- one ordinal more
pub held_more : (ds : Declarations) (rows : Rows) (at next n : ℕ) (ms rest : Members) (old new : List (ℕ × Member)) (o : Option Member) → held.IsRest ds rows at n ms rest → next ≡ suc at → ahead old rest ≡ ms
    → o ≡ at_ordinal ms next → new ≡ old ++ listed_at next o
    → (rest : Members) × held.IsRest ds rows next n ms rest × (ahead new rest ≡ ms)
held_more ds rows at next n ms rest old new o is e so_far here more =
    let x = held.next ds rows at n ms rest is in (
      x.behind,
      subst (λ k. held.IsRest ds rows k n ms x.behind) (sym e) x.is_rest,
      ap (λ (l : List (ℕ × Member)). ahead l x.behind) more
          ∙ ahead_more old next o x.behind
          ∙ ap (λ (p : Option Member). ahead old (held.with_held next p x.behind)) here
          ∙ ap (λ k. ahead old (held.with_held k (at_ordinal ms k) x.behind)) e
          ∙ ap (λ (us : Members). ahead old us) (sym x.whole)
          ∙ so_far,
    )

pub all_held : (ds : Declarations) (rows : Rows) (at n : ℕ) (ms rest : Members) (trees : List (ℕ × Member)) → held.IsRest ds rows at n ms rest → n ≤ at → ahead trees rest ≡ ms → members_of trees ≡ ms
all_held ds rows at n ms rest trees is le so_far =
    sym (ahead_none trees) ∙ ap (λ (us : Members). ahead trees us) (sym (held.none_left ds rows at n ms rest is le)) ∙ so_far

variant_is : (v : Value) (ordinal : ℕ) (x : Member) → variant_of v ≡ Some (ordinal, x) → union ordinal x ≡ v
variant_is (union key y) ordinal x e = let same : (key, y) ≡ (ordinal, x) = cc in ap (λ (q : ℕ × Member). union q.0 q.1) (sym same)
variant_is absent ordinal x e = cc
variant_is (bool b) ordinal x e = cc
variant_is (number z) ordinal x e = cc
variant_is (text bytes) ordinal x e = cc
variant_is (list vs) ordinal x e = cc
variant_is (fields vs) ordinal x e = cc
variant_is (handle h) ordinal x e = cc
variant_is (table n ms) ordinal x e = cc

pub union_as : {E : Type 0} (r : Result Tree E) (ordinal : ℕ) (y x : Member) (v : Value) → y ≡ x → variant_of v ≡ Some (ordinal, x) → IfOk r (λ tree. value_view tree ≡ union ordinal y) → IfOk r (λ tree. value_view tree ≡ v)
union_as (Ok tree) ordinal y x v same e h = h ∙ ap (λ (z : Member). union ordinal z) same ∙ variant_is v ordinal x e
union_as (Err error) ordinal y x v same e h = tt
