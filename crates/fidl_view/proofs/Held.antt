-- The members of tables and unions, one by one.
use Rattle.std.proofs.Common.{◌≡◌, ℕ, suc, ◌<◌, ◌≤◌, Bool, false, refl, sym, ap, subst, ◌∙◌, arith, inl, inr}
use Rattle.std.specs.Prelude.{Option, Some, None, if◌then◌else◌, ◌==◌}
use Rattle.std.proofs.lemmas.Bool.{cases_lt}
use Rattle.std.proofs.lemmas.Bool.Decides.{eqb_tells}
use Rattle.fidl_wire.specs.Value.{Value, Member, known, unknown, Members, empty, member}
use Rattle.fidl_wire.specs.Term.{Term, Rows, find}
use Rattle.fidl_wire.specs.Figure.{Declarations}
use Rattle.fidl_wire.specs.Typed.{IsTypedMember, RiseTyped}
use Rattle.fidl_wire.specs.Depth.{member_depth, members_depth}
use Rattle.fidl_view.specs.Parts.{at_ordinal, known_in, unknown_in}
use Rattle.fidl_view.proofs.Envelopes as slots

lt_differs : (a b : ℕ) → a < b → (a == b) ≡ false
lt_differs a b lt = elim (eqb_tells a b) [ inl t ↦ absurd (let e = t.1 in omega (arith, e, lt)) | inr f ↦ f.0 ]

over : (a b : ℕ) → a < b → (b ≡ suc a → ⊥) → suc a < b
over a b lt other = elim (cases_lt (suc a) b) [ inl less ↦ less | inr from ↦ absurd (other (omega (arith, lt, from))) ]

one_member : (x y : Member) → Some x ≡ Some y → x ≡ y
one_member x y e = cc

-- what stands at an ordinal, before members
abbrev pub with_held : (ordinal : ℕ) → Option Member → Members → Members
with_held ordinal None ms = ms
with_held ordinal (Some x) ms = member ordinal x ms

module _ (ds : Declarations) (rows : Rows) where
  -- the members behind an ordinal
  pub record IsRest (last n : ℕ) (ms rest : Members) : Type 0 where
    pub rises : RiseTyped ds rows last n rest
    pub same : (k : ℕ) → last < k → at_ordinal ms k ≡ at_ordinal rest k

  -- those behind the next one
  pub record IsNext (last n : ℕ) (ms rest : Members) : Type 0 where
    pub behind : Members
    pub is_rest : IsRest (suc last) n ms behind
    pub whole : rest ≡ with_held (suc last) (at_ordinal ms (suc last)) behind

  pub next : (last n : ℕ) (ms rest : Members) → IsRest last n ms rest → IsNext last n ms rest
  next last n ms empty r = record {
    behind = empty;
    is_rest = record { rises = tt; same = λ k p. r.same k (omega (arith, p)) };
    whole = ap (λ (o : Option Member). with_held (suc last) o empty) (sym (r.same (suc last) (omega arith)));
  }
  next last n ms (member key x tail) r =
      let low = r.rises.0 in
      elim (eqb_tells key (suc last)) [
        | inl t ↦
            let is = t.1 in
            let own : at_ordinal ms (suc last) ≡ Some x = r.same (suc last) (omega arith) ∙ ap (λ (b : Bool). if b then Some x else at_ordinal tail (suc last)) t.0 in
            record {
              behind = tail;
              is_rest = record {
                rises = subst (λ k. RiseTyped ds rows k n tail) is r.rises.3;
                same = λ k p. r.same k (omega (arith, p)) ∙ ap (λ (b : Bool). if b then Some x else at_ordinal tail k) (lt_differs key k (omega (arith, is, p)));
              };
              whole = ap (λ k. member k x tail) is ∙ ap (λ (o : Option Member). with_held (suc last) o tail) (sym own);
            }
        | inr f ↦
            let more = over last key low f.1 in
            let lacks : at_ordinal ms (suc last) ≡ None =
            r.same (suc last) (omega arith) ∙ ap (λ (b : Bool). if b then Some x else at_ordinal tail (suc last)) f.0 ∙ slots.none_before ds rows n tail key (suc last) r.rises.3 (omega (arith, more)) in
            record {
              behind = member key x tail;
              is_rest = record { rises = (more, r.rises.1, r.rises.2, r.rises.3); same = λ k p. r.same k (omega (arith, p)) };
              whole = ap (λ (o : Option Member). with_held (suc last) o (member key x tail)) (sym lacks);
            }
      ]

  pub none_left : (last n : ℕ) (ms rest : Members) → IsRest last n ms rest → n ≤ last → rest ≡ empty
  none_left last n ms empty r le = refl
  none_left last n ms (member key x tail) r le = let low = r.rises.0 in let high = r.rises.1 in absurd (omega (arith, low, high, le))

  pub all_left : (n : ℕ) (ms : Members) → RiseTyped ds rows 0 n ms → IsRest 0 n ms ms
  all_left n ms h = record { rises = h; same = λ k p. refl }

  -- a member is of its type, and lies no deeper than all of them
  pub held_typed : (ms : Members) (last n ordinal : ℕ) (x : Member) → RiseTyped ds rows last n ms → at_ordinal ms ordinal ≡ Some x → IsTypedMember ds false (find rows ordinal) x
  held_typed empty last n ordinal x h e = cc
  held_typed (member key y tail) last n ordinal x h e =
      elim (eqb_tells key ordinal) [
        | inl t ↦
            let own : y ≡ x = one_member y x (sym (ap (λ (b : Bool). if b then Some y else at_ordinal tail ordinal) t.0) ∙ e) in
            subst (λ k. IsTypedMember ds false (find rows k) x) t.1 (subst (λ (z : Member). IsTypedMember ds false (find rows key) z) own h.2)
        | inr f ↦ held_typed tail key n ordinal x h.3 (sym (ap (λ (b : Bool). if b then Some y else at_ordinal tail ordinal) f.0) ∙ e)
      ]

  pub held_depth : (ms : Members) (ordinal : ℕ) (x : Member) → at_ordinal ms ordinal ≡ Some x → member_depth ds (find rows ordinal) x ≤ members_depth ds rows ms
  held_depth empty ordinal x e = cc
  held_depth (member key y tail) ordinal x e =
      elim (eqb_tells key ordinal) [
        | inl t ↦
            let own : y ≡ x = one_member y x (sym (ap (λ (b : Bool). if b then Some y else at_ordinal tail ordinal) t.0) ∙ e) in
            subst (λ k. member_depth ds (find rows k) x ≤ members_depth ds rows (member key y tail)) t.1 (subst (λ (z : Member). member_depth ds (find rows key) z ≤ members_depth ds rows (member key y tail)) own (omega arith))
        | inr f ↦ let rest = held_depth tail ordinal x (sym (ap (λ (b : Bool). if b then Some y else at_ordinal tail ordinal) f.0) ∙ e) in omega (arith, rest)
      ]

  -- a known member is of its type, whatever the layout does with others
  pub known_typed : (strict : Bool) (t : Option Term) (v : Value) → IsTypedMember ds strict t (known v) → IsTypedMember ds false t (known v)
  known_typed strict (Some t) v h = h
  known_typed strict None v h = absurd h

-- what the calls of a view answer of a table, as what it holds
pub known_held : (o : Option Member) (v : Value) → known_in o ≡ Some v → o ≡ Some (known v)
known_held None v e = cc
known_held (Some (known w)) v e = let same : w ≡ v = cc in ap (λ (z : Value). Some (known z)) same
known_held (Some (unknown inline bytes handles)) v e = cc

pub unknown_held : (o : Option Member) (x : Member) → unknown_in o ≡ Some x → o ≡ Some x
unknown_held None x e = cc
unknown_held (Some (known w)) x e = cc
unknown_held (Some (unknown inline bytes handles)) x e = e

pub none_held : (o : Option Member) → known_in o ≡ None → unknown_in o ≡ None → o ≡ None
none_held None e f = refl
none_held (Some (known w)) e f = cc
none_held (Some (unknown inline bytes handles)) e f = cc
