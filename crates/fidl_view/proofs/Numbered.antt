-- The number that a view answers.
use Rattle.std.proofs.Common.{◌≡◌, ℕ, ◌<◌, List, refl, sym, ap, subst, ◌∙◌, inl, inr}
use Rattle.std.specs.Prelude.{◌⊎◌, Option, Some, None, pos, ℤ, IsSome}
use Rattle.fidl_wire.specs.Value.{Value, number}
use Rattle.fidl_wire.specs.Term.{Term, resolve}
use Rattle.fidl_wire.specs.Term as ty
use Rattle.fidl_wire.specs.Figure.{Declarations}
use Rattle.fidl_wire.specs.Typed.{IsTyped}
use Rattle.fidl_table_format.specs.Section.{header_of}
use Rattle.fidl_table_format.specs.Terms.{declarations_of}
use Rattle.fidl_table_format.specs.WellFormed.{WellFormed}
use Rattle.fidl_view.specs.Parts.{numbers_of, unsigned_of, signed_of}
use Rattle.fidl_view.proofs.Listed.{only_number}
use Rattle.fidl_view.proofs.Entered.{number_answered}

some_none : {A P : Type 0} {a : A} → Some a ≡ None → P
some_none e = cc

one : {A : Type 0} (a b : A) → Some a ≡ Some b → a ≡ b
one a b e = cc

module _ (b : List ℕ) (w : WellFormed b) (i : ℕ) (lt : i < (header_of b).entries) where
  abbrev own : Term
  own = resolve (declarations_of b).terms (ty.named i)

  module _ (ds : Declarations) (t : Term) (is : IsSome (numbers_of t)) (v : Value) (h : IsTyped ds t v) (typed : IsTyped (declarations_of b) own v) where
    abbrev found : (z : ℤ) × (v ≡ number z)
    found = only_number ds t is v h

    abbrev z : ℤ
    z = found.0

    same : v ≡ number z
    same = found.1

    answered : ((n : ℕ) × (z ≡ pos n) × (unsigned_of own v ≡ Some n)) ⊎ ((unsigned_of own v ≡ None) × (signed_of own v ≡ Some z))
    answered = subst (λ (x : Value). ((n : ℕ) × (z ≡ pos n) × (unsigned_of own x ≡ Some n)) ⊎ ((unsigned_of own x ≡ None) × (signed_of own x ≡ Some z))) (sym same)
        (number_answered b w i lt z (subst (λ (x : Value). IsTyped (declarations_of b) own x) same typed))

    pub wants_signed : (u : Option ℕ) (s : Option ℤ) → u ≡ unsigned_of own v → u ≡ None → s ≡ signed_of own v → IsSome s
    wants_signed u s eu none es = elim answered [
      | inl x ↦ some_none (sym x.2 ∙ sym eu ∙ none)
      | inr x ↦ subst (λ (o : Option ℤ). IsSome o) (sym (es ∙ x.1)) refl
    ]

    pub unsigned_is : (u : Option ℕ) (n : ℕ) → u ≡ unsigned_of own v → u ≡ Some n → number (pos n) ≡ v
    unsigned_is u n eu some = elim answered [
      | inl x ↦ ap (λ (y : ℤ). number y) (ap (λ k. pos k) (one n x.0 (sym some ∙ eu ∙ x.2)) ∙ sym x.1) ∙ sym same
      | inr x ↦ some_none (sym some ∙ eu ∙ x.0)
    ]

    pub signed_is : (u : Option ℕ) (s : Option ℤ) (y : ℤ) → u ≡ unsigned_of own v → u ≡ None → s ≡ signed_of own v → s ≡ Some y → number y ≡ v
    signed_is u s y eu none es some = elim answered [
      | inl x ↦ some_none (sym x.2 ∙ sym eu ∙ none)
      | inr x ↦ ap (λ (k : ℤ). number k) (one y z (sym some ∙ es ∙ x.1)) ∙ sym same
    ]
