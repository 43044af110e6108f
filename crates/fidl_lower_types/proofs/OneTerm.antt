-- A type has at most one term.
use Rattle.std.proofs.Common.{◌≡◌, ℕ, Bool, false, List, refl, ap, sym, subst, ◌∙◌, inl, inr, arith}
use Rattle.std.specs.Prelude.{pos}
use Rattle.std.proofs.lemmas.Bool.{cases_lt}
use Rattle.std.proofs.lemmas.Option.{same_Some}
use Rattle.fidl_span.specs.declared.words.Span.{Span}
use Rattle.fidl_tree.specs.Syntax as plain
use Rattle.fidl_tree.specs.Syntax.{TypeUse, Argument, Layout}
use Rattle.fidl_tree.specs.declared.file.File.{File}
use Rattle.fidl_named.specs.declared.meaning.Meaning.{Meaning}
use Rattle.fidl_consts.specs.declared.const_type.NumberKind.TheVariants.{Uint32}
use Rattle.fidl_consts.specs.declared.const_type.ConstType.TheVariants as const
use Rattle.fidl_consts.specs.PlainValues.{a_number}
use Rattle.fidl_consts.specs.Values.{Gives, NameGives}
use Rattle.fidl_consts.proofs.OneValue.{one_offered}
use Rattle.fidl_declarations.specs.Forms.{Form}
use Rattle.fidl_declarations.specs.Keywords.{layout_keyword}
use Rattle.fidl_constraints.specs.Parts.{optional_in}
use Rattle.fidl_constraints.specs.Behind.{Head, layout_head, Core}
use Rattle.fidl_constraints.specs.declared.parts.Part.{Part}
use Rattle.fidl_constraints.specs.Gives.{InFile}
use Rattle.fidl_constraints.proofs.OneGathered.{one_gathered}
use Rattle.fidl_wire.specs.Term as ty
use Rattle.fidl_wire.specs.Term.{Term}
use Rattle.fidl_lower_types.specs.declared.node.Shape.{Shape}
use Rattle.fidl_lower_types.specs.declared.node.Shape.TheVariants as shape
use Rattle.fidl_lower_types.specs.Numbers.{IsFirstForm, IsNumber, all_forms}
use Rattle.fidl_lower_types.specs.Counts.{CountIs}
use Rattle.fidl_lower_types.specs.Terms.{Node, leaf, holds, made_of, IsStruct, HeadIs, NodeIs, TermIs}
use Rattle.fidl_lower_types.proofs.Counting.{given_offers}

pub one_form : (forms : List Form) (number : ℕ) (optional : Bool) (keyword : Span) (i j : ℕ) → IsFirstForm forms number optional keyword i → IsFirstForm forms number optional keyword j → i ≡ j
one_form forms number optional keyword i j h k = elim (cases_lt i j) [
  | inl lt ↦ absurd (k.first i h.form lt h.at h.is)
  | inr ge ↦ elim (cases_lt j i) [
    | inl lt ↦ absurd (h.first j k.form lt k.at k.is)
    | inr le ↦ omega (arith, ge, le)
  ]
]

module _ (files : List File) where
  one_name : (f : File) (path : plain.Path) (n m : ℕ) → NameGives files f path (const.Number Uint32) (a_number (pos n)) → NameGives files f path (const.Number Uint32) (a_number (pos m)) → n ≡ m
  one_name f path n m h k =
      let same : k.meaning ≡ h.meaning = h.means.1 k.meaning k.means.0 in
      let gives : Gives files h.meaning (const.Number Uint32) (a_number (pos m)) = subst (λ (x : Meaning). Gives files x (const.Number Uint32) (a_number (pos m))) same k.gives in
      let one = given_offers files h.meaning (const.Number Uint32) (a_number (pos n)) h.gives in
      let other = given_offers files h.meaning (const.Number Uint32) (a_number (pos m)) gives in
      let both : a_number (pos n) ≡ a_number (pos m) = (one_offered files h.meaning one.0 other.0 (a_number (pos n)) (a_number (pos m)) one.1 other.1).1 in
      cc

  one_count : (f : File) (a : Argument) (n m : ℕ) → CountIs files f a n → CountIs files f a m → n ≡ m
  one_count f _ n m (CountIs.of_word s _ e one least) (CountIs.of_word _ _ d also less) = e ∙ sym d
  one_count f _ n m (CountIs.of_name path _ h one) (CountIs.of_name _ _ k also) = one_name f path n m h k

  pub one_in_count : (number : ℕ) (a : Argument) (n m : ℕ) → InFile files number (λ f. CountIs files f a n) → InFile files number (λ f. CountIs files f a m) → n ≡ m
  one_in_count number a n m h k =
      let file : k.file ≡ h.file = same_Some k.file h.file (sym k.at ∙ h.at) in
      one_count h.file a n m h.is (subst (λ (f : File). CountIs files f a m) file k.is)

  one_struct : (number : ℕ) (t : TypeUse) (i j : ℕ) → IsStruct files number t i → IsStruct files number t j → i ≡ j
  one_struct number t i j h k =
      let cores : h.core ≡ k.core = (one_gathered files number t h.core k.core h.parts k.parts h.gathered k.gathered).0 in
      let heads : layout_head k.layout ≡ layout_head h.layout = sym k.is ∙ (sym (ap (λ (c : Core). c.head) cores) ∙ h.is) in
      let layouts : k.layout ≡ h.layout = cc in
      let there : IsNumber files h.core.file false k.layout j = subst (λ (c : Core). IsNumber files c.file false k.layout j) (sym cores) k.number_is in
      one_form (all_forms files) h.core.file false (layout_keyword h.layout) i j h.number_is (subst (λ (l : Layout). IsNumber files h.core.file false l j) layouts there)

  one_head : (number : ℕ) (parts : List Part) (head : Head) (a b : Node) → HeadIs files number parts head a → HeadIs files number parts head b → a ≡ b
  one_head number parts _ _ _ (HeadIs.word w e is) (HeadIs.word _ d also) = ap leaf (same_Some e d (sym is ∙ also))
  one_head number parts _ _ _ (HeadIs.handle p) (HeadIs.handle _) = refl
  one_head number parts _ _ _ (HeadIs.layout l i h) (HeadIs.layout _ j k) = ap (λ n. leaf (ty.named n)) (one_form (all_forms files) number (optional_in parts) (layout_keyword l) i j h k)
  one_head number parts _ _ _ (HeadIs.box t i h) (HeadIs.box _ j k) = ap (λ n. leaf (ty.box (ty.named n))) (one_struct number t i j h k)
  one_head number parts _ _ _ (HeadIs.vector t) (HeadIs.vector _) = refl
  one_head number parts _ _ _ (HeadIs.array t a n h) (HeadIs.array _ _ m k) = ap (λ x. holds number t (shape.Array x)) (one_in_count number a n m h k)

  pub one_node : (number : ℕ) (t : TypeUse) (a b : Node) → NodeIs files number t a → NodeIs files number t b → a ≡ b
  one_node number t a b h k =
      let both = one_gathered files number t k.core h.core k.parts h.parts k.gathered h.gathered in
      let cored : HeadIs files h.core.file k.parts h.core.head b = subst (λ (c : Core). HeadIs files c.file k.parts c.head b) both.0 k.is in
      one_head h.core.file h.parts h.core.head a b h.is (subst (λ (ps : List Part). HeadIs files h.core.file ps h.core.head b) both.1 cored)

  pub one_term : (number : ℕ) (t : TypeUse) (a b : Term) → TermIs files number t a → TermIs files number t b → a ≡ b
  one_term _ _ _ _ (TermIs.alone number t e h) (TermIs.alone _ _ d k) = let is : leaf e ≡ leaf d = one_node number t (leaf e) (leaf d) h k in cc
  one_term _ _ _ _ (TermIs.alone number t e h) (TermIs.of_elements _ _ of u s d k rest) = let is : leaf e ≡ holds of u s = one_node number t (leaf e) (holds of u s) h k in absurd (cc)
  one_term _ _ _ _ (TermIs.of_elements number t of u s e h rest) (TermIs.alone _ _ d k) = let is : holds of u s ≡ leaf d = one_node number t (holds of u s) (leaf d) h k in absurd (cc)
  one_term _ _ _ _ (TermIs.of_elements number t of u s e h rest) (TermIs.of_elements _ _ also v r d k more) =
      let is : holds also v r ≡ holds of u s = one_node number t (holds also v r) (holds of u s) k h in
      let file : also ≡ of = cc in
      let use_is : v ≡ u = cc in
      let shapes : s ≡ r = cc in
      let there : TermIs files of u d = subst (λ (x : TypeUse). TermIs files of x d) use_is (subst (λ (n : ℕ). TermIs files n v d) file more) in
      ap (made_of s) (one_term of u e d rest there) ∙ ap (λ (x : Shape). made_of x d) shapes
