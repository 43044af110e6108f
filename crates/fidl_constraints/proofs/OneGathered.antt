-- What the constraints of a type give is one.
use Rattle.std.proofs.Common.{◌≡◌, ℕ, List, [], ◌∷◌, refl, ap, sym, subst, ◌∙◌}
use Rattle.std.specs.Prelude.{pos}
use Rattle.std.proofs.lemmas.Option.{same_Some}
use Rattle.fidl_tree.specs.Syntax.{TypeUse, Value}
use Rattle.fidl_tree.specs.declared.file.File.{File}
use Rattle.fidl_named.specs.declared.meaning.Meaning.TheVariants as meaning
use Rattle.fidl_consts.specs.declared.const_type.NumberKind.TheVariants.{Uint32}
use Rattle.fidl_consts.specs.declared.const_type.ConstType.TheVariants as ty
use Rattle.fidl_consts.specs.PlainValues.{a_number}
use Rattle.fidl_consts.specs.Values.{ValueIs}
use Rattle.fidl_consts.proofs.OneValue.{one_value}
use Rattle.fidl_constraints.specs.Behind.{Head, word_head, layout_head, handle_head, Core}
use Rattle.fidl_constraints.proofs.OneBehind.{one_behind}
use Rattle.fidl_constraints.specs.declared.parts.PartKind.{PartKind}
use Rattle.fidl_constraints.specs.declared.parts.PartKind.TheVariants.{Optional, Bound, Protocol, Subtype, Rights}
use Rattle.fidl_constraints.specs.declared.parts.Part.{Part}
use Rattle.fidl_constraints.specs.Items.{Item, all_items}
use Rattle.fidl_constraints.specs.Gives.{InFile, IsOfProperty, IsAmount, Gives, EachGives, IsGathered}
use Rattle.fidl_constraints.proofs.OneHandle.{one_handle}
use Rattle.fidl_constraints.proofs.Pairing.{same_kinds}

module _ (files : List File) where
  one_file : (number : ℕ) (P Q : File → Type 0) (h : InFile files number P) (k : InFile files number Q) → k.file ≡ h.file
  one_file number P Q h k = same_Some k.file h.file (sym k.at ∙ h.at)

  one_bound : (number : ℕ) (v : Value) (n m : ℕ) → InFile files number (λ f. ValueIs files f (ty.Number Uint32) v (a_number (pos n))) → InFile files number (λ f. ValueIs files f (ty.Number Uint32) v (a_number (pos m))) → n ≡ m
  one_bound number v n m h k =
      let file = one_file number (λ f. ValueIs files f (ty.Number Uint32) v (a_number (pos n))) (λ f. ValueIs files f (ty.Number Uint32) v (a_number (pos m))) h k in
      let there : ValueIs files h.file (ty.Number Uint32) v (a_number (pos m)) = subst (λ (f : File). ValueIs files f (ty.Number Uint32) v (a_number (pos m))) file k.is in
      let both : a_number (pos n) ≡ a_number (pos m) = one_value files h.file (ty.Number Uint32) v (a_number (pos n)) (a_number (pos m)) h.is there in
      cc

  one_of_property : (head : Head) (rank : ℕ) (v : Value) (f : File) (n m : ℕ) → IsOfProperty files head rank v n f → IsOfProperty files head rank v m f → n ≡ m
  one_of_property (handle_head p) rank v f n m h k =
      let both : a_number (pos n) ≡ a_number (pos m) = one_handle files f (meaning.Declared p) rank v (a_number (pos n)) (a_number (pos m)) h.0 k.0 in
      cc
  one_of_property (word_head w _) rank v f n m h k = absurd h
  one_of_property (layout_head l) rank v f n m h k = absurd h

  one_property : (number : ℕ) (head : Head) (rank : ℕ) (v : Value) (n m : ℕ) → InFile files number (IsOfProperty files head rank v n) → InFile files number (IsOfProperty files head rank v m) → n ≡ m
  one_property number head rank v n m h k =
      let file = one_file number (IsOfProperty files head rank v n) (IsOfProperty files head rank v m) h k in
      one_of_property head rank v h.file n m h.is (subst (IsOfProperty files head rank v m) file k.is)

  one_amount : (head : Head) (x : Item) (kind : PartKind) (n m : ℕ) → IsAmount files head x kind n → IsAmount files head x kind m → n ≡ m
  one_amount head x Optional n m h k = h.1 ∙ sym k.1
  one_amount head x Bound n m h k = one_bound x.file x.value n m h k
  one_amount head x Protocol n m h k = h.1 ∙ sym k.1
  one_amount head x Subtype n m h k = one_property x.file head x.rank x.value n m h k
  one_amount head x Rights n m h k = one_property x.file head x.rank x.value n m h k

  abbrev part_of : PartKind → ℕ → Part
  part_of kind n = record { kind = kind; amount = n }

  one_part : (head : Head) (x : Item) (p q : Part) → Gives files head x p → Gives files head x q → p ≡ q
  one_part head x p q h k =
      let kinds : q.kind ≡ p.kind = same_kinds files head x q p k h in
      let amount : p.amount ≡ q.amount = one_amount head x p.kind p.amount q.amount h.amount (subst (λ (n : PartKind). IsAmount files head x n q.amount) kinds k.amount) in
      ap (λ (n : ℕ). part_of p.kind n) amount ∙ ap (λ (n : PartKind). part_of n q.amount) (sym kinds)

  one_list : (head : Head) (xs : List Item) (ps qs : List Part) → EachGives files head xs ps → EachGives files head xs qs → ps ≡ qs
  one_list head [] [] [] h k = refl
  one_list head [] [] (q ∷ qs) h k = absurd k
  one_list head [] (p ∷ ps) qs h k = absurd h
  one_list head (x ∷ xs) [] qs h k = absurd h
  one_list head (x ∷ xs) (p ∷ ps) [] h k = absurd k
  one_list head (x ∷ xs) (p ∷ ps) (q ∷ qs) h k = ap (λ (y : Part). y ∷ ps) (one_part head x p q h.0 k.0) ∙ ap (λ (l : List Part). q ∷ l) (one_list head xs ps qs h.1 k.1)

  pub one_gathered : (number : ℕ) (t : TypeUse) (c d : Core) (ps qs : List Part) → IsGathered files number t c ps → IsGathered files number t d qs → (c ≡ d) × (ps ≡ qs)
  one_gathered number t c d ps qs h k =
      let cores : d ≡ c = one_behind files number t d c k.behind h.behind in
      (sym cores, one_list c.head (all_items files c.given) ps qs h.gives (subst (λ (x : Core). EachGives files x.head (all_items files x.given) qs) cores k.gives))
