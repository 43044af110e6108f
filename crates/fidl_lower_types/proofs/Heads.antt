-- What heads with arguments are at once.
use Rattle.std.proofs.Common.{◌≡◌, ℕ, List, [], ◌∷◌, refl, ap, subst, map}
use Rattle.fidl_tree.specs.Syntax.{TypeUse, Layout, Arguments, no_arguments, next_argument, arguments_of, Argument, type_argument}
use Rattle.fidl_tree.specs.Views.{type_arguments_view, argument_view, next_argument_view}
use Rattle.fidl_tree.specs.declared.file.File.{File}
use Rattle.fidl_tree.specs.declared.type_constructor.TypeArguments.{TypeArguments, out-TypeArguments}
use Rattle.fidl_tree.specs.declared.type_constructor.LayoutBody.TheFolds.{fold_out-TypeArguments}
use Rattle.fidl_named.specs.declared.meaning.Predeclared.TheVariants as name
use Rattle.fidl_constraints.specs.Behind.{Head, word_head, layout_head}
use Rattle.fidl_constraints.specs.Parts.{optional_in}
use Rattle.fidl_constraints.specs.declared.parts.Part.{Part}
use Rattle.fidl_constraints.specs.Gives.{InFile}
use Rattle.fidl_lower_types.specs.Counts.{CountIs}
use Rattle.fidl_lower_types.specs.Numbers.{IsNumber}
use Rattle.fidl_lower_types.specs.Terms.{Node, HeadIs, IsStruct}

-- the arguments of a type in plain data
pub arguments_seen : (a : TypeArguments) → type_arguments_view a ≡ next_argument (argument_view (out-TypeArguments a).first.value) (arguments_of (map next_argument_view (out-TypeArguments a).rest.items))
arguments_seen a = rw fold_out-TypeArguments refl

-- the number of elements of an array
module _ (files : List File) (number : ℕ) (parts : List Part) where
  counted_of : (head : Head) (n : Node) (t : TypeUse) (a : Argument) → head ≡ word_head name.Array (next_argument (type_argument t) (next_argument a no_arguments)) → HeadIs files number parts head n → (k : ℕ) × InFile files number (λ f. CountIs files f a k)
  counted_of _ _ t a is (HeadIs.word w e h) = absurd (cc)
  counted_of _ _ t a is (HeadIs.handle p) = absurd (cc)
  counted_of _ _ t a is (HeadIs.layout l i h) = absurd (cc)
  counted_of _ _ t a is (HeadIs.box u i h) = absurd (cc)
  counted_of _ _ t a is (HeadIs.vector u) = absurd (cc)
  counted_of _ _ t a is (HeadIs.array u b n h) = let same : b ≡ a = cc in (n, subst (λ (x : Argument). InFile files number (λ f. CountIs files f x n)) same h)

  pub array_counts : (as' : Arguments) (n : Node) (t : TypeUse) (a : Argument) → as' ≡ next_argument (type_argument t) (next_argument a no_arguments) → HeadIs files number parts (word_head name.Array as') n → (k : ℕ) × InFile files number (λ f. CountIs files f a k)
  array_counts as' n t a is h = counted_of (word_head name.Array as') n t a (ap (word_head name.Array) is) h

-- one argument more
just_one : (xs : List Argument) (a : Argument) → arguments_of xs ≡ next_argument a no_arguments → xs ≡ a ∷ []
just_one [] a is = absurd (cc)
just_one (x ∷ []) a is = let same : x ≡ a = cc in ap (λ (y : Argument). y ∷ []) same
just_one (x ∷ y ∷ ys) a is = absurd (cc)

pub behind_first : (x y a : Argument) (xs : List Argument) → next_argument x (arguments_of xs) ≡ next_argument y (next_argument a no_arguments) → xs ≡ a ∷ []
behind_first x y a xs is = let rest : arguments_of xs ≡ next_argument a no_arguments = cc in just_one xs a rest

-- the struct of a box, and the number of a layout
module _ (files : List File) (number : ℕ) (parts : List Part) where
  boxed_of : (head : Head) (n : Node) (t : TypeUse) → head ≡ word_head name.Box (next_argument (type_argument t) no_arguments) → HeadIs files number parts head n → (i : ℕ) × IsStruct files number t i
  boxed_of _ _ t is (HeadIs.word w e h) = absurd (cc)
  boxed_of _ _ t is (HeadIs.handle p) = absurd (cc)
  boxed_of _ _ t is (HeadIs.layout l i h) = absurd (cc)
  boxed_of _ _ t is (HeadIs.box u i h) = let same : u ≡ t = cc in (i, subst (λ (x : TypeUse). IsStruct files number x i) same h)
  boxed_of _ _ t is (HeadIs.vector u) = absurd (cc)
  boxed_of _ _ t is (HeadIs.array u b n h) = absurd (cc)

  pub box_struct : (as' : Arguments) (n : Node) (t : TypeUse) → as' ≡ next_argument (type_argument t) no_arguments → HeadIs files number parts (word_head name.Box as') n → (i : ℕ) × IsStruct files number t i
  box_struct as' n t is h = boxed_of (word_head name.Box as') n t (ap (word_head name.Box) is) h

  pub layout_numbered : (head : Head) (n : Node) (l : Layout) → head ≡ layout_head l → HeadIs files number parts head n → (i : ℕ) × IsNumber files number (optional_in parts) l i
  layout_numbered _ _ l is (HeadIs.word w e h) = absurd (cc)
  layout_numbered _ _ l is (HeadIs.handle p) = absurd (cc)
  layout_numbered _ _ l is (HeadIs.layout k i h) = let same : k ≡ l = cc in (i, subst (λ (x : Layout). IsNumber files number (optional_in parts) x i) same h)
  layout_numbered _ _ l is (HeadIs.box u i h) = absurd (cc)
  layout_numbered _ _ l is (HeadIs.vector u) = absurd (cc)
  layout_numbered _ _ l is (HeadIs.array u b n h) = absurd (cc)
