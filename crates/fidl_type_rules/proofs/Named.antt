-- Types that are given by predeclared names, and what they are.
use Rattle.std.proofs.Common.{◌≡◌, ◌∙◌, ℕ, true, true≢false, List, [], ◌∷◌, Option, None, Some, refl, ap, sym, subst}
use Rattle.std.specs.Prelude.{IfSome, IsNone}
use Rattle.std.proofs.lemmas.Option.{same_Some, none-some}
use Rattle.fidl_tree.specs.Syntax.{Path, TypeUse, named_type, layout_type, Arguments, no_arguments}
use Rattle.fidl_tree.specs.Views.{path_view, named_view, type_arguments_view}
use Rattle.fidl_tree.specs.declared.type_constructor.NamedType.{NamedType, out-NamedType}
use Rattle.fidl_tree.specs.declared.type_constructor.TypeArguments.{TypeArguments}
use Rattle.fidl_tree.specs.declared.file.File.{File}
use Rattle.fidl_named.specs.declared.meaning.Predeclared.{Predeclared}
use Rattle.fidl_named.specs.declared.meaning.Predeclared.TheVariants as name
use Rattle.fidl_named.specs.declared.meaning.Meaning.TheVariants as meaning
use Rattle.fidl_named.specs.Places.{use_path}
use Rattle.fidl_constraints.specs.Behind.{MeansType, Head, word_head, Core, given_in, ends, RefersTo, Behind}
use Rattle.fidl_constraints.proofs.OneBehind.{one_meant, one_behind}
use Rattle.fidl_constraints.proofs.Naming.{named_seen}
use Rattle.fidl_constraints.specs.declared.parts.Part.{Part}
use Rattle.fidl_wire.specs.Term.{Term}
use Rattle.fidl_lower_types.specs.Terms.{Node, leaf, holds, word_term, IsStruct, HeadIs, NodeIs, TermIs}
use Rattle.fidl_lower_types.proofs.Heads.{arguments_seen, box_struct}
use Rattle.fidl_type_rules.specs.Words.{IsWord, is_float, IsLeftOut, arguments_in, ArgumentsSuit, BoxesOther}

-- What stands behind a predeclared name.

module _ (files : List File) (number : ℕ) where
  word_refers : (t : TypeUse) (path : Path) (w : Predeclared) → use_path t ≡ Some path → MeansType files number path (meaning.Predeclared w) → RefersTo files number t (ends number (word_head w (arguments_in t)))
  word_refers (named_type p given cs) path w is means =
      let same : p ≡ path = same_Some p path is in
      RefersTo.by_name p given cs (meaning.Predeclared w) (ends number (word_head w given)) (subst (λ (x : Path). MeansType files number x (meaning.Predeclared w)) (sym same) means) refl
  word_refers (layout_type attributes l cs) path w is means = absurd (none-some path is)

  abbrev core_at : TypeUse → Predeclared → Core
  core_at t w = record { file = number; head = word_head w (arguments_in t); given = given_in number t }

  pub word_core : (t : TypeUse) (w : Predeclared) (core : Core) → IsWord files number t w → Behind files number t core → core ≡ core_at t w
  word_core t w core h k = one_behind files number t core (core_at t w) k (Behind.no_alias number t number (word_head w (arguments_in t)) (word_refers t h.path w h.named h.means))

  -- a type that has a term is something at once
  term_node : (t : TypeUse) (e : Term) → TermIs files number t e → (n : Node) × NodeIs files number t n
  term_node t _ (TermIs.alone _ _ e k) = (leaf e, k)
  term_node t _ (TermIs.of_elements _ _ of u s e k rest) = (holds of u s, k)

-- The predeclared name of a type is one.
module _ (files : List File) (number : ℕ) where
  pub one_word : (t : TypeUse) (v w : Predeclared) → IsWord files number t v → IsWord files number t w → v ≡ w
  one_word t v w h k =
      let path : k.path ≡ h.path = same_Some k.path h.path (sym k.named ∙ h.named) in
      let there : MeansType files number h.path (meaning.Predeclared w) = subst (λ (x : Path). MeansType files number x (meaning.Predeclared w)) path k.means in
      let same : meaning.Predeclared w ≡ meaning.Predeclared v = one_meant files number h.path (meaning.Predeclared v) (meaning.Predeclared w) h.means there in
      cc

-- Types by their names, as the code has them.
module _ (files : List File) (number : ℕ) (n : NamedType) (t : TypeUse) (is : t ≡ named_view n) where
  abbrev own_path : Path
  own_path = path_view (out-NamedType n).path

  named_there : use_path t ≡ Some own_path
  named_there = ap use_path (is ∙ named_seen n)

  word_there : (w : Predeclared) → MeansType files number own_path (meaning.Predeclared w) → IsWord files number t w
  word_there w h = record { path = own_path; named = named_there; means = h }

  word_means : (w : Predeclared) → IsWord files number t w → MeansType files number own_path (meaning.Predeclared w)
  word_means w h = subst (λ (x : Path). MeansType files number x (meaning.Predeclared w)) (same_Some h.path own_path (sym h.named ∙ named_there)) h.means

  pub some_word : (o : Option Predeclared) → IfSome o (λ w. MeansType files number own_path (meaning.Predeclared w)) → IfSome o (IsWord files number t)
  some_word None h = tt
  some_word (Some w) h = word_there w h

  pub no_word : (o : Option Predeclared) → (IsNone o → (w : Predeclared) → MeansType files number own_path (meaning.Predeclared w) → ⊥) → IsNone o → (w : Predeclared) → IsWord files number t w → ⊥
  no_word o none empty w h = none empty w (word_means w h)

-- arguments that are written are some
given_some : (a : TypeArguments) → type_arguments_view a ≡ no_arguments → ⊥
given_some a is = let none = sym (arguments_seen a) ∙ is in absurd (cc)

pub suits_word : (files : List File) (number : ℕ) (t : TypeUse) (a : TypeArguments) → type_arguments_view a ≡ arguments_in t → ArgumentsSuit files number t → (w : Predeclared) × IsWord files number t w
suits_word files number t a is (ArgumentsSuit.no_argument e) = absurd (given_some a (is ∙ e))
suits_word files number t a is (ArgumentsSuit.of_word w h) = (w, h)

-- What the profile leaves out.

float_none : (w : Predeclared) (parts : List Part) → is_float w ≡ true → word_term w parts ≡ None
float_none name.Float32 parts is = refl
float_none name.Float64 parts is = refl
float_none _ parts is = absurd (true≢false (sym is))

module _ (files : List File) (number : ℕ) (parts : List Part) where
  float_not : (head : Head) (n : Node) (w : Predeclared) (given : Arguments) → head ≡ word_head w given → is_float w ≡ true → HeadIs files number parts head n → ⊥
  float_not _ _ w given is float (HeadIs.word v e h) =
      let same : v ≡ w = cc in
      none-some e (sym (float_none w parts float) ∙ (sym (ap (λ (x : Predeclared). word_term x parts) same) ∙ h))
  float_not _ _ w given is float (HeadIs.handle p) = absurd (cc)
  float_not _ _ w given is float (HeadIs.layout l i h) = absurd (cc)
  float_not _ _ w given is float (HeadIs.box u i h) = let same : name.Box ≡ w = cc in true≢false (sym (ap is_float same ∙ float))
  float_not _ _ w given is float (HeadIs.vector u) = let same : name.Vector ≡ w = cc in true≢false (sym (ap is_float same ∙ float))
  float_not _ _ w given is float (HeadIs.array u a n h) = let same : name.Array ≡ w = cc in true≢false (sym (ap is_float same ∙ float))

module _ (files : List File) (number : ℕ) (t : TypeUse) (e : Term) (term : TermIs files number t e) where
  -- what is left out has no term
  pub left_out_not : IsLeftOut files number t → ⊥
  left_out_not h =
      let n = term_node files number t e term in
      let core = word_core files number t h.word n.1.core h.is n.1.gathered.behind in
      float_not files n.1.core.file n.1.parts n.1.core.head n.0 h.word (arguments_in t) (ap (λ (c : Core). c.head) core) h.float n.1.is

  -- nor has a box of what is no struct
  pub boxes_not : (content : TypeUse) → BoxesOther files number t content → ⊥
  boxes_not content h =
      let n = term_node files number t e term in
      let core = word_core files number t name.Box n.1.core h.box.is n.1.gathered.behind in
      let given : Head = word_head name.Box (arguments_in t) in
      let head : HeadIs files n.1.core.file n.1.parts given n.0 = subst (λ (x : Head). HeadIs files n.1.core.file n.1.parts x n.0) (ap (λ (c : Core). c.head) core) n.1.is in
      let its = box_struct files n.1.core.file n.1.parts (arguments_in t) n.0 content h.box.only head in
      let here : IsStruct files number content its.0 = subst (λ (x : ℕ). IsStruct files x content its.0) (ap (λ (c : Core). c.file) core) its.1 in
      h.other (record { core = here.core; parts = here.parts; layout = here.layout; gathered = here.gathered; is = here.is; of_struct = here.of_struct })
