-- Small types and what they are, for the worked facts.
use Rattle.std.proofs.Common.{◌≡◌, ◌∙◌, ℕ, Bool, true, false, true≢false, List, [], ◌∷◌, Some, refl, ap, sym, subst}
use Rattle.std.proofs.lemmas.Option.{same_Some, none-some}
use Rattle.fidl_tree.specs.Syntax.{Path, Value, named_type, layout_type, Arguments, no_arguments, next_argument, type_argument, Layout}
use Rattle.fidl_tree.specs.declared.file.File.{File}
use Rattle.fidl_named.specs.declared.meaning.Predeclared.{Predeclared}
use Rattle.fidl_named.specs.declared.meaning.Predeclared.TheVariants as name
use Rattle.fidl_named.specs.declared.meaning.Meaning.TheVariants as meaning
use Rattle.fidl_constraints.specs.Behind.{MeansType, Head, word_head, layout_head, Core, ends, RefersTo, Behind}
use Rattle.fidl_constraints.specs.AliasExamples.{named_with, plain_word, core_of}
use Rattle.fidl_constraints.proofs.OneBehind.{one_behind}
use Rattle.fidl_constraints.specs.declared.parts.PartKind.{PartKind}
use Rattle.fidl_constraints.specs.declared.parts.PartKind.TheVariants as kind
use Rattle.fidl_constraints.specs.declared.parts.Part.{Part}
use Rattle.fidl_constraints.specs.Items.{Item, all_items}
use Rattle.fidl_constraints.specs.Gives.{item_kind, IsAmount, Gives, EachGives, IsGathered}
use Rattle.fidl_constraints.proofs.OneGathered.{one_gathered}
use Rattle.fidl_declarations.specs.Sites.{Role, any_type}
use Rattle.fidl_wire.specs.Term.{Term}
use Rattle.fidl_lower_types.specs.Terms.{word_term, is_struct, HeadIs, TermIs}
use Rattle.fidl_type_rules.specs.Words.{IsWord, is_float, IsLeftOut, ArgumentsSuit, ComesToStruct, BoxesOther}
use Rattle.fidl_type_rules.specs.Places.{role_suits, presence_suits}
use Rattle.fidl_type_rules.specs.Uses.{IsProper, UseHolds}
use Rattle.fidl_type_rules.proofs.Named.{word_core}

-- Predeclared names.

module _ (files : List File) (n : ℕ) (path : Path) where
  pub word_is : (given : Arguments) (cs : List Value) (w : Predeclared) → MeansType files n path (meaning.Predeclared w) → IsWord files n (named_type path given cs) w
  word_is given cs w h = record { path = path; named = refl; means = h }

  pub float_left : (cs : List Value) (w : Predeclared) → is_float w ≡ true → MeansType files n path (meaning.Predeclared w) → IsLeftOut files n (named_with path cs)
  float_left cs w float h = record { word = w; is = word_is no_arguments cs w h; float = float }

  -- what it is without constraints
  abbrev core_with : Arguments → Predeclared → Core
  core_with given w = core_of n (word_head w given) []

  pub plain_gathered : (given : Arguments) (w : Predeclared) → MeansType files n path (meaning.Predeclared w) → IsGathered files n (named_type path given []) (core_with given w) []
  plain_gathered given w h = record {
    behind = Behind.no_alias n (named_type path given []) n (word_head w given) (RefersTo.by_name path given [] (meaning.Predeclared w) (ends n (word_head w given)) h refl);
    gives = tt;
    once = tt;
  }

  pub plain_proper : (role : Role) (w : Predeclared) (e : Term) → MeansType files n path (meaning.Predeclared w) → word_term w [] ≡ Some e → role_suits role (named_with path []) (plain_word w) [] ≡ true
      → IsProper files n role (named_with path []) (core_with no_arguments w) []
  plain_proper role w e h term suits =
      let its = plain_gathered no_arguments w h in
      record {
        term = e;
        gathered = its;
        term_is = TermIs.alone n (named_with path []) e (record { core = core_with no_arguments w; parts = []; gathered = its; is = HeadIs.word w e term });
        arguments = ArgumentsSuit.no_argument refl;
        place = suits;
      }

  pub plain_holds : (role : Role) (w : Predeclared) (e : Term) → MeansType files n path (meaning.Predeclared w) → word_term w [] ≡ Some e → role_suits role (named_with path []) (plain_word w) [] ≡ true
      → presence_suits role (plain_word w) [] ≡ true → UseHolds files n role (named_with path [])
  plain_holds role w e h term suits present = record { core = core_with no_arguments w; parts = []; proper = plain_proper role w e h term suits; present = present }

  pub open_not : (w : Predeclared) → MeansType files n path (meaning.Predeclared w) → role_suits any_type (named_with path []) (plain_word w) [] ≡ false → UseHolds files n any_type (named_with path []) → ⊥
  open_not w h other holds =
      let t = named_with path [] in
      let same = one_gathered files n t holds.core (core_with no_arguments w) holds.parts [] holds.proper.gathered (plain_gathered no_arguments w h) in
      let cored = subst (λ (c : Core). role_suits any_type t c.head holds.parts ≡ true) same.0 holds.proper.place in
      let there = subst (λ (ps : List Part). role_suits any_type t (plain_word w) ps ≡ true) same.1 cored in
      true≢false (sym there ∙ other)

-- Constraints.

first_gives : (files : List File) (head : Head) (x : Item) (xs : List Item) (ps : List Part) → EachGives files head (x ∷ xs) ps → (p : Part) × Gives files head x p
first_gives files head x xs [] h = absurd h
first_gives files head x xs (p ∷ ps) h = (p, h.0)

no_part : (files : List File) (x : Item) (p : Part) (word : Bool) → x.word ≡ word → Gives files (plain_word name.Bool) x p → ⊥
no_part files x p true is h =
    let kinds : kind.Optional ≡ p.kind = same_Some kind.Optional p.kind (sym (ap (λ (b : Bool). item_kind (plain_word name.Bool) (record { file = x.file; value = x.value; word = b; rank = x.rank; last = x.last })) is) ∙ h.kind) in
    let amount = subst (λ (k : PartKind). IsAmount files (plain_word name.Bool) x k p.amount) (sym kinds) h.amount in
    true≢false (sym amount.0)
no_part files x p false is h = none-some p.kind (sym (ap (λ (b : Bool). item_kind (plain_word name.Bool) (record { file = x.file; value = x.value; word = b; rank = x.rank; last = x.last })) is) ∙ h.kind)

pub bool_unconstrained : (files : List File) (n : ℕ) (path : Path) (v : Value) → MeansType files n path (meaning.Predeclared name.Bool) → UseHolds files n any_type (named_with path (v ∷ [])) → ⊥
bool_unconstrained files n path v h holds =
    let t = named_with path (v ∷ []) in
    let core = word_core files n t name.Bool holds.core (word_is files n path no_arguments (v ∷ []) name.Bool h) holds.proper.gathered.behind in
    let gives = subst (λ (c : Core). EachGives files c.head (all_items files c.given) holds.parts) core holds.proper.gathered.gives in
    let its = first_gives files (plain_word name.Bool) _ [] holds.parts gives in
    no_part files _ its.0 _ refl its.1

-- Layouts.

module _ (files : List File) (n : ℕ) (l : Layout) where
  abbrev core_behind : Core
  core_behind = core_of n (layout_head l) []

  layout_behind : Behind files n (layout_type [] l []) core_behind
  layout_behind = Behind.no_alias n (layout_type [] l []) n (layout_head l) (RefersTo.by_layout [] l [])

  pub struct_comes : is_struct l ≡ true → ComesToStruct files n (layout_type [] l [])
  struct_comes is = record { core = core_behind; parts = []; layout = l; gathered = record { behind = layout_behind; gives = tt; once = tt }; is = refl; of_struct = is }

  pub other_comes_not : is_struct l ≡ false → ComesToStruct files n (layout_type [] l []) → ⊥
  other_comes_not other h =
      let core = one_behind files n (layout_type [] l []) h.core core_behind h.gathered.behind layout_behind in
      let heads : layout_head h.layout ≡ layout_head l = sym h.is ∙ ap (λ (c : Core). c.head) core in
      let layouts : h.layout ≡ l = cc in
      true≢false (sym h.of_struct ∙ (ap is_struct layouts ∙ other))

  -- a box of one that is no struct
  pub boxes_layout : (path : Path) → is_struct l ≡ false → MeansType files n path (meaning.Predeclared name.Box) → BoxesOther files n (named_type path (next_argument (type_argument (layout_type [] l [])) no_arguments) []) (layout_type [] l [])
  boxes_layout path other h = record {
    box = record { is = word_is files n path (next_argument (type_argument (layout_type [] l [])) no_arguments) [] name.Box h; only = refl };
    other = other_comes_not other;
  }
