-- Files of which a refusal is true don't evaluate.
use Rattle.std.proofs.Common.{◌≡◌, ℕ, List, [], ◌∷◌, map, Bool, true, false, cond, Option, Some, None, length, refl, ap, sym, subst, ◌∙◌, inl, inr, true≢false, arith}
use Rattle.std.specs.Prelude.{pos, not, slice_get}
use Rattle.std.specs.List.{AllByRecursion, Contains, filter}
use Rattle.std.proofs.lemmas.Option.{none-some, same_Some, slice_get_read}
use Rattle.fidl_tree.specs.declared.file.File.{File}
use Rattle.fidl_tree.specs.Syntax.{Path, Value, ValueMember}
use Rattle.fidl_tree.specs.declared.declaration.Declaration.{Declaration}
use Rattle.fidl_tree.specs.declared.declaration.ConstDeclaration.{ConstDeclaration}
use Rattle.fidl_tree.specs.declared.declaration.AliasDeclaration.{AliasDeclaration}
use Rattle.fidl_tree.specs.declared.type_constructor.TypeConstructor.{TypeConstructor}
use Rattle.fidl_tree.specs.declared.type_constructor.ValuesLayout.{ValuesLayout, out-ValuesLayout}
use Rattle.fidl_named.specs.declared.place.DeclarationId.{DeclarationId}
use Rattle.fidl_named.specs.declared.meaning.Wanted.TheVariants as wanted
use Rattle.fidl_named.specs.declared.meaning.Meaning.{Meaning}
use Rattle.fidl_named.specs.declared.meaning.Meaning.TheVariants as meaning
use Rattle.fidl_named.specs.declared.meaning.Predeclared.TheVariants as name
use Rattle.fidl_named.specs.Aliases.{IsAliasAt, ResolvesTo, Wants, IsArrayName, by_itself}
use Rattle.fidl_named.specs.Constraints.{ordinary, is_optional}
use Rattle.fidl_named.specs.Places.{NamePlace, a_members, a_type, body_places}
use Rattle.fidl_named.proofs.AliasFacts.{one_wanted}
use Rattle.fidl_named.proofs.ResolvedMeanings.{one_resolved}
use Rattle.fidl_cycles.proofs.Lists.{all_get as all_at}
use Rattle.fidl_tree.specs.Views.{kind_view, value_view, value_member_view, declared_view}
use Rattle.fidl_consts.specs.declared.fault.ConstFault.{ConstFault}
use Rattle.fidl_consts.specs.declared.fault.ConstFault.TheVariants.{OutOfRange, WrongKind, ConstCycle, NotBits, Memory}
use Rattle.fidl_consts.specs.declared.const_type.ConstType.{ConstType}
use Rattle.fidl_consts.specs.declared.const_type.NumberKind.{NumberKind}
use Rattle.fidl_consts.specs.declared.const_type.NumberKind.TheVariants.{Uint32}
use Rattle.fidl_consts.specs.declared.const_type.ConstType.TheVariants as ty
use Rattle.fidl_consts.specs.PlainValues.{PlainValue, a_number, text_length}
use Rattle.fidl_consts.specs.Types.{IsConstAt, IsValuesAt, IsStringType, TypeIs, constraints_of, own_path, path_of}
use Rattle.fidl_consts.specs.Values.{ValueIs, Offers}
use Rattle.fidl_consts.specs.Strings.{IsConstraintOf, TextFits, TextFails, BoundFails}
use Rattle.fidl_consts.specs.Constraints.{ItemIs, HandleValueIs, HandleValueFails, is_bounded, PropertyWants, ConstraintHolds, ConstraintFails, ConstraintsHold}
use Rattle.fidl_consts.specs.Places.{MemberHolds, MembersFail, PlaceHolds, PlaceFails, DeclarationHolds, PlacesHold}
use Rattle.fidl_consts.specs.Evaluated.{ConstantHolds, Evaluates}
use Rattle.fidl_const.specs.Evaluating.{ConstantFails, Fails, IsTrueOfEvaluating}
use Rattle.fidl_consts.proofs.Among.{among_none, among_first, among_rest, among_cases, among_map}
use Rattle.fidl_consts.proofs.Standing.{one_file}
use Rattle.fidl_consts.proofs.OneType.{one_type, one_underlying}
use Rattle.fidl_consts.proofs.OneValue.{one_value, one_offered, one_const}
use Rattle.fidl_consts.proofs.NoValue.{no_value, no_name}
use Rattle.fidl_consts.proofs.NoItem.{no_item, no_underlying, one_wants}
use Rattle.fidl_cycles.proofs.Lists.{contains_at as contains_there}
use Rattle.fidl_const.proofs.OwnPlaces.{members_place, type_place}

-- what holds of all holds of each
all_among : {X : Type 0} (P : X → Type 0) (xs : List X) (x : X) → AllByRecursion P xs → Contains xs x → P x
all_among P [] x h c = absurd (among_none x c)
all_among P (y ∷ ys) x h c = elim (among_cases y x ys c) [
  | inl is ↦ subst P is h.0
  | inr k ↦ all_among P ys x h.1 k
]

-- what a filter leaves was there
kept_cases : {X : Type 0} (y x : X) (ys left : List X) (b : Bool) → (Contains left x → Contains ys x) → Contains (cond b (y ∷ left) left) x → Contains (y ∷ ys) x
kept_cases y x ys left true later k = elim (among_cases y x left k) [
  | inl is ↦ subst (Contains (y ∷ ys)) is (among_first y ys)
  | inr rest ↦ among_rest y x ys (later rest)
]
kept_cases y x ys left false later k = among_rest y x ys (later k)

among_kept : {X : Type 0} (test : X → Bool) (xs : List X) (x : X) → Contains (filter test xs) x → Contains xs x
among_kept test [] x h = h
among_kept test (y ∷ ys) x h = kept_cases y x ys (filter test ys) (test y) (among_kept test ys x) h

place_there : {X : Type 0} (xs : List X) (x : X) (h : Contains xs x) → slice_get xs h.0 ≡ Some x
place_there xs x h = slice_get_read xs (length xs) h.0 x refl h.1 (sym h.2)

module _ (files : List File) where
  -- Constants.

  no_text : (p : DeclarationId) (f : File) (c : ConstDeclaration) (count : ℕ) (fault : ConstFault) → TextFails files p f c count fault → TextFits files p.file f c.constructor count → ⊥
  no_text p f c count fault (TextFails.long e is) fits =
      let allows = fits e.of_number e.file e.value e.constraint in
      let both : a_number (pos e.bound) ≡ a_number (pos allows.bound) = one_value files e.file (ty.Number Uint32) e.value (a_number (pos e.bound)) (a_number (pos allows.bound)) e.is allows.is in
      let bounds : e.bound ≡ allows.bound = cc in
      let past = e.past in
      let within = allows.within in
      omega (arith, past, within, bounds)
  no_text p f c count fault (TextFails.optional e is) fits = true≢false (sym e.word ∙ (fits e.of_number e.file e.value e.constraint).no_word)
  no_text p f c count fault (TextFails.bound e) fits =
      let t = c.constructor in
      let there : Contains (constraints_of t) e.value = among_kept (λ v. not (is_optional f v)) (constraints_of t) e.value e.among in
      let allows = fits p.file f e.value (IsConstraintOf.own p.file f t e.value there) in
      no_value files f p.file (ty.Number Uint32) fault e.value (a_number (pos allows.bound)) e.fails allows.is

  -- a constant's own value, at its type
  own_value : (m : Meaning) (own : ConstType) (k : PlainValue) → Offers files m own k → (p : DeclarationId) (f : File) (c : ConstDeclaration) → m ≡ meaning.Declared p → IsConstAt files p f c
      → TypeIs files f c.constructor (Some own) × ValueIs files f own (value_view c.value) k
  own_value _ _ _ Offers.maximum p f c is at = absurd (cc)
  own_value _ own k (Offers.constant q g d _ _ also typed value) p f c is at =
      let id : q ≡ p = cc in
      let there : IsConstAt files p g d = subst (λ (r : DeclarationId). IsConstAt files r g d) id also in
      let file : g ≡ f = one_file files p g f there.declaration at.declaration there.at at.at in
      let const : d ≡ c = one_const files p g f d c there at in (
        subst (λ (x : ConstDeclaration). TypeIs files f x.constructor (Some own)) const (subst (λ (x : File). TypeIs files x d.constructor (Some own)) file typed),
        subst (λ (x : ConstDeclaration). ValueIs files f own (value_view x.value) k) const (subst (λ (x : File). ValueIs files x own (value_view d.value) k) file value),
      )
  own_value _ _ _ (Offers.member q g l kind i v _ also typed there value) p f c is at = absurd (cc)
  own_value _ _ _ (Offers.property_member q n g l kind i v _ also typed there value) p f c is at = absurd (cc)

  no_constant : (p : DeclarationId) (f : File) (c : ConstDeclaration) (fault : ConstFault) → IsConstAt files p f c → ConstantFails files p f c fault → ConstantHolds files p f c → ⊥
  no_constant p f c fault at (ConstantFails.no_type type_is is) holds =
      let own = own_value (meaning.Declared p) holds.own holds.known holds.offers p f c refl at in
      none-some holds.own (one_type files f c.constructor None (Some holds.own) type_is own.0)
  no_constant p f c fault at (ConstantFails.value own type_is fails) holds =
      let its = own_value (meaning.Declared p) holds.own holds.known holds.offers p f c refl at in
      let same : holds.own ≡ own = same_Some holds.own own (one_type files f c.constructor (Some holds.own) (Some own) its.0 type_is) in
      no_value files f p.file own fault (value_view c.value) holds.known fails (subst (λ t. ValueIs files f t (value_view c.value) holds.known) same its.1)
  no_constant p f c fault at (ConstantFails.text own k offers string fails) holds =
      let same : holds.known ≡ k = (one_offered files (meaning.Declared p) holds.own own holds.known k holds.offers offers).1 in
      no_text p f c (text_length k) fault fails (subst (λ x. TextFits files p.file f c.constructor (text_length x)) same (holds.text string))

  -- Constraints.

  -- what a property is for is no type with bounds
  unbounded : (end : Meaning) (rank : ℕ) (t : Option ConstType) → PropertyWants files end rank t → is_bounded end ≡ true → ⊥
  unbounded end rank t wants bounded =
      let same : end ≡ meaning.Declared wants.id = same_Some end (meaning.Declared wants.id) wants.is_for.end_is in
      true≢false (sym bounded ∙ ap is_bounded same)

  its_property : (f : File) (n : ℕ) (end : Meaning) (rank : ℕ) (v : Value) (fault : ConstFault) → HandleValueFails files f n end rank v fault → (t : Option ConstType) × PropertyWants files end rank t
  its_property f n end rank v fault (HandleValueFails.value t wants fails) = (Some t, wants)
  its_property f n end rank v fault (HandleValueFails.no_type wants is) = (None, wants)

  no_handle : (f : File) (n : ℕ) (end : Meaning) (rank : ℕ) (v : Value) (fault : ConstFault) (k : PlainValue) → HandleValueFails files f n end rank v fault → HandleValueIs files f end rank v k → ⊥
  no_handle f n end rank v fault k (HandleValueFails.value t wants fails) h =
      let same : h.own ≡ t = same_Some h.own t (one_wants files end rank (Some h.own) (Some t) h.wants wants) in
      no_item files f n end rank t v fault k fails (subst (λ x. ItemIs files f end rank x v k) same h.is)
  no_handle f n end rank v fault k (HandleValueFails.no_type wants is) h = none-some h.own (one_wants files end rank None (Some h.own) wants h.wants)

  no_constraint : (f : File) (n : ℕ) (end : Meaning) (rank : ℕ) (v : Value) (fault : ConstFault) → ConstraintFails files f n end rank v fault → ConstraintHolds files f end rank v → ⊥
  no_constraint f n end rank v fault (ConstraintFails.bound bounded fails) (ConstraintHolds.bound k also is) = no_value files f n (ty.Number Uint32) fault v k fails is
  no_constraint f n end rank v fault (ConstraintFails.bound bounded fails) (ConstraintHolds.property k h) = unbounded end rank (Some h.own) h.wants bounded
  no_constraint f n end rank v fault (ConstraintFails.bound bounded fails) (ConstraintHolds.free off none) = true≢false (sym bounded ∙ off)
  no_constraint f n end rank v fault (ConstraintFails.property fails) (ConstraintHolds.bound k bounded is) =
      let its = its_property f n end rank v fault fails in
      unbounded end rank its.0 its.1 bounded
  no_constraint f n end rank v fault (ConstraintFails.property fails) (ConstraintHolds.property k h) = no_handle f n end rank v fault k fails h
  no_constraint f n end rank v fault (ConstraintFails.property fails) (ConstraintHolds.free off none) =
      let wants = (its_property f n end rank v fault fails).1 in
      none wants.id wants.file wants.number wants.property wants.is_for

  -- Places.

  no_members : (f : File) (n : ℕ) (kind : NumberKind) (members : List ValueMember) (fault : ConstFault) → MembersFail files f n kind members fault → AllByRecursion (MemberHolds files f kind) members → ⊥
  no_members f n kind members fault e all =
      let holds = all_among (MemberHolds files f kind) members e.member all e.among in
      no_value files f n (ty.Number kind) fault e.member.value holds.known e.fails holds.is

  -- a place wants a type or a value, and never both
  both_wanted : (f : File) (of : Option Path) → Wants (IsArrayName files f) of wanted.Value → Wants (IsArrayName files f) of wanted.«Type» → ⊥
  both_wanted f of value typed = let same : wanted.Value ≡ wanted.«Type» = one_wanted (IsArrayName files f) of wanted.Value wanted.«Type» value typed in cc

  no_place : (f : File) (n : ℕ) (fault : ConstFault) (place : NamePlace) → PlaceFails files f n fault place → PlaceHolds files f place → ⊥
  no_place f n fault _ (PlaceFails.of_count of word wants outside is) (PlaceHolds.of_number _ _ other) = both_wanted f of wants other
  no_place f n fault _ (PlaceFails.of_count of word wants outside is) (PlaceHolds.of_count _ _ also fits) = outside fits
  no_place f n fault _ (PlaceFails.of_underlying values underlying members fails) (PlaceHolds.of_members _ _ _ kind kind_is all) = no_underlying files f n values underlying fault kind fails kind_is
  no_place f n fault _ (PlaceFails.of_member values underlying members kind kind_is fails) (PlaceHolds.of_members _ _ _ other other_is all) =
      let same : other ≡ kind = same_Some other kind (one_underlying files f values underlying (Some other) (Some kind) other_is kind_is) in
      no_members f n kind members fault fails (subst (λ k. AllByRecursion (MemberHolds files f k) members) same all)
  no_place f n fault _ (PlaceFails.of_named_count of path cs wants fails) (PlaceHolds.of_named_count _ _ _ k also gives) =
      no_name files f n (ty.Number Uint32) path fault gives.meaning k fails gives.means gives.gives
  no_place f n fault _ (PlaceFails.of_named_count of path cs wants fails) (PlaceHolds.of_type _ _ _ m end other means resolved holds) = both_wanted f of wants other
  no_place f n fault _ (PlaceFails.of_named_count of path cs wants fails) (PlaceHolds.of_no_type _ _ _ other none) = both_wanted f of wants other
  no_place f n fault _ (PlaceFails.of_type of path cs m end wants means resolved fails) (PlaceHolds.of_named_count _ _ _ k other gives) = both_wanted f of other wants
  no_place f n fault _ (PlaceFails.of_type of path cs m end wants means resolved fails) (PlaceHolds.of_type _ _ _ l last also meant stands holds) =
      let same : l ≡ m = means.1 l meant.0 in
      let ends : last ≡ end = one_resolved files m last end (subst (λ x. ResolvesTo files x last) same stands) resolved in
      let there = subst (λ x. ConstraintsHold files f x cs) ends holds in
      no_constraint f n end fails.rank fails.value fault fails.fails (there fails.rank fails.value fails.stands)
  no_place f n fault _ (PlaceFails.of_type of path cs m end wants means resolved fails) (PlaceHolds.of_no_type _ _ _ also none) = none m means

  -- Files.

  module _ (e : Evaluates files) where
    holds_at : (n : ℕ) (f : File) (d : Declaration) (place : NamePlace) → slice_get files n ≡ Some f → Contains f.declarations.items d → Contains (body_places (declared_view d.body)) place → PlaceHolds files f place
    holds_at n f d place at among there =
        let of_file : PlacesHold files f = all_at (PlacesHold files) files n f e.places at in
        let of_declaration : DeclarationHolds files f (declared_view d.body) = all_among (λ (x : Declaration). DeclarationHolds files f (declared_view x.body)) f.declarations.items d of_file among in
        all_among (PlaceHolds files f) (body_places (declared_view d.body)) place of_declaration there

    -- the place of the members of bits or an enum
    members_hold : (p : DeclarationId) (f : File) (l : ValuesLayout) → IsValuesAt files p f l
        → PlaceHolds files f (a_members (kind_view (out-ValuesLayout l).keyword) (path_of (out-ValuesLayout l).underlying) (map value_member_view (out-ValuesLayout l).members.items))
    members_hold p f l at =
        holds_at p.file f at.declaration (a_members (kind_view (out-ValuesLayout l).keyword) (path_of (out-ValuesLayout l).underlying) (map value_member_view (out-ValuesLayout l).members.items)) at.at.file_at
        (contains_there f.declarations.items p.index at.declaration at.at.stands) (members_place at.declaration.body l at.is)

    -- the place of an alias's type
    alias_holds : (p : DeclarationId) (f : File) (a : AliasDeclaration) (path : Path) → IsAliasAt files p f a → own_path a.constructor ≡ Some path → PlaceHolds files f (a_type None path (constraints_of a.constructor))
    alias_holds p f a path at is =
        let place = a_type None path (constraints_of a.constructor) in
        let there : Contains (body_places (declared_view at.declaration.body)) place = subst (λ b. Contains (body_places (declared_view b)) place) (sym at.body) (type_place a.constructor path is) in
        holds_at p.file f at.declaration place at.file_at (contains_there f.declarations.items p.index at.declaration at.stands) there

    -- the constraints of a string's type are bounds
    no_bound : (f : File) (n : ℕ) (t : TypeConstructor) (string : IsStringType files f t) (fault : ConstFault) → BoundFails files f n (ordinary f (constraints_of t)) fault
        → PlaceHolds files f (a_type None string.path (constraints_of t)) → ⊥
    no_bound f n t string fault b (PlaceHolds.of_named_count _ _ _ k other gives) = both_wanted f None other by_itself
    no_bound f n t string fault b (PlaceHolds.of_type _ _ _ m end wants means resolved holds) =
        let same : m ≡ string.first = string.means.1 m means.0 in
        let ends : end ≡ meaning.Predeclared name.String = one_resolved files string.first end (meaning.Predeclared name.String) (subst (λ x. ResolvesTo files x end) same resolved) string.resolved in
        let all = subst (λ x. ConstraintsHold files f x (constraints_of t)) ends holds in
        let values = ordinary f (constraints_of t) in
        no_constraint f n (meaning.Predeclared name.String) b.among.0 b.value fault (ConstraintFails.bound refl b.fails) (all b.among.0 b.value (place_there values b.value b.among))
    no_bound f n t string fault b (PlaceHolds.of_no_type _ _ _ also none) = none string.first string.means

    no_fails : (fault : ConstFault) → Fails files fault → ⊥
    no_fails fault (Fails.of_constant p f c at fails) = no_constant p f c fault at fails (e.constants p f c at)
    no_fails fault (Fails.of_underlying p f l at fails) =
        let underlying = path_of (out-ValuesLayout l).underlying in
        no_place f p.file fault _ (PlaceFails.of_underlying (kind_view (out-ValuesLayout l).keyword) underlying (map value_member_view (out-ValuesLayout l).members.items) fails) (members_hold p f l at)
    no_fails fault (Fails.of_member p f l kind m at kind_is among fails) =
        let members : MembersFail files f p.file kind (map value_member_view (out-ValuesLayout l).members.items) fault =
        record { member = value_member_view m; among = among_map value_member_view (out-ValuesLayout l).members.items m among; fails = fails } in
        no_place f p.file fault _ (PlaceFails.of_member (kind_view (out-ValuesLayout l).keyword) (path_of (out-ValuesLayout l).underlying) (map value_member_view (out-ValuesLayout l).members.items) kind kind_is members) (members_hold p f l at)
    no_fails fault (Fails.of_bound p f a at string fails) = no_bound f p.file a.constructor string fault fails (alias_holds p f a string.path at string.path_is)
    no_fails fault (Fails.of_place n f d at among fails) = no_place f n fault fails.place fails.fails (holds_at n f d fails.place at among fails.stands)

    pub excluded : (fault : ConstFault) → (fault ≡ Memory → ⊥) → IsTrueOfEvaluating files fault → ⊥
    excluded (OutOfRange place) other fails = no_fails (OutOfRange place) fails
    excluded (WrongKind place) other fails = no_fails (WrongKind place) fails
    excluded (ConstCycle place) other back = e.no_cycle back.node back.back
    excluded (NotBits place) other fails = no_fails (NotBits place) fails
    excluded Memory other h = other refl
