-- What types hold: where it stands, and that a name and its alias hold the same.
use Rattle.std.proofs.Common.{◌≡◌, ◌<◌, ◌∙◌, ℕ, length, List, [], ◌∷◌, ◌++◌, Option, Some, ap, refl, sym, subst}
use Rattle.std.specs.List.{AllZip}
use Rattle.std.proofs.lemmas.Option.{same_Some}
use Rattle.std.proofs.lemmas.Grind.{flat_map-append}
use Rattle.fidl_tree.specs.Syntax.{TypeUse, Arguments, Body, const_body, alias_body, type_body, protocol_body, service_body, resource_body}
use Rattle.fidl_tree.specs.Views.{declared_view}
use Rattle.fidl_tree.specs.declared.file.File.{File}
use Rattle.fidl_named.specs.declared.place.DeclarationId.{DeclarationId}
use Rattle.fidl_named.specs.declared.meaning.Predeclared.{Predeclared}
use Rattle.fidl_named.specs.declared.meaning.Meaning.{Meaning}
use Rattle.fidl_named.specs.declared.meaning.Meaning.TheVariants as meaning
use Rattle.fidl_constraints.specs.Behind.{Head, word_head, Given, Core, Target, ends, follows, body_target, IsDeclared, MeaningRefersTo, RefersTo, given_in, Behind}
use Rattle.fidl_constraints.specs.declared.parts.Part.{Part}
use Rattle.fidl_constraints.specs.Items.{Item, items_of, all_items}
use Rattle.fidl_constraints.specs.Parts.{GivenOnce, optional_in, bound_in}
use Rattle.fidl_constraints.specs.Gives.{Gives, EachGives, IsGathered}
use Rattle.fidl_constraints.proofs.InSet.{head_within}
use Rattle.fidl_constraints.proofs.OneBehind.{one_target}
use Rattle.fidl_declarations.specs.Sites.{Role, any_type, aliased_type, type_site}
use Rattle.fidl_lower_types.specs.declared.node.Shape.{Shape}
use Rattle.fidl_lower_types.specs.declared.node.Shape.TheVariants as shape
use Rattle.fidl_lower_types.specs.Terms.{Node, leaf, holds, HeadIs, NodeIs, TermIs}
use Rattle.fidl_lower_types.proofs.OneTerm.{one_node}
use Rattle.fidl_type_rules.specs.Words.{arguments_in}
use Rattle.fidl_type_rules.specs.Made.{first_type, HasTerm}
use Rattle.fidl_type_rules.specs.Known.{IsNameOf, IsKnownAlias}
use Rattle.fidl_type_rules.specs.Standing.{StandsIn}
use Rattle.fidl_type_rules.proofs.Stood.{alias_stands, argument_stands}

-- Heads that hold something.

-- it is a predeclared name, and what it holds is its first argument, in the same file
abbrev HeldBy : (number : ℕ) → Head → Node → Type 0
HeldBy number head (leaf e) = Unit {0}
HeldBy number head (holds of u s) = (w : Predeclared) × (as' : Arguments) × (head ≡ word_head w as') × (first_type as' ≡ Some u) × (of ≡ number)

-- with these parts it holds the same
abbrev Reparted : List File → (number : ℕ) → List Part → Head → Node → Type 0
Reparted files number parts head (leaf e) = Unit {0}
Reparted files number parts head (holds of u s) = (r : Shape) × HeadIs files number parts head (holds of u r)

module _ (files : List File) (number : ℕ) (parts : List Part) where
  held_by : (head : Head) (n : Node) → HeadIs files number parts head n → HeldBy number head n
  held_by _ _ (HeadIs.word w e is) = tt
  held_by _ _ (HeadIs.handle p) = tt
  held_by _ _ (HeadIs.layout l i h) = tt
  held_by _ _ (HeadIs.box t i h) = tt
  held_by _ _ (HeadIs.vector t) = (_, _, refl, refl, refl)
  held_by _ _ (HeadIs.array t a n h) = (_, _, refl, refl, refl)

  reparted : (others : List Part) (head : Head) (n : Node) → HeadIs files number parts head n → Reparted files number others head n
  reparted others _ _ (HeadIs.word w e is) = tt
  reparted others _ _ (HeadIs.handle p) = tt
  reparted others _ _ (HeadIs.layout l i h) = tt
  reparted others _ _ (HeadIs.box t i h) = tt
  reparted others _ _ (HeadIs.vector t) = (shape.Vector (optional_in others) (bound_in others), HeadIs.vector t)
  reparted others _ _ (HeadIs.array t a n h) = (shape.Array n, HeadIs.array t a n h)

-- a declared name ends at no predeclared one
ended : (p : DeclarationId) (b : Body) (k : ℕ) (head : Head) (w : Predeclared) (as' : Arguments) → body_target p b ≡ Some (ends k head) → head ≡ word_head w as' → ⊥
ended p (alias_body t) k head w as' is e = let same : follows p.file t ≡ ends k head = same_Some (follows p.file t) (ends k head) is in absurd (cc)
ended p (type_body attributes l) k head w as' is e = absurd (cc)
ended p (resource_body t ms) k head w as' is e = absurd (cc)
ended p (const_body t v) k head w as' is e = absurd (cc)
ended p (protocol_body o ms) k head w as' is e = absurd (cc)
ended p (service_body ms) k head w as' is e = absurd (cc)

alias_file : (p : DeclarationId) (b : Body) (of : ℕ) (u : TypeUse) → body_target p b ≡ Some (follows of u) → p.file ≡ of
alias_file p (alias_body t) of u is = let same : follows p.file t ≡ follows of u = same_Some (follows p.file t) (follows of u) is in cc
alias_file p (type_body attributes l) of u is = absurd (cc)
alias_file p (resource_body t ms) of u is = absurd (cc)
alias_file p (const_body t v) of u is = absurd (cc)
alias_file p (protocol_body o ms) of u is = absurd (cc)
alias_file p (service_body ms) of u is = absurd (cc)

module _ (files : List File) where
  -- a type that ends at a predeclared name is written with it and its arguments
  meant_word : (n : ℕ) (written : Arguments) (m : Meaning) (x : Target) (k : ℕ) (w : Predeclared) (as' : Arguments) → x ≡ ends k (word_head w as') → MeaningRefersTo files n written m x → (k ≡ n) × (written ≡ as')
  meant_word n written (meaning.Predeclared v) x k w as' is at =
      let same : ends k (word_head w as') ≡ ends n (word_head v written) = sym is ∙ at in
      let file : k ≡ n = cc in
      let given : written ≡ as' = cc in
      (file, given)
  meant_word n written (meaning.Declared p) x k w as' is at = absurd (ended p (declared_view at.declaration.body) k (word_head w as') w as' (at.is ∙ ap Some is) refl)
  meant_word n written (meaning.Member p i) x k w as' is at = absurd at
  meant_word n written (meaning.PropertyMember p i j) x k w as' is at = absurd at

  ends_word : (n : ℕ) (t : TypeUse) (x : Target) (k : ℕ) (w : Predeclared) (as' : Arguments) → x ≡ ends k (word_head w as') → RefersTo files n t x → (k ≡ n) × (arguments_in t ≡ as')
  ends_word n _ _ k w as' is (RefersTo.by_layout attributes l cs) = absurd (cc)
  ends_word n _ x k w as' is (RefersTo.by_name path written cs m _ h at) = meant_word n written m x k w as' is at

  -- Where it stands.

  behind_stands : (n : ℕ) (t : TypeUse) (c : Core) (role : Role) (w : Predeclared) (as' : Arguments) (u : TypeUse) → Behind files n t c → c.head ≡ word_head w as' → first_type as' ≡ Some u → StandsIn files n (type_site role t) → StandsIn files c.file (type_site any_type u)
  behind_stands _ _ _ role w as' u (Behind.no_alias n t k head h) is first at =
      let its = ends_word n t (ends k head) k w as' (ap (ends k) is) h in
      let argument : first_type (arguments_in t) ≡ Some u = ap first_type its.1 ∙ first in
      subst (λ (i : ℕ). StandsIn files i (type_site any_type u)) (sym its.0) (argument_stands files n role t u argument at)
  behind_stands _ _ _ role w as' u (Behind.an_alias n t of next c h rest) is first at = behind_stands of next c aliased_type w as' u rest is first (alias_stands files of next n t h)

  -- what a type holds stands in the files
  module _ (n : ℕ) (t : TypeUse) (of : ℕ) (u : TypeUse) (s : Shape) (node : NodeIs files n t (holds of u s)) where
    pub held_stands : (role : Role) → StandsIn files n (type_site role t) → StandsIn files of (type_site any_type u)
    held_stands role at =
        let its = held_by files node.core.file node.parts node.core.head (holds of u s) node.is in
        subst (λ (i : ℕ). StandsIn files i (type_site any_type u)) (sym its.4) (behind_stands n t node.core role its.0 its.1 u node.gathered.behind its.2 its.3 at)

    pub held_within : n < length files → of < length files
    held_within lt =
        let its = held_by files node.core.file node.parts node.core.head (holds of u s) node.is in
        subst (λ (i : ℕ). i < length files) (sym its.4) (head_within files n t node.core lt node.gathered.behind)

  -- what is nothing at once has no term
  pub nothing_termless : (n : ℕ) (t : TypeUse) → ((x : Node) → NodeIs files n t x → ⊥) → HasTerm files n t → ⊥
  nothing_termless n t none h = no_node h.0 h.1
    where
      no_node : (e : _) → TermIs files n t e → ⊥
      no_node _ (TermIs.alone _ _ e k) = none (leaf e) k
      no_node _ (TermIs.of_elements _ _ of u s e k rest) = none (holds of u s) k

  -- what holds has a term just where what it holds has one
  pub holds_term : (n : ℕ) (t : TypeUse) (of : ℕ) (u : TypeUse) (s : Shape) → NodeIs files n t (holds of u s) → HasTerm files of u → HasTerm files n t
  holds_term n t of u s node h = (_, TermIs.of_elements n t of u s h.0 node h.1)

  pub held_term : (n : ℕ) (t : TypeUse) (of : ℕ) (u : TypeUse) (s : Shape) → NodeIs files n t (holds of u s) → HasTerm files n t → HasTerm files of u
  held_term n t of u s node h = its h.0 h.1
    where
      its : (e : _) → TermIs files n t e → HasTerm files of u
      its _ (TermIs.alone _ _ e k) = let is : leaf e ≡ holds of u s = one_node files n t (leaf e) (holds of u s) k node in absurd (cc)
      its _ (TermIs.of_elements _ _ k v r e also rest) =
          let is : holds k v r ≡ holds of u s = one_node files n t (holds k v r) (holds of u s) also node in
          let file : k ≡ of = cc in
          let use_is : v ≡ u = cc in
          subst (HasTerm files of) use_is (subst (λ (i : ℕ). HasTerm files i v) file (e, rest))

  -- Names and their aliases.

  split : (R : Item → Part → Type 0) (xs ys : List Item) (ps : List Part) → AllZip R (xs ++ ys) ps → GivenOnce ps → (qs : List Part) × AllZip R ys qs × GivenOnce qs
  split R [] ys ps h once = (ps, h, once)
  split R (x ∷ xs) ys [] h once = absurd h
  split R (x ∷ xs) ys (p ∷ ps) h once = split R xs ys ps h.1 once.1

  -- an alias is behind its own aliases what its name is, with fewer constraints
  record IsOfAlias (of : ℕ) (next : TypeUse) (file : ℕ) (head : Head) : Type 0 where
    core : Core
    parts : List Part
    gathered : IsGathered files of next core parts
    file_is : core.file ≡ file
    head_is : core.head ≡ head

  alias_gathered : (n : ℕ) (t : TypeUse) (c : Core) (ps : List Part) → Behind files n t c → EachGives files c.head (all_items files c.given) ps → GivenOnce ps → (of : ℕ) (next : TypeUse) → RefersTo files n t (follows of next) → IsOfAlias of next c.file c.head
  alias_gathered _ _ _ ps (Behind.no_alias n t k head h) gives once of next r =
      let is : ends k head ≡ follows of next = one_target files n t (ends k head) (follows of next) h r in
      absurd (cc)
  alias_gathered _ _ _ ps (Behind.an_alias n t k u c h rest) gives once of next r =
      let is : follows k u ≡ follows of next = one_target files n t (follows k u) (follows of next) h r in
      let file : k ≡ of = cc in
      let use_is : u ≡ next = cc in
      let behind : Behind files of next c = subst (λ (x : TypeUse). Behind files of x c) use_is (subst (λ (i : ℕ). Behind files i u c) file rest) in
      let all : EachGives files c.head (all_items files (given_in n t) ++ all_items files c.given) ps = subst (λ (xs : List Item). EachGives files c.head xs ps) (flat_map-append (items_of files) (given_in n t) c.given) gives in
      let its = split (Gives files c.head) (all_items files (given_in n t)) (all_items files c.given) ps all once in
      record { core = c; parts = its.0; gathered = record { behind = behind; gives = its.1; once = its.2 }; file_is = refl; head_is = refl }

  alias_node : (n : ℕ) (t : TypeUse) (k : ℕ) (u : TypeUse) (s : Shape) → NodeIs files n t (holds k u s) → (of : ℕ) (next : TypeUse) → RefersTo files n t (follows of next) → (r : Shape) × NodeIs files of next (holds k u r)
  alias_node n t k u s node of next refers =
      let its = alias_gathered n t node.core node.parts node.gathered.behind node.gathered.gives node.gathered.once of next refers in
      let there = reparted files node.core.file node.parts its.parts node.core.head (holds k u s) node.is in
      let headed : HeadIs files node.core.file its.parts its.core.head (holds k u there.0) = subst (λ (x : Head). HeadIs files node.core.file its.parts x (holds k u there.0)) (sym its.head_is) there.1 in
      (there.0, record { core = its.core; parts = its.parts; gathered = its.gathered; is = subst (λ (i : ℕ). HeadIs files i its.parts its.core.head (holds k u there.0)) (sym its.file_is) headed })

  -- what a name of a declaration that holds something leads to is the type of an alias
  leads : (n : ℕ) (t : TypeUse) (c : Core) (w : Predeclared) (as' : Arguments) (p : DeclarationId) → Behind files n t c → c.head ≡ word_head w as' → IsNameOf files n t p → (x : TypeUse) × IsDeclared files p (follows p.file x)
  leads _ _ _ w as' p (Behind.no_alias n t k head h) is name =
      let at = name.only (ends k head) h in
      absurd (ended p (declared_view at.declaration.body) k head w as' at.is is)
  leads _ _ _ w as' p (Behind.an_alias n t of next c h rest) is name =
      let at = name.only (follows of next) h in
      let file : p.file ≡ of = alias_file p (declared_view at.declaration.body) of next at.is in
      (next, subst (λ (i : ℕ). IsDeclared files p (follows i next)) (sym file) at)

  module _ (n : ℕ) (t : TypeUse) (p : DeclarationId) (name : IsNameOf files n t p) (k : ℕ) (u : TypeUse) (s : Shape) (node : NodeIs files n t (holds k u s)) where
    abbrev TheAlias : Type 0
    TheAlias = (x : TypeUse) × IsDeclared files p (follows p.file x)

    the_alias : TheAlias
    the_alias =
        let its = held_by files node.core.file node.parts node.core.head (holds k u s) node.is in
        leads n t node.core its.0 its.1 p node.gathered.behind its.2 name

    there_node : (x : TypeUse) → IsDeclared files p (follows p.file x) → (r : Shape) × NodeIs files p.file x (holds k u r)
    there_node x declared = alias_node n t k u s node p.file x (name.refers (follows p.file x) declared)

    -- what a name of a known alias holds has a term
    pub known_held : IsKnownAlias files p → HasTerm files k u
    known_held known = let its = there_node the_alias.0 the_alias.1 in known the_alias.0 the_alias.1 k u its.0 its.1

    -- an alias is known where what its name holds has a term
    pub learned : HasTerm files k u → IsKnownAlias files p
    learned h x declared i v r also =
        let its = there_node x declared in
        let is : holds k u its.0 ≡ holds i v r = one_node files p.file x (holds k u its.0) (holds i v r) its.1 also in
        let file : k ≡ i = cc in
        let use_is : u ≡ v = cc in
        subst (HasTerm files i) use_is (subst (λ (j : ℕ). HasTerm files j u) file h)
