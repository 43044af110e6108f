-- The names that types, declarations and members depend on, as lists.
use Rattle.std.proofs.Common.{◌≡◌, ◌⊎◌, ◌++◌, ℕ, List, [], ◌∷◌, Option, Some, None, map, ap, sym, subst, ◌∙◌, inl, inr}
use Rattle.std.specs.Prelude.{flat_map, slice_get}
use Rattle.std.specs.List.{Contains}
use Rattle.std.proofs.lemmas.List.Elements.{Contains-append_left, Contains-append_right, Contains-append_cases}
use Rattle.std.proofs.lemmas.Option.{same_Some}
use Rattle.fidl_tree.specs.declared.file.File.{File}
use Rattle.fidl_tree.specs.Syntax.{Path, Value}
use Rattle.fidl_tree.specs.declared.value_member.ValueMember.{ValueMember}
use Rattle.fidl_tree.specs.declared.type_constructor.TypeConstructor.{TypeConstructor}
use Rattle.fidl_tree.specs.declared.type_constructor.ValuesLayout.{ValuesLayout, out-ValuesLayout}
use Rattle.fidl_tree.specs.declared.declaration.Declaration.{Declaration}
use Rattle.fidl_tree.specs.declared.declaration.DeclarationBody.TheVariants.{Const, Alias}
use Rattle.fidl_tree.specs.declared.declaration.ConstDeclaration.{ConstDeclaration}
use Rattle.fidl_tree.specs.declared.declaration.AliasDeclaration.{AliasDeclaration}
use Rattle.fidl_named.specs.declared.place.DeclarationId.{DeclarationId}
use Rattle.fidl_named.specs.declared.meaning.Wanted.{Wanted}
use Rattle.fidl_named.specs.declared.meaning.Wanted.TheVariants as wanted
use Rattle.fidl_named.specs.declared.meaning.Meaning.{Meaning}
use Rattle.fidl_named.specs.declared.meaning.Meaning.TheVariants as meaning
use Rattle.fidl_named.specs.Constraints.{IsDeclarationAt, ordinary}
use Rattle.fidl_named.specs.Places.{value_paths}
use Rattle.fidl_tree.specs.Views.{value_view}
use Rattle.fidl_consts.specs.Types.{IsStringType, IsValuesAt, constraints_of, own_path}
use Rattle.fidl_consts.specs.Dependencies.{Use, TypeUses, BodyUses, Uses, value_uses, path_uses, constraint_uses}
use Rattle.fidl_const.specs.Columns.{AreNames, file_of}
use Rattle.fidl_consts.proofs.Among.{among_none, among_first, among_cases, among_map, among_uses}
use Rattle.fidl_consts.proofs.Standing.{one_declaration, one_file, one_layout}

-- a name in a value is one where a value is wanted
named_value : (paths : List Path) (kind : Wanted) (path : Path) → Contains (map {B = Use} (λ p. (wanted.Value, p)) paths) (kind, path) → (kind ≡ wanted.Value) × Contains paths path
named_value [] kind path h = absurd (among_none (kind, path) h)
named_value (p ∷ paths) kind path h = elim (among_cases (wanted.Value, p) (kind, path) (map {B = Use} (λ q. (wanted.Value, q)) paths) h) [
  | inl is ↦ (ap (λ (u : Use). u.0) (sym is), subst (Contains (p ∷ paths)) (ap (λ (u : Use). u.1) is) (among_first p paths))
  | inr k ↦ let rest = named_value paths kind path k in (rest.0, Contains-append_right (p ∷ []) paths path rest.1)
]

named_values : (vs : List Value) (kind : Wanted) (path : Path) → Contains (flat_map value_uses vs) (kind, path) → (kind ≡ wanted.Value) × Contains (flat_map value_paths vs) path
named_values [] kind path h = absurd (among_none (kind, path) h)
named_values (v ∷ vs) kind path h = elim (Contains-append_cases (value_uses v) (flat_map value_uses vs) (kind, path) h) [
  | inl k ↦ let here = named_value (value_paths v) kind path k in (here.0, Contains-append_left (value_paths v) (flat_map value_paths vs) path here.1)
  | inr k ↦ let rest = named_values vs kind path k in (rest.0, Contains-append_right (value_paths v) (flat_map value_paths vs) path rest.1)
]

named_type : (o : Option Path) (kind : Wanted) (path : Path) → Contains (path_uses o) (kind, path) → (kind ≡ wanted.«Type») × (o ≡ Some path)
named_type None kind path h = absurd (among_none (kind, path) h)
named_type (Some p) kind path h = elim (among_cases (wanted.«Type», p) (kind, path) [] h) [
  | inl is ↦ (ap (λ (u : Use). u.0) (sym is), ap (λ (u : Use). Some u.1) is)
  | inr k ↦ absurd (among_none (kind, path) k)
]

-- those of a type
module _ (files : List File) (f : File) (t : TypeConstructor) where
  own_there : (path : Path) → own_path t ≡ Some path → Contains (path_uses (own_path t)) (wanted.«Type», path)
  own_there path is = subst (λ o. Contains (path_uses o) (wanted.«Type», path)) (sym is) (among_first (wanted.«Type», path) [])

  its_name : (kind : Wanted) (path : Path) → Contains (path_uses (own_path t)) (kind, path) → TypeUses files f t kind path
  its_name kind path h =
      let own = named_type (own_path t) kind path h in
      subst (λ k. TypeUses files f t k path) (sym own.0) (TypeUses.by_name path own.1)

  string_all : (kind : Wanted) (path : Path) → TypeUses files f t kind path → Contains (path_uses (own_path t) ++ constraint_uses f t) (kind, path)
  string_all _ _ (TypeUses.by_name path is) = Contains-append_left (path_uses (own_path t)) (constraint_uses f t) (wanted.«Type», path) (own_there path is)
  string_all _ _ (TypeUses.bound path string among) =
      Contains-append_right (path_uses (own_path t)) (constraint_uses f t) (wanted.Value, path) (among_uses (ordinary f (constraints_of t)) path among)

  pub string_names : IsStringType files f t → AreNames (TypeUses files f t) (path_uses (own_path t) ++ constraint_uses f t)
  string_names string = record {
    all = string_all;
    just = λ kind path h. either kind path (Contains-append_cases (path_uses (own_path t)) (constraint_uses f t) (kind, path) h);
  }
    where
      either : (kind : Wanted) (path : Path) → Contains (path_uses (own_path t)) (kind, path) ⊎ Contains (constraint_uses f t) (kind, path) → TypeUses files f t kind path
      either kind path (inl own) = its_name kind path own
      either kind path (inr bound) =
          let named = named_values (ordinary f (constraints_of t)) kind path bound in
          subst (λ k. TypeUses files f t k path) (sym named.0) (TypeUses.bound path string named.1)

  pub other_names : (IsStringType files f t → ⊥) → AreNames (TypeUses files f t) (path_uses (own_path t))
  other_names other = record { all = own; just = its_name }
    where
      own : (kind : Wanted) (path : Path) → TypeUses files f t kind path → Contains (path_uses (own_path t)) (kind, path)
      own _ _ (TypeUses.by_name path is) = own_there path is
      own _ _ (TypeUses.bound path string among) = absurd (other string)

-- those of a declaration
module _ (files : List File) (f : File) where
  pub const_names : (c : ConstDeclaration) (us : List Use) → AreNames (TypeUses files f c.constructor) us → AreNames (BodyUses files f (Const c)) (us ++ value_uses (value_view c.value))
  const_names c us names = record {
    all = all;
    just = λ kind path h. either kind path (Contains-append_cases us (value_uses (value_view c.value)) (kind, path) h);
  }
    where
      all : (kind : Wanted) (path : Path) → BodyUses files f (Const c) kind path → Contains (us ++ value_uses (value_view c.value)) (kind, path)
      all _ _ (BodyUses.constant_type _ kind path h) = Contains-append_left us (value_uses (value_view c.value)) (kind, path) (names.all kind path h)
      all _ _ (BodyUses.constant_value _ path h) =
          Contains-append_right us (value_uses (value_view c.value)) (wanted.Value, path) (among_map (λ (p : Path). (wanted.Value, p)) (value_paths (value_view c.value)) path h)

      either : (kind : Wanted) (path : Path) → Contains us (kind, path) ⊎ Contains (value_uses (value_view c.value)) (kind, path) → BodyUses files f (Const c) kind path
      either kind path (inl typed) = BodyUses.constant_type c kind path (names.just kind path typed)
      either kind path (inr value) =
          let named = named_value (value_paths (value_view c.value)) kind path value in
          subst (λ k. BodyUses files f (Const c) k path) (sym named.0) (BodyUses.constant_value c path named.1)

  pub alias_names : (a : AliasDeclaration) (us : List Use) → AreNames (TypeUses files f a.constructor) us → AreNames (BodyUses files f (Alias a)) us
  alias_names a us names = record { all = all; just = λ kind path h. BodyUses.alias_type a kind path (names.just kind path h) }
    where
      all : (kind : Wanted) (path : Path) → BodyUses files f (Alias a) kind path → Contains us (kind, path)
      all _ _ (BodyUses.alias_type _ kind path h) = names.all kind path h

-- those of what has an id
module _ (files : List File) where
  uses_declared : (m : Meaning) (p : DeclarationId) → m ≡ meaning.Declared p → (f g : File) (d : Declaration) → IsDeclarationAt files p f d → (kind : Wanted) (path : Path) → Uses files m g kind path → BodyUses files f d.body kind path
  uses_declared m p is f g d at _ _ (Uses.declaration q h e kind path stands body) =
      let id : q ≡ p = cc in
      let there : IsDeclarationAt files p h e = subst (λ (r : DeclarationId). IsDeclarationAt files r h e) id stands in
      subst (λ (x : File). BodyUses files x d.body kind path) (one_file files p h f e d there at)
      (subst (λ (y : Declaration). BodyUses files h y.body kind path) (one_declaration files p h f e d there at) body)
  uses_declared m p is f g d at _ _ (Uses.member q h l i v path stands there among) = absurd (cc)

  pub declared_names : (m : Meaning) (p : DeclarationId) → m ≡ meaning.Declared p → (f : File) (d : Declaration) → IsDeclarationAt files p f d → (us : List Use) → AreNames (BodyUses files f d.body) us
      → (g : File) → slice_get files (file_of m) ≡ Some g → AreNames (Uses files m g) us
  declared_names m p is f d at us names g file_at = record {
    all = λ kind path h. names.all kind path (uses_declared m p is f g d at kind path h);
    just = λ kind path h.
        let same : f ≡ g = same_Some f g (sym at.file_at ∙ ap (λ (x : Meaning). slice_get files (file_of x)) (sym is) ∙ file_at) in
        subst (λ (x : Meaning). Uses files x g kind path) (sym is)
        (subst (λ (x : File). Uses files (meaning.Declared p) x kind path) same (Uses.declaration p f d kind path at (names.just kind path h)));
  }

  uses_member : (m : Meaning) (p : DeclarationId) (n : ℕ) → m ≡ meaning.Member p n → (f g : File) (l : ValuesLayout) (v : ValueMember) → IsValuesAt files p f l → slice_get (out-ValuesLayout l).members.items n ≡ Some v
      → (kind : Wanted) (path : Path) → Uses files m g kind path → Contains (value_uses (value_view v.value)) (kind, path)
  uses_member m p n is f g l v at there _ _ (Uses.declaration q h e kind path stands body) = absurd (cc)
  uses_member m p n is f g l v at there _ _ (Uses.member q h k i w path stands here among) =
      let id : q ≡ p = cc in
      let number : i ≡ n = cc in
      let layout : k ≡ l = one_layout files p h f k l (subst (λ (r : DeclarationId). IsValuesAt files r h k) id stands) at in
      let at_number : slice_get (out-ValuesLayout k).members.items n ≡ Some w = subst (λ j. slice_get (out-ValuesLayout k).members.items j ≡ Some w) number here in
      let member : w ≡ v = same_Some w v (sym at_number ∙ ap (λ (x : ValuesLayout). slice_get (out-ValuesLayout x).members.items n) layout ∙ there) in
      among_map (λ (p : Path). (wanted.Value, p)) (value_paths (value_view v.value)) path (subst (λ (x : ValueMember). Contains (value_paths (value_view x.value)) path) member among)

  pub member_names : (m : Meaning) (p : DeclarationId) (n : ℕ) → m ≡ meaning.Member p n → (f : File) (l : ValuesLayout) (v : ValueMember) → IsValuesAt files p f l → slice_get (out-ValuesLayout l).members.items n ≡ Some v
      → (g : File) → slice_get files (file_of m) ≡ Some g → AreNames (Uses files m g) (value_uses (value_view v.value))
  member_names m p n is f l v at there g file_at = record {
    all = λ kind path h. uses_member m p n is f g l v at there kind path h;
    just = λ kind path h.
        let named = named_value (value_paths (value_view v.value)) kind path h in
        let same : f ≡ g = same_Some f g (sym at.at.file_at ∙ ap (λ (x : Meaning). slice_get files (file_of x)) (sym is) ∙ file_at) in
        subst (λ k. Uses files m g k path) (sym named.0) (subst (λ (x : Meaning). Uses files x g wanted.Value path) (sym is)
        (subst (λ (x : File). Uses files (meaning.Member p n) x wanted.Value path) same (Uses.member p f l n v path at there named.1)));
  }

  not_there : (m : Meaning) (p : DeclarationId) (n : ℕ) → m ≡ meaning.Member p n → ((f : File) (l : ValuesLayout) (v : ValueMember) → IsValuesAt files p f l → slice_get (out-ValuesLayout l).members.items n ≡ Some v → ⊥)
      → (g : File) (kind : Wanted) (path : Path) → Uses files m g kind path → ⊥
  not_there m p n is none g _ _ (Uses.declaration q h e kind path stands body) = cc
  not_there m p n is none g _ _ (Uses.member q h k i w path stands here among) =
      let id : q ≡ p = cc in
      let number : i ≡ n = cc in
      none h k w (subst (λ (r : DeclarationId). IsValuesAt files r h k) id stands) (subst (λ j. slice_get (out-ValuesLayout k).members.items j ≡ Some w) number here)

  pub no_member_names : (m : Meaning) (p : DeclarationId) (n : ℕ) → m ≡ meaning.Member p n → ((f : File) (l : ValuesLayout) (v : ValueMember) → IsValuesAt files p f l → slice_get (out-ValuesLayout l).members.items n ≡ Some v → ⊥)
      → (g : File) → AreNames (Uses files m g) []
  no_member_names m p n is none g = record { all = λ kind path h. absurd (not_there m p n is none g kind path h); just = λ kind path h. absurd (among_none (kind, path) h) }
