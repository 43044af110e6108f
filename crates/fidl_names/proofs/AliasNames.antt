-- What the names in aliases mean, and what follows an alias.
use Rattle.std.proofs.Common.{rules, Bor, ◌≡◌, ℕ, List, [], ◌∷◌, Option, Some, None, inl, inr, refl, ap, sym, subst, ◌∙◌}
use Rattle.std.specs.Prelude.{IsNone, IfSome}
use Rattle.std.specs.List.{Contains}
use Rattle.std.proofs.lemmas.Option.{same_Some, none-some}
use Rattle.fidl_tree.specs.Syntax as plain
use Rattle.fidl_tree.specs.Views.{path_view, named_view, type_view}
use Rattle.fidl_tree.specs.declared.path.Path.{Path}
use Rattle.fidl_tree.specs.declared.file.File.{File}
use Rattle.fidl_tree.specs.declared.declaration.AliasDeclaration.{AliasDeclaration}
use Rattle.fidl_tree.specs.declared.type_constructor.TypeConstructor as constructor
use Rattle.fidl_tree.specs.declared.type_constructor.TypeConstructor.{TypeConstructor, out-TypeConstructor}
use Rattle.fidl_tree.specs.declared.type_constructor.NamedType as name_of
use Rattle.fidl_tree.specs.declared.type_constructor.NamedType.{NamedType, out-NamedType}
use Rattle.fidl_tree.specs.declared.type_constructor.LayoutBody.TheOpen.{TypeConstructor-F}
use Rattle.fidl_named.specs.declared.place.DeclarationId.{DeclarationId}
use Rattle.fidl_named.specs.declared.meaning.Wanted.{Wanted}
use Rattle.fidl_named.specs.declared.meaning.Wanted.TheVariants as wanted
use Rattle.fidl_named.specs.declared.meaning.Predeclared.TheVariants as name
use Rattle.fidl_named.specs.declared.meaning.Meaning.{Meaning}
use Rattle.fidl_named.specs.declared.meaning.Meaning.TheVariants as meaning
use Rattle.fidl_named.specs.Meanings.{components, Means, IsReading, declaration, member, IsOwn, IsDeclarationOf, IsMemberOf, IsJust}
use Rattle.fidl_names.specs.OuterTypes.{outer_types}
use Rattle.fidl_named.specs.Paths.{texts}
use Rattle.fidl_named.specs.Aliases.{Wants, by_itself, count, argument, WantsKind, IsArrayName, IsAliasAt, Follows, type_path}
use Rattle.fidl_names.specs.AliasCycles.{Refers}
use Rattle.fidl_named.specs.ReferenceViews.{read_path, optional_path_view}
use Rattle.fidl_names.specs.AliasGraph.{IsMeant}
use Rattle.fidl_named.specs.FullNames.{HasDeclaration}
use Rattle.fidl_named.proofs.ResolvedMeanings.{one_file, one_alias}
use Rattle.fidl_named.proofs.AliasFacts.{components_seen}

own_id : (fs : List File) (library : List ℕ) (kind : Wanted) (n : List ℕ) (q : DeclarationId) → IsOwn fs library kind n (meaning.Declared q) → HasDeclaration fs q
own_id fs library kind n q h =
    let both : meaning.Declared q ≡ meaning.Declared h.id = h.means in
    let same : q ≡ h.id = cc in
    let there : HasDeclaration fs h.id = record { file = h.file; declaration = h.declaration; file_at = h.declared.file_at; stands = h.declared.stands } in
    subst (HasDeclaration fs) (sym same) there

declared_id : (fs : List File) (f : File) (kind : Wanted) (front : List (List ℕ)) (n : List ℕ) (q : DeclarationId) → IsDeclarationOf fs f kind front n (meaning.Declared q) → HasDeclaration fs q
declared_id fs f kind [] n q (inl h) = own_id fs _ kind n q h
declared_id fs f kind [] n q (inr h) =
    let no : meaning.Declared q ≡ meaning.Predeclared h.predeclared = h.means in
    let never : ⊥ = cc in
    absurd never
declared_id fs f kind (c ∷ cs) n q h = own_id fs h.library kind n q h.own

no_member : (fs : List File) (f : File) (front : List (List ℕ)) (t n : List ℕ) (q : DeclarationId) → IsMemberOf fs f front t n (meaning.Declared q) → ⊥
no_member fs f [] t n q h =
    let no : meaning.Declared q ≡ meaning.Member h.id h.number = h.means in
    cc
no_member fs f (c ∷ cs) t n q h =
    let no : meaning.Declared q ≡ meaning.Member h.member.id h.member.number = h.member.means in
    cc

-- what a name means is declared
pub read_id : (fs : List File) (f : File) (kind : Wanted) (path : List (List ℕ)) (q : DeclarationId) → IsReading fs f kind path (meaning.Declared q) → HasDeclaration fs q
read_id fs f kind path q (declaration front n is h) = declared_id fs f kind front n q h
read_id fs f kind path q (member before n is k h) = absurd (no_member fs f h.front h.type_name n q h.member)

-- so it wants the same kind there
pub wants_seen : (fs : List File) (f : File) (of : Option (Bor Path)) (kind : Wanted) → WantsKind fs f (read_path of) kind → Wants (IsArrayName fs f) (optional_path_view of) kind
wants_seen fs f None kind by_itself = by_itself
wants_seen fs f (Some p) kind (count head is) = count (path_view p.now) (subst (λ n. Means fs f wanted.«Type» n (meaning.Predeclared name.Array)) (components_seen f.src.now p.now) is)
wants_seen fs f (Some p) kind (argument head not) =
    argument (path_view p.now) (λ is. not (subst (λ n. Means fs f wanted.«Type» n (meaning.Predeclared name.Array)) (sym (components_seen f.src.now p.now)) is))

-- from what a name means to the declaration that it is
pub meant_by : (fs : List File) (f : File) (of : Option plain.Path) (path : plain.Path) (m : Meaning) (o : Option DeclarationId) → Wants (IsArrayName fs f) of wanted.«Type»
    → IsJust (Means fs f wanted.«Type» (texts f.src.now path)) (Some m) → IfSome o (λ p. m ≡ meaning.Declared p) → (IsNone o → (p : DeclarationId) → m ≡ meaning.Declared p → ⊥) → IsJust (IsMeant fs f of path) o
meant_by fs f of path m None wants just some none = λ q h. none refl q (sym (just.1 (meaning.Declared q) h.means))
meant_by fs f of path m (Some p) wants just some none = (its, others)
  where
    its : IsMeant fs f of path p
    its = record { wants = wants; means = subst (Means fs f wanted.«Type» (texts f.src.now path)) some just.0 }

    others : (q : DeclarationId) → IsMeant fs f of path q → q ≡ p
    others q h =
        let both : meaning.Declared q ≡ meaning.Declared p = just.1 (meaning.Declared q) h.means ∙ some in
        cc

-- the type of an alias is the first that it names
named_first : (n : NamedType) → Contains (outer_types (named_view n)) (None, path_view (out-NamedType n).path)
named_first n = (0, search (rules, name_of.the_lemmas), search (rules, name_of.the_lemmas))

pub first_outer : (t : TypeConstructor) (path : Path) → type_path t ≡ Some path → Contains (outer_types (type_view t)) (None, path_view path)
first_outer t path h = elim (out-TypeConstructor t) as (λ o. out-TypeConstructor t ≡ o → (elim o as (λ _. Option Path) [
  | TypeConstructor-F.Named n ↦ Some (out-NamedType n.value).path
  | TypeConstructor-F.Layout l c ↦ None
]) ≡ Some path → Contains (outer_types (type_view t)) (None, path_view path)) [
  | TypeConstructor-F.Named n ↦ λ is e.
      let view : named_view n.value ≡ type_view t = search (rules, constructor.the_lemmas, is) in
      let same = same_Some (out-NamedType n.value).path path e in
      subst (λ (v : plain.TypeUse). Contains (outer_types v) (None, path_view path)) view
      (subst (λ (p : Path). Contains (outer_types (named_view n.value)) (None, path_view p)) same (named_first n.value))
  | TypeConstructor-F.Layout l c ↦ λ is e. absurd (none-some path e)
] refl h

pub follows_refers : (fs : List File) (p q : DeclarationId) → Follows fs (meaning.Declared p) (meaning.Declared q) → Refers fs p q
follows_refers fs p q h =
    let both : meaning.Declared p ≡ meaning.Declared h.id = h.is in
    let same : p ≡ h.id = cc in
    record {
      file = h.file;
      alias = h.alias;
      argument_of = None;
      path = path_view h.path;
      alias_at = subst (λ (r : DeclarationId). IsAliasAt fs r h.file h.alias) (sym same) h.alias_at;
      named = first_outer h.alias.constructor h.path h.type_is;
      wants = by_itself;
      means = subst (λ n. Means fs h.file wanted.«Type» n (meaning.Declared q)) (components_seen h.file.src.now h.path) h.means;
    }

-- what follows an alias of a named type is what the name means
module _ (fs : List File) (p : DeclarationId) (f : File) (a : AliasDeclaration) (path : Path) (here : IsAliasAt fs p f a) (type_is : type_path a.constructor ≡ Some path) where
  pub means_follows : (m : Meaning) → Means fs f wanted.«Type» (components f.src.now path) m → Follows fs (meaning.Declared p) m
  means_follows m h = record { id = p; file = f; alias = a; path = path; is = refl; alias_at = here; type_is = type_is; means = h }

  pub follows_means : (m : Meaning) → Follows fs (meaning.Declared p) m → Means fs f wanted.«Type» (components f.src.now path) m
  follows_means m h =
      let both : meaning.Declared h.id ≡ meaning.Declared p = sym h.is in
      let same : h.id ≡ p = cc in
      let file = one_file fs h.id p h.file f h.alias a h.alias_at here same in
      let alias = one_alias fs h.id p h.file f h.alias a h.alias_at here same in
      let paths : Some h.path ≡ Some path = sym h.type_is ∙ ap (λ (x : AliasDeclaration). type_path x.constructor) alias ∙ type_is in
      let path_is = same_Some h.path path paths in
      subst (λ (g : File). Means fs g wanted.«Type» (components g.src.now path) m) file
      (subst (λ (r : Path). Means fs h.file wanted.«Type» (components h.file.src.now r) m) path_is h.means)

pub follows_alias : (fs : List File) (p : DeclarationId) (m : Meaning) → Follows fs (meaning.Declared p) m → (f : File) × (a : AliasDeclaration) × IsAliasAt fs p f a
follows_alias fs p m h =
    let both : meaning.Declared h.id ≡ meaning.Declared p = sym h.is in
    let same : h.id ≡ p = cc in
    (h.file, h.alias, subst (λ (r : DeclarationId). IsAliasAt fs r h.file h.alias) same h.alias_at)

-- the alias of an id that follows from a meaning
pub followed_alias : (fs : List File) (p : DeclarationId) (next : Meaning) (h : Follows fs (meaning.Declared p) next) → IsAliasAt fs p h.file h.alias
followed_alias fs p next h =
    let both : meaning.Declared h.id ≡ meaning.Declared p = sym h.is in
    let same : h.id ≡ p = cc in
    subst (λ (r : DeclarationId). IsAliasAt fs r h.file h.alias) same h.alias_at
