-- What follows a meaning is one, and so is what it resolves to.
use Rattle.std.proofs.Common.{◌≡◌, List, Some, ap, sym, subst, ◌∙◌, refl}
use Rattle.std.specs.Prelude.{slice_get}
use Rattle.fidl_tree.specs.declared.path.Path.{Path}
use Rattle.fidl_tree.specs.declared.file.File.{File}
use Rattle.fidl_tree.specs.declared.declaration.Declaration.{Declaration}
use Rattle.fidl_tree.specs.declared.declaration.AliasDeclaration.{AliasDeclaration}
use Rattle.fidl_tree.specs.declared.declaration.DeclarationBody.TheVariants.{Alias}
use Rattle.fidl_named.specs.declared.place.DeclarationId.{DeclarationId}
use Rattle.fidl_named.specs.declared.meaning.Wanted.TheVariants as wanted
use Rattle.fidl_named.specs.declared.meaning.Meaning.{Meaning}
use Rattle.fidl_named.specs.declared.meaning.Meaning.TheVariants as meaning
use Rattle.fidl_named.specs.Meanings.{components, Means, IsReading}
use Rattle.fidl_named.specs.Aliases.{IsAliasAt, Follows, ResolvesTo, itself, further, type_path}

-- one id is that of one alias, in one file
module _ (fs : List File) (p q : DeclarationId) (f g : File) (a b : AliasDeclaration) (one : IsAliasAt fs p f a) (other : IsAliasAt fs q g b) (same : p ≡ q) where
  pub one_file : f ≡ g
  one_file =
      let there : Some f ≡ Some g = sym one.file_at ∙ ap (λ (r : DeclarationId). slice_get fs r.file) same ∙ other.file_at in
      cc

  one_declaration : one.declaration ≡ other.declaration
  one_declaration =
      let there : Some one.declaration ≡ Some other.declaration =
      sym one.stands ∙ ap (λ (r : DeclarationId). slice_get f.declarations.items r.index) same
      ∙ ap (λ (h : File). slice_get h.declarations.items q.index) one_file ∙ other.stands in
      cc

  pub one_alias : a ≡ b
  one_alias =
      let there : Alias a ≡ Alias b = sym one.body ∙ ap (λ (d : Declaration). d.body) one_declaration ∙ other.body in
      cc

-- a name means one thing
pub one_meaning : (fs : List File) (f g : File) (path other : Path) (m n : Meaning) → f ≡ g → path ≡ other
    → Means fs f wanted.«Type» (components f.src.now path) m → Means fs g wanted.«Type» (components g.src.now other) n → m ≡ n
one_meaning fs f g path other m n file is h k =
    let name : components f.src.now path ≡ components g.src.now other = ap (λ (x : File). components x.src.now path) file ∙ ap (components g.src.now) is in
    let j = subst (λ (x : File). Means fs x wanted.«Type» (components f.src.now path) m) file h in
    k.1 m (subst (λ l. IsReading fs g wanted.«Type» l m) name j.0)

one_next : (fs : List File) (m a b : Meaning) → Follows fs m a → Follows fs m b → a ≡ b
one_next fs m a b h k =
    let both : meaning.Declared h.id ≡ meaning.Declared k.id = sym h.is ∙ k.is in
    let same : h.id ≡ k.id = cc in
    let file = one_file fs h.id k.id h.file k.file h.alias k.alias h.alias_at k.alias_at same in
    let alias = one_alias fs h.id k.id h.file k.file h.alias k.alias h.alias_at k.alias_at same in
    let paths : Some h.path ≡ Some k.path = sym h.type_is ∙ ap (λ (x : AliasDeclaration). type_path x.constructor) alias ∙ k.type_is in
    let path : h.path ≡ k.path = cc in
    one_meaning fs h.file k.file h.path k.path a b file path h.means k.means

-- what a meaning resolves to is one
pub one_resolved : (fs : List File) (m a b : Meaning) → ResolvesTo fs m a → ResolvesTo fs m b → a ≡ b
one_resolved fs m a b (itself x none) (itself y no_other) = refl
one_resolved fs m a b (itself x none) (further y next end f s) = absurd (none next f)
one_resolved fs m a b (further x next end f s) (itself y none) = absurd (none next f)
one_resolved fs m a b (further x next end f s) (further y other last g t) =
    one_resolved fs next a b s (subst (λ (n : Meaning). ResolvesTo fs n b) (sym (one_next fs m next other f g)) t)
