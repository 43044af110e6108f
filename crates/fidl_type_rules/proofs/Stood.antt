-- Where the types stand that a type is made of, and what is reported there.
use Rattle.std.proofs.Common.{◌≡◌, ◌<◌, ◌∙◌, ℕ, length, List, Option, Some, ap, refl, sym, subst}
use Rattle.std.specs.Prelude.{slice_get}
use Rattle.std.specs.List.{Contains}
use Rattle.std.proofs.lemmas.Option.{same_Some, none-some, slice_get_within, get_or_from_slice_get}
use Rattle.fidl_span.specs.declared.words.Span.{Span}
use Rattle.fidl_tree.specs.Syntax.{TypeUse, Arguments, Body, const_body, alias_body, type_body, protocol_body, service_body, resource_body}
use Rattle.fidl_tree.specs.Views.{file_view, declared_view, declaration_view}
use Rattle.fidl_tree.specs.declared.file.File.{File}
use Rattle.fidl_tree.specs.declared.declaration.Declaration.{Declaration}
use Rattle.fidl_named.specs.declared.place.DeclarationId.{DeclarationId}
use Rattle.fidl_named.specs.declared.meaning.Meaning.{Meaning}
use Rattle.fidl_named.specs.declared.meaning.Meaning.TheVariants as meaning
use Rattle.fidl_consts.proofs.Among.{among_map}
use Rattle.fidl_constraints.specs.Behind.{Target, ends, follows, body_target, MeaningRefersTo, RefersTo}
use Rattle.fidl_constraints.specs.BehindViews.{use_view}
use Rattle.fidl_declarations.specs.Sites.{Role, any_type, aliased_type, type_site, file_sites}
use Rattle.fidl_declarations.specs.SiteViews.{role_view}
use Rattle.fidl_type_rules.specs.Words.{arguments_in}
use Rattle.fidl_constraints.proofs.OneBehind.{one_target}
use Rattle.fidl_type_rules.specs.Made.{first_type, IsMadeOf, of_alias, of_argument, HasTerm, IsOfTerms}
use Rattle.fidl_type_rules.specs.Uses.{Rule, UseBreaks, BreaksAt}
use Rattle.fidl_type_rules.specs.declared.used.Used.{Used}
use Rattle.fidl_type_rules.specs.Standing.{StandsIn, Stands, IsImproperThere}
use Rattle.fidl_type_rules.proofs.Closed.{argument_among, alias_among}

-- the first argument of a type stands in the same file
pub argument_stands : (files : List File) (n : ℕ) (role : Role) (t u : TypeUse) → first_type (arguments_in t) ≡ Some u → StandsIn files n (type_site role t) → StandsIn files n (type_site any_type u)
argument_stands files n role t u is h = record { f = h.f; file_at = h.file_at; among = argument_among (file_view h.f) role t u is h.among }

-- a body that refers to a type is an alias of it
followed : (p : DeclarationId) (b : Body) (of : ℕ) (u : TypeUse) → body_target p b ≡ Some (follows of u) → (b ≡ alias_body u) × (p.file ≡ of)
followed p (alias_body t) of u is =
    let same : follows p.file t ≡ follows of u = same_Some (follows p.file t) (follows of u) is in
    let use_is : t ≡ u = cc in
    let file : p.file ≡ of = cc in
    (ap alias_body use_is, file)
followed p (type_body attributes l) of u is = absurd (cc)
followed p (resource_body t ms) of u is = absurd (cc)
followed p (const_body t v) of u is = absurd (cc)
followed p (protocol_body o ms) of u is = absurd (cc)
followed p (service_body ms) of u is = absurd (cc)

module _ (files : List File) (of : ℕ) (u : TypeUse) where
  abbrev There : Type 0
  There = StandsIn files of (type_site aliased_type u)

  meant_stands : (n : ℕ) (arguments : Arguments) (m : Meaning) (x : Target) → x ≡ follows of u → MeaningRefersTo files n arguments m x → There
  meant_stands n _ (meaning.Predeclared w) x is refers = let same = sym is ∙ refers in absurd (cc)
  meant_stands n _ (meaning.Declared p) x is at =
      let its = followed p (declared_view at.declaration.body) of u (at.is ∙ ap Some is) in
      let d = at.declaration in
      let ds = at.file.declarations.items in
      let among : Contains ds d = (p.index, slice_get_within ds p.index d at.at.stands, get_or_from_slice_get ds p.index d d at.at.stands) in
      record {
        f = at.file;
        file_at = subst (λ (k : ℕ). slice_get files k ≡ Some at.file) its.1 at.at.file_at;
        among = alias_among (file_view at.file) (declaration_view d) u (among_map declaration_view ds d among) its.0;
      }
  meant_stands n _ (meaning.Member p k) x is at = absurd at
  meant_stands n _ (meaning.PropertyMember p k i) x is at = absurd at

  target_stands : (n : ℕ) (t : TypeUse) (x : Target) → x ≡ follows of u → RefersTo files n t x → There
  target_stands n _ _ is (RefersTo.by_layout attributes l cs) = absurd (cc)
  target_stands n _ x is (RefersTo.by_name path arguments cs m _ h refers) = meant_stands n arguments m x is refers

  -- the type of an alias stands in the files
  pub alias_stands : (n : ℕ) (t : TypeUse) → RefersTo files n t (follows of u) → There
  alias_stands n t h = target_stands n t (follows of u) refl h

-- a rule that is broken where a type stands is broken there in the files
pub breaks_there : (files : List File) (used : Used) → Stands files used → (rule : Rule) (span : Span) → UseBreaks files used.file_index (role_view used.role) (use_view used.of) rule span → BreaksAt files rule (record { file = used.file_index; span = span })
breaks_there files used h rule span breaks = record {
  f = h.at.f;
  file_at = h.at.file_at;
  breaks = record { one = type_site (role_view used.role) (use_view used.of); among = h.at.among; breaks = (h.wanted, breaks) };
}

-- a type at fault stands in the files, and isn't proper there
pub record IsAtFault (files : List File) (used : Used) : Type 0 where
  pub within : used.file_index < length files
  pub stands : Stands files used
  pub improper : IsImproperThere files used

-- what has no term is proper nowhere
pub termless : (files : List File) (used : Used) → (HasTerm files used.file_index (use_view used.of) → ⊥) → IsImproperThere files used
termless files used none core parts h = none (h.term, h.term_is)

-- the same of what a type is made of
pub no_more : (files : List File) (n : ℕ) (t : TypeUse) → ((of : ℕ) (u : TypeUse) → RefersTo files n t (follows of u) → HasTerm files of u) → ((u : TypeUse) → first_type (arguments_in t) ≡ Some u → HasTerm files n u) → IsOfTerms files n t
no_more files n t aliased argument of u (of_alias _ _ h) = aliased of u h
no_more files n t aliased argument _ u (of_argument _ is) = argument u is

-- where a name leads to one type, it leads to no other
pub only_followed : (files : List File) (n : ℕ) (t : TypeUse) (of other : ℕ) (u v : TypeUse) → RefersTo files n t (follows of u) → RefersTo files n t (follows other v) → HasTerm files of u → HasTerm files other v
only_followed files n t of other u v h k term =
    let is : follows of u ≡ follows other v = one_target files n t (follows of u) (follows other v) h k in
    let file : of ≡ other = cc in
    let use_is : u ≡ v = cc in
    subst (HasTerm files other) use_is (subst (λ (k : ℕ). HasTerm files k u) file term)
