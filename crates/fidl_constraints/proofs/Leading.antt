-- What a name leads to past aliases that add no constraints.
use Rattle.std.proofs.Common.{rules, ◌≡◌, ◌∙◌, ℕ, List, [], Option, Some, None, refl, ap, sym, subst}
use Rattle.std.proofs.lemmas.Option.{same_Some, none-some}
use Rattle.fidl_tree.specs.Syntax.{TypeUse, named_type, layout_type, Arguments, Value}
use Rattle.fidl_tree.specs.Syntax as plain
use Rattle.fidl_tree.specs.Views.{path_view, named_view, type_view, declared_view, constraints_view}
use Rattle.fidl_tree.specs.declared.path.Path.{Path}
use Rattle.fidl_tree.specs.declared.file.File.{File}
use Rattle.fidl_tree.specs.declared.declaration.DeclarationBody.{DeclarationBody}
use Rattle.fidl_tree.specs.declared.type_constructor.TypeConstructor as constructor
use Rattle.fidl_tree.specs.declared.type_constructor.TypeConstructor.{TypeConstructor, out-TypeConstructor}
use Rattle.fidl_tree.specs.declared.type_constructor.NamedType.{out-NamedType}
use Rattle.fidl_tree.specs.declared.type_constructor.LayoutBody.TheOpen.{TypeConstructor-F}
use Rattle.fidl_named.specs.declared.place.DeclarationId.{DeclarationId}
use Rattle.fidl_named.specs.declared.meaning.Meaning.{Meaning}
use Rattle.fidl_named.specs.declared.meaning.Meaning.TheVariants as meaning
use Rattle.fidl_named.specs.declared.meaning.Wanted.TheVariants as wanted
use Rattle.fidl_named.specs.Aliases.{type_path, constraints_of, PassesOn, PassesTo}
use Rattle.fidl_named.proofs.PathViews.{means_seen}
use Rattle.fidl_constraints.specs.Behind.{Target, follows, constraints_in, MeansType, body_target, IsDeclared, MeaningRefersTo, RefersTo, LeadsTo}
use Rattle.fidl_constraints.specs.BehindViews.{arguments_view}
use Rattle.fidl_constraints.proofs.Naming.{named_seen}

-- a type that is given by a name, in plain data
pub named_of : (t : TypeConstructor) (path : Path) → type_path t ≡ Some path → (a : Arguments) × (cs : List Value) × (type_view t ≡ named_type (path_view path) a cs)
named_of t path h = elim (out-TypeConstructor t) as (λ o. out-TypeConstructor t ≡ o → (elim o as (λ _. Option Path) [
  | TypeConstructor-F.Named n ↦ Some (out-NamedType n.value).path
  | TypeConstructor-F.Layout l c ↦ None
]) ≡ Some path → (a : Arguments) × (cs : List Value) × (type_view t ≡ named_type (path_view path) a cs)) [
  | TypeConstructor-F.Named n ↦ λ is e.
      let view : named_view n.value ≡ type_view t = search (rules, constructor.the_lemmas, is) in
      let same = same_Some (out-NamedType n.value).path path e in
      let o = out-NamedType n.value in
      (arguments_view o.arguments, constraints_view o.constraints, sym view ∙ named_seen n.value ∙ ap (λ (p : Path). named_type (path_view p) (arguments_view o.arguments) (constraints_view o.constraints)) same)
  | TypeConstructor-F.Layout l c ↦ λ is e. absurd (none-some path e)
] refl h

same_constraints : (t : TypeUse) → constraints_of t ≡ constraints_in t
same_constraints (named_type p a cs) = refl
same_constraints (layout_type a l cs) = refl

module _ (files : List File) where
  -- what a meaning leads to: what it refers to, or what the type of an alias does that adds no constraints
  pub data Leads : (number : ℕ) → Arguments → Meaning → Target → Type 0 where
    here : (number : ℕ) (a : Arguments) (m : Meaning) (x : Target) → MeaningRefersTo files number a m x → Leads number a m x
    past : (number : ℕ) (a : Arguments) (m : Meaning) (x : Target) (of : ℕ) (next : TypeUse) → MeaningRefersTo files number a m (follows of next) → constraints_in next ≡ [] → LeadsTo files of next x → Leads number a m x

  -- so a name does that means it
  pub name_leads : (number : ℕ) (path : plain.Path) (a : Arguments) (cs : List Value) (m : Meaning) (x : Target) → MeansType files number path m → Leads number a m x → LeadsTo files number (named_type path a cs) x
  name_leads number path a cs m x means (here _ _ _ _ k) = LeadsTo.at_once number (named_type path a cs) x (RefersTo.by_name path a cs m x means k)
  name_leads number path a cs m x means (past _ _ _ _ of next k bare more) = LeadsTo.by_alias number (named_type path a cs) of next x (RefersTo.by_name path a cs m (follows of next) means k) bare more

  -- a declaration that is passed comes to a declaration
  declared_end : (m end : Meaning) → PassesTo files m end → (p : DeclarationId) → m ≡ meaning.Declared p → (q : DeclarationId) × (end ≡ meaning.Declared q)
  declared_end m _ (PassesTo.stays _ nothing) p is = (p, is)
  declared_end m end (PassesTo.passes _ next _ on rest) p is = declared_end next end rest on.other on.next_is

  -- an alias refers to its type
  alias_declared : (m next : Meaning) (on : PassesOn files m next) → IsDeclared files on.follows.id (follows on.follows.id.file (type_view on.follows.alias.constructor))
  alias_declared m next on =
      let h = on.follows in
      record {
        file = h.file;
        declaration = h.alias_at.declaration;
        at = record { file_at = h.alias_at.file_at; stands = h.alias_at.stands };
        is = ap (λ (b : DeclarationBody). body_target h.id (declared_view b)) h.alias_at.body;
      }

  pub passed_leads : (m end : Meaning) → PassesTo files m end → (number : ℕ) (a : Arguments) (x : Target) → MeaningRefersTo files number a end x → Leads number a m x
  passed_leads m _ (PassesTo.stays _ nothing) number a x k = here number a m x k
  passed_leads m end (PassesTo.passes _ next _ on rest) number a x k =
      let h = on.follows in
      let its = named_of h.alias.constructor h.path h.type_is in
      let q = declared_end next end rest on.other on.next_is in
      let referred : IsDeclared files q.0 x = subst (λ (e : Meaning). MeaningRefersTo files number a e x) q.1 k in
      let again : MeaningRefersTo files h.id.file its.0 end x = subst (λ (e : Meaning). MeaningRefersTo files h.id.file its.0 e x) (sym q.1) referred in
      let more = passed_leads next end rest h.id.file its.0 x again in
      let means : MeansType files h.id.file (path_view h.path) next = record { file = h.file; at = h.alias_at.file_at; means = means_seen files h.file wanted.«Type» h.path next h.means } in
      let leads = name_leads h.id.file (path_view h.path) its.0 its.1 next x means more in
      let t = type_view h.alias.constructor in
      let there : LeadsTo files h.id.file t x = subst (λ (u : TypeUse). LeadsTo files h.id.file u x) (sym its.2) leads in
      let bare : constraints_in t ≡ [] = sym (same_constraints t) ∙ on.bare in
      let refers : MeaningRefersTo files number a m (follows h.id.file t) = subst (λ (n : Meaning). MeaningRefersTo files number a n (follows h.id.file t)) (sym h.is) (alias_declared m next on) in
      past number a m x h.id.file t refers bare there
