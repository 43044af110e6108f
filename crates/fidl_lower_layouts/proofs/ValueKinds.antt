-- Bits and enums as plain data, and the type of their numbers.
use Rattle.std.proofs.Common.{rules, ◌≡◌, ℕ, Bool, List, Option, Some, None, map, refl, sym, subst, inl, inr}
use Rattle.std.specs.Prelude.{slice_get}
use Rattle.fidl_tree.specs.Syntax as plain
use Rattle.fidl_tree.specs.Syntax.{Path, ValueMember, Layout, values_layout, no_underlying, underlying_type}
use Rattle.fidl_tree.specs.Views.{path_view, kind_view, keyword_span, is_strict, value_member_view, values_view, named_view}
use Rattle.fidl_tree.specs.declared.file.File.{File}
use Rattle.fidl_tree.specs.declared.type_constructor.Underlying as underlying
use Rattle.fidl_tree.specs.declared.type_constructor.Underlying.{Underlying, out-Underlying}
use Rattle.fidl_tree.specs.declared.type_constructor.NamedType as named
use Rattle.fidl_tree.specs.declared.type_constructor.NamedType.{NamedType, out-NamedType}
use Rattle.fidl_tree.specs.declared.type_constructor.ValuesLayout as values
use Rattle.fidl_tree.specs.declared.type_constructor.ValuesLayout.{ValuesLayout, out-ValuesLayout}
use Rattle.fidl_named.specs.Places.{use_path, underlying_path}
use Rattle.fidl_named.specs.Scopes.{OfFile}
use Rattle.fidl_consts.specs.declared.const_type.NumberKind.{NumberKind}
use Rattle.fidl_consts.specs.declared.fault.ConstFault.{ConstFault}
use Rattle.fidl_consts.specs.declared.fault.ConstFault.TheVariants.{Memory}
use Rattle.fidl_consts.specs.Tables.{IsMemoryOr}
use Rattle.fidl_consts.specs.Types.{UnderlyingIs, LayoutIs, path_of}
use Rattle.fidl_consts.specs.Constraints.{LayoutFails}
use Rattle.fidl_consts.proofs.OneType.{one_underlying}
use Rattle.fidl_consts.proofs.NoItem.{no_underlying as none_of}
use Rattle.fidl_wire.specs.Term.{Term}
use Rattle.fidl_lower_layouts.specs.Values.{IsNumbered, ValuesAre}
use Rattle.fidl_lower_layouts.specs.Definitions.{LayoutIs as PlainLayoutIs}

module _ (files : List File) (f : File) (l : ValuesLayout) where
  -- a refused layout has no type of numbers
  pub no_kind : (number : ℕ) → slice_get files number ≡ Some f → (fault : ConstFault) → IsMemoryOr (λ fault. OfFile files number (λ f. LayoutFails files f number l fault)) fault → (fault ≡ Memory → ⊥) → (kind : NumberKind) → LayoutIs files f l (Some kind) → ⊥
  no_kind number at fault (inl memory) other kind h = absurd (other memory)
  no_kind number at fault (inr fails) other kind h = none_of files f number (kind_view (out-ValuesLayout l).keyword) (path_of (out-ValuesLayout l).underlying) fault kind (fails f at) h

-- the underlying type that is written
abbrev its_underlying : Option Underlying → plain.Underlying
its_underlying None = no_underlying
its_underlying (Some u) = underlying_type (named_view (out-Underlying u).named)

name_is : (n : NamedType) → use_path (named_view n) ≡ Some (path_view (out-NamedType n).path)
name_is n = search (rules, named.the_lemmas)

its_path : (u : Option Underlying) → underlying_path (its_underlying u) ≡ path_of u
its_path None = refl
its_path (Some u) = name_is (out-Underlying u).named

module _ (l : ValuesLayout) where
  abbrev pub its_members : List ValueMember
  its_members = map value_member_view (out-ValuesLayout l).members.items

  abbrev its_layout : (u : Option Underlying) → Layout
  its_layout u = values_layout (kind_view (out-ValuesLayout l).keyword) (is_strict (out-ValuesLayout l).strictness) (keyword_span (out-ValuesLayout l).keyword) (its_underlying u) its_members

  values_are : (u : Option Underlying) → (out-ValuesLayout l).underlying ≡ u → values_view l ≡ its_layout u
  values_are None is = search (rules, values.the_lemmas, is)
  values_are (Some u) is = search (rules, values.the_lemmas, underlying.the_lemmas, is)

  abbrev its : Option Underlying
  its = (out-ValuesLayout l).underlying

module _ (files : List File) (f : File) (l : ValuesLayout) (number : ℕ) (optional : Bool) where
  abbrev Its : Term → Type 0
  Its t = ValuesAre files f (kind_view (out-ValuesLayout l).keyword) (is_strict (out-ValuesLayout l).strictness) (its_underlying (its l)) (its_members l) t

  abbrev pub Numbered : NumberKind → Term → Type 0
  Numbered kind t = IsNumbered files f kind (kind_view (out-ValuesLayout l).keyword) (is_strict (out-ValuesLayout l).strictness) (its_members l) t

  back : (t : Term) → PlainLayoutIs files number f optional (values_view l) t → Its t
  back t h = subst (λ (x : Layout). PlainLayoutIs files number f optional x t) (values_are l (its l) refl) h

  its_kind : (kind : NumberKind) → UnderlyingIs files f (kind_view (out-ValuesLayout l).keyword) (underlying_path (its_underlying (its l))) (Some kind) → LayoutIs files f l (Some kind)
  its_kind kind h = subst (λ (o : Option Path). UnderlyingIs files f (kind_view (out-ValuesLayout l).keyword) o (Some kind)) (its_path (its l)) h

  -- by its type of numbers
  pub values_found : (kind : NumberKind) → LayoutIs files f l (Some kind) → (t : Term) → Numbered kind t → PlainLayoutIs files number f optional (values_view l) t
  values_found kind of t is =
      subst (λ (x : Layout). PlainLayoutIs files number f optional x t) (sym (values_are l (its l) refl)) (record {
        kind = kind;
        of = subst (λ (o : Option Path). UnderlyingIs files f (kind_view (out-ValuesLayout l).keyword) o (Some kind)) (sym (its_path (its l))) of;
        is = is;
      })

  -- without a type of numbers
  pub values_without_kind : ((kind : NumberKind) → LayoutIs files f l (Some kind) → ⊥) → (t : Term) → PlainLayoutIs files number f optional (values_view l) t → ⊥
  values_without_kind none t h = let v = back t h in none v.kind (its_kind v.kind v.of)

  -- without what is numbered
  pub values_without : (kind : NumberKind) → LayoutIs files f l (Some kind) → ((t : Term) → Numbered kind t → ⊥) → (t : Term) → PlainLayoutIs files number f optional (values_view l) t → ⊥
  values_without kind of none t h =
      let v = back t h in
      let both : Some v.kind ≡ Some kind = one_underlying files f (kind_view (out-ValuesLayout l).keyword) (path_of (its l)) (Some v.kind) (Some kind) (its_kind v.kind v.of) of in
      let same : v.kind ≡ kind = cc in
      none t (subst (λ (k : NumberKind). Numbered k t) same v.is)
