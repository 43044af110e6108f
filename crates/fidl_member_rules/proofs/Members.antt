-- Bits and enums as plain data, and what their members' numbers make of their rules.
use Rattle.std.proofs.Common.{rules, ◌≡◌, ℕ, ℤ, List, Option, Some, None, map, refl, sym, subst, inl, inr}
use Rattle.std.specs.Prelude.{slice_get}
use Rattle.fidl_span.specs.declared.words.Span.{Span}
use Rattle.fidl_tree.specs.Syntax as plain
use Rattle.fidl_tree.specs.Syntax.{Path, ValueMember, Layout, values_layout, no_underlying, underlying_type}
use Rattle.fidl_tree.specs.Views.{path_view, kind_view, keyword_span, is_strict, value_member_view, values_view, named_view}
use Rattle.fidl_tree.specs.declared.file.File.{File}
use Rattle.fidl_tree.specs.declared.type_constructor.Underlying as underlying
use Rattle.fidl_tree.specs.declared.type_constructor.Underlying.{Underlying, out-Underlying}
use Rattle.fidl_tree.specs.declared.type_constructor.NamedType as named
use Rattle.fidl_tree.specs.declared.type_constructor.NamedType.{NamedType, out-NamedType}
use Rattle.fidl_tree.specs.declared.type_constructor.ValuesLayout as values
use Rattle.fidl_tree.specs.declared.type_constructor.ValuesLayout.{ValuesLayout, out-ValuesLayout}
use Rattle.fidl_named.specs.Places.{use_path, underlying_path}
use Rattle.fidl_consts.specs.declared.const_type.NumberKind.{NumberKind}
use Rattle.fidl_consts.specs.declared.const_type.ConstType.TheVariants as const
use Rattle.fidl_consts.specs.declared.fault.ConstFault.{ConstFault}
use Rattle.fidl_named.specs.Scopes.{OfFile}
use Rattle.fidl_consts.specs.declared.fault.ConstFault.TheVariants.{Memory}
use Rattle.fidl_consts.specs.Tables.{IsMemoryOr}
use Rattle.fidl_consts.specs.PlainValues.{a_number}
use Rattle.fidl_consts.specs.Types.{UnderlyingIs, LayoutIs, path_of}
use Rattle.fidl_consts.specs.Constraints.{LayoutFails}
use Rattle.fidl_consts.proofs.OneType.{one_underlying}
use Rattle.fidl_consts.proofs.OneValue.{one_value}
use Rattle.fidl_consts.proofs.NoItem.{no_underlying as none_of}
use Rattle.fidl_member_rules.specs.Numbers.{HasNumber, NumbersAre}
use Rattle.fidl_member_rules.specs.ValueRules.{Rule, NumbersHold, MembersAre, LayoutHolds, MemberBreaks, LayoutBreaks}
use Rattle.fidl_member_rules.proofs.Listing.{zip_one}

-- the underlying type that is written
abbrev its_underlying : Option Underlying → plain.Underlying
its_underlying None = no_underlying
its_underlying (Some u) = underlying_type (named_view (out-Underlying u).named)

name_is : (n : NamedType) → use_path (named_view n) ≡ Some (path_view (out-NamedType n).path)
name_is n = search (rules, named.the_lemmas)

its_path : (u : Option Underlying) → underlying_path (its_underlying u) ≡ path_of u
its_path None = refl
its_path (Some u) = name_is (out-Underlying u).named

number_one : (a b : ℤ) → a_number a ≡ a_number b → a ≡ b
number_one a b e = cc

module _ (files : List File) (f : File) where
  one_number : (kind : NumberKind) (m : ValueMember) (y z : ℤ) → HasNumber files f kind m y → HasNumber files f kind m z → y ≡ z
  one_number kind m y z h k = number_one y z (one_value files f (const.Number kind) m.value (a_number y) (a_number z) h k)

  one_list : (kind : NumberKind) (ms : List ValueMember) (ys zs : List ℤ) → NumbersAre files f kind ms ys → NumbersAre files f kind ms zs → ys ≡ zs
  one_list kind = zip_one (HasNumber files f kind) (one_number kind)

module _ (files : List File) (f : File) (l : ValuesLayout) where
  abbrev its_members : List ValueMember
  its_members = map value_member_view (out-ValuesLayout l).members.items

  abbrev its_layout : (u : Option Underlying) → Layout
  its_layout u = values_layout (kind_view (out-ValuesLayout l).keyword) (is_strict (out-ValuesLayout l).strictness) (keyword_span (out-ValuesLayout l).keyword) (its_underlying u) its_members

  values_are : (u : Option Underlying) → (out-ValuesLayout l).underlying ≡ u → values_view l ≡ its_layout u
  values_are None is = search (rules, values.the_lemmas, is)
  values_are (Some u) is = search (rules, values.the_lemmas, underlying.the_lemmas, is)

  abbrev its : Option Underlying
  its = (out-ValuesLayout l).underlying

  its_kind : (kind : NumberKind) → LayoutIs files f l (Some kind) → UnderlyingIs files f (kind_view (out-ValuesLayout l).keyword) (underlying_path (its_underlying its)) (Some kind)
  its_kind kind h = subst (λ (o : Option Path). UnderlyingIs files f (kind_view (out-ValuesLayout l).keyword) o (Some kind)) (sym (its_path its)) h

  back : (kind : NumberKind) → UnderlyingIs files f (kind_view (out-ValuesLayout l).keyword) (underlying_path (its_underlying its)) (Some kind) → LayoutIs files f l (Some kind)
  back kind h = subst (λ (o : Option Path). UnderlyingIs files f (kind_view (out-ValuesLayout l).keyword) o (Some kind)) (its_path its) h

  abbrev Are : List ℤ → Type 0
  Are zs = MembersAre files f (kind_view (out-ValuesLayout l).keyword) (its_underlying its) its_members zs

  holds_if : ((zs : List ℤ) → Are zs → NumbersHold (kind_view (out-ValuesLayout l).keyword) zs) → LayoutHolds files f (values_view l)
  holds_if h = subst (LayoutHolds files f) (sym (values_are its refl)) h

  -- where its kind is refused, it has no numbers
  holds_without_kind : (number : ℕ) (fault : ConstFault) → LayoutFails files f number l fault → LayoutHolds files f (values_view l)
  holds_without_kind number fault fails = holds_if (λ zs h. absurd (none_of files f number (kind_view (out-ValuesLayout l).keyword) (path_of its) fault h.kind fails (back h.kind h.of)))

  -- the same where memory did not run out
  pub refused_kind : (number : ℕ) → slice_get files number ≡ Some f → (fault : ConstFault) → IsMemoryOr (λ fault. OfFile files number (λ f. LayoutFails files f number l fault)) fault → (fault ≡ Memory → ⊥) → LayoutHolds files f (values_view l)
  refused_kind number at fault (inl memory) other = absurd (other memory)
  refused_kind number at fault (inr fails) other = holds_without_kind number fault (fails f at)

  module _ (kind : NumberKind) (is : LayoutIs files f l (Some kind)) where
    same_kind : (other : NumberKind) → LayoutIs files f l (Some other) → other ≡ kind
    same_kind other h = let both : Some other ≡ Some kind = one_underlying files f (kind_view (out-ValuesLayout l).keyword) (path_of its) (Some other) (Some kind) h is in cc

    its_numbers : (zs : List ℤ) → Are zs → NumbersAre files f kind its_members zs
    its_numbers zs h = subst (λ k. NumbersAre files f k its_members zs) (same_kind h.kind (back h.kind h.of)) h.are

    -- where a member has none
    pub holds_without_numbers : ((zs : List ℤ) → NumbersAre files f kind its_members zs → ⊥) → LayoutHolds files f (values_view l)
    holds_without_numbers none = holds_if (λ zs h. absurd (none zs (its_numbers zs h)))

    module _ (zs : List ℤ) (are : NumbersAre files f kind its_members zs) where
      -- where its numbers hold
      pub holds_with_numbers : NumbersHold (kind_view (out-ValuesLayout l).keyword) zs → LayoutHolds files f (values_view l)
      holds_with_numbers holds = holds_if (λ ys h. subst (NumbersHold (kind_view (out-ValuesLayout l).keyword)) (one_list files f kind its_members zs ys are (its_numbers ys h)) holds)

      -- where one breaks a rule
      pub breaks_with_numbers : (rule : Rule) (span : Span) → MemberBreaks (kind_view (out-ValuesLayout l).keyword) its_members zs rule span → LayoutBreaks files f (values_view l) rule span
      breaks_with_numbers rule span b = subst (λ x. LayoutBreaks files f x rule span) (sym (values_are its refl)) (record { numbers = zs; are = record { kind = kind; of = its_kind kind is; are = are }; breaks = b })
