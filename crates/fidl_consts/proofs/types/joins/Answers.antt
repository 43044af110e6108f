use Rattle.std.proofs.Common.{◌≡◌, ℕ, List, Option, Some, None, true, refl, ap, sym, subst, ◌∙◌}
use Rattle.std.specs.Prelude.{IfSome, IsNone, IsSomeAnd}
use Rattle.fidl_tree.specs.declared.file.File.{File}
use Rattle.fidl_tree.specs.declared.type_constructor.ValuesLayout.{ValuesLayout, out-ValuesLayout}
use Rattle.fidl_named.specs.declared.place.DeclarationId.{DeclarationId}
use Rattle.fidl_consts.specs.declared.const_type.NumberKind.{NumberKind}
use Rattle.fidl_consts.specs.declared.const_type.BitsOrEnum.TheVariants as layout
use Rattle.fidl_consts.specs.declared.const_type.ConstType.{ConstType}
use Rattle.fidl_consts.specs.declared.const_type.ConstType.TheVariants as ty
use Rattle.fidl_consts.specs.declared.found.FoundValues.{FoundValues}
use Rattle.fidl_consts.specs.PlainValues.{is_unsigned}
use Rattle.fidl_consts.specs.Types.{IsBits, IsValuesAt, IsPropertyValues, Joins}
use Rattle.fidl_consts.proofs.Standing.{one_layout, one_property_layout}
use Rattle.fidl_consts.proofs.types.joins.Goals as goal

-- bits were found where they stand
abbrev AreBits : Option FoundValues → Type 0
AreBits o = IsSomeAnd o (λ (x : FoundValues). IsBits (out-ValuesLayout x.layout.now).keyword)

module _ (At : File → ValuesLayout → Type 0) where
  bits_there : (o : Option FoundValues) → IfSome o (λ (x : FoundValues). At x.file.now x.layout.now) → AreBits o → (f : File) × (l : ValuesLayout) × At f l × IsBits (out-ValuesLayout l).keyword
  bits_there None at bits = absurd bits
  bits_there (Some x) at bits = (x.file.now, x.layout.now, at, bits)

  bits_found : (o : Option FoundValues) → IfSome o (λ (x : FoundValues). At x.file.now x.layout.now) → (IsNone o → (f : File) (l : ValuesLayout) → At f l → ⊥)
      → ((f g : File) (l m : ValuesLayout) → At f l → At g m → l ≡ m) → (f : File) (l : ValuesLayout) → At f l → IsBits (out-ValuesLayout l).keyword → AreBits o
  bits_found None at none one f l there bits = absurd (none refl f l there)
  bits_found (Some x) at none one f l there bits = subst (λ (m : ValuesLayout). IsBits (out-ValuesLayout m).keyword) (one f x.file.now l x.layout.now there at) bits

module _ (files : List File) where
  number_joins : (t : ConstType) (kind : NumberKind) → t ≡ ty.Number kind → Joins files t → is_unsigned kind ≡ true
  number_joins t kind e (Joins.numbers k is) = let same : k ≡ kind = cc in subst (λ (n : NumberKind). is_unsigned n ≡ true) same is
  number_joins t kind e (Joins.declared p f l at bits) = absurd (cc)
  number_joins t kind e (Joins.property p n f l at bits) = absurd (cc)

  declared_joins : (t : ConstType) (p : DeclarationId) → t ≡ ty.Values (layout.Declared p) → Joins files t → (f : File) × (l : ValuesLayout) × IsValuesAt files p f l × IsBits (out-ValuesLayout l).keyword
  declared_joins t p e (Joins.numbers k is) = absurd (cc)
  declared_joins t p e (Joins.declared q f l at bits) = let same : q ≡ p = cc in (f, l, subst (λ (r : DeclarationId). IsValuesAt files r f l) same at, bits)
  declared_joins t p e (Joins.property q n f l at bits) = absurd (cc)

  property_joins : (t : ConstType) (p : DeclarationId) (n : ℕ) → t ≡ ty.Values (layout.Property p n) → Joins files t → (f : File) × (l : ValuesLayout) × IsPropertyValues files p n f l × IsBits (out-ValuesLayout l).keyword
  property_joins t p n e (Joins.numbers k is) = absurd (cc)
  property_joins t p n e (Joins.declared q f l at bits) = absurd (cc)
  property_joins t p n e (Joins.property q m f l at bits) =
      let same : q ≡ p = cc in
      let number : m ≡ n = cc in
      (f, l, subst (λ (k : ℕ). IsPropertyValues files p k f l) number (subst (λ (r : DeclarationId). IsPropertyValues files r m f l) same at), bits)

pub returns-in-Number : goal.returns-in-Number
returns-in-Number c =
    let e : c.args.wanted ≡ ty.Number c.in-Number.kind = c.in-Number.is in
    (λ h. rw e (Joins.numbers c.in-Number.kind (sym c.is_unsigned.ensures ∙ h)), λ h. c.is_unsigned.ensures ∙ number_joins c.args.named.now c.args.wanted c.in-Number.kind e h)

pub returns-in-Declared : goal.returns-in-Declared
returns-in-Declared c =
    let fs = c.args.named.now in
    let p = c.in-Declared.id in
    let o = c.values_at.result in
    let e : c.args.wanted ≡ ty.Values (layout.Declared p) = c.in-Values.is ∙ ap ty.Values c.in-Declared.is in (
      λ h. let there = bits_there (IsValuesAt fs p) o c.values_at.ensures.found (c.are_bits.ensures.0 h) in rw e (Joins.declared p there.0 there.1 there.2 there.3),
      λ h.
          let there = declared_joins fs c.args.wanted p e h in
          c.are_bits.ensures.1 (bits_found (IsValuesAt fs p) o c.values_at.ensures.found c.values_at.ensures.none (one_layout fs p) there.0 there.1 there.2 there.3),
    )

pub returns-in-Property : goal.returns-in-Property
returns-in-Property c =
    let fs = c.args.named.now in
    let p = c.in-Property.of in
    let n = c.in-Property.property in
    let o = c.property_values_at.result in
    let e : c.args.wanted ≡ ty.Values (layout.Property p n) = c.in-Values.is ∙ ap ty.Values c.in-Property.is in (
      λ h. let there = bits_there (IsPropertyValues fs p n) o c.property_values_at.ensures.found (c.are_bits-in-Property.ensures.0 h) in rw e (Joins.property p n there.0 there.1 there.2 there.3),
      λ h.
          let there = property_joins fs c.args.wanted p n e h in
          c.are_bits-in-Property.ensures.1 (bits_found (IsPropertyValues fs p n) o c.property_values_at.ensures.found c.property_values_at.ensures.none (λ f g. one_property_layout fs p f g n) there.0 there.1 there.2 there.3),
    )
