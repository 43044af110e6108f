-- The numbers of bits and enums whose members have values, and their mask.
use Rattle.std.proofs.Common.{◌≡◌, ◌≢◌, ◌⊎◌, ◌<ℤ◌, ℕ, ℤ, Bool, true, false, List, [], ◌∷◌, Option, Some, None, map, inl, inr, refl, subst, arith}
use Rattle.std.specs.Prelude.{pos, negsuc}
use Rattle.std.specs.Cmp.{int_chain, int_ranks}
use Rattle.std.specs.Int.Signed.{<ℤ_irrefl}
use Rattle.std.specs.Ordering.{int_cmp, MatchOrdering}
use Rattle.std.specs.declared.cmp.Ordering.{Ordering}
use Rattle.std.specs.declared.cmp.Ordering.TheVariants.{Less, Equal, Greater}
use Rattle.std.specs.List.{AllByRecursion, AllPairs}
use Rattle.std.proofs.lemmas.Int.{ints}
use Rattle.fidl_tree.specs.declared.file.File.{File}
use Rattle.fidl_tree.specs.Syntax.{Path, Value, Operand, ValueMember, ValuesKind, bits_kind, enum_kind, Underlying}
use Rattle.fidl_named.specs.declared.meaning.Meaning.{Meaning}
use Rattle.fidl_named.specs.Places.{NamePlace, a_members, underlying_path}
use Rattle.fidl_consts.specs.declared.const_type.NumberKind.{NumberKind}
use Rattle.fidl_consts.specs.declared.const_type.NumberKind.TheVariants as number
use Rattle.fidl_consts.specs.declared.const_type.ConstType.{ConstType}
use Rattle.fidl_consts.specs.declared.const_type.ConstType.TheVariants as const
use Rattle.fidl_consts.specs.PlainValues.{PlainValue, a_truth, a_number, a_text, InRange, Fits, is_unsigned}
use Rattle.fidl_consts.specs.Types.{UnderlyingIs, underlying_kind}
use Rattle.fidl_consts.specs.Values.{first_operand, ValueIs, OperandIs, Gives, alone, several, literal_fits, group, named, offered}
use Rattle.fidl_consts.specs.Places.{MemberHolds, PlaceHolds}
use Rattle.fidl_wire.specs.Term as ty
use Rattle.fidl_wire.specs.Term.{Term}
use Rattle.fidl_member_rules.specs.Numbers.{HasNumber, NumbersAre}
use Rattle.fidl_member_rules.specs.ValueRules.{MembersAre, NumbersHold}
use Rattle.fidl_lower_layouts.proofs.Rising.{rising, pairs_weaker}
use Rattle.fidl_lower_layouts.specs.Values.{kind_of, or_all, IsMaskOf, IsNumbered, ValuesAre}
use Rattle.fidl_lower_layouts.proofs.Masks.{IsWord}

-- of two numbers that differ one is below the other
by_order : (y z : ℤ) (o : Ordering) → MatchOrdering o (y <ℤ z) (y ≡ z) (z <ℤ y) → y ≢ z → (y <ℤ z) ⊎ (z <ℤ y)
by_order y z Less h not = inl h
by_order y z Equal h not = absurd (not h)
by_order y z Greater h not = inr h

one_below : (y z : ℤ) → y ≢ z → (y <ℤ z) ⊎ (z <ℤ y)
one_below y z not = by_order y z (int_cmp y z) (int_ranks y z) not

module _ (files : List File) where
  -- a value fits its type
  gives_fits : (m : Meaning) (t : ConstType) (k : PlainValue) → Gives files m t k → Fits t k
  gives_fits _ _ _ (offered m own t k h suits fits) = fits

  mutual
    value_fits : (f : File) (t : ConstType) (v : Value) (k : PlainValue) → ValueIs files f t v k → Fits t k
    value_fits _ _ _ _ (alone f t v k no_more h) = operand_fits f t (first_operand v) k h
    value_fits _ _ _ _ (several f t v first k joins h os fits) = fits

    operand_fits : (f : File) (t : ConstType) (e : Operand) (k : PlainValue) → OperandIs files f t e k → Fits t k
    operand_fits _ _ _ _ (literal_fits f t e k is of_type fits) = fits
    operand_fits _ _ _ _ (group f t e v k is h) = value_fits f t v k h
    operand_fits _ _ _ _ (named f t e path m k is means h) = gives_fits m t k h

word_of : (kind : NumberKind) (z : ℤ) → is_unsigned kind ≡ true → InRange kind z → IsWord z
word_of number.Int8 z unsigned h = absurd (cc)
word_of number.Int16 z unsigned h = absurd (cc)
word_of number.Int32 z unsigned h = absurd (cc)
word_of number.Int64 z unsigned h = absurd (cc)
word_of number.Uint8 (pos n) unsigned h = (n, (refl, let low = h.1 in omega (arith, ints, low)))
word_of number.Uint16 (pos n) unsigned h = (n, (refl, let low = h.1 in omega (arith, ints, low)))
word_of number.Uint32 (pos n) unsigned h = (n, (refl, let low = h.1 in omega (arith, ints, low)))
word_of number.Uint64 (pos n) unsigned h = (n, (refl, let low = h.1 in omega (arith, ints, low)))
word_of number.Uint8 (negsuc n) unsigned h = absurd (let plus = h.0 in omega (arith, ints, plus))
word_of number.Uint16 (negsuc n) unsigned h = absurd (let plus = h.0 in omega (arith, ints, plus))
word_of number.Uint32 (negsuc n) unsigned h = absurd (let plus = h.0 in omega (arith, ints, plus))
word_of number.Uint64 (negsuc n) unsigned h = absurd (let plus = h.0 in omega (arith, ints, plus))

-- words have a mask
mask_of_words : (zs : List ℤ) → AllByRecursion IsWord zs → (mask : ℕ) × IsMaskOf zs mask
mask_of_words [] h = (0, record { words = []; same = refl; low = tt; is = refl })
mask_of_words (z ∷ zs) h =
    let rest = mask_of_words zs h.1 in
    let its = rest.1 in
    let n : ℕ = h.0.0 in
    let first : z ≡ pos n = h.0.1.0 in
    let others : zs ≡ map pos its.words = its.same in
    (or_all (n ∷ its.words), record { words = n ∷ its.words; same = cc; low = (h.0.1.1, its.low); is = refl })

module _ (files : List File) (f : File) (kind : NumberKind) where
  -- the value of a member is a number, in the range of its type
  number_of_value : (m : ValueMember) (k : PlainValue) → ValueIs files f (const.Number kind) m.value k → Fits (const.Number kind) k → (z : ℤ) × (HasNumber files f kind m z × InRange kind z)
  number_of_value m (a_truth b) is fits = absurd fits
  number_of_value m (a_text bytes) is fits = absurd fits
  number_of_value m (a_number z) is fits = (z, (is, fits))

  number_of_member : (m : ValueMember) → MemberHolds files f kind m → (z : ℤ) × (HasNumber files f kind m z × InRange kind z)
  number_of_member m h = number_of_value m h.known h.is (value_fits files f (const.Number kind) m.value h.known h.is)

  abbrev AreNumbers : List ValueMember → List ℤ → Type 0
  AreNumbers ms zs = NumbersAre files f kind ms zs × AllByRecursion (InRange kind) zs

  numbers_of : (ms : List ValueMember) → AllByRecursion (MemberHolds files f kind) ms → (zs : List ℤ) × AreNumbers ms zs
  numbers_of [] h = ([], (tt, tt))
  numbers_of (m ∷ ms) h =
      let first = number_of_member m h.0 in
      let rest = numbers_of ms h.1 in
      (first.0 ∷ rest.0, ((first.1.0, rest.1.0), (first.1.1, rest.1.1)))

  all_words : is_unsigned kind ≡ true → (zs : List ℤ) → AllByRecursion (InRange kind) zs → AllByRecursion IsWord zs
  all_words unsigned [] h = tt
  all_words unsigned (z ∷ zs) h = (word_of kind z unsigned h.0, all_words unsigned zs h.1)

  -- bits are of an unsigned type
  Suited : ValuesKind → Type 0
  Suited bits_kind = is_unsigned kind ≡ true
  Suited enum_kind = Unit {0}

  kind_if : (k : NumberKind) (b : Bool) → is_unsigned k ≡ b → underlying_kind bits_kind (Some (const.Number k)) ≡ Some kind → is_unsigned kind ≡ true
  kind_if k true is e = let same : k ≡ kind = cc in subst (λ (n : NumberKind). is_unsigned n ≡ true) same is
  kind_if k false is e = absurd (cc)

  bits_unsigned : (t : Option ConstType) → underlying_kind bits_kind t ≡ Some kind → is_unsigned kind ≡ true
  bits_unsigned None e = absurd (cc)
  bits_unsigned (Some const.Bool) e = absurd (cc)
  bits_unsigned (Some const.String) e = absurd (cc)
  bits_unsigned (Some (const.Values values)) e = absurd (cc)
  bits_unsigned (Some (const.Number k)) e = kind_if k (is_unsigned k) refl e

  unsigned_of : (path : Option Path) (found : Option NumberKind) → UnderlyingIs files f bits_kind path found → found ≡ Some kind → is_unsigned kind ≡ true
  unsigned_of _ _ UnderlyingIs.unwritten e = let same : number.Uint32 ≡ kind = cc in subst (λ (n : NumberKind). is_unsigned n ≡ true) same refl
  unsigned_of _ _ (UnderlyingIs.written path t is) e = bits_unsigned t e

  numbered : (values : ValuesKind) (strict : Bool) (path : Option Path) (ms : List ValueMember) → UnderlyingIs files f values path (Some kind) → (zs : List ℤ) → AreNumbers ms zs → AllPairs (λ y z. y ≢ z) zs → (t : Term) × IsNumbered files f kind values strict ms t
  numbered bits_kind false path ms of zs h apart = (ty.bits (kind_of kind) None, refl)
  numbered enum_kind false path ms of zs h apart = (ty.enum (kind_of kind) None, refl)
  numbered enum_kind true path ms of zs h apart =
      let r = rising (λ (y z : ℤ). y <ℤ z) (λ z lt. <ℤ_irrefl lt) int_chain zs (pairs_weaker (λ y z. y ≢ z) (λ (y z : ℤ). (y <ℤ z) ⊎ (z <ℤ y)) one_below zs apart) in
      (ty.enum (kind_of kind) (Some r.list), record { written = zs; are = h.0; numbers = r.list; same = r.same; rise = r.rise; is = refl })
  numbered bits_kind true path ms of zs h apart =
      let masked = mask_of_words zs (all_words (unsigned_of path (Some kind) of refl) zs h.1) in
      (ty.bits (kind_of kind) (Some masked.0), record { numbers = zs; mask = masked.0; are = h.0; masked = masked.1; is = refl })

module _ (files : List File) (f : File) where
  values_from : (values : ValuesKind) (strict : Bool) (u : Underlying) (ms : List ValueMember) (place : NamePlace) → place ≡ a_members values (underlying_path u) ms → PlaceHolds files f place → ((zs : List ℤ) → MembersAre files f values u ms zs → NumbersHold values zs) → (t : Term) × ValuesAre files f values strict u ms t
  values_from values strict u ms _ e (PlaceHolds.of_members w path ns kind of members) holds =
      let same : w ≡ values = cc in
      let paths : path ≡ underlying_path u = cc in
      let all : ns ≡ ms = cc in
      let suited : UnderlyingIs files f values (underlying_path u) (Some kind) = subst (λ (p : Option Path). UnderlyingIs files f values p (Some kind)) paths (subst (λ (v : ValuesKind). UnderlyingIs files f v path (Some kind)) same of) in
      let numbers = numbers_of files f kind ms (subst (λ (l : List ValueMember). AllByRecursion (MemberHolds files f kind) l) all members) in
      let found = numbered files f kind values strict (underlying_path u) ms suited numbers.0 numbers.1 (holds numbers.0 (record { kind = kind; of = suited; are = numbers.1.0 })).differ in
      (found.0, record { kind = kind; of = suited; is = found.1 })
  values_from values strict u ms _ e (PlaceHolds.of_name kind path) apart = absurd (cc)
  values_from values strict u ms _ e (PlaceHolds.of_layout cs) apart = absurd (cc)
  values_from values strict u ms _ e (PlaceHolds.of_number of word wants) apart = absurd (cc)
  values_from values strict u ms _ e (PlaceHolds.of_count of word wants fits) apart = absurd (cc)
  values_from values strict u ms _ e (PlaceHolds.of_named_count of path cs k wants gives) apart = absurd (cc)
  values_from values strict u ms _ e (PlaceHolds.of_type of path cs m end wants means resolves holds) apart = absurd (cc)
  values_from values strict u ms _ e (PlaceHolds.of_no_type of path cs wants none) apart = absurd (cc)

  -- bits and enums whose place holds have a definition
  pub values_of : (values : ValuesKind) (strict : Bool) (u : Underlying) (ms : List ValueMember) → PlaceHolds files f (a_members values (underlying_path u) ms) → ((zs : List ℤ) → MembersAre files f values u ms zs → NumbersHold values zs) → (t : Term) × ValuesAre files f values strict u ms t
  values_of values strict u ms h holds = values_from values strict u ms (a_members values (underlying_path u) ms) refl h holds
