-- The underlying types of bits and enums, and the ranges of a strict enum one by one.
use Rattle.std.proofs.Common.{◌≡◌, ◌↔◌, ℕ, zero, suc, ◌+◌, ◌^◌, ◌<◌, ℤ, pos, negsuc, ◌<ℤ◌, List, Bool, true, false, IsTrue, Option, Some, None, is_some, inl, inr, refl, ap, subst, sym, ◌∙◌, arith, add-one}
use Rattle.std.proofs.lemmas.Int.{ints}
use Rattle.std.specs.Prelude.{unwrap_or, ◌+ℤ◌, ◌≤ℤ◌}
use Rattle.std.specs.Option.{option_map_or}
use Rattle.fidl_wire.specs.Term.{Kind, int8, int16, int32, int64, uint8, uint16, uint32, uint64}
use Rattle.fidl_wire.specs.Typed.{InRange}
use Rattle.fidl_table_format.specs.declared.record.Header.{Header}
use Rattle.fidl_table_format.specs.declared.record.Entry.{Entry}
use Rattle.fidl_table_format.specs.declared.kind.EntryKind.{EntryKind}
use Rattle.fidl_table_format.specs.declared.kind.EntryKind.TheVariants.{Uint8, Uint16, Uint32, Uint64}
use Rattle.fidl_table_format.specs.Kind.{kind_of, number_type}
use Rattle.fidl_table_format.specs.Terms.{as_number, underlying}
use Rattle.fidl_table_format.specs.Uses.{is_number, is_unsigned}
use Rattle.fidl_table_format.specs.Section.{has_ranges}
use Rattle.fidl_table_format.specs.Entry.{subtype_is, HasNumberKind, lowest_value, highest_value, IsEnumRange}
use Rattle.fidl_verify.proofs.Stated.{or_last}

-- a number type that is there
some_number : (o : Option Kind) → is_some o ≡ true → o ≡ Some (unwrap_or o uint8)
some_number None is = cc is
some_number (Some kind) is = refl

number_kind : (o : Option EntryKind) → option_map_or is_number o false ≡ true → (k : EntryKind) × (o ≡ Some k) × (number_type k ≡ Some (option_map_or as_number o uint8))
number_kind None is = absurd (let never : false ≡ true = is in cc)
number_kind (Some k) is = (k, refl, some_number (number_type k) is)

numbered : (o : Option EntryKind) → option_map_or is_unsigned o false ≡ true → option_map_or is_number o false ≡ true
numbered None is = is
numbered (Some Uint8) is = refl
numbered (Some Uint16) is = refl
numbered (Some Uint32) is = refl
numbered (Some Uint64) is = refl
numbered (Some _) is = absurd (let never : false ≡ true = is in cc)

pub enum_number : (e : Entry) → IsTrue (subtype_is is_number e) → HasNumberKind e
enum_number e is = number_kind (kind_of e.subtype) is

pub bits_number : (e : Entry) → IsTrue (subtype_is is_unsigned e) → HasNumberKind e
bits_number e is = number_kind (kind_of e.subtype) (numbered (kind_of e.subtype) is)

-- numbers of a type have 64 bits
pub below_64 : (k : Kind) (z : ℤ) → InRange k z → z <ℤ pos (2 ^ 64)
below_64 int8 z fits = grind (arith, ints)
below_64 int16 z fits = grind (arith, ints)
below_64 int32 z fits = grind (arith, ints)
below_64 int64 z fits = grind (arith, ints)
below_64 uint8 (pos n) fits = omega (arith, ints, fits)
below_64 uint8 (negsuc n) fits = absurd fits
below_64 uint16 (pos n) fits = omega (arith, ints, fits)
below_64 uint16 (negsuc n) fits = absurd fits
below_64 uint32 (pos n) fits = omega (arith, ints, fits)
below_64 uint32 (negsuc n) fits = absurd fits
below_64 uint64 (pos n) fits = omega (arith, ints, fits)
below_64 uint64 (negsuc n) fits = absurd fits

-- ranges of which each ends before the next begins
pub rising : (lowest highest : ℕ → ℤ) (n : ℕ) → ((k : ℕ) → k < n → lowest k ≤ℤ highest k) → ((k : ℕ) → suc k < n → highest k <ℤ lowest (suc k))
    → (i j : ℕ) → i < j → j < n → highest i <ℤ lowest j
rising lowest highest n order step i zero p q = absurd (omega (arith, p))
rising lowest highest n order step i (suc j) p q =
    elim (or_last i j p) [
      | inl less ↦
          let before = rising lowest highest n order step i j less (omega (arith, q)) in
          let own = order j (omega (arith, q)) in
          let next = step j q in
          omega (arith, ints)
      | inr same ↦ subst (λ m. highest m <ℤ lowest (suc j)) (sym same) (step j q)
    ]

module _ (bytes : List ℕ) (h : Header) (e : Entry) (k : ℕ) where
  -- what a range alone has to keep
  abbrev Own : Kind → ℤ → ℤ → Type 0
  Own kind low high = InRange kind low × InRange kind high × (low ≤ℤ high)

  -- what it has to keep with the next
  abbrev Next : ℤ → ℤ → Type 0
  Next high low = (high <ℤ low) × (IsTrue (has_ranges h) → (high +ℤ pos 1) <ℤ low)

  module _ (kind : Kind) (low high : ℤ) (same : kind ≡ underlying e) (lowest : low ≡ lowest_value bytes h e k) (highest : high ≡ highest_value bytes h e k) where
    own : Own kind low high → Own (underlying e) (lowest_value bytes h e k) (highest_value bytes h e k)
    own o = subst (λ z. Own (underlying e) (lowest_value bytes h e k) z) highest (subst (λ z. Own (underlying e) z high) lowest (subst (λ u. Own u low high) same o))

    -- a range before another
    pub is_range_if : (next : ℤ) (before : Bool) → next ≡ lowest_value bytes h e (k + 1) → suc k < e.count → Own kind low high → (IsTrue before ↔ Next high next) → (IsTrue before ↔ IsEnumRange bytes h e k)
    is_range_if next before after more o both =
        let there : next ≡ lowest_value bytes h e (suc k) = after ∙ ap (lowest_value bytes h e) (add-one k) in
        let forth : Next high next → Next (highest_value bytes h e k) (lowest_value bytes h e (suc k)) = λ n. subst (λ z. Next (highest_value bytes h e k) z) there (subst (λ z. Next z next) highest n) in
        let back : Next (highest_value bytes h e k) (lowest_value bytes h e (suc k)) → Next high next = λ n. subst (λ z. Next high z) (sym there) (subst (λ z. Next z (lowest_value bytes h e (suc k))) (sym highest) n) in (
          λ t. let u = own o in let n = forth (both.0 t) in record { lowest = u.0; highest = u.1; order = u.2; rises = λ p. n.0; apart = λ on p. n.1 on },
          λ r. both.1 (back (r.rises more, λ on. r.apart on more)),
        )
