-- Numbers at a place, by the kind of their entry.
use Rattle.std.proofs.Common.{◌≡◌, ℕ, ◌+◌, ◌<◌, ◌≤◌, ℤ, pos, negsuc, List, length, get_or, refl, sym, subst, arith, inl, inr}
use Rattle.std.specs.Prelude.{◌≤ℤ◌, true, false, Option, Some, None, IfSome, Contains}
use Rattle.std.specs.Option.{option_map_or}
use Rattle.std.specs.Int.{byte_len}
use Rattle.std.proofs.lemmas.Bool.{cases_lt}
use Rattle.fidl_limits.specs.declared.limits.TheConstants.{MAX_DEPTH}
use Rattle.fidl_wire.specs.Term as ty
use Rattle.fidl_wire.specs.Term.{resolve, width}
use Rattle.fidl_wire.specs.Typed.{InMask}
use Rattle.fidl_table_format.specs.declared.kind.EntryKind.{EntryKind}
use Rattle.fidl_table_format.specs.declared.kind.EntryKind.TheVariants.{Bool as Boolean, Bits, Enum, Int8, Int16, Int32, Int64, Uint8, Uint16, Uint32, Uint64}
use Rattle.fidl_table_format.specs.declared.record.Header.{Header}
use Rattle.fidl_table_format.specs.Kind.{kind_of}
use Rattle.fidl_table_format.specs.Number.{number_standing}
use Rattle.fidl_table_format.specs.Section.{header_of, entry_at, range_at}
use Rattle.fidl_table_format.specs.Terms.{term_as, declarations_of, underlying, mask_of, strict_values, value_number, values_from, as_number}
use Rattle.fidl_table_format.specs.Uses.{is_unsigned}
use Rattle.fidl_decode_model.specs.declared.fault.DecodeFault.{DecodeFault}
use Rattle.fidl_decode_model.specs.declared.fault.DecodeFault.TheVariants.{BadBool, UnknownBits, UnknownValue}
use Rattle.fidl_decode_model.specs.Breaks.{BreaksField, BreaksRule, Breaks}
use Rattle.fidl_decode_model.specs.Invariants.{IsFine}
use Rattle.fidl_decode_model.specs.State.{Message, Position}
use Rattle.fidl_decode_model.specs.Machine.{StateFine, Visits}
use Rattle.fidl_decode_model.proofs.Visiting.{size_as, visits_bool, visits_bits, visits_enum, visits_free, leaf_breaks}
use Rattle.fidl_verify.proofs.Valued.{values_have, values_only}
use Rattle.fidl_decode_columns.specs.Columns.{has_numbers, IsGoodAt, HasNoSign}

no_true : false ≡ true → ⊥
no_true e = cc

-- a number that is a value is read whole, and without a step
pub good_visits : (t : List ℕ) (fine : IsFine t) (m : Message) (held e place : ℕ) (s : Position) → e < (header_of t).entries → StateFine m s → held ≤ MAX_DEPTH → (k : EntryKind) → kind_of (entry_at t e).kind ≡ Some k → has_numbers k ≡ true
    → place + (entry_at t e).size ≤ length m.bytes → ((i : ℕ) → get_or m.bytes i 0 < 256) → IsGoodAt t m.bytes (entry_at t e) k place → Visits t m held e place s s 0 None
good_visits t fine m held e place s lt state deep Boolean is numbers room small good =
    let one : 1 ≡ (entry_at t e).size = size_as t fine e Boolean lt is in
    visits_bool t fine m held e place s lt state deep 0 (omega arith) is (omega (arith, room, one)) good
good_visits t fine m held e place s lt state deep Bits is numbers room small good = visits_bits t fine m held e place s lt state deep is 0 (omega arith) room small good
good_visits t fine m held e place s lt state deep Enum is numbers room small good = visits_enum t fine m held e place s lt state deep is 0 (omega arith) room small good
good_visits t fine m held e place s lt state deep Int8 is numbers room small good = visits_free t fine m held e place s lt state deep Int8 is refl 0 (omega arith) room small
good_visits t fine m held e place s lt state deep Int16 is numbers room small good = visits_free t fine m held e place s lt state deep Int16 is refl 0 (omega arith) room small
good_visits t fine m held e place s lt state deep Int32 is numbers room small good = visits_free t fine m held e place s lt state deep Int32 is refl 0 (omega arith) room small
good_visits t fine m held e place s lt state deep Int64 is numbers room small good = visits_free t fine m held e place s lt state deep Int64 is refl 0 (omega arith) room small
good_visits t fine m held e place s lt state deep Uint8 is numbers room small good = visits_free t fine m held e place s lt state deep Uint8 is refl 0 (omega arith) room small
good_visits t fine m held e place s lt state deep Uint16 is numbers room small good = visits_free t fine m held e place s lt state deep Uint16 is refl 0 (omega arith) room small
good_visits t fine m held e place s lt state deep Uint32 is numbers room small good = visits_free t fine m held e place s lt state deep Uint32 is refl 0 (omega arith) room small
good_visits t fine m held e place s lt state deep Uint64 is numbers room small good = visits_free t fine m held e place s lt state deep Uint64 is refl 0 (omega arith) room small
good_visits t fine m held e place s lt state deep k is numbers room small good = absurd (no_true numbers)

-- a number that breaks the rule of its type
field_rule : (t : List ℕ) (m : Message) (held e place next handle : ℕ) (k : EntryKind) → has_numbers k ≡ true → (fault : DecodeFault) → BreaksField m (term_as k t (header_of t) (entry_at t e)) place fault
    → BreaksRule (declarations_of t) m held (term_as k t (header_of t) (entry_at t e)) place next handle fault
field_rule t m held e place next handle Boolean numbers fault b = b
field_rule t m held e place next handle Bits numbers fault b = b
field_rule t m held e place next handle Enum numbers fault b = b
field_rule t m held e place next handle Int8 numbers fault b = b
field_rule t m held e place next handle Int16 numbers fault b = b
field_rule t m held e place next handle Int32 numbers fault b = b
field_rule t m held e place next handle Int64 numbers fault b = b
field_rule t m held e place next handle Uint8 numbers fault b = b
field_rule t m held e place next handle Uint16 numbers fault b = b
field_rule t m held e place next handle Uint32 numbers fault b = b
field_rule t m held e place next handle Uint64 numbers fault b = b
field_rule t m held e place next handle k numbers fault b = absurd (no_true numbers)

pub bad_breaks : (t : List ℕ) (fine : IsFine t) (m : Message) (held e place : ℕ) (s : Position) → e < (header_of t).entries → StateFine m s → held ≤ MAX_DEPTH → (k : EntryKind) → kind_of (entry_at t e).kind ≡ Some k → has_numbers k ≡ true → (fault : DecodeFault)
    → BreaksField m (term_as k t (header_of t) (entry_at t e)) place fault → Breaks (declarations_of t) m held (resolve (declarations_of t).terms (ty.named e)) place s fault
bad_breaks t fine m held e place s lt state deep k is numbers fault b = leaf_breaks t fine m held e place s lt state deep k is fault (field_rule t m held e place s.next s.handle k numbers fault b)

-- a number that is no value, with the fault of its kind
pub bits_fail : (m : Message) (kind : ty.Kind) (o : Option ℕ) (place : ℕ) → ¬ (IfSome o (λ mask. InMask mask (number_standing kind m.bytes place))) → BreaksField m (ty.bits kind o) place (UnknownBits place)
bits_fail m kind None place not = absurd (not tt)
bits_fail m kind (Some mask) place not = (refl, not)

pub enum_fails : (m : Message) (kind : ty.Kind) (o : Option (List ℤ)) (place : ℕ) → ¬ (IfSome o (λ values. Contains values (number_standing kind m.bytes place))) → BreaksField m (ty.enum kind o) place (UnknownValue place)
enum_fails m kind None place not = absurd (not tt)
enum_fails m kind (Some values) place not = (refl, not)

pub bool_fails : (m : Message) (place : ℕ) → ¬ (get_or m.bytes place 0 ≤ 1) → BreaksField m ty.bool place (BadBool place)
bool_fails m place not = elim (cases_lt 1 (get_or m.bytes place 0)) [ inl over ↦ (refl, over) | inr le ↦ absurd (not le) ]

pub number_fails : (t : List ℕ) (m : Message) (e place : ℕ) (k : EntryKind) (fault : DecodeFault) → (k ≡ Boolean → fault ≡ BadBool place) → (k ≡ Bits → fault ≡ UnknownBits place) → (k ≡ Enum → fault ≡ UnknownValue place) → ¬ (IsGoodAt t m.bytes (entry_at t e) k place)
    → BreaksField m (term_as k t (header_of t) (entry_at t e)) place fault
number_fails t m e place Boolean fault b i n not = subst (λ (f : DecodeFault). BreaksField m ty.bool place f) (sym (b refl)) (bool_fails m place not)
number_fails t m e place Bits fault b i n not = let d = entry_at t e in subst (λ (f : DecodeFault). BreaksField m (ty.bits (underlying d) (mask_of d)) place f) (sym (i refl)) (bits_fail m (underlying d) (mask_of d) place not)
number_fails t m e place Enum fault b i n not =
    let d = entry_at t e in subst (λ (f : DecodeFault). BreaksField m (ty.enum (underlying d) (strict_values t (header_of t) d)) place f) (sym (n refl)) (enum_fails m (underlying d) (strict_values t (header_of t) d) place not)
number_fails t m e place k fault b i n not = absurd (not tt)

-- numbers of a type without a sign are what their bits are
pub no_sign : (o : Option EntryKind) → option_map_or is_unsigned o false ≡ true → HasNoSign (option_map_or as_number o ty.uint8)
no_sign None is n = refl
no_sign (Some Uint8) is n = refl
no_sign (Some Uint16) is n = refl
no_sign (Some Uint32) is n = refl
no_sign (Some Uint64) is n = refl
no_sign (Some k) is n = absurd (no_true is)

-- all bits set are no number of a type with a sign
pub negative : (n : ℕ) → negsuc 0 ≡ pos n → ⊥
negative n e = cc

-- a kind without a sign that is none of the wider ones is read as uint8
pub as_uint8 : (k : EntryKind) → HasNoSign (as_number k) → (k ≡ Uint16 → ⊥) → (k ≡ Uint32 → ⊥) → (k ≡ Uint64 → ⊥) → as_number k ≡ ty.uint8
as_uint8 Int8 h a b c = absurd (negative 18446744073709551615 (h 18446744073709551615))
as_uint8 Int16 h a b c = absurd (negative 18446744073709551615 (h 18446744073709551615))
as_uint8 Int32 h a b c = absurd (negative 18446744073709551615 (h 18446744073709551615))
as_uint8 Int64 h a b c = absurd (negative 18446744073709551615 (h 18446744073709551615))
as_uint8 Uint16 h a b c = absurd (a refl)
as_uint8 Uint32 h a b c = absurd (b refl)
as_uint8 Uint64 h a b c = absurd (c refl)
as_uint8 k h a b c = refl

-- the bytes of bits and enums are as many as their entry states
pub bits_size : (t : List ℕ) (fine : IsFine t) (e : ℕ) → e < (header_of t).entries → kind_of (entry_at t e).kind ≡ Some Bits → byte_len (width (underlying (entry_at t e))) ≡ (entry_at t e).size
bits_size t fine e lt is = size_as t fine e Bits lt is

pub enum_size : (t : List ℕ) (fine : IsFine t) (e : ℕ) → e < (header_of t).entries → kind_of (entry_at t e).kind ≡ Some Enum → byte_len (width (underlying (entry_at t e))) ≡ (entry_at t e).size
enum_size t fine e lt is = size_as t fine e Enum lt is

pub bool_size : (t : List ℕ) (fine : IsFine t) (e : ℕ) → e < (header_of t).entries → kind_of (entry_at t e).kind ≡ Some Boolean → 1 ≡ (entry_at t e).size
bool_size t fine e lt is = size_as t fine e Boolean lt is

-- the values of an enum of one range are those between its ends
module _ (t : List ℕ) (h : Header) (kind : ty.Kind) (z : ℤ) (first n : ℕ) (one : n ≡ 1) where
  abbrev Holds : ℕ → Type 0
  Holds i = (value_number kind (range_at t h i).lowest ≤ℤ z) × (z ≤ℤ value_number kind (range_at t h i).highest)

  pub one_range_has : Holds first → Contains (values_from t h kind first n) z
  one_range_has holds = let here : first ≡ first + 0 = omega arith in values_have t h kind z first n 0 (omega (arith, one)) (subst Holds here holds)

  pub one_range_only : Contains (values_from t h kind first n) z → Holds first
  one_range_only y =
      let of = values_only t h kind z first n y in
      let lt = of.1 in
      let here : first + of.0 ≡ first = omega (arith, lt, one) in
      subst Holds here of.2

pub no_kind : (o : Option EntryKind) (k : EntryKind) → o ≡ None → o ≡ Some k → ⊥
no_kind o k none some = cc
