-- Records and names behind the values: the same bytes at other places.
use Rattle.std.proofs.Common.{◌≡◌, ℕ, ◌+◌, ◌*◌, ◌-◌, List, take, drop, refl, sym, ap, ◌∙◌, arith}
use Rattle.std.proofs.lemmas.List.{drop-drop}
use Rattle.std.specs.Prelude.{slice_range}
use Rattle.std.specs.Int.{Width, w32, w64, byte_len, from_le_bytes}
use Rattle.fidl_wire.specs.Field.{number_at}
use Rattle.fidl_table_format.specs.declared.record.Header.{Header}
use Rattle.fidl_table_format.specs.declared.record.Root.{Root}
use Rattle.fidl_table_format.specs.declared.record.ProtocolRecord.{ProtocolRecord}
use Rattle.fidl_table_format.specs.declared.record.MethodRecord.{MethodRecord}
use Rattle.fidl_table_format.specs.Section.{header_of, value_place, root_at, protocol_at, method_at, name_at}
use Rattle.fidl_migrate.specs.Kept.{HasCounts, KeepsRest}

-- the records at a place
abbrev root_from : List ℕ → ℕ → Root
root_from bytes place = record {
  name_place = number_at w32 bytes place;
  name_length = number_at w32 bytes (place + 4);
  entry = number_at w32 bytes (place + 8);
}

abbrev protocol_from : List ℕ → ℕ → ProtocolRecord
protocol_from bytes place = record {
  name_place = number_at w32 bytes place;
  name_length = number_at w32 bytes (place + 4);
  openness = number_at w32 bytes (place + 8);
  methods = number_at w32 bytes (place + 12);
}

abbrev method_from : List ℕ → ℕ → MethodRecord
method_from bytes place = record {
  ordinal = number_at w64 bytes place;
  name_place = number_at w32 bytes (place + 8);
  name_length = number_at w32 bytes (place + 12);
  flags = number_at w32 bytes (place + 16);
  request = number_at w32 bytes (place + 20);
  response = number_at w32 bytes (place + 24);
  reserved = number_at w32 bytes (place + 28);
}

-- where the bytes from one place on are those from another on
module _ (old new : List ℕ) (p q : ℕ) (rest : drop p new ≡ drop q old) where
  moved_bytes : (a b k n : ℕ) → a ≡ p + k → b ≡ q + k → slice_range new a (a + n) ≡ slice_range old b (b + n)
  moved_bytes a b k n x y =
      let here : (a + n) - a ≡ n = omega arith in
      let there : (b + n) - b ≡ n = omega arith in
      let behind : drop a new ≡ drop b old = ap (λ i. drop i new) x ∙ sym (drop-drop k p new) ∙ ap (drop k) rest ∙ drop-drop k q old ∙ ap (λ i. drop i old) (sym y) in
      ap (λ m. take m (drop a new)) here ∙ ap (take n) behind ∙ ap (λ m. take m (drop b old)) (sym there)

  moved_number : (w : Width) (c a b k : ℕ) → a ≡ p + k → b ≡ q + k → number_at w new (a + c) ≡ number_at w old (b + c)
  moved_number w c a b k x y = ap (from_le_bytes w) (moved_bytes (a + c) (b + c) (k + c) (byte_len w) (omega arith) (omega arith))

  first_number : (w : Width) (a b k : ℕ) → a ≡ p + k → b ≡ q + k → number_at w new a ≡ number_at w old b
  first_number w a b k x y = ap (from_le_bytes w) (moved_bytes a b k (byte_len w) x y)

  moved_root : (a b k : ℕ) → a ≡ p + k → b ≡ q + k → root_from new a ≡ root_from old b
  moved_root a b k x y = λ i. record {
    name_place = first_number w32 a b k x y i;
    name_length = moved_number w32 4 a b k x y i;
    entry = moved_number w32 8 a b k x y i;
  }

  moved_protocol : (a b k : ℕ) → a ≡ p + k → b ≡ q + k → protocol_from new a ≡ protocol_from old b
  moved_protocol a b k x y = λ i. record {
    name_place = first_number w32 a b k x y i;
    name_length = moved_number w32 4 a b k x y i;
    openness = moved_number w32 8 a b k x y i;
    methods = moved_number w32 12 a b k x y i;
  }

  moved_method : (a b k : ℕ) → a ≡ p + k → b ≡ q + k → method_from new a ≡ method_from old b
  moved_method a b k x y = λ i. record {
    ordinal = first_number w64 a b k x y i;
    name_place = moved_number w32 8 a b k x y i;
    name_length = moved_number w32 12 a b k x y i;
    flags = moved_number w32 16 a b k x y i;
    request = moved_number w32 20 a b k x y i;
    response = moved_number w32 24 a b k x y i;
    reserved = moved_number w32 28 a b k x y i;
  }

protocol_at_place : (p r s i : ℕ) → r ≡ s → (p + 12 * r) + 16 * i ≡ p + (12 * s + 16 * i)
protocol_at_place p r s i x = omega arith

method_at_place : (p r s t u i : ℕ) → r ≡ s → t ≡ u → ((p + 12 * r) + 16 * t) + 32 * i ≡ p + (12 * s + 16 * u + 32 * i)
method_at_place p r s t u i x y = omega arith

name_at_place : (p r s t u m n i : ℕ) → r ≡ s → t ≡ u → m ≡ n → ((p + 12 * r) + 16 * t) + 32 * m + i ≡ p + (12 * s + 16 * u + 32 * n + i)
name_at_place p r s t u m n i x y z = omega arith

module _ (old new : List ℕ) (counts : HasCounts (header_of old) (header_of new)) (rest : KeepsRest old new) where
  abbrev before : Header
  before = header_of old

  abbrev after : Header
  after = header_of new

  abbrev from_old : ℕ
  from_old = value_place (header_of old) (header_of old).values

  abbrev from_new : ℕ
  from_new = value_place (header_of new) (header_of new).values

  pub same_root : (index : ℕ) → root_at new after index ≡ root_at old before index
  same_root index = moved_root old new from_new from_old rest (from_new + 12 * index) (from_old + 12 * index) (12 * index) refl refl

  pub same_protocol : (index : ℕ) → protocol_at new after index ≡ protocol_at old before index
  same_protocol index = moved_protocol old new from_new from_old rest (from_new + 12 * after.roots + 16 * index) (from_old + 12 * before.roots + 16 * index) (12 * before.roots + 16 * index)
      (protocol_at_place from_new after.roots before.roots index counts.roots) (protocol_at_place from_old before.roots before.roots index refl)

  pub same_method : (index : ℕ) → method_at new after index ≡ method_at old before index
  same_method index = moved_method old new from_new from_old rest (from_new + 12 * after.roots + 16 * after.protocols + 32 * index) (from_old + 12 * before.roots + 16 * before.protocols + 32 * index)
      (12 * before.roots + 16 * before.protocols + 32 * index)
      (method_at_place from_new after.roots before.roots after.protocols before.protocols index counts.roots counts.protocols) (method_at_place from_old before.roots before.roots before.protocols before.protocols index refl refl)

  pub same_text : (place name_length : ℕ) → name_at new after place name_length ≡ name_at old before place name_length
  same_text place name_length = moved_bytes old new from_new from_old rest (from_new + 12 * after.roots + 16 * after.protocols + 32 * after.methods + place) (from_old + 12 * before.roots + 16 * before.protocols + 32 * before.methods + place)
      (12 * before.roots + 16 * before.protocols + 32 * before.methods + place) name_length
      (name_at_place from_new after.roots before.roots after.protocols before.protocols after.methods before.methods place counts.roots counts.protocols counts.methods)
      (name_at_place from_old before.roots before.roots before.protocols before.protocols before.methods before.methods place refl refl refl)
