-- What is read of a message with links is what came, where the links that a decoded message notes do not stand.
use Rattle.std.proofs.Common.{◌≡◌, ℕ, ◌+◌, ◌/◌, ◌<◌, ◌≤◌, Bool, true, false, List, length, slice_index, inl, inr, refl, sym, ap, subst, ◌∙◌, arith}
use Rattle.std.specs.Prelude.{◌↔◌, IsTrue, IsFalse, Option, Some, None, pos, replicate}
use Rattle.std.specs.Int.{Width, byte_len, from_le_bytes, w8, w16, w32, w64, cast_signed}
use Rattle.fidl_wire.specs.Value.{Value}
use Rattle.fidl_wire.specs.Term.{Term, Kind, width, int8, int16, int32, int64, uint8, uint16, uint32, uint64}
use Rattle.fidl_wire.specs.Term as ty
use Rattle.fidl_wire.specs.Figure.{Declarations}
use Rattle.fidl_wire.specs.Typed.{IsTyped}
use Rattle.fidl_wire.specs.Encoding.{zeros}
use Rattle.fidl_wire.specs.Field.{number_at}
use Rattle.fidl_wire.specs.Standing.{Stands}
use Rattle.fidl_links.specs.Links.{Written, IsFree, AreFree, IsFreeWord}
use Rattle.fidl_links.proofs.Free.{agreed_part}
use Rattle.fidl_table_format.specs.Number.{number_standing}
use Rattle.fidl_decode_model.specs.Links.{Linked, noted}
use Rattle.fidl_decode_model.specs.State.{Message}
use Rattle.fidl_decode_model.specs.Placed.{object_at}
use Rattle.fidl_decode_model.specs.Readable.{Readable, IsUnlinked, AreUnlinked}
use Rattle.fidl_decode_model.proofs.Scalars.{numeric_number, numeric_bits, numeric_enum}
use Rattle.fidl_view.specs.Numbers.{unsigned_in, signed_in, unsigned_at, signed_at}
use Rattle.fidl_view.specs.Parts.{absence_of, numbers_of}
use Rattle.fidl_view.proofs.Content.{Marked, HandleThere, IsUnlinkedWord}

sized : (l : Linked) (place : ℕ) (a b : Kind) → Some a ≡ Some b → AreUnlinked l place (place + byte_len (width a)) → AreUnlinked l place (place + byte_len (width b))
sized l place a b e x = let same : a ≡ b = cc in subst (λ (k : Kind). AreUnlinked l place (place + byte_len (width k))) same x

-- no link stands over a value of a type of numbers
pub number_free : (ds : Declarations) (l : Linked) (t : Term) (place : ℕ) (kind : Kind) → numbers_of t ≡ Some kind → (v : Value) → IsTyped ds t v → Readable ds l t place v → AreUnlinked l place (place + byte_len (width kind))
number_free ds l (ty.number own) place kind is v h r = sized l place own kind is (subst (λ (u : Value). Readable ds l (ty.number own) place u) ((numeric_number ds own).only v h).1 r)
number_free ds l (ty.bits own mask) place kind is v h r = sized l place own kind is (subst (λ (u : Value). Readable ds l (ty.bits own mask) place u) ((numeric_bits ds own mask).only v h).1 r)
number_free ds l (ty.enum own values) place kind is v h r = sized l place own kind is (subst (λ (u : Value). Readable ds l (ty.enum own values) place u) ((numeric_enum ds own values).only v h).1 r)
number_free ds l _ place kind is v h r = cc

-- ---- a message with links that has the bytes and the links of a decoded one

module _ (w : Written) (bytes : List ℕ) (l : Linked) (came : w.came ≡ bytes) (same : noted w ≡ l) where
  pub free : (from to : ℕ) → AreUnlinked l from to → AreFree w from to
  free from to h = subst (λ (k : Linked). AreUnlinked k from to) (sym same) h

  pub linked : (q : ℕ) → 0 < object_at l q → 0 < slice_index w.objects (q / 8)
  linked q h = subst (λ (k : Linked). 0 < object_at k q) (sym same) h

  pub recorded : (q : ℕ) → 0 < slice_index l.records (q / 4) → 0 < slice_index w.records (q / 4)
  recorded q h = subst (λ (k : Linked). 0 < slice_index k.records (q / 4)) (sym same) h

  pub stands : (q : ℕ) (a : List ℕ) → Stands bytes q a → Stands w.came q a
  stands q a h = subst (λ (b : List ℕ). Stands b q a) (sym came) h

  pub stood : (q : ℕ) (a : List ℕ) → Stands w.came q a → Stands bytes q a
  stood q a h = subst (λ (b : List ℕ). Stands b q a) came h

  pub blank_word : (q : ℕ) → IsUnlinkedWord l q → IsFreeWord w q
  blank_word q h = subst (λ (k : Linked). IsUnlinkedWord k q) (sym same) h

  pub word_blank : (q : ℕ) → IsFreeWord w q → IsUnlinkedWord l q
  word_blank q h = subst (λ (k : Linked). IsUnlinkedWord k q) same h

  -- whether a marker is blank says whether the value is absent
  pub blank_says : (ds : Declarations) (m : Message) (place : ℕ) → m.bytes ≡ bytes → (q : ℕ) (v : Value) (r : Bool) → Marked ds m l place q v → (IsTrue r ↔ IsFreeWord w q × Stands w.came q (zeros 8)) → r ≡ absence_of v
  blank_says ds m place own q v r x e = elim x.says [
    | inl a ↦ e.1 (blank_word q a.1, stands q (zeros 8) (subst (λ (b : List ℕ). Stands b q (zeros 8)) own a.2)) ∙ a.0
    | inr p ↦ not_true r (λ t. let some = p.1 in let none = (word_blank q (e.0 t).0).0.0 in omega (arith, some, none)) ∙ p.0
  ]
    where
      not_true : (r : Bool) → (r ≡ true → ⊥) → r ≡ false
      not_true true other = absurd (other refl)
      not_true false other = refl

  -- so does a handle
  pub blank_handle_says : (ds : Declarations) (m : Message) (place : ℕ) → m.bytes ≡ bytes → (v : Value) (r : Bool) → HandleThere ds m l place v → (IsFree w place → Stands w.came place (zeros 4) → IsTrue r)
      → (Stands w.came place (replicate 4 255) → 0 < slice_index w.records (place / 4) → IsFalse r) → r ≡ absence_of v
  blank_handle_says ds m place own v r x absent there = elim x.says [
    | inl a ↦ absent (subst (λ (k : Linked). IsUnlinked k place) (sym same) a.1) (stands place (zeros 4) (subst (λ (b : List ℕ). Stands b place (zeros 4)) own a.2)) ∙ a.0
    | inr p ↦ there (stands place (replicate 4 255) (subst (λ (b : List ℕ). Stands b place (replicate 4 255)) own p.2)) (recorded place p.1) ∙ p.0
  ]

  -- a number over which no link stands is the one that came
  module _ (raw : List ℕ) (long : length raw ≡ length w.came) (agree : (k : ℕ) → k < length w.came → IsFree w k → slice_index raw k ≡ slice_index w.came k) where
    number_same : (width : Width) (place : ℕ) → place + byte_len width ≤ length bytes → AreUnlinked l place (place + byte_len width) → number_at width raw place ≡ number_at width bytes place
    number_same width place room none =
        let all = ap length came in
        ap (λ b. from_le_bytes width b) (agreed_part w raw long agree place (place + byte_len width) (omega (arith, room, all)) (free place (place + byte_len width) none)) ∙ ap (λ (b : List ℕ). number_at width b place) came

    pub byte_same : (place : ℕ) → place + 1 ≤ length bytes → AreUnlinked l place (place + 1) → slice_index raw place ≡ slice_index bytes place
    byte_same place room none =
        let all = ap length came in
        agree place (omega (arith, room, all)) (free place (place + 1) none place (omega arith) (omega arith)) ∙ ap (λ (b : List ℕ). slice_index b place) came

    pub standing_same : (kind : Kind) (place : ℕ) → place + byte_len (width kind) ≤ length bytes → AreUnlinked l place (place + byte_len (width kind)) → number_standing kind raw place ≡ number_standing kind bytes place
    standing_same int8 place room none = ap (λ n. cast_signed w8 n) (byte_same place room none)
    standing_same int16 place room none = ap (λ n. cast_signed w16 n) (number_same w16 place room none)
    standing_same int32 place room none = ap (λ n. cast_signed w32 n) (number_same w32 place room none)
    standing_same int64 place room none = ap (λ n. cast_signed w64 n) (number_same w64 place room none)
    standing_same uint8 place room none = ap (λ n. pos n) (byte_same place room none)
    standing_same uint16 place room none = ap (λ n. pos n) (number_same w16 place room none)
    standing_same uint32 place room none = ap (λ n. pos n) (number_same w32 place room none)
    standing_same uint64 place room none = ap (λ n. pos n) (number_same w64 place room none)

    pub unsigned_same : (o : Option Kind) (place : ℕ) → ((kind : Kind) → o ≡ Some kind → place + byte_len (width kind) ≤ length bytes) → ((kind : Kind) → o ≡ Some kind → AreUnlinked l place (place + byte_len (width kind)))
        → unsigned_at o raw place ≡ unsigned_at o bytes place
    unsigned_same None place room none = refl
    unsigned_same (Some kind) place room none = ap (λ z. unsigned_in kind z) (standing_same kind place (room kind refl) (none kind refl))

    pub signed_same : (o : Option Kind) (place : ℕ) → ((kind : Kind) → o ≡ Some kind → place + byte_len (width kind) ≤ length bytes) → ((kind : Kind) → o ≡ Some kind → AreUnlinked l place (place + byte_len (width kind)))
        → signed_at o raw place ≡ signed_at o bytes place
    signed_same None place room none = refl
    signed_same (Some kind) place room none = ap (λ z. signed_in kind z) (standing_same kind place (room kind refl) (none kind refl))
