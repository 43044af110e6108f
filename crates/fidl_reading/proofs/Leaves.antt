-- Values in which there is no other value.
use Rattle.std.proofs.Common.{◌≡◌, ◌≢◌, ◌^◌, ◌⊎◌, inl, inr, List, ◌∷◌, ℕ, ℤ, pos, Bool, Option, refl, sym, subst, ◌∙◌}
use Rattle.fidl_wire.specs.declared.handle.HandleInfo.{HandleInfo}
use Rattle.fidl_wire.specs.Value.{Value, absent, number, text, handle}
use Rattle.fidl_wire.specs.Term.{Kind, Term, uint32, uint64}
use Rattle.fidl_wire.specs.Term as ty
use Rattle.fidl_wire.specs.Figure.{Declarations}
use Rattle.fidl_table_format.specs.declared.record.Entry.{Entry}
use Rattle.fidl_table_format.specs.declared.record.Header.{Header}
use Rattle.fidl_table_format.specs.declared.kind.EntryKind.{EntryKind}
use Rattle.fidl_table_format.specs.declared.kind.EntryKind.TheVariants.{Bool as Boolean, Int8, Int16, Int32, Int64, Uint8, Uint16, Uint32, Uint64, Bits, Enum, String, Vector, Array, Box, Struct, Table, Union, Handle}
use Rattle.fidl_table_format.specs.Section.{header_of}
use Rattle.fidl_table_format.specs.Terms.{as_number, term_as, underlying, mask_of, strict_values}
use Rattle.fidl_spelling.specs.Words.{Words, IsQuoted}
use Rattle.fidl_spelling.specs.Spells.{One, IsNumberOf, IsNumberBelow, AHandle, Spelled}
use Rattle.fidl_spelling.proofs.Det.{word_head}
use Rattle.fidl_reading.specs.Reads.{StandsNot, IsLeaf}

-- numbers of 64 and of 32 bits
pub no_natural : (ws : Words) → ((z : ℤ) → StandsNot (One (IsNumberOf uint64 z)) ws) → (n : ℕ) → StandsNot (One (IsNumberBelow (2 ^ 64) n)) ws
no_natural ws h n r p = h (pos n) r p

pub no_natural32 : (ws : Words) → ((z : ℤ) → StandsNot (One (IsNumberOf uint32 z)) ws) → (n : ℕ) → StandsNot (One (IsNumberBelow (2 ^ 32) n)) ws
no_natural32 ws h n r p = h (pos n) r p

-- a number as a value
pub no_numeral : (k : Kind) (ws : Words) → ((z : ℤ) → StandsNot (One (IsNumberOf k z)) ws) → (ds : Declarations) (v : Value) → StandsNot (Spelled ds (ty.number k) v) ws
no_numeral k ws h ds (number z) r p = h z r p
no_numeral k ws h ds absent r p = p
no_numeral k ws h ds _ r p = p

-- a string whose word is no text between quotes
pub no_string : (word : List ℕ) (ws rest : Words) → ws ≡ word ∷ rest → ((bytes : List ℕ) → ¬ (IsQuoted word bytes)) → (ds : Declarations) (o : Bool) (n : ℕ) (v : Value) → v ≢ absent → StandsNot (Spelled ds (ty.string o n) v) ws
no_string word ws rest e h ds o n (text bytes) a r p = h bytes (subst (λ w. IsQuoted w bytes) (word_head p.0 word r rest (sym p.2 ∙ e)) p.1)
no_string word ws rest e h ds o n absent a r p = absurd (a refl)
no_string word ws rest e h ds o n _ a r p = p

-- a handle
pub no_handle : (ws : Words) → ((h : HandleInfo) → StandsNot (AHandle h) ws) → (ds : Declarations) (o : Bool) (s g : ℕ) (v : Value) → v ≢ absent → StandsNot (Spelled ds (ty.handle o s g) v) ws
no_handle ws none ds o s g (handle h) a r p = none h r p
no_handle ws none ds o s g absent a r p = absurd (a refl)
no_handle ws none ds o s g _ a r p = p

-- bits and enums are spelled as their numbers are
module _ (ds : Declarations) (k : Kind) (ws r : Words) where
  pub as_bits : (m : Option ℕ) (v : Value) → Spelled ds (ty.number k) v ws r → Spelled ds (ty.bits k m) v ws r
  as_bits m (number z) p = p
  as_bits m absent p = p
  as_bits m _ p = absurd p

  pub of_bits : (m : Option ℕ) (v : Value) → Spelled ds (ty.bits k m) v ws r → Spelled ds (ty.number k) v ws r
  of_bits m (number z) p = p
  of_bits m absent p = p
  of_bits m _ p = absurd p

  pub as_enum : (m : Option (List ℤ)) (v : Value) → Spelled ds (ty.number k) v ws r → Spelled ds (ty.enum k m) v ws r
  as_enum m (number z) p = p
  as_enum m absent p = p
  as_enum m _ p = absurd p

  pub of_enum : (m : Option (List ℤ)) (v : Value) → Spelled ds (ty.enum k m) v ws r → Spelled ds (ty.number k) v ws r
  of_enum m (number z) p = p
  of_enum m absent p = p
  of_enum m _ p = absurd p

-- a leaf that is none of the others is a number
pub number_leaf : (b : List ℕ) (h : Header) (e : Entry) (k : EntryKind) → IsLeaf k → (k ≡ Boolean → ⊥) → (k ≡ Bits → ⊥) → (k ≡ Enum → ⊥) → (k ≡ String → ⊥) → (k ≡ Handle → ⊥) → term_as k b h e ≡ ty.number (as_number k)
number_leaf b h e Boolean l o p q r s = absurd (o refl)
number_leaf b h e Bits l o p q r s = absurd (p refl)
number_leaf b h e Enum l o p q r s = absurd (q refl)
number_leaf b h e String l o p q r s = absurd (r refl)
number_leaf b h e Handle l o p q r s = absurd (s refl)
number_leaf b h e Vector l o p q r s = absurd l
number_leaf b h e Array l o p q r s = absurd l
number_leaf b h e Box l o p q r s = absurd l
number_leaf b h e Struct l o p q r s = absurd l
number_leaf b h e Table l o p q r s = absurd l
number_leaf b h e Union l o p q r s = absurd l
number_leaf b h e Int8 l o p q r s = refl
number_leaf b h e Int16 l o p q r s = refl
number_leaf b h e Int32 l o p q r s = refl
number_leaf b h e Int64 l o p q r s = refl
number_leaf b h e Uint8 l o p q r s = refl
number_leaf b h e Uint16 l o p q r s = refl
number_leaf b h e Uint32 l o p q r s = refl
number_leaf b h e Uint64 l o p q r s = refl

-- by the entry that declares them
module _ (k : EntryKind) (e : Entry) (n : Kind) (same : n ≡ underlying e) (is : (k ≡ Bits) ⊎ (k ≡ Enum)) (ds : Declarations) (b : List ℕ) (v : Value) (ws r : Words) where
  pub masked : Spelled ds (ty.number n) v ws r → Spelled ds (term_as k b (header_of b) e) v ws r
  masked p =
      let q = subst (λ m. Spelled ds (ty.number m) v ws r) same p in
      elim is [
        | inl x ↦ subst (λ j. Spelled ds (term_as j b (header_of b) e) v ws r) (sym x) (as_bits ds (underlying e) ws r (mask_of e) v q)
        | inr x ↦ subst (λ j. Spelled ds (term_as j b (header_of b) e) v ws r) (sym x) (as_enum ds (underlying e) ws r (strict_values b (header_of b) e) v q)
      ]

  pub unmasked : Spelled ds (term_as k b (header_of b) e) v ws r → Spelled ds (ty.number n) v ws r
  unmasked p =
      let q : Spelled ds (ty.number (underlying e)) v ws r = elim is [
        | inl x ↦ of_bits ds (underlying e) ws r (mask_of e) v (subst (λ j. Spelled ds (term_as j b (header_of b) e) v ws r) x p)
        | inr x ↦ of_enum ds (underlying e) ws r (strict_values b (header_of b) e) v (subst (λ j. Spelled ds (term_as j b (header_of b) e) v ws r) x p)
      ] in
      subst (λ m. Spelled ds (ty.number m) v ws r) (sym same) q
