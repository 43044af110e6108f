-- Absent values, handles and strings, read where they stand, and what no link stands over.
use Rattle.std.proofs.Common.{◌≡◌, ℕ, ◌+◌, ◌-◌, ◌/◌, ◌%◌, ◌<◌, ◌≤◌, ◌⊎◌, true, false, slice_index, replicate, List, [], ◌∷◌, length, Bor, refl, sym, ap, subst, ◌∙◌, arith, inl, inr, zero, suc}
use Rattle.std.specs.Prelude.{Bool, if◌then◌else◌, Option, Some, None, ◌==◌, IsUtf8, slice_get, slice_range}
use Rattle.std.specs.Int.{w64, to_le_bytes}
use Rattle.fidl_limits.specs.declared.limits.TheConstants.{MAX_MESSAGE_BYTES, SAME_RIGHTS}
use Rattle.fidl_wire.specs.declared.handle.HandleInfo.{HandleInfo}
use Rattle.fidl_wire.specs.Value.{Value, absent, text, list, fields, handle, table, union, count}
use Rattle.fidl_wire.specs.Term.{Term, Rows, find}
use Rattle.std.proofs.lemmas.Bool.Decides.{eqb_tells}
use Rattle.std.proofs.lemmas.Bool.{ltb-true, ltb-false}
use Rattle.std.proofs.lemmas.Option.{slice_get_past, slice_get-get_or}
use Rattle.std.specs.Option.{option_copied}
use Rattle.std.specs.Slice.{IsItemAt}
use Rattle.fidl_wire.specs.Term as ty
use Rattle.fidl_wire.specs.Figure.{Declarations}
use Rattle.fidl_wire.specs.Typed.{IsTyped, MayBeAbsent}
use Rattle.fidl_wire.specs.Encoding.{zeros, present, enveloped}
use Rattle.fidl_wire.specs.Standing.{Stands}
use Rattle.fidl_wire.proofs.Stand.{stands_front, stands_back}
use Rattle.fidl_table_format.specs.declared.record.Header.{Header}
use Rattle.fidl_table_format.specs.declared.record.Entry.{Entry}
use Rattle.fidl_table_format.specs.declared.kind.EntryKind.{EntryKind}
use Rattle.fidl_table_format.specs.declared.kind.EntryKind.TheVariants.{Bool as Boolean, Int8, Int16, Int32, Int64, Uint8, Uint16, Uint32, Uint64, Bits, Enum, String, Vector, Array, Box, Struct, Table, Union, Handle}
use Rattle.fidl_table_format.specs.Terms.{term_as}
use Rattle.fidl_wire.specs.Field.{number_at}
use Rattle.fidl_decode_model.specs.Links.{Linked}
use Rattle.fidl_decode_model.specs.State.{Message}
use Rattle.fidl_decode_model.specs.Placed.{Placed, object_at, record_at}
use Rattle.fidl_decode_model.specs.Readable.{Readable, IsUnlinked, AreUnlinked}
use Rattle.fidl_decode_model.proofs.Numbers.{number_64, slice_is}
use Rattle.fidl_view.specs.Parts.{absence_of, handle_of, granted_of, rights_of, string_of, length_of}

-- what stands in a message is no longer than the message
pub stands_short : (m : List ℕ) (p : ℕ) (a : List ℕ) → Stands m p a → length a ≤ length m - p
stands_short m p [] h = omega arith
stands_short m p (x ∷ a) h = let lt = h.0 in omega (arith, lt, stands_short m (p + 1) a h.2)

some_none : (i : HandleInfo) → Some i ≡ None → ⊥
some_none i e = cc

some_same : (i j : HandleInfo) → Some i ≡ Some j → i ≡ j
some_same i j e = cc

positive : (n : ℕ) → 0 < n → (n == 0) ≡ false
positive n h = elim (eqb_tells n 0) [ inl e ↦ absurd (let z = e.1 in omega (arith, z, h)) | inr e ↦ e.0 ]

-- a value is not both there and absent
pub not_both : false ≡ true → ⊥
not_both e = cc

-- what is absent has no text
pub no_text : (v : Value) → true ≡ absence_of v → None ≡ string_of v
no_text absent e = refl
no_text _ e = absurd (not_both (sym e))

-- no link stands over the word at a multiple of 8, in neither half
abbrev pub IsUnlinkedWord : Linked → (q : ℕ) → Type 0
IsUnlinkedWord l q = IsUnlinked l q × IsUnlinked l (q + 4)

pub nonzero : (n : ℕ) → (n ≡ 0 → ⊥) → 0 < n
nonzero zero h = absurd (h refl)
nonzero (suc n) h = omega arith

module _ (ds : Declarations) (m : Message) (l : Linked) (place : ℕ) where
  -- the value is one of the type, stands at the place, and can be read there
  abbrev pub Held : Term → Value → Type 0
  Held t v = IsTyped ds t v × Placed ds m l t place v × Readable ds l t place v

  -- ---- absence

  -- the marker at a place: zeros came where the value is absent, and no link stands there; ones came where it is there, and its link stands there
  pub record Marked (q : ℕ) (v : Value) : Type 0 where
    pub aligned : q % 8 ≡ 0
    pub says : ((true ≡ absence_of v) × IsUnlinkedWord l q × Stands m.bytes q (zeros 8)) ⊎ ((false ≡ absence_of v) × (0 < object_at l q) × Stands m.bytes q present)

  unlinked_word : (q : ℕ) → AreUnlinked l q (q + 8) → IsUnlinkedWord l q
  unlinked_word q h = (h q (omega arith) (omega arith), h (q + 4) (omega arith) (omega arith))

  -- one that is absent, in sixteen bytes
  none_marked : (v : Value) → true ≡ absence_of v → Stands m.bytes place (zeros 16) → AreUnlinked l place (place + 16) → place % 8 ≡ 0 → Marked (place + 8) v
  none_marked v e h free aligned = record {
    aligned = omega (arith, aligned);
    says = inl (e, unlinked_word (place + 8) (λ k from to. free k (omega (arith, from)) (omega (arith, to))), stands_back m.bytes place (zeros 8) (zeros 8) h);
  }

  pub box_marked : (t : Term) (v : Value) → Held (ty.box t) v → Marked place v
  box_marked t absent h = record { aligned = h.2.1; says = inl (refl, unlinked_word place h.2.0, h.1) }
  box_marked t (fields vs) h = record { aligned = h.2.0.0; says = inr (refl, h.2.0.1, h.1.0) }
  box_marked t _ h = absurd h.0

  pub string_marked : (optional : Bool) (bound : ℕ) (v : Value) → Held (ty.string optional bound) v → Marked (place + 8) v
  string_marked optional bound absent h = none_marked absent refl h.1 h.2.0 h.2.1
  string_marked optional bound (text bytes) h = record { aligned = h.2.1.0; says = inr (refl, h.2.1.1, stands_back m.bytes place (to_le_bytes w64 (length bytes)) present h.1.0) }
  string_marked optional bound _ h = absurd h.0

  pub vector_marked : (optional : Bool) (bound : ℕ) (t : Term) (v : Value) → Held (ty.vector optional bound t) v → Marked (place + 8) v
  vector_marked optional bound t absent h = none_marked absent refl h.1 h.2.0 h.2.1
  vector_marked optional bound t (list vs) h = record { aligned = h.2.0.1.0; says = inr (refl, h.2.0.1.1, stands_back m.bytes place (to_le_bytes w64 (count vs)) present h.1.0) }
  vector_marked optional bound t _ h = absurd h.0

  -- the marker of a table, which is never absent
  pub table_marked : (rows : Rows) (v : Value) → Held (ty.table rows) v → Marked (place + 8) v
  table_marked rows (table n ms) h = record { aligned = h.2.1.0; says = inr (refl, h.2.1.1, stands_back m.bytes place (to_le_bytes w64 n) present h.1.0) }
  table_marked rows _ h = absurd h.0

  -- no link stands over a count or an ordinal
  half_free : AreUnlinked l place (place + 16) → AreUnlinked l place (place + 8)
  half_free free k from to = free k from (omega (arith, to))

  pub string_count_free : (optional : Bool) (bound : ℕ) (v : Value) → Held (ty.string optional bound) v → AreUnlinked l place (place + 8)
  string_count_free optional bound absent h = half_free h.2.0
  string_count_free optional bound (text bytes) h = h.2.0
  string_count_free optional bound _ h = absurd h.0

  pub vector_count_free : (optional : Bool) (bound : ℕ) (t : Term) (v : Value) → Held (ty.vector optional bound t) v → AreUnlinked l place (place + 8)
  vector_count_free optional bound t absent h = half_free h.2.0
  vector_count_free optional bound t (list vs) h = h.2.0.0
  vector_count_free optional bound t _ h = absurd h.0

  pub table_count_free : (rows : Rows) (v : Value) → Held (ty.table rows) v → AreUnlinked l place (place + 8)
  table_count_free rows (table n ms) h = h.2.0
  table_count_free rows _ h = absurd h.0

  pub ordinal_free : (optional strict : Bool) (rows : Rows) (v : Value) → Held (ty.union optional strict rows) v → AreUnlinked l place (place + 8)
  ordinal_free optional strict rows absent h = half_free h.2.0
  ordinal_free optional strict rows (union ordinal x) h = h.2.0
  ordinal_free optional strict rows _ h = absurd h.0

  pub union_absence : (optional strict : Bool) (rows : Rows) (v : Value) → Held (ty.union optional strict rows) v → (number_at w64 m.bytes place == 0) ≡ absence_of v
  union_absence optional strict rows absent h = ap (λ n. n == 0) (number_64 m.bytes place 0 (omega arith) (stands_front m.bytes place (zeros 8) (zeros 8) h.1))
  union_absence optional strict rows (union ordinal x) h =
      ap (λ n. n == 0) (number_64 m.bytes place ordinal h.0.1 (stands_front m.bytes place (to_le_bytes w64 ordinal) (enveloped ds (find rows ordinal) x).inline h.1.0)) ∙ positive ordinal h.0.0
  union_absence optional strict rows _ h = absurd h.0

  -- ---- handles and strings

  -- a handle that is absent is four zeros without a link; one that is there came as four ones, and has its link
  pub record HandleThere (v : Value) : Type 0 where
    pub aligned : place % 4 ≡ 0
    pub says : ((true ≡ absence_of v) × IsUnlinked l place × Stands m.bytes place (zeros 4)) ⊎ ((false ≡ absence_of v) × (0 < slice_index l.records (place / 4)) × Stands m.bytes place (replicate 4 255))

  pub handle_there : (optional : Bool) (subtype rights : ℕ) (v : Value) → Held (ty.handle optional subtype rights) v → HandleThere v
  handle_there optional subtype rights absent h = record { aligned = h.2.1; says = inl (refl, h.2.0 place (omega arith) (omega arith), h.1) }
  handle_there optional subtype rights (handle i) h = record { aligned = h.2.0; says = inr (refl, h.2.1, h.1.0) }
  handle_there optional subtype rights _ h = absurd h.0

  -- it is absent, or the record that is linked
  pub handle_found : (optional : Bool) (subtype rights : ℕ) (v : Value) → Held (ty.handle optional subtype rights) v
      → (true ≡ absence_of v → None ≡ handle_of v) × (false ≡ absence_of v → slice_get m.handles (record_at l place) ≡ handle_of v)
  handle_found optional subtype rights absent h = ((λ e. refl), (λ e. absurd (not_both e)))
  handle_found optional subtype rights (handle i) h = ((λ e. absurd (not_both (sym e))), (λ e. h.1.1))
  handle_found optional subtype rights _ h = absurd h.0

  -- a text that is there, of as many bytes as its count says, is UTF-8, and stands where the object is, within the message unless it is empty, and no link stands over it
  pub record TextThere (v : Value) (n from : ℕ) : Type 0 where
    pub long : Some n ≡ length_of v
    pub within : (0 < n → from + n ≤ length m.bytes)
    pub free : AreUnlinked l from (from + n)
    pub is : Some (slice_range m.bytes from (from + n)) ≡ string_of v
    pub utf8 : IsUtf8 (slice_range m.bytes from (from + n))
    pub empty : n ≡ 0 → Some [] ≡ string_of v

  no_bytes : (b : List ℕ) → length b ≡ 0 → [] ≡ b
  no_bytes [] e = refl
  no_bytes (x ∷ b) e = absurd (omega (arith, e))

  within_message : (p : ℕ) (a : List ℕ) → Stands m.bytes p a → 0 < length a → p + length a ≤ length m.bytes
  within_message p a h some = let le = stands_short m.bytes p a h in omega (arith, le, some)

  pub text_found : length m.bytes ≤ MAX_MESSAGE_BYTES → (optional : Bool) (bound : ℕ) (v : Value) → false ≡ absence_of v → Held (ty.string optional bound) v
      → TextThere v (number_at w64 m.bytes place) (object_at l (place + 8))
  text_found short optional bound absent there h = absurd (not_both there)
  text_found short optional bound (text bytes) there h =
      let from = object_at l (place + 8) in
      let le = stands_short m.bytes from bytes h.1.1 in
      let counted : number_at w64 m.bytes place ≡ length bytes = number_64 m.bytes place (length bytes) (omega (arith, le, short)) (stands_front m.bytes place (to_le_bytes w64 (length bytes)) present h.1.0) in
      let own : slice_range m.bytes from (from + length bytes) ≡ bytes = slice_is m.bytes from (length bytes) bytes refl h.1.1 in
      let same : slice_range m.bytes from (from + number_at w64 m.bytes place) ≡ bytes = ap (λ n. slice_range m.bytes from (from + n)) counted ∙ own in
      record {
        long = ap (λ n. Some n) counted;
        within = λ lt. (let room = within_message from bytes h.1.1 (omega (arith, lt, counted)) in omega (arith, room, counted));
        free = subst (λ n. AreUnlinked l from (from + n)) (sym counted) h.2.2;
        is = ap (λ (b : List ℕ). Some b) same;
        utf8 = subst (λ (b : List ℕ). IsUtf8 b) (sym same) h.0.0;
        empty = λ e. ap (λ (b : List ℕ). Some b) (no_bytes bytes (sym counted ∙ e));
      }
  text_found short optional bound _ there h = absurd h.0

-- ---- values of other types

module _ (ds : Declarations) (t : List ℕ) (h : Header) (d : Entry) where
  -- of other types nothing is absent
  pub no_absence : (k : EntryKind) → (k ≡ Box → ⊥) → (k ≡ Handle → ⊥) → (k ≡ String → ⊥) → (k ≡ Vector → ⊥) → (k ≡ Union → ⊥) → (v : Value) → IsTyped ds (term_as k t h d) v → false ≡ absence_of v
  no_absence k b a s w u absent x = absurd (none k b a s w u x)
    where
      none : (k : EntryKind) → (k ≡ Box → ⊥) → (k ≡ Handle → ⊥) → (k ≡ String → ⊥) → (k ≡ Vector → ⊥) → (k ≡ Union → ⊥) → MayBeAbsent (term_as k t h d) → ⊥
      none Box b a s w u x = b refl
      none Handle b a s w u x = a refl
      none String b a s w u x = s refl
      none Vector b a s w u x = w refl
      none Union b a s w u x = u refl
      none Boolean b a s w u x = x
      none Int8 b a s w u x = x
      none Int16 b a s w u x = x
      none Int32 b a s w u x = x
      none Int64 b a s w u x = x
      none Uint8 b a s w u x = x
      none Uint16 b a s w u x = x
      none Uint32 b a s w u x = x
      none Uint64 b a s w u x = x
      none Bits b a s w u x = x
      none Enum b a s w u x = x
      none Array b a s w u x = x
      none Struct b a s w u x = x
      none Table b a s w u x = x
  no_absence k b a s w u _ x = refl

  pub no_handle : (k : EntryKind) → (k ≡ Handle → ⊥) → (v : Value) → IsTyped ds (term_as k t h d) v → None ≡ handle_of v
  no_handle k other (handle i) x = absurd (none k other x)
    where
      none : (k : EntryKind) → (k ≡ Handle → ⊥) → IsTyped ds (term_as k t h d) (handle i) → ⊥
      none Handle other x = other refl
      none Boolean other x = x
      none Int8 other x = x
      none Int16 other x = x
      none Int32 other x = x
      none Int64 other x = x
      none Uint8 other x = x
      none Uint16 other x = x
      none Uint32 other x = x
      none Uint64 other x = x
      none Bits other x = x
      none Enum other x = x
      none String other x = x
      none Vector other x = x
      none Array other x = x
      none Box other x = x
      none Struct other x = x
      none Table other x = x
      none Union other x = x
  no_handle k other _ x = refl

  pub no_string : (k : EntryKind) → (k ≡ String → ⊥) → (v : Value) → IsTyped ds (term_as k t h d) v → None ≡ string_of v
  no_string k other (text bytes) x = absurd (none k other x)
    where
      none : (k : EntryKind) → (k ≡ String → ⊥) → IsTyped ds (term_as k t h d) (text bytes) → ⊥
      none String other x = other refl
      none Boolean other x = x
      none Int8 other x = x
      none Int16 other x = x
      none Int32 other x = x
      none Int64 other x = x
      none Uint8 other x = x
      none Uint16 other x = x
      none Uint32 other x = x
      none Uint64 other x = x
      none Bits other x = x
      none Enum other x = x
      none Vector other x = x
      none Array other x = x
      none Box other x = x
      none Struct other x = x
      none Table other x = x
      none Union other x = x
      none Handle other x = x
  no_string k other _ x = refl

  -- what a handle is granted, and that nothing else is
  pub granted_is : (k : EntryKind) (v : Value) → IsTyped ds (term_as k t h d) v → (i : HandleInfo) → Some i ≡ handle_of v → Some (rights_of d.rights i) ≡ granted_of (term_as k t h d) v
  granted_is k (handle j) x i e = of k x (some_same i j e)
    where
      of : (k : EntryKind) → IsTyped ds (term_as k t h d) (handle j) → i ≡ j → Some (rights_of d.rights i) ≡ granted_of (term_as k t h d) (handle j)
      of Handle x e = ap (λ (i : HandleInfo). Some (rights_of d.rights i)) e
      of Boolean x e = absurd x
      of Int8 x e = absurd x
      of Int16 x e = absurd x
      of Int32 x e = absurd x
      of Int64 x e = absurd x
      of Uint8 x e = absurd x
      of Uint16 x e = absurd x
      of Uint32 x e = absurd x
      of Uint64 x e = absurd x
      of Bits x e = absurd x
      of Enum x e = absurd x
      of String x e = absurd x
      of Vector x e = absurd x
      of Array x e = absurd x
      of Box x e = absurd x
      of Struct x e = absurd x
      of Table x e = absurd x
      of Union x e = absurd x
  granted_is k _ x i e = absurd (some_none i e)

pub no_granted : (t : Term) (v : Value) → None ≡ handle_of v → None ≡ granted_of t v
no_granted (ty.handle optional subtype rights) (handle i) e = absurd (some_none i (sym e))
no_granted _ _ e = refl

-- what is granted, by whether the same rights are required
pub rights_same : (required : ℕ) (i : HandleInfo) → required ≡ SAME_RIGHTS → i.rights ≡ rights_of required i
rights_same required i e =
    elim (eqb_tells required SAME_RIGHTS) [
      | inl same ↦ ap (λ (b : Bool). if b then i.rights else required) (sym same.0)
      | inr other ↦ absurd (other.1 e)
    ]

pub rights_other : (required : ℕ) (i : HandleInfo) → (required ≡ SAME_RIGHTS → ⊥) → required ≡ rights_of required i
rights_other required i e =
    elim (eqb_tells required SAME_RIGHTS) [
      | inl same ↦ absurd (e same.1)
      | inr other ↦ ap (λ (b : Bool). if b then i.rights else required) (sym other.0)
    ]

-- what is lent from a slice is the element there
pub lent_item : (xs : List HandleInfo) (n : ℕ) (r : Option (Bor HandleInfo)) → IsItemAt xs n r → option_copied r ≡ slice_get xs n
lent_item xs n None h = sym (slice_get_past xs n (ltb-false n (length xs) (sym h.0)))
lent_item xs n (Some x) h =
    let lt = ltb-true n (length xs) (sym h.0) in
    ap (λ (y : HandleInfo). Some y) h.1 ∙ sym (slice_get-get_or xs n x.now lt)
