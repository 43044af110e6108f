-- The elements of arrays and vectors, as the parts that show them.
use Rattle.std.proofs.Common.{◌≡◌, ℕ, true, false, zero, suc, ◌+◌, ◌-◌, ◌*◌, ◌^◌, ◌<◌, ◌≤◌, ◌%◌, List, [], ◌∷◌, length, refl, sym, ap, subst, ◌∙◌, arith, suc-mul, mul_comm, mul-suc, pos, negsuc, length-append, inl, inr}
use Rattle.std.specs.Prelude.{Bool, Some, None, take, drop, slice_range}
use Rattle.std.specs.Int.{w64, to_le_bytes}
use Rattle.std.proofs.Math.Nat.{mul-le-mul_right}
use Rattle.std.proofs.lemmas.Bool.{cases_lt}
use Rattle.fidl_wire.specs.Value.{Value, Values, absent, number, text, list, table, Members, none, value, count}
use Rattle.fidl_wire.specs.Term.{Term, resolve, uint8}
use Rattle.fidl_wire.specs.Term as ty
use Rattle.fidl_wire.specs.Figure.{Figure, Declarations, size_of}
use Rattle.fidl_wire.specs.Typed.{IsTyped, AllTyped}
use Rattle.fidl_wire.specs.Encoding as encoding
use Rattle.fidl_wire.specs.Encoding.{encoding_of, present, zeros}
use Rattle.fidl_wire.specs.Standing.{Stands}
use Rattle.fidl_wire.proofs.Stand.{stands_front}
use Rattle.fidl_wire.proofs.Sizes.{length-inline, size_of-resolve}
use Rattle.fidl_table_format.specs.declared.record.Header.{Header}
use Rattle.fidl_table_format.specs.declared.record.Entry.{Entry}
use Rattle.fidl_table_format.specs.declared.kind.EntryKind.{EntryKind}
use Rattle.fidl_table_format.specs.declared.kind.EntryKind.TheVariants.{Bool as Boolean, Int8, Int16, Int32, Int64, Uint8, Uint16, Uint32, Uint64, Bits, Enum, String, Vector, Array, Box, Struct, Table, Union, Handle}
use Rattle.fidl_table_format.specs.Section.{header_of, entry_at}
use Rattle.fidl_wire.specs.Field.{number_at}
use Rattle.fidl_table_format.specs.Terms.{declarations_of, term_as, is_optional}
use Rattle.fidl_table_format.specs.Entry.{IsOf}
use Rattle.fidl_table_format.specs.WellFormed.{WellFormed}
use Rattle.fidl_decode_model.specs.Model.{Shown}
use Rattle.fidl_decode_model.specs.Faults.{message_of}
use Rattle.fidl_decode_model.specs.State.{Message}
use Rattle.fidl_decode_model.specs.Links.{Linked}
use Rattle.fidl_decode_model.specs.Placed.{ArePlaced, object_at, content_at}
use Rattle.fidl_decode_model.specs.Readable.{IsUnlinked, AreUnlinked, AreReadable}
use Rattle.fidl_decode_model.specs.Invariants.{IsFine}
use Rattle.fidl_decode_model.proofs.Bridge.{fine_of}
use Rattle.fidl_decode_model.proofs.Numbers.{slice_is, number_64}
use Rattle.fidl_decode_model.proofs.Visiting.{fine_as, term_is, figure_is, size_is}
use Rattle.fidl_view.specs.Parts.{absence_of, nth, octet, octets, bytes_if, bytes_of, length_of, element_of, elements_of, string_of, IsNoList}
use Rattle.fidl_view.specs.Shows.{Shows, type_of}
use Rattle.fidl_view.specs.Elements.{parts_from, ShowEach}
use Rattle.fidl_view.specs.Views.{count_at}
use Rattle.fidl_view.proofs.Content.{Held, not_both, stands_short}
use Rattle.fidl_view.proofs.Finding.{inline_of}
use Rattle.fidl_view.proofs.Viewing as viewing

-- ---- values that are no list

no_list : {A : Type 0} (v : Value) → IsNoList v → (vs : Values) → v ≡ list vs → A
no_list v lacks vs e = absurd (lacks vs e)

pub no_element : (v : Value) → IsNoList v → (i : ℕ) → element_of v i ≡ None
no_element (list vs) lacks i = no_list (list vs) lacks vs refl
no_element _ lacks i = refl

pub no_elements : (v : Value) → IsNoList v → ShowEach [] (elements_of v)
no_elements (list vs) lacks = no_list (list vs) lacks vs refl
no_elements _ lacks = tt

pub no_bytes : (ds : Declarations) (t : Term) (v : Value) → IsNoList v → string_of v ≡ None → None ≡ bytes_of ds t v
no_bytes ds t (list vs) lacks e = no_list (list vs) lacks vs refl
no_bytes ds t (text own) lacks e = cc
no_bytes ds t _ lacks e = refl

-- the bytes of a string are those of its text
pub text_bytes : (ds : Declarations) (t : Term) (optional : Bool) (bound : ℕ) (v : Value) → IsTyped ds (ty.string optional bound) v → string_of v ≡ bytes_of ds t v
text_bytes ds t optional bound (text own) x = refl
text_bytes ds t optional bound absent x = refl
text_bytes ds t optional bound _ x = absurd x

-- such a value has the length of its text
pub text_long : (v : Value) → IsNoList v → (bytes : List ℕ) → Some bytes ≡ string_of v → Some (length bytes) ≡ length_of v
text_long (list vs) lacks bytes e = no_list (list vs) lacks vs refl
text_long (text own) lacks bytes e = let same : bytes ≡ own = cc in ap (λ (b : List ℕ). Some (length b)) same
text_long _ lacks bytes e = cc

pub no_length : (v : Value) → IsNoList v → None ≡ string_of v → ((n : ℕ) (ms : Members) → v ≡ table n ms → ⊥) → None ≡ length_of v
no_length (list vs) lacks e other = no_list (list vs) lacks vs refl
no_length (text own) lacks e other = cc
no_length (table n ms) lacks e other = absurd (other n ms refl)
no_length _ lacks e other = refl

-- only tables have envelopes to count
pub no_table_of : (ds : Declarations) (t : List ℕ) (h : Header) (e : Entry) (k : EntryKind) → (k ≡ Table → ⊥) → (v : Value) → IsTyped ds (term_as k t h e) v → (n : ℕ) (ms : Members) → v ≡ table n ms → ⊥
no_table_of ds t h e k a v x n ms is = go k a (subst (λ (u : Value). IsTyped ds (term_as k t h e) u) is x)
  where
    go : (k : EntryKind) → (k ≡ Table → ⊥) → IsTyped ds (term_as k t h e) (table n ms) → ⊥
    go Table a x = a refl
    go Boolean a x = x
    go Int8 a x = x
    go Int16 a x = x
    go Int32 a x = x
    go Int64 a x = x
    go Uint8 a x = x
    go Uint16 a x = x
    go Uint32 a x = x
    go Uint64 a x = x
    go Bits a x = x
    go Enum a x = x
    go String a x = x
    go Vector a x = x
    go Array a x = x
    go Box a x = x
    go Struct a x = x
    go Union a x = x
    go Handle a x = x

-- only arrays and vectors have lists
pub no_list_of : (ds : Declarations) (t : List ℕ) (h : Header) (e : Entry) (k : EntryKind) → (k ≡ Array → ⊥) → (k ≡ Vector → ⊥) → (v : Value) → IsTyped ds (term_as k t h e) v → IsNoList v
no_list_of ds t h e k a w v x vs is = go k a w (subst (λ (u : Value). IsTyped ds (term_as k t h e) u) is x)
  where
    go : (k : EntryKind) → (k ≡ Array → ⊥) → (k ≡ Vector → ⊥) → IsTyped ds (term_as k t h e) (list vs) → ⊥
    go Array a w x = a refl
    go Vector a w x = w refl
    go Boolean a w x = x
    go Int8 a w x = x
    go Int16 a w x = x
    go Int32 a w x = x
    go Int64 a w x = x
    go Uint8 a w x = x
    go Uint16 a w x = x
    go Uint32 a w x = x
    go Uint64 a w x = x
    go Bits a w x = x
    go Enum a w x = x
    go String a w x = x
    go Box a w x = x
    go Struct a w x = x
    go Table a w x = x
    go Union a w x = x
    go Handle a w x = x

-- an element's type that is not uint8 has no bytes
pub no_octets : (t : List ℕ) (h : Header) (e : Entry) (k : EntryKind) → (k ≡ Uint8 → ⊥) → (vs : Values) → None ≡ bytes_if (term_as k t h e) vs
no_octets t h e Uint8 other vs = absurd (other refl)
no_octets t h e Boolean other vs = refl
no_octets t h e Int8 other vs = refl
no_octets t h e Int16 other vs = refl
no_octets t h e Int32 other vs = refl
no_octets t h e Int64 other vs = refl
no_octets t h e Uint16 other vs = refl
no_octets t h e Uint32 other vs = refl
no_octets t h e Uint64 other vs = refl
no_octets t h e Bits other vs = refl
no_octets t h e Enum other vs = refl
no_octets t h e String other vs = refl
no_octets t h e Vector other vs = refl
no_octets t h e Array other vs = refl
no_octets t h e Box other vs = refl
no_octets t h e Struct other vs = refl
no_octets t h e Table other vs = refl
no_octets t h e Union other vs = refl
no_octets t h e Handle other vs = refl

pub octets_count : (vs : Values) → length (octets vs) ≡ count vs
octets_count none = refl
octets_count (value v vs) = ap (λ n. suc n) (octets_count vs)

-- bytes at one place and at another are the same where there are none, or the places are
pub same_slice : (m : List ℕ) (p q n k : ℕ) → n ≡ k → (0 < n → p ≡ q) → slice_range m p (p + n) ≡ slice_range m q (q + k)
same_slice m p q zero k e same =
    let left : p + 0 - p ≡ 0 = omega arith in
    let right : q + k - q ≡ 0 = omega (arith, e) in
    ap (λ n. take n (drop p m)) left ∙ sym (ap (λ n. take n (drop q m)) right)
same_slice m p q (suc n) k e same = λ j. slice_range m (same (omega arith) j) (same (omega arith) j + e j)

absent_no_list : IsNoList absent
absent_no_list vs e = cc

pub no_vector : (v : Value) → true ≡ absence_of v → IsNoList v
no_vector absent e = absent_no_list
no_vector _ e = absurd (not_both (sym e))

-- ---- what a vector's marker and count say

module _ (ds : Declarations) (m : Message) (l : Linked) (place : ℕ) where
  -- a vector that is there has as many elements as its count says, in its object, and they can be read there
  pub record ListThere (t : Term) (v : Value) : Type 0 where
    pub vs : Values
    pub is : v ≡ list vs
    pub counted : number_at w64 m.bytes place ≡ count vs
    pub typed : AllTyped ds (resolve ds.terms t) vs
    pub placed : ArePlaced ds m l (resolve ds.terms t) (size_of ds t) (object_at l (place + 8)) vs
    pub readable : AreReadable ds l (resolve ds.terms t) (size_of ds t) (object_at l (place + 8)) vs

  pub vector_found : (optional : Bool) (bound : ℕ) (t : Term) → bound < 2 ^ 32 → (v : Value) → false ≡ absence_of v → Held ds m l place (ty.vector optional bound t) v → ListThere t v
  vector_found optional bound t few absent there h = absurd (not_both there)
  vector_found optional bound t few (list vs) there h =
      record {
        vs = vs;
        is = refl;
        counted = number_64 m.bytes place (count vs) (omega (arith, h.0.0, few)) (stands_front m.bytes place (to_le_bytes w64 (count vs)) present h.1.0);
        typed = h.0.1;
        placed = h.1.1;
        readable = h.2.1;
      }
  vector_found optional bound t few _ there h = absurd h.0

-- ---- parts that show elements

times_next : (k size : ℕ) → k * size + size ≡ size * suc k
times_next k size = ap (λ n. n + size) (mul_comm k size) ∙ sym (mul-suc size k)

-- one of so many elements ends where they end, or before
pub one_room : (k n size : ℕ) → k < n → k * size + size ≤ size * n
one_room k n size less = omega (arith, mul-le-mul_right size less)

module _ (d : Shown) where
  pub shown_each : (i size p : ℕ) (vs : Values) → AllTyped (declarations_of d.table) (type_of d i) vs → ArePlaced (declarations_of d.table) (message_of d.bytes d.handles) d.links (type_of d i) size p vs
      → AreReadable (declarations_of d.table) d.links (type_of d i) size p vs
      → length (encoding.elements (declarations_of d.table) (type_of d i) vs).out ≤ length d.bytes → ShowEach (parts_from d i size p (count vs)) vs
  shown_each i size p none x h r within = tt
  shown_each i size p (value v vs) x h r within =
      let both = length-append (encoding_of (declarations_of d.table) (type_of d i) v).out (encoding.elements (declarations_of d.table) (type_of d i) vs).out in
      (record { typed = x.0; placed = h.0; readable = r.0; within = omega (arith, both, within) }, shown_each i size (p + size) vs x.1 h.1 r.1 (omega (arith, both, within)))

  -- as many parts as elements
  pub shown_count : (i size p n : ℕ) (vs : Values) → ShowEach (parts_from d i size p n) vs → n ≡ count vs
  shown_count i size p zero none h = refl
  shown_count i size p (suc n) none h = absurd h
  shown_count i size p zero (value v vs) h = absurd h
  shown_count i size p (suc n) (value v vs) h = ap (λ k. suc k) (shown_count i size (p + size) n vs h.1)

  -- the part at a place
  pub nth_shown : (i size p n k : ℕ) (vs : Values) → k < n → ShowEach (parts_from d i size p n) vs → (x : Value) × (nth vs k ≡ Some x) × Shows d i (p + k * size) x
  nth_shown i size p zero k vs less h = absurd (omega (arith, less))
  nth_shown i size p (suc n) k none less h = absurd h
  nth_shown i size p (suc n) zero (value v vs) less h =
      let here : p ≡ p + 0 * size = omega arith in
      (v, refl, subst (λ q. Shows d i q v) here h.0)
  nth_shown i size p (suc n) (suc k) (value v vs) less h =
      let r = nth_shown i size (p + size) n k vs (omega (arith, less)) h.1 in
      let there : p + size + k * size ≡ p + suc k * size = omega (arith, suc-mul k size) in
      (r.0, r.1, subst (λ q. Shows d i q r.0) there r.2)

  -- past the last there is none
  pub nth_past : (vs : Values) (k : ℕ) → count vs ≤ k → nth vs k ≡ None
  nth_past none k le = refl
  nth_past (value v vs) zero le = absurd (omega (arith, le))
  nth_past (value v vs) (suc k) le = nth_past vs k (omega (arith, le))

  pub no_parts : (i size p q n : ℕ) (vs : Values) → n ≡ 0 → ShowEach (parts_from d i size p n) vs → ShowEach (parts_from d i size q 0) vs
  no_parts i size p q zero none e h = tt
  no_parts i size p q zero (value v vs) e h = absurd h
  no_parts i size p q (suc n) vs e h = absurd (omega (arith, e))

  module _ (w : WellFormed d.table) where
    abbrev fine : IsFine d.table
    fine = fine_of d.table w

    -- what is shown lies within the message
    pub shows_room : (i p : ℕ) (x : Value) → i < (header_of d.table).entries → Shows d i p x → p + (entry_at d.table i).size ≤ length d.bytes
    shows_room i p x lt s =
        let ds = declarations_of d.table in
        let own = inline_of ds (message_of d.bytes d.handles) d.links (type_of d i) p x s.placed in
        let size : length (encoding_of ds (type_of d i) x).inline ≡ (entry_at d.table i).size = length-inline ds fine.laid_out (type_of d i) x s.typed ∙ size_of-resolve ds fine.laid_out (ty.named i) ∙ size_is d.table fine i lt in
        let short = stands_short d.bytes p (encoding_of ds (type_of d i) x).inline own in
        omega (arith, size, short, viewing.has_byte d w i p lt)

    -- so do elements that stand one behind the other
    pub run_room : (i size p n : ℕ) (vs : Values) → i < (header_of d.table).entries → size ≡ (entry_at d.table i).size → (n ≡ 0 → ⊥) → ShowEach (parts_from d i size p n) vs → p + size * n ≤ length d.bytes
    run_room i size p zero vs lt e some h = absurd (some refl)
    run_room i size p (suc k) vs lt e some h =
        let r = nth_shown i size p (suc k) k vs (omega arith) h in
        omega (arith, shows_room i (p + k * size) r.0 lt r.2, e, times_next k size)

    -- the bytes of elements of uint8
    pub octets_stand : (i p n : ℕ) (vs : Values) → i < (header_of d.table).entries → IsOf Uint8 (entry_at d.table i) → ShowEach (parts_from d i 1 p n) vs → Stands d.bytes p (octets vs)
    octets_stand i p zero none lt of h = tt
    octets_stand i p (suc n) none lt of h = absurd h
    octets_stand i p zero (value v vs) lt of h = absurd h
    octets_stand i p (suc n) (value v vs) lt of h = go v (octets_stand i (p + 1) n vs lt of h.1) (viewing.stood d w i p lt Uint8 of v h.0)
      where
        go : (v : Value) → Stands d.bytes (p + 1) (octets vs) → IsTyped (declarations_of d.table) (ty.number uint8) v × Stands d.bytes p (encoding_of (declarations_of d.table) (ty.number uint8) v).inline → Stands d.bytes p (octet v ∷ octets vs)
        go (number (pos k)) more s = let e : k % 256 ≡ k = omega (arith, s.0) in (s.1.0, s.1.1 ∙ e, more)
        go (number (negsuc k)) more s = absurd s.0
        go _ more s = absurd s.0

    -- no link stands over them
    pub octets_free : (i p n : ℕ) (vs : Values) → i < (header_of d.table).entries → IsOf Uint8 (entry_at d.table i) → ShowEach (parts_from d i 1 p n) vs → AreUnlinked d.links p (p + n)
    octets_free i p zero vs lt of h k from to = absurd (omega (arith, from, to))
    octets_free i p (suc n) none lt of h k from to = absurd h
    octets_free i p (suc n) (value v vs) lt of h k from to = elim (cases_lt p k) [
      | inl past ↦ octets_free i (p + 1) n vs lt of h.1 k (omega (arith, past)) (omega (arith, to))
      | inr le ↦ go v (viewing.lies d w i p lt Uint8 of v h.0) le
    ]
      where
        go : (v : Value) → viewing.Lies d w i p lt Uint8 v → k ≤ p → IsUnlinked d.links k
        go (number z) s le = s.2 k from (omega (arith, le))
        go _ s le = absurd s.0

    pub octets_shown : (i p n : ℕ) (vs : Values) → i < (header_of d.table).entries → IsOf Uint8 (entry_at d.table i) → ShowEach (parts_from d i 1 p n) vs → slice_range d.bytes p (p + n) ≡ octets vs
    octets_shown i p n vs lt of h = slice_is d.bytes p n (octets vs) (octets_count vs ∙ sym (shown_count i 1 p n vs h)) (octets_stand i p n vs lt of h)

    pub octet_size : (i : ℕ) → i < (header_of d.table).entries → IsOf Uint8 (entry_at d.table i) → 1 ≡ (entry_at d.table i).size
    octet_size i lt of = ap (λ (f : Figure). f.size) (figure_is d.table fine i Uint8 lt of)

    pub own_term : (i : ℕ) (k : EntryKind) → i < (header_of d.table).entries → IsOf k (entry_at d.table i) → type_of d i ≡ term_as k d.table (header_of d.table) (entry_at d.table i)
    own_term i k lt of = term_is d.table fine i k lt of

    -- ---- the elements of an array and of a vector

    module _ (index place : ℕ) (lt : index < (header_of d.table).entries) where
      pub array_element : IsOf Array (entry_at d.table index) → (entry_at d.table index).first < (header_of d.table).entries
      array_element is = (fine_as d.table fine index Array lt is).content.0

      pub vector_element : IsOf Vector (entry_at d.table index) → (entry_at d.table index).first < (header_of d.table).entries
      vector_element is = (fine_as d.table fine index Vector lt is).content.0

      pub array_size : IsOf Array (entry_at d.table index) → (entry_at d.table (entry_at d.table index).first).size * (entry_at d.table index).count ≡ (entry_at d.table index).size
      array_size is =
          let c = (entry_at d.table index).first in
          let g : size_of (declarations_of d.table) (ty.named c) * (entry_at d.table index).count ≡ (entry_at d.table index).size = ap (λ (f : Figure). f.size) (figure_is d.table fine index Array lt is) in
          ap (λ n. n * (entry_at d.table index).count) (sym (size_is d.table fine c (array_element is))) ∙ g

      -- the elements of an array, as parts
      pub array_shown : IsOf Array (entry_at d.table index) → (v : Value) → Shows d index place v
          → (vs : Values) × (v ≡ list vs) × ShowEach (parts_from d (entry_at d.table index).first (entry_at d.table (entry_at d.table index).first).size place (entry_at d.table index).count) vs
      array_shown is v s = go v (viewing.lies d w index place lt Array is v s) (viewing.lies_within d w index place lt Array is v s)
        where
          c : ℕ
          c = (entry_at d.table index).first

          go : (v : Value) → viewing.Lies d w index place lt Array v → length (encoding_of (declarations_of d.table) (ty.array (ty.named c) (entry_at d.table index).count) v).out ≤ length d.bytes
              → (vs : Values) × (v ≡ list vs) × ShowEach (parts_from d c (entry_at d.table c).size place (entry_at d.table index).count) vs
          go (list vs) s within =
              let size = size_is d.table fine c (array_element is) in (
                vs,
                refl,
                subst (λ n. ShowEach (parts_from d c (entry_at d.table c).size place n) vs) s.0.0
                    (subst (λ k. ShowEach (parts_from d c k place (count vs)) vs) size (shown_each c (size_of (declarations_of d.table) (ty.named c)) place vs s.0.1 s.1.1 s.2.1 within)),
              )
          go _ s within = absurd s.0

      -- the elements of a vector, as parts in its object
      pub vector_shown : IsOf Vector (entry_at d.table index) → (v : Value) → false ≡ absence_of v → Shows d index place v
          → (vs : Values) × (v ≡ list vs) × ShowEach (parts_from d (entry_at d.table index).first (entry_at d.table (entry_at d.table index).first).size (object_at d.links (place + 8)) (number_at w64 d.bytes place)) vs
      vector_shown is v there s =
          let e = entry_at d.table index in
          let c = e.first in
          let size = size_is d.table fine c (vector_element is) in
          let x = (vector_found (declarations_of d.table) (message_of d.bytes d.handles) d.links place (is_optional e) e.bound (ty.named c) (fine_as d.table fine index Vector lt is).content.1 v there (viewing.lies d w index place lt Vector is v s)) in
          let out = subst (λ (u : Value). length (encoding_of (declarations_of d.table) (ty.vector (is_optional e) e.bound (ty.named c)) u).out ≤ length d.bytes) x.is (viewing.lies_within d w index place lt Vector is v s) in
          let own = encoding.elements (declarations_of d.table) (type_of d c) x.vs in
          let parts = shown_each c (size_of (declarations_of d.table) (ty.named c)) (object_at d.links (place + 8)) x.vs x.typed x.placed x.readable (omega (arith, out, length-append (encoding.pad8 own.inline) own.out)) in (
            x.vs,
            x.is,
            subst (λ n. ShowEach (parts_from d c (entry_at d.table c).size (object_at d.links (place + 8)) n) x.vs) (sym x.counted)
                (subst (λ k. ShowEach (parts_from d c k (object_at d.links (place + 8)) (count x.vs)) x.vs) size parts),
          )

      -- the same, by what was read of the entries and the message
      pub array_read : IsOf Array (entry_at d.table index) → (f size n : ℕ) → f ≡ (entry_at d.table index).first → size ≡ (entry_at d.table f).size → n ≡ (entry_at d.table index).count → (v : Value) → Shows d index place v
          → (vs : Values) × (v ≡ list vs) × ShowEach (parts_from d f size place n) vs
      array_read is f size n begun sized counted v s =
          let x = array_shown is v s in
          let measured : size ≡ (entry_at d.table (entry_at d.table index).first).size = sized ∙ ap (λ k. (entry_at d.table k).size) begun in (
            x.0,
            x.1,
            subst (λ k. ShowEach (parts_from d k size place n) x.0) (sym begun)
                (subst (λ k. ShowEach (parts_from d (entry_at d.table index).first k place n) x.0) (sym measured)
                (subst (λ k. ShowEach (parts_from d (entry_at d.table index).first (entry_at d.table (entry_at d.table index).first).size place k) x.0) (sym counted) x.2)),
          )

      pub vector_read : IsOf Vector (entry_at d.table index) → (f size q n : ℕ) → f ≡ (entry_at d.table index).first → size ≡ (entry_at d.table f).size → q ≡ object_at d.links (place + 8) → n ≡ number_at w64 d.bytes place
          → (v : Value) → false ≡ absence_of v → Shows d index place v → (vs : Values) × (v ≡ list vs) × ShowEach (parts_from d f size q n) vs
      vector_read is f size q n begun sized from counted v there s =
          let x = vector_shown is v there s in
          let measured : size ≡ (entry_at d.table (entry_at d.table index).first).size = sized ∙ ap (λ k. (entry_at d.table k).size) begun in (
            x.0,
            x.1,
            subst (λ k. ShowEach (parts_from d k size q n) x.0) (sym begun)
                (subst (λ k. ShowEach (parts_from d (entry_at d.table index).first k q n) x.0) (sym measured)
                (subst (λ k. ShowEach (parts_from d (entry_at d.table index).first (entry_at d.table (entry_at d.table index).first).size k n) x.0) (sym from)
                (subst (λ k. ShowEach (parts_from d (entry_at d.table index).first (entry_at d.table (entry_at d.table index).first).size (object_at d.links (place + 8)) k) x.0) (sym counted) x.2))),
          )

      -- their type, how many there are, and where
      pub array_typed : IsOf Array (entry_at d.table index) → (f : ℕ) → f ≡ (entry_at d.table index).first → encoding.element_of (declarations_of d.table) (type_of d index) ≡ type_of d f
      array_typed is f begun = ap (λ (t : Term). encoding.element_of (declarations_of d.table) t) (own_term index Array lt is) ∙ ap (λ k. type_of d k) (sym begun)

      pub vector_typed : IsOf Vector (entry_at d.table index) → (f : ℕ) → f ≡ (entry_at d.table index).first → encoding.element_of (declarations_of d.table) (type_of d index) ≡ type_of d f
      vector_typed is f begun = ap (λ (t : Term). encoding.element_of (declarations_of d.table) t) (own_term index Vector lt is) ∙ ap (λ k. type_of d k) (sym begun)

      pub array_counted : IsOf Array (entry_at d.table index) → (n : ℕ) → n ≡ (entry_at d.table index).count → n ≡ count_at (type_of d index) d.bytes place
      array_counted is n e = e ∙ ap (λ (t : Term). count_at t d.bytes place) (sym (own_term index Array lt is))

      pub vector_counted : IsOf Vector (entry_at d.table index) → (n : ℕ) → n ≡ number_at w64 d.bytes place → n ≡ count_at (type_of d index) d.bytes place
      vector_counted is n e = e ∙ ap (λ (t : Term). count_at t d.bytes place) (sym (own_term index Vector lt is))

      pub array_placed : IsOf Array (entry_at d.table index) → place ≡ content_at d.links (type_of d index) place
      array_placed is = ap (λ (t : Term). content_at d.links t place) (sym (own_term index Array lt is))

      pub vector_placed : IsOf Vector (entry_at d.table index) → (q : ℕ) → q ≡ object_at d.links (place + 8) → q ≡ content_at d.links (type_of d index) place
      vector_placed is q e = e ∙ ap (λ (t : Term). content_at d.links t place) (sym (own_term index Vector lt is))
