-- The members of tables and unions, as the parts that show them.
use Rattle.std.proofs.Common.{rules, ◌≡◌, ℕ, ◌+◌, ◌*◌, ◌%◌, ◌<◌, ◌≤◌, Bool, true, false, cond, nat_le, List, [], length, get_or, refl, sym, ap, subst, ◌∙◌, arith, inl, inr, length-append}
use Rattle.std.specs.Prelude.{Option, Some, None, if◌then◌else◌, IsTrue, MatchOption}
use Rattle.std.specs.Option.{option_map_or}
use Rattle.std.specs.Int.{w16, w32, w64, to_le_bytes}
use Rattle.std.proofs.lemmas.Bool.Decides.{eqb_tells}
use Rattle.fidl_wire.specs.Value.{Value, absent, table, union, Member, known, unknown, Members}
use Rattle.fidl_wire.specs.Term.{Term, Rows, resolve, rows_of, find, nothing}
use Rattle.fidl_wire.specs.Term as ty
use Rattle.fidl_wire.specs.Figure.{Figure, Declarations, size_of}
use Rattle.fidl_wire.specs.Typed.{IsTyped, IsTypedMember, RiseTyped}
use Rattle.fidl_wire.specs.Encoding.{Encoding, zeros, present, padded, pad8, object, inline_envelope, out_envelope, envelope_end, encoding_of, enveloped, envelopes, term_or}
use Rattle.fidl_wire.specs.Standing.{Stands}
use Rattle.fidl_wire.proofs.Stand.{stands_to, stands_front, stands_back}
use Rattle.fidl_wire.proofs.Sizes.{size_of-resolve, le_of_test}
use Rattle.fidl_wire.proofs.Unique.{no_out}
use Rattle.fidl_table_format.specs.declared.kind.EntryKind.{EntryKind}
use Rattle.fidl_table_format.specs.declared.record.Header.{Header}
use Rattle.fidl_table_format.specs.declared.record.Entry.{Entry}
use Rattle.fidl_table_format.specs.declared.kind.EntryKind.TheVariants.{Bool as Boolean, Int8, Int16, Int32, Int64, Uint8, Uint16, Uint32, Uint64, Bits, Enum, String, Vector, Array, Box, Struct, Table, Union, Handle}
use Rattle.fidl_table_format.specs.Section.{header_of, entry_at}
use Rattle.fidl_wire.specs.Field.{number_at}
use Rattle.fidl_table_format.specs.Terms.{declarations_of, members_of, term_as, is_optional, is_strict}
use Rattle.fidl_table_format.specs.Uses.{uses_ordinals}
use Rattle.fidl_table_format.specs.Entry.{IsOf, kind_is}
use Rattle.fidl_table_format.specs.WellFormed.{WellFormed}
use Rattle.fidl_decode_model.specs.Model.{Shown}
use Rattle.fidl_decode_model.specs.Faults.{message_of}
use Rattle.fidl_decode_model.specs.State.{Message, envelope_place}
use Rattle.fidl_decode_model.specs.Placed.{Placed, IsMemberPlaced, AreMembersPlaced, object_at, enclosed_at}
use Rattle.fidl_decode_model.specs.Readable.{Readable, IsMemberReadable, AreMembersReadable, IsEnvelopeReadable}
use Rattle.fidl_decode_model.specs.Invariants.{IsFine}
use Rattle.fidl_decode_model.proofs.Bridge.{fine_of}
use Rattle.fidl_decode_model.proofs.Numbers.{number_64}
use Rattle.fidl_decode_model.proofs.Visiting.{figure_is, size_is}
use Rattle.fidl_decode_model.proofs.After.{length-table}
use Rattle.fidl_view.specs.Parts.{held_of, member_of, known_of, known_in, unknown_in, variant_of, unknown_of}
use Rattle.fidl_view.specs.Shows.{Shows}
use Rattle.fidl_view.specs.declared.view.View.{View}
use Rattle.fidl_view.specs.declared.envelope.Unknown.{Unknown}
use Rattle.fidl_view.specs.Views.{IsShownBy, ShowsKnown}
use Rattle.fidl_view.specs.Members.{ShowMember, term_at}
use Rattle.fidl_view.proofs.Content.{stands_short, IsUnlinkedWord}
use Rattle.fidl_view.proofs.Envelopes as slots
use Rattle.fidl_view.proofs.Viewing as viewing

-- a member of a strict layout is one of the layout
weaker : (ds : Declarations) (strict : Bool) (t : Option Term) (x : Member) → IsTypedMember ds strict t x → IsTypedMember ds false t x
weaker ds strict (Some t) (known v) h = h
weaker ds strict None (unknown inline bytes handles) h = (refl, h.1, h.2, h.3)
weaker ds strict _ _ h = absurd h

-- the test of four bytes
pub few_bytes : (n : ℕ) → n ≤ 4 → nat_le n 4 ≡ true
few_bytes n h = search (rules, h)

pub more_bytes : (n : ℕ) → 4 < n → nat_le n 4 ≡ false
more_bytes n h = search (rules, h)

-- only unions have a variant
pub no_variant : (ds : Declarations) (t : List ℕ) (h : Header) (e : Entry) (k : EntryKind) → (k ≡ Union → ⊥) → (v : Value) → IsTyped ds (term_as k t h e) v → variant_of v ≡ None
no_variant ds t h e k other (union ordinal y) x = absurd (go k other x)
  where
    go : (k : EntryKind) → (k ≡ Union → ⊥) → IsTyped ds (term_as k t h e) (union ordinal y) → ⊥
    go Boolean other x = x
    go Int8 other x = x
    go Int16 other x = x
    go Int32 other x = x
    go Int64 other x = x
    go Uint8 other x = x
    go Uint16 other x = x
    go Uint32 other x = x
    go Uint64 other x = x
    go Bits other x = x
    go Enum other x = x
    go String other x = x
    go Vector other x = x
    go Array other x = x
    go Box other x = x
    go Struct other x = x
    go Table other x = x
    go Union other x = other refl
    go Handle other x = x
no_variant ds t h e k other _ x = refl

-- only tables have members
pub no_member : (ds : Declarations) (t : List ℕ) (h : Header) (e : Entry) (k : EntryKind) → (k ≡ Table → ⊥) → (v : Value) → IsTyped ds (term_as k t h e) v → (ordinal : ℕ) → member_of v ordinal ≡ None
no_member ds t h e k other (table n ms) x ordinal = absurd (go k other x)
  where
    go : (k : EntryKind) → (k ≡ Table → ⊥) → IsTyped ds (term_as k t h e) (table n ms) → ⊥
    go Boolean other x = x
    go Int8 other x = x
    go Int16 other x = x
    go Int32 other x = x
    go Int64 other x = x
    go Uint8 other x = x
    go Uint16 other x = x
    go Uint32 other x = x
    go Uint64 other x = x
    go Bits other x = x
    go Enum other x = x
    go String other x = x
    go Vector other x = x
    go Array other x = x
    go Box other x = x
    go Struct other x = x
    go Table other x = other refl
    go Union other x = x
    go Handle other x = x
no_member ds t h e k other _ x ordinal = refl

-- only tables and unions hold anything at an ordinal
pub no_held : (ds : Declarations) (t : List ℕ) (h : Header) (e : Entry) (k : EntryKind) → (k ≡ Table → ⊥) → (k ≡ Union → ⊥) → (v : Value) → IsTyped ds (term_as k t h e) v → (ordinal : ℕ) → held_of v ordinal ≡ None
no_held ds t h e k a b (table n ms) x ordinal = absurd (go k a x)
  where
    go : (k : EntryKind) → (k ≡ Table → ⊥) → IsTyped ds (term_as k t h e) (table n ms) → ⊥
    go Boolean a x = x
    go Int8 a x = x
    go Int16 a x = x
    go Int32 a x = x
    go Int64 a x = x
    go Uint8 a x = x
    go Uint16 a x = x
    go Uint32 a x = x
    go Uint64 a x = x
    go Bits a x = x
    go Enum a x = x
    go String a x = x
    go Vector a x = x
    go Array a x = x
    go Box a x = x
    go Struct a x = x
    go Table a x = a refl
    go Union a x = x
    go Handle a x = x
no_held ds t h e k a b (union key y) x ordinal = absurd (go k b x)
  where
    go : (k : EntryKind) → (k ≡ Union → ⊥) → IsTyped ds (term_as k t h e) (union key y) → ⊥
    go Boolean b x = x
    go Int8 b x = x
    go Int16 b x = x
    go Int32 b x = x
    go Int64 b x = x
    go Uint8 b x = x
    go Uint16 b x = x
    go Uint32 b x = x
    go Uint64 b x = x
    go Bits b x = x
    go Enum b x = x
    go String b x = x
    go Vector b x = x
    go Array b x = x
    go Box b x = x
    go Struct b x = x
    go Table b x = x
    go Union b x = b refl
    go Handle b x = x
no_held ds t h e k a b _ x ordinal = refl

-- the view of a member's value, where it is known
pub shown_member : (r : Option View) (v : Value) (ordinal : ℕ) (x : Member) → member_of v ordinal ≡ known_of x → ShowsKnown r x
    → MatchOption r (member_of v ordinal ≡ None) (λ part. (y : Value) × (member_of v ordinal ≡ Some y) × IsShownBy part y)
shown_member None v ordinal x e h = e ∙ h
shown_member (Some part) v ordinal x e h = (h.0, e ∙ h.1, h.2)

-- a member as it came, where it is unknown
pub raw_member : (r : Option Unknown) (v : Value) (ordinal : ℕ) (x : Member) → held_of v ordinal ≡ Some x → MatchOption r (unknown_in (Some x) ≡ None) (λ u. x ≡ unknown u.inline u.bytes.now u.handles.now)
    → MatchOption r (unknown_of v ordinal ≡ None) (λ u. unknown_of v ordinal ≡ Some (unknown u.inline u.bytes.now u.handles.now))
raw_member None v ordinal x e h = ap (λ (o : Option Member). unknown_in o) e ∙ h
raw_member (Some u) v ordinal x e h = ap (λ (o : Option Member). unknown_in o) e ∙ ap (λ (z : Member). unknown_in (Some z)) h

-- a table's value, seen by what it holds at an ordinal
pub member_held : (v : Value) (n : ℕ) (ms : Members) → v ≡ table n ms → (ordinal : ℕ) → member_of v ordinal ≡ known_in (held_of v ordinal)
member_held v n ms is ordinal = ap (λ (u : Value). member_of u ordinal) is ∙ sym (ap (λ (u : Value). known_in (held_of u ordinal)) is)

one_pair : (a b : ℕ × Member) → Some a ≡ Some b → a ≡ b
one_pair a b e = cc

-- a union holds its member at its own ordinal, and nothing at another
pub held_variant : (v : Value) (ordinal : ℕ) (x : Member) → variant_of v ≡ Some (ordinal, x) → held_of v ordinal ≡ Some x
held_variant (union key y) ordinal x e =
    let pair = one_pair (key, y) (ordinal, x) e in
    let same : key ≡ ordinal = ap (λ (p : ℕ × Member). p.0) pair in
    let own : y ≡ x = ap (λ (p : ℕ × Member). p.1) pair in
    elim (eqb_tells key ordinal) [
      | inl t ↦ ap (λ (b : Bool). if b then Some y else None) t.0 ∙ ap (λ (z : Member). Some z) own
      | inr f ↦ absurd (f.1 same)
    ]
held_variant _ ordinal x e = cc

pub held_no_variant : (v : Value) (key ordinal : ℕ) (x : Member) → variant_of v ≡ Some (key, x) → (key ≡ ordinal → ⊥) → held_of v ordinal ≡ None
held_no_variant (union own y) key ordinal x e other =
    let same : own ≡ key = ap (λ (p : ℕ × Member). p.0) (one_pair (own, y) (key, x) e) in
    elim (eqb_tells own ordinal) [
      | inl t ↦ absurd (other (sym same ∙ t.1))
      | inr f ↦ ap (λ (b : Bool). if b then Some y else None) f.0
    ]
held_no_variant _ key ordinal x e other = cc

pub absent_holds_none : (v : Value) → variant_of v ≡ None → (n : ℕ) → ((ms : Members) (k : ℕ) → v ≡ table k ms → ⊥) → held_of v n ≡ None
absent_holds_none (union key y) e n other = cc
absent_holds_none (table k ms) e n other = absurd (other ms k refl)
absent_holds_none _ e n other = refl

pub union_no_table : Union ≡ Table → ⊥
union_no_table e = cc

module _ (d : Shown) (w : WellFormed d.table) where
  abbrev fine : IsFine d.table
  fine = fine_of d.table w

  abbrev ds : Declarations
  ds = declarations_of d.table

  abbrev m : Message
  m = message_of d.bytes d.handles

  rows_are : (i : ℕ) (k : EntryKind) → IsOf k (entry_at d.table i) → members_of d.table i ≡ rows_of (term_as k d.table (header_of d.table) (entry_at d.table i))
  rows_are i k is = ap (λ (o : Option EntryKind). rows_of (option_map_or (λ (j : EntryKind). term_as j d.table (header_of d.table) (entry_at d.table i)) o nothing)) is

  pub has_ordinals : (i : ℕ) (k : EntryKind) → uses_ordinals k ≡ true → IsOf k (entry_at d.table i) → IsTrue (kind_is uses_ordinals (entry_at d.table i))
  has_ordinals i k uses is = ap (λ (o : Option EntryKind). option_map_or uses_ordinals o false) is ∙ uses

  module _ (index place : ℕ) (lt : index < (header_of d.table).entries) where
    abbrev rows : Rows
    rows = members_of d.table index

    -- ---- tables

    pub table_size : IsOf Table (entry_at d.table index) → 16 ≡ (entry_at d.table index).size
    table_size is = ap (λ (f : Figure). f.size) (figure_is d.table fine index Table lt is)

    abbrev base : ℕ
    base = object_at d.links (place + 8)

    -- a table has as many envelopes as its count says, in its object, which begins at a multiple of 8
    pub record TableThere (v : Value) : Type 0 where
      pub n : ℕ
      pub ms : Members
      pub is : v ≡ table n ms
      pub counted : number_at w64 d.bytes place ≡ n
      pub aligned : base % 8 ≡ 0
      pub typed : RiseTyped ds rows 0 n ms
      pub stands : Stands d.bytes base (envelopes ds rows 1 n ms).inline
      pub placed : AreMembersPlaced ds m d.links rows base ms
      pub readable : AreMembersReadable ds d.links rows 0 n base ms
      pub within : length (envelopes ds rows 1 n ms).out ≤ length d.bytes

    pub table_shown : IsOf Table (entry_at d.table index) → (v : Value) → Shows d index place v → TableThere v
    table_shown is v s =
        let own : term_as Table d.table (header_of d.table) (entry_at d.table index) ≡ ty.table rows = ap ty.table (sym (rows_are index Table is)) in
        let x = viewing.lies d w index place lt Table is v s in
        go v (subst (λ (t : Term). IsTyped ds t v) own x.0) (subst (λ (t : Term). Placed ds m d.links t place v) own x.1) (subst (λ (t : Term). Readable ds d.links t place v) own x.2)
        (subst (λ (t : Term). length (encoding_of ds t v).out ≤ length d.bytes) own (viewing.lies_within d w index place lt Table is v s))
      where
        go : (v : Value) → IsTyped ds (ty.table rows) v → Placed ds m d.links (ty.table rows) place v → Readable ds d.links (ty.table rows) place v → length (encoding_of ds (ty.table rows) v).out ≤ length d.bytes → TableThere v
        go (table n ms) h p r within =
            let e = envelopes ds rows 1 n ms in
            record {
              n = n;
              ms = ms;
              is = refl;
              counted = number_64 d.bytes place n h.0 (stands_front d.bytes place (to_le_bytes w64 n) present p.0);
              typed = h.1;
              stands = p.1;
              aligned = r.1.2;
              placed = p.2;
              readable = r.2;
              within = omega (arith, within, length-append (pad8 e.inline) e.out);
            }
        go _ h p r within = absurd h

    pub table_room : (v : Value) → TableThere v → 0 < number_at w64 d.bytes place → base + 8 * number_at w64 d.bytes place ≤ length d.bytes
    table_room v x some =
        let long = length-table ds fine.laid_out rows x.n x.ms x.typed in
        let short = stands_short d.bytes base (envelopes ds rows 1 x.n x.ms).inline x.stands in
        let counted = x.counted in
        omega (arith, long, short, counted, some)

    pub none_at_zero : (v : Value) → TableThere v → (ordinal : ℕ) → ordinal ≡ 0 → held_of v ordinal ≡ None
    none_at_zero v x ordinal e = ap (λ (u : Value). held_of u ordinal) x.is ∙ slots.none_before ds rows x.n x.ms 0 ordinal x.typed (omega (arith, e))

    pub none_past : (v : Value) → TableThere v → (ordinal : ℕ) → number_at w64 d.bytes place < ordinal → held_of v ordinal ≡ None
    none_past v x ordinal over = let counted = x.counted in ap (λ (u : Value). held_of u ordinal) x.is ∙ slots.none_after ds rows x.n x.ms 0 ordinal x.typed (omega (arith, over, counted))

    -- the envelope of an ordinal within the count
    slot : (v : Value) (x : TableThere v) (ordinal : ℕ) → 0 < ordinal → ordinal ≤ number_at w64 d.bytes place → slots.Found ds fine.laid_out m d.links rows x.n base (length d.bytes) x.ms ordinal
    slot v x ordinal some le =
        let counted = x.counted in
        slots.found ds fine.laid_out m d.links rows x.n base (length d.bytes) x.ms 0 ordinal x.typed (stands_to d.bytes base (base + 8 * 0) (envelopes ds rows 1 x.n x.ms).inline (omega arith) x.stands) x.placed x.readable x.within some (omega (arith, le, counted))

    -- the envelope of a member has a link
    some_link : (t : Option Term) (p : ℕ) (x : Member) → IsMemberReadable ds d.links t p x → IsUnlinkedWord d.links p → ⊥
    some_link t p (known v) r free = go (nat_le (size_of ds (term_or t)) 4) r.0 free
      where
        go : (inline : Bool) → IsEnvelopeReadable d.links inline p → IsUnlinkedWord d.links p → ⊥
        go true e free = let some = e.1.1 in let none = free.1.1 in omega (arith, some, none)
        go false e free = let some = e.0.1 in let none = free.1.1 in omega (arith, some, none)
    some_link t p (unknown true bytes handles) r free = let some = r.0.1.1 in let none = free.1.1 in omega (arith, some, none)
    some_link t p (unknown false bytes handles) r free = let some = r.0.0.1 in let none = free.1.1 in omega (arith, some, none)

    pub none_in_blank : (v : Value) → TableThere v → (ordinal : ℕ) → 0 < ordinal → ordinal ≤ number_at w64 d.bytes place → IsUnlinkedWord d.links (envelope_place base ordinal) → held_of v ordinal ≡ None
    none_in_blank v x ordinal some le blank = elim (slot v x ordinal some le) [
      | inl lacks ↦ ap (λ (u : Value). held_of u ordinal) x.is ∙ lacks.0
      | inr there ↦ absurd (some_link (find rows ordinal) (envelope_place base ordinal) there.0 there.2.readable blank)
    ]

    pub held_there : (v : Value) → TableThere v → (ordinal : ℕ) → 0 < ordinal → ordinal ≤ number_at w64 d.bytes place
        → (IsUnlinkedWord d.links (envelope_place base ordinal) × Stands d.bytes (envelope_place base ordinal) (zeros 8) → ⊥)
        → (x : Member) × (held_of v ordinal ≡ Some x) × ShowMember d index ordinal (envelope_place base ordinal) x
    held_there v x ordinal some le other = elim (slot v x ordinal some le) [
      | inl lacks ↦ let free = lacks.2 in absurd (other ((free (envelope_place base ordinal) (omega arith) (omega arith), free (envelope_place base ordinal + 4) (omega arith) (omega arith)), lacks.1))
      | inr there ↦ (there.0, ap (λ (u : Value). held_of u ordinal) x.is ∙ there.1, record { typed = there.2.typed; stands = there.2.stands; placed = there.2.placed; readable = there.2.readable; within = there.2.within })
    ]

    -- ---- unions

    pub union_found : IsOf Union (entry_at d.table index) → (v : Value) → Shows d index place v
        → (number_at w64 d.bytes place ≡ 0 → variant_of v ≡ None)
        × ((number_at w64 d.bytes place ≡ 0 → ⊥) → (x : Member) × (variant_of v ≡ Some (number_at w64 d.bytes place, x)) × ShowMember d index (number_at w64 d.bytes place) (place + 8) x)
    union_found is v s =
        let own : term_as Union d.table (header_of d.table) (entry_at d.table index) ≡ ty.union (is_optional (entry_at d.table index)) (is_strict (entry_at d.table index)) rows
        = ap (λ (r : Rows). ty.union (is_optional (entry_at d.table index)) (is_strict (entry_at d.table index)) r) (sym (rows_are index Union is)) in
        let x = viewing.lies d w index place lt Union is v s in
        go (is_optional (entry_at d.table index)) (is_strict (entry_at d.table index)) v
        (subst (λ (t : Term). IsTyped ds t v) own x.0) (subst (λ (t : Term). Placed ds m d.links t place v) own x.1) (subst (λ (t : Term). Readable ds d.links t place v) own x.2)
        (subst (λ (t : Term). length (encoding_of ds t v).out ≤ length d.bytes) own (viewing.lies_within d w index place lt Union is v s))
      where
        go : (optional strict : Bool) (v : Value) → IsTyped ds (ty.union optional strict rows) v → Placed ds m d.links (ty.union optional strict rows) place v → Readable ds d.links (ty.union optional strict rows) place v
            → length (encoding_of ds (ty.union optional strict rows) v).out ≤ length d.bytes
            → (number_at w64 d.bytes place ≡ 0 → variant_of v ≡ None)
            × ((number_at w64 d.bytes place ≡ 0 → ⊥) → (x : Member) × (variant_of v ≡ Some (number_at w64 d.bytes place, x)) × ShowMember d index (number_at w64 d.bytes place) (place + 8) x)
        go optional strict absent h p r within = ((λ e. refl), (λ some. absurd (some (number_64 d.bytes place 0 (omega arith) (stands_front d.bytes place (zeros 8) (zeros 8) p)))))
        go optional strict (union ordinal x) h p r within =
            let e = enveloped ds (find rows ordinal) x in
            let is = number_64 d.bytes place ordinal h.1 (stands_front d.bytes place (to_le_bytes w64 ordinal) e.inline p.0) in
            let some = h.0 in
            let mine : ShowMember d index ordinal (place + 8) x = record {
              typed = weaker ds strict (find rows ordinal) x h.2;
              stands = stands_back d.bytes place (to_le_bytes w64 ordinal) e.inline p.0;
              placed = p.1;
              readable = r.1;
              within = within;
            } in (
              (λ none. absurd (omega (arith, none, is, some))),
              (λ there. (x, ap (λ k. Some (k, x)) (sym is), subst (λ k. ShowMember d index k (place + 8) x) (sym is) mine)),
            )
        go optional strict _ h p r within = absurd h

  -- ---- what an envelope holds

  module _ (index ordinal place : ℕ) where
    -- the envelope of a known member of more than four bytes has the link of its object, and flags 0
    pub known_out : (e : ℕ) → e < (header_of d.table).entries → term_at d index ordinal ≡ Some (ty.named e) → 4 < (entry_at d.table e).size → (x : Member) → ShowMember d index ordinal place x
        → (place % 8 ≡ 0) × (0 < object_at d.links place) × (get_or d.bytes (place + 6) 0 ≡ 0)
    known_out e lt is more x s =
        go x (subst (λ (t : Option Term). IsTypedMember ds false t x) is s.typed) (subst (λ (t : Option Term). Stands d.bytes place (enveloped ds t x).inline) is s.stands)
        (subst (λ (t : Option Term). IsMemberReadable ds d.links t place x) is s.readable)
      where
        size : size_of ds (ty.named e) ≡ (entry_at d.table e).size
        size = size_is d.table fine e lt

        by : (b : Bool) (a : Encoding) → nat_le (size_of ds (ty.named e)) 4 ≡ b → Stands d.bytes place (cond b (inline_envelope (padded 4 a.inline) a.handles) (out_envelope (object a) a.handles)).inline → IsEnvelopeReadable d.links b place
            → (place % 8 ≡ 0) × (0 < object_at d.links place) × (get_or d.bytes (place + 6) 0 ≡ 0)
        by true a small st r = let few = le_of_test (size_of ds (ty.named e)) small in absurd (omega (arith, few, size, more))
        by false a large st r =
            let end = stands_back d.bytes place (to_le_bytes w32 (length (object a))) (envelope_end 0 a.handles) st in
            let flags = stands_to d.bytes (place + 4 + 2) (place + 6) (to_le_bytes w16 0) (omega arith) (stands_back d.bytes (place + 4) (to_le_bytes w16 (length a.handles)) (to_le_bytes w16 0) end) in
            (r.1.0, r.1.1, flags.1)

        go : (x : Member) → IsTypedMember ds false (Some (ty.named e)) x → Stands d.bytes place (enveloped ds (Some (ty.named e)) x).inline → IsMemberReadable ds d.links (Some (ty.named e)) place x
            → (place % 8 ≡ 0) × (0 < object_at d.links place) × (get_or d.bytes (place + 6) 0 ≡ 0)
        go (known v) h st r = by (nat_le (size_of ds (ty.named e)) 4) (encoding_of ds (resolve ds.terms (ty.named e)) v) refl st r.0
        go _ h st r = absurd h

    -- a known member
    pub known_shown : (e : ℕ) → e < (header_of d.table).entries → term_at d index ordinal ≡ Some (ty.named e) → (x : Member) → ShowMember d index ordinal place x
        → (u : Value) × (known_of x ≡ Some u) × Shows d e (enclosed_at d.links (nat_le (entry_at d.table e).size 4) place) u
    known_shown e lt is x s =
        go x (subst (λ (t : Option Term). IsTypedMember ds false t x) is s.typed) (subst (λ (t : Option Term). IsMemberPlaced ds m d.links t place x) is s.placed)
        (subst (λ (t : Option Term). IsMemberReadable ds d.links t place x) is s.readable) (subst (λ (t : Option Term). length (enveloped ds t x).out ≤ length d.bytes) is s.within)
      where
        size : size_of ds (ty.named e) ≡ (entry_at d.table e).size
        size = size_is d.table fine e lt

        own_out : (b : Bool) (n : ℕ) (a : Encoding) → nat_le n 4 ≡ b → (n ≤ 4 → a.out ≡ []) → length (cond b (inline_envelope (padded 4 a.inline) a.handles) (out_envelope (object a) a.handles)).out ≤ length d.bytes → length a.out ≤ length d.bytes
        own_out true n a e none within = subst (λ (o : List ℕ). length o ≤ length d.bytes) (sym (none (le_of_test n e))) (omega arith)
        own_out false n a e none within = let all = length-append (pad8 a.inline) a.out in omega (arith, within, all)

        go : (x : Member) → IsTypedMember ds false (Some (ty.named e)) x → IsMemberPlaced ds m d.links (Some (ty.named e)) place x → IsMemberReadable ds d.links (Some (ty.named e)) place x
            → length (enveloped ds (Some (ty.named e)) x).out ≤ length d.bytes
            → (u : Value) × (known_of x ≡ Some u) × Shows d e (enclosed_at d.links (nat_le (entry_at d.table e).size 4) place) u
        go (known v) h p r within =
            let term = resolve ds.terms (ty.named e) in
            let same = size_of-resolve ds fine.laid_out (ty.named e) in
            let mine : Shows d e (enclosed_at d.links (nat_le (size_of ds (ty.named e)) 4) place) v = record {
              typed = h;
              placed = p;
              readable = r.1;
              within = own_out (nat_le (size_of ds (ty.named e)) 4) (size_of ds (ty.named e)) (encoding_of ds term v) refl (λ small. no_out ds fine.laid_out term v h (omega (arith, same, small))) within;
            } in
            (v, refl, subst (λ k. Shows d e (enclosed_at d.links (nat_le k 4) place) v) size mine)
        go _ h p r within = absurd h
