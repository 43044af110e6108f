-- A refusal that is true of a message excludes that the message is an encoding.
use Rattle.std.proofs.Common.{◌≡◌, ℕ, suc, ◌+◌, ◌-◌, ◌*◌, ◌^◌, ◌<◌, ◌≤◌, List, [], ◌∷◌, length, get_or, take, refl, sym, ap, subst, ◌∙◌, arith, inl, inr, false, true}
use Rattle.std.specs.Prelude.{Bool, Option, Some, None, IfSome, Contains, replicate}
use Rattle.std.proofs.lemmas.List.{length-take, length-take-le, get_or-take}
use Rattle.std.proofs.lemmas.Option.{slice_get-get_or, slice_get_within, slice_get_past}
use Rattle.fidl_wire.specs.declared.handle.HandleInfo.{HandleInfo}
use Rattle.fidl_wire.specs.Term.{Term, Rows, resolve, find, IsBounded}
use Rattle.fidl_wire.specs.Term as ty
use Rattle.fidl_wire.specs.Figure.{Declarations, Figure, figure_of, size_of, IsLaidOut, IsSound}
use Rattle.fidl_wire.specs.Encoding.{zeros, present}
use Rattle.fidl_wire.specs.Standing.{Stands, Carries}
use Rattle.fidl_wire.specs.Typed.{InMask, IsAllowed}
use Rattle.fidl_table_format.specs.Number.{number_standing}
use Rattle.fidl_wire.specs.Message.{IsEncoding}
use Rattle.fidl_wire.proofs.Sizes.{end_of-le, le-next_multiple_of}
use Rattle.std.specs.Int.{next_multiple_of}
use Rattle.fidl_wire.proofs.Unique.{bounded-resolve}
use Rattle.fidl_table_format.specs.declared.record.Header.{Header}
use Rattle.fidl_table_format.specs.declared.kind.EntryKind.{EntryKind}
use Rattle.fidl_table_format.specs.declared.kind.EntryKind.TheVariants.{Vector, Array, Box, Struct}
use Rattle.fidl_table_format.specs.Section.{header_of, entry_at}
use Rattle.fidl_table_format.specs.Terms.{term_as, declarations_of, fields_from}
use Rattle.fidl_decode_model.specs.Invariants.{EntryFine, IsFine}
use Rattle.fidl_decode_model.specs.declared.fault.DecodeFault.{DecodeFault}
use Rattle.fidl_decode_model.specs.declared.fault.DecodeFault.TheVariants.{TooLong, TooManyHandles, Truncated, Padding, BadBool, UnknownValue, UnknownBits, BadMarker, AbsentRequired, BadCount}
use Rattle.fidl_decode_model.specs.declared.fault.DecodeFault.TheVariants.{OverBound, NotUtf8, BadEnvelope, WrongCounts, UnknownOrdinal, TooDeep, HandleMissing, WrongHandle, BytesLeft, HandlesLeft}
use Rattle.fidl_decode_model.specs.Rows.{Row, table_rows, element_rows, RowsRise}
use Rattle.fidl_decode_model.specs.State.{Message, Position, opened, linked, envelope_place, ValueAt, Members, Slots}
use Rattle.fidl_decode_model.specs.Envelopes.{Contained}
use Rattle.fidl_decode_model.specs.Breaks.{Part, parts_of, Object, object_of, count_at, ordinal_at, IsPadding, BreaksField, BreaksHandle, BreaksRule, Breaks, BreaksParts, BreaksEnvelopes, BreaksMember}
use Rattle.fidl_decode_model.specs.Breaks.{in_field, in_parts, in_object, in_table, in_union, at_member, behind_none, behind_member, by_numbers, in_envelope, out_of_line, by_counts, in_gap, in_next, in_later, in_end}
use Rattle.fidl_decode_model.specs.Faults.{IsWithin, IsTold, BreaksMessage, message_of, start_of}
use Rattle.fidl_decode_model.specs.Machine.{row_parts}
use Rattle.fidl_decode_model.proofs.Messages.{message_item}
use Rattle.fidl_decode_model.proofs.Single.{same_some, short_message, few_handles, item_unique, contained_unique, miscounts_excluded}
use Rattle.fidl_decode_model.proofs.Enclosed.{small_inline, large_out, contained_some, slots_step}
use Rattle.fidl_decode_model.proofs.Named.{NamedIf, bounded_if, named_rows, entry_row, content_rows}
use Rattle.fidl_decode_model.proofs.Broken.{union_chosen, union_excluded, table_value, table_excluded}
use Rattle.fidl_decode_model.proofs.Enveloped.{envelope_excluded}
use Rattle.fidl_decode_model.proofs.Rows.{members_end, members_more}
use Rattle.fidl_decode_model.proofs.Stated.{table_rise, struct_item, table_parts}
use Rattle.fidl_decode_model.proofs.Elements.{elements_rise, array_item, row_parts-elements}
use Rattle.fidl_decode_model.proofs.Visiting.{size_is, term_is, figure_is}
use Rattle.fidl_decode_model.proofs.Written.{padding_excluded, text_excluded}
use Rattle.fidl_decode_model.proofs.Objects.{padded_size, rows_wider}
use Rattle.fidl_decode_model.proofs.Boxed.{box_excluded, box_object, box_item, box_rise}
use Rattle.fidl_decode_model.proofs.Listed.{vector_excluded, vector_object, vector_item, vector_rise}
use Rattle.fidl_decode_model.proofs.Carried.{handle_item, no_both}
use Rattle.fidl_decode_model.proofs.Scalars.{bool_item, numeric_item, numeric_enum, numeric_bits}

-- ---- gaps and fields

field_excluded : (ds : Declarations) (m : Message) (held : ℕ) (t : Term) (place : ℕ) (from to : Position) (fault : DecodeFault) → BreaksField m t place fault → ValueAt ds m held t place from to → ⊥
field_excluded ds m held ty.bool place from to (BadBool at) b x =
    let over : 1 < get_or m.bytes place 0 = subst (λ n. 1 < get_or m.bytes n 0) b.0 b.1 in
    let le = (bool_item ds m held place from to x).1 in
    omega (arith, over, le)
field_excluded ds m held (ty.enum kind (Some values)) place from to (UnknownValue at) b x =
    let r = numeric_item ds m held place from (ty.enum kind (Some values)) kind (λ z. IfSome (Some values) (λ zs. Contains zs z)) (numeric_enum ds kind (Some values)) to x in
    b.1 (subst (λ n. Contains values (number_standing kind m.bytes n)) (sym b.0) r.1)
field_excluded ds m held (ty.bits kind (Some mask)) place from to (UnknownBits at) b x =
    let r = numeric_item ds m held place from (ty.bits kind (Some mask)) kind (λ z. IfSome (Some mask) (λ k. InMask k z)) (numeric_bits ds kind (Some mask)) to x in
    b.1 (subst (λ n. InMask mask (number_standing kind m.bytes n)) (sym b.0) r.1)
field_excluded ds m held t place from to fault b x = absurd b

unknown : false ≡ true → ⊥
unknown e = cc

none_some : (a : HandleInfo) → None ≡ Some a → ⊥
none_some a e = cc

handle_excluded : (ds : Declarations) (m : Message) (held : ℕ) (optional : Bool) (subtype rights place : ℕ) (from to : Position) (fault : DecodeFault) → BreaksHandle m optional subtype rights place from.handle fault → ValueAt ds m held (ty.handle optional subtype rights) place from to → ⊥
handle_excluded ds m held optional subtype rights place from to (BadMarker at) b x = elim (handle_item ds m held optional subtype rights place from to x) [
  | inl y ↦ b.1 (subst (λ p. Stands m.bytes p (zeros 4)) (sym b.0) y.0)
  | inr y ↦ b.2 (subst (λ p. Stands m.bytes p (replicate 4 255)) (sym b.0) y.0)
]
handle_excluded ds m held optional subtype rights place from to (AbsentRequired at) b x = elim (handle_item ds m held optional subtype rights place from to x) [
  | inl y ↦ unknown (sym b.1 ∙ y.1)
  | inr y ↦ no_both m.bytes place (subst (λ p. Stands m.bytes p (zeros 4)) b.0 b.2) y.0
]
handle_excluded ds m held optional subtype rights place from to (HandleMissing at) b x = elim (handle_item ds m held optional subtype rights place from to x) [
  | inl y ↦ no_both m.bytes place y.0 (subst (λ p. Stands m.bytes p (replicate 4 255)) b.0 b.1)
  | inr y ↦ none_some y.1.0 (sym (slice_get_past m.handles from.handle b.2) ∙ y.1.1)
]
handle_excluded ds m held optional subtype rights place from to (WrongHandle at) b x = elim (handle_item ds m held optional subtype rights place from to x) [
  | inl y ↦ no_both m.bytes place y.0 (subst (λ p. Stands m.bytes p (replicate 4 255)) b.0 b.1)
  | inr y ↦ b.2.2 (subst (λ (h : HandleInfo). IsAllowed subtype rights h) (same_some y.1.0 b.2.0 (sym y.1.1 ∙ b.2.1)) y.1.2)
]
handle_excluded ds m held optional subtype rights place from to fault b x = absurd b

rule_excluded : (ds : Declarations) → IsLaidOut ds → (m : Message) → length m.bytes < 2 ^ 32 → (held : ℕ) (t : Term) → IsBounded t → (place : ℕ) (from to : Position) (fault : DecodeFault) → BreaksRule ds m held t place from.next from.handle fault → ValueAt ds m held t place from to → ⊥
rule_excluded ds laid m short held (ty.string optional bound) few place from to fault b x = text_excluded ds m short held optional bound place from to fault b x
rule_excluded ds laid m short held (ty.vector optional bound u) few place from to fault b x = vector_excluded ds laid m held optional bound few.0 u place from to fault b x
rule_excluded ds laid m short held (ty.box u) few place from to fault b x = box_excluded ds laid m held u place from to fault b x
rule_excluded ds laid m short held (ty.handle optional subtype rights) few place from to fault b x = handle_excluded ds m held optional subtype rights place from to fault b x
rule_excluded ds laid m short held (ty.table rows) few place from to fault b x = table_excluded ds laid m held rows place from to fault b x
rule_excluded ds laid m short held (ty.union optional strict rows) few place from to fault b x = union_excluded ds m held optional strict rows place from to fault b x
rule_excluded ds laid m short held t few place from to fault b x = field_excluded ds m held t place from to fault b x

no_parts : (ps : List Part) → None ≡ Some ps → ⊥
no_parts ps e = cc

no_object : (o : Object) → None ≡ Some o → ⊥
no_object o e = cc

no_cons : (p : Part) (ps : List Part) → p ∷ ps ≡ [] → ⊥
no_cons p ps e = cc

no_nil : (p : Part) (ps : List Part) → [] ≡ p ∷ ps → ⊥
no_nil p ps e = cc

heads : (p q : Part) (ps qs : List Part) → p ∷ ps ≡ q ∷ qs → p ≡ q
heads p q ps qs e = cc

tails : (p q : Part) (ps qs : List Part) → p ∷ ps ≡ q ∷ qs → ps ≡ qs
tails p q ps qs e = cc

module _ (t : List ℕ) (fine : IsFine t) (sound : IsSound (declarations_of t)) (m : Message) (within : IsWithin m.bytes m.handles) where
  abbrev ds : Declarations
  ds = declarations_of t

  abbrev h : Header
  h = header_of t

  abbrev term : ℕ → Term
  term e = resolve ds.terms (ty.named e)

  abbrev fig : ℕ → Figure
  fig e = figure_of ds.figures (ty.named e)

  -- the rows of an object with parts, and its members
  abbrev Rowed : (held place size : ℕ) (ps : List Part) (from to : Position) → Type 0
  Rowed held place size ps from to = (nest : ℕ) × (rs : List Row) × (ps ≡ row_parts rs) × RowsRise ds h.entries nest size 0 rs × Members ds m held size place 0 rs from to

  rowed : (e : ℕ) (lt : e < h.entries) (held place : ℕ) (from to : Position) (ps : List Part) (k : EntryKind) → EntryFine t (entry_at t e) k → parts_of ds (term e) ≡ Some ps → ValueAt ds m held (term e) place from to → Rowed held place (size_of ds (term e)) ps from to
  rowed e lt held place from to ps k f has x = go k f
    where
      of_field : (u : Term) → term e ≡ u → parts_of ds u ≡ None → Rowed held place (size_of ds (term e)) ps from to
      of_field u is none = absurd (no_parts ps (sym none ∙ ap (λ (u : Term). parts_of ds u) (sym is) ∙ has))

      go : (k : EntryKind) → EntryFine t (entry_at t e) k → Rowed held place (size_of ds (term e)) ps from to
      go Struct f =
          let d = entry_at t e in
          let u = term_is t fine e Struct lt f.is in
          let g = figure_is t fine e Struct lt f.is in
          let fs = fields_from t h d.first d.count in
          let nest : (figure_of ds.figures (ty.struct fs)).nest ≡ d.nest = ap (λ (f : Figure). f.nest) g in
          let key = f.content.1 in
          let parts : ps ≡ row_parts (table_rows t h d.first d.count) = sym (same_some _ _ (ap (λ (u : Term). parts_of ds u) (sym u) ∙ has)) ∙ sym (table_parts t d.first d.count 0 key) in
          subst (λ (u : Term). Rowed held place (size_of ds u) ps from to) (sym u) (
            d.nest,
            table_rows t h d.first d.count,
            parts,
            table_rise t d.first d.count d.nest (size_of ds (ty.struct fs)) 0 key (end_of-le ds fs) (omega (arith, nest)),
            struct_item t m held place d.first d.count from to key (subst (λ (u : Term). ValueAt ds m held u place from to) u x),
          )
      go Array f =
          let d = entry_at t e in
          let u = term_is t fine e Array lt f.is in
          let g = figure_is t fine e Array lt f.is in
          let nest : suc (fig d.first).nest ≡ d.nest = ap (λ (f : Figure). f.nest) g in
          let rs = element_rows d.first (size_of ds (ty.named d.first)) d.count 0 in
          let parts : ps ≡ row_parts rs = sym (same_some _ _ (ap (λ (u : Term). parts_of ds u) (sym u) ∙ has)) ∙ sym (row_parts-elements ds d.first d.count 0) in
          let flat : 0 + (fig d.first).size * d.count ≡ (fig d.first).size * d.count = omega arith in
          subst (λ (u : Term). Rowed held place (size_of ds u) ps from to) (sym u) (
            d.nest,
            rs,
            parts,
            subst (λ k. RowsRise ds h.entries d.nest k 0 rs) flat (elements_rise ds d.first h.entries d.nest d.count 0 f.content.0 (omega (arith, nest))),
            array_item ds d.first m held place d.count from to (subst (λ (u : Term). ValueAt ds m held u place from to) u x),
          )
      go k f = of_field (term_as k t h (entry_at t e)) (term_is t fine e k lt f.is) refl

  -- the rows of an object out of line, and its members
  abbrev Below : (held : ℕ) (o : Object) (from to : Position) → Type 0
  Below held o from to = (nest : ℕ) × (rs : List Row) × (o.parts ≡ row_parts rs) × RowsRise ds h.entries nest (padded_size o.size) 0 rs × Members ds m (held + 1) (padded_size o.size) from.next 0 rs (linked o.marker o.size from) to

  below : (e : ℕ) (lt : e < h.entries) (held place : ℕ) (from to : Position) (o : Object) (k : EntryKind) → EntryFine t (entry_at t e) k → object_of ds m.bytes (term e) place ≡ Some o → Stands m.bytes o.marker present → ValueAt ds m held (term e) place from to → Below held o from to
  below e lt held place from to o k f has ones x = go k f
    where
      of_field : (u : Term) → term e ≡ u → object_of ds m.bytes u place ≡ None → Below held o from to
      of_field u is none = absurd (no_object o (sym none ∙ ap (λ (u : Term). object_of ds m.bytes u place) (sym is) ∙ has))

      go : (k : EntryKind) → EntryFine t (entry_at t e) k → Below held o from to
      go Box f =
          let u = term_is t fine e Box lt f.is in
          let inner = entry_at t (entry_at t e).first in
          let same = box_object t fine m held e place from lt f.is o (ap (λ (u : Term). object_of ds m.bytes u place) (sym u) ∙ has) in
          let marked : Stands m.bytes place present = subst (λ (o : Object). Stands m.bytes o.marker present) same ones in
          let opened = box_item t fine m held e place from lt f.is to (subst (λ (u : Term). ValueAt ds m held u place from to) u x) marked in
          let rise = box_rise t fine m held e place from lt f.is in
          let size = size_of ds (ty.struct (fields_from t h inner.first inner.count)) in
          let rs = table_rows t h inner.first inner.count in
          subst (λ (o : Object). Below held o from to) (sym same)
          (inner.nest, rs, refl, rows_wider ds fine.laid_out h.entries inner.nest size (padded_size size) 0 rs (le-next_multiple_of size 8) rise, opened.members)
      go Vector f =
          let d = entry_at t e in
          let u = term_is t fine e Vector lt f.is in
          let same = vector_object t fine m held e place from lt f.is o (ap (λ (u : Term). object_of ds m.bytes u place) (sym u) ∙ has) in
          let marked : Stands m.bytes (place + 8) present = subst (λ (o : Object). Stands m.bytes o.marker present) same ones in
          let opened = vector_item t fine m held e place from lt f.is to (subst (λ (u : Term). ValueAt ds m held u place from to) u x) marked in
          let rise = vector_rise t fine m held e place from lt f.is in
          let n = count_at m.bytes place in
          let size = size_of ds (ty.named d.first) * n in
          let rs = element_rows d.first (size_of ds (ty.named d.first)) n 0 in
          let nest = (entry_at t d.first).nest + 1 in
          subst (λ (o : Object). Below held o from to) (sym same)
          (nest, rs, refl, rows_wider ds fine.laid_out h.entries nest size (padded_size size) 0 rs (le-next_multiple_of size 8) rise, opened.members)
      go k f = of_field (term_as k t h (entry_at t e)) (term_is t fine e k lt f.is) refl

  abbrev part_of : Row → Part
  part_of r = record { offset = r.offset; term = ty.named r.entry }

  mutual
    pub item_excluded : (held e place : ℕ) (from to : Position) (fault : DecodeFault) (u : Term) → e < h.entries → u ≡ term e → Breaks ds m held u place from fault → ValueAt ds m held u place from to → ⊥
    item_excluded held e place from to fault u lt is (in_field u' place' from' fault' b) x =
        let few = bounded-resolve ds.terms (ty.named e) sound.bounded tt in
        rule_excluded ds fine.laid_out m (short_message m within) held u (subst IsBounded (sym is) few) place from to fault b x
    item_excluded held e place from to fault u lt is (in_parts u' place' from' fault' ps has b) x =
        let r = rowed e lt held place from to ps (fine.each e lt).0 (fine.each e lt).1 (ap (λ (u : Term). parts_of ds u) (sym is) ∙ has) (subst (λ (u : Term). ValueAt ds m held u place from to) is x) in
        let size : size_of ds (term e) ≡ size_of ds u = ap (λ (u : Term). size_of ds u) (sym is) in
        parts_excluded held (size_of ds u) place 0 ps r.0 r.1 from to fault r.2 (subst (λ n. RowsRise ds h.entries r.0 n 0 r.1) size r.3) b (subst (λ n. Members ds m held n place 0 r.1 from to) size r.4)
    item_excluded held e place from to fault u lt is (in_object u' place' from' fault' o has ones right b) x =
        let r = below e lt held place from to o (fine.each e lt).0 (fine.each e lt).1 (ap (λ (u : Term). object_of ds m.bytes u place) (sym is) ∙ has) ones (subst (λ (u : Term). ValueAt ds m held u place from to) is x) in
        parts_excluded (held + 1) (padded_size o.size) from.next 0 o.parts r.0 r.1 (linked o.marker o.size from) to fault r.2 r.3 b r.4
    item_excluded held e place from to fault u lt is (in_table rows place' from' fault' ones right b) x =
        envelopes_excluded (held + 1) rows (named_rows t fine e u lt is) 0 (count_at m.bytes place) from.next (linked (place + 8) (8 * count_at m.bytes place) from) to 1 fault refl b (table_value ds fine.laid_out m held rows place from to x).slots
    item_excluded held e place from to fault u lt is (in_union optional strict rows place' from' fault' some right b) x =
        member_excluded held (find rows (ordinal_at m.bytes place)) (named_rows t fine e u lt is (ordinal_at m.bytes place)) (place + 8) from to fault b (union_chosen ds m held optional strict rows place from to some x).contained

    envelopes_excluded : (held : ℕ) (rows : Rows) (named : (ordinal : ℕ) → NamedIf (find rows ordinal)) (read n base : ℕ) (from to : Position) (ordinal : ℕ) (fault : DecodeFault) → suc read ≡ ordinal → BreaksEnvelopes ds m held rows ordinal n base from fault
        → Slots ds m held rows read n base from to → ⊥
    envelopes_excluded held rows named read n base from to ordinal fault same (at_member rows' ordinal' n' base' from' fault' le some b) y =
        let some' = subst (λ o. Stands m.bytes (envelope_place base o) (zeros 8) → ⊥) (sym same) some in
        elim (slots_step ds fine.laid_out m held rows n base read from to (omega (arith, le, same)) y) [
          | inl z ↦ some' z.0
          | inr c ↦ member_excluded held (find rows ordinal) (named ordinal) (envelope_place base ordinal) from c.mid fault b (subst (λ o. Contained ds m held (find rows o) (envelope_place base o) from c.mid) same c.contained)
        ]
    envelopes_excluded held rows named read n base from to ordinal fault same (behind_none rows' ordinal' n' base' from' fault' le z b) y =
        elim (slots_step ds fine.laid_out m held rows n base read from to (omega (arith, le, same)) y) [
          | inl s ↦ envelopes_excluded held rows named (suc read) n base from to (suc ordinal) fault (ap suc same) b s.1
          | inr c ↦ contained_some ds fine.laid_out m within held (find rows (suc read)) (envelope_place base (suc read)) from c.mid c.contained (subst (λ o. Stands m.bytes (envelope_place base o) (zeros 8)) (sym same) z)
        ]
    envelopes_excluded held rows named read n base from to ordinal fault same (behind_member rows' ordinal' n' base' from' mid fault' le c b) y =
        let own = subst (λ o. Contained ds m held (find rows o) (envelope_place base o) from mid) (sym same) c in
        elim (slots_step ds fine.laid_out m held rows n base read from to (omega (arith, le, same)) y) [
          | inl s ↦ contained_some ds fine.laid_out m within held (find rows (suc read)) (envelope_place base (suc read)) from mid own s.0
          | inr d ↦
              let one = contained_unique ds sound m within held held (find rows (suc read)) (bounded_if (find rows (suc read)) (named (suc read))) (envelope_place base (suc read)) from d.mid mid d.contained own in
              envelopes_excluded held rows named (suc read) n base mid to (suc ordinal) fault (ap suc same) b (subst (λ (s : Position). Slots ds m held rows (suc read) n base s to) one d.slots)
        ]

    member_excluded : (held : ℕ) (o : Option Term) → NamedIf o → (p : ℕ) (from to : Position) (fault : DecodeFault) → BreaksMember ds m held o p from fault → Contained ds m held o p from to → ⊥
    member_excluded held o named p from to fault (by_numbers o' p' from' fault' b) x = envelope_excluded ds fine.laid_out m within held p from o to fault b x
    member_excluded held o named p from to fault (in_envelope v p' from' fault' can le b) x =
        let e = named.0 in
        let y = content_rows t fine m within held v e named.1 p from to true (small_inline (size_of ds v) le) x in
        parts_excluded held 4 p 0 (record { offset = 0; term = v } ∷ []) (suc (fig e).nest) (entry_row e) (opened p from) to fault (ap (λ (v : Term). (let q : Part = record { offset = 0; term = v } in q) ∷ []) named.1) y.0 b y.1
    member_excluded held o named p from to fault (out_of_line v p' from' fault' can gt right b) x =
        let e = named.0 in
        let y = content_rows t fine m within held v e named.1 p from to false (large_out (size_of ds v) gt) x in
        parts_excluded (held + 1) (next_multiple_of (size_of ds v) 8) from.next 0 (record { offset = 0; term = v } ∷ []) (suc (fig e).nest) (entry_row e) (linked p (size_of ds v) (opened p from)) to fault
        (ap (λ (v : Term). (let q : Part = record { offset = 0; term = v } in q) ∷ []) named.1) y.0 b y.1
    member_excluded held o named p from to fault (by_counts v p' from' wrong) x = miscounts_excluded ds sound m within held v (bounded_if (Some v) named) p from to wrong x

    parts_excluded : (held size base done : ℕ) (ps : List Part) (nest : ℕ) (rs : List Row) (from to : Position) (fault : DecodeFault) → ps ≡ row_parts rs → RowsRise ds h.entries nest size done rs → BreaksParts ds m held size base done ps from fault → Members ds m held size base done rs from to → ⊥
    parts_excluded held size base done ps nest (r ∷ rs) from to fault e rise (in_gap size' base' done' p qs from' fault' b) y =
        let a = members_more ds fine.laid_out m held h.entries nest size base done r rs from to rise y in
        let q = heads p (part_of r) qs (row_parts rs) e in
        let b' : IsPadding m.bytes (base + done) (base + r.offset) fault = subst (λ (p : Part). IsPadding m.bytes (base + done) (base + p.offset) fault) q b in
        padding_excluded m.bytes (base + done) (base + r.offset) (r.offset - done) fault (omega (arith, rise.1)) a.0 b'
    parts_excluded held size base done ps nest (r ∷ rs) from to fault e rise (in_next size' base' done' p qs from' fault' z b) y =
        let a = members_more ds fine.laid_out m held h.entries nest size base done r rs from to rise y in
        let q = heads p (part_of r) qs (row_parts rs) e in
        item_excluded held r.entry (base + p.offset) from a.1.0 fault (resolve ds.terms p.term) rise.0 (ap (λ (p : Part). resolve ds.terms p.term) q) b
        (subst (λ (p : Part). ValueAt ds m held (resolve ds.terms p.term) (base + p.offset) from a.1.0) (sym q) a.1.1)
    parts_excluded held size base done ps nest (r ∷ rs) from to fault e rise (in_later size' base' done' p qs from' mid fault' z i b) y =
        let a = members_more ds fine.laid_out m held h.entries nest size base done r rs from to rise y in
        let q = heads p (part_of r) qs (row_parts rs) e in
        let i' = subst (λ (p : Part). ValueAt ds m held (resolve ds.terms p.term) (base + p.offset) from mid) q i in
        let same : a.1.0 ≡ mid = item_unique ds sound m (short_message m within) (few_handles m within) held held (term r.entry) (bounded-resolve ds.terms (ty.named r.entry) sound.bounded tt) (base + r.offset) from a.1.0 mid a.1.1 i' in
        let done' : r.offset + size_of ds (ty.named r.entry) ≡ p.offset + size_of ds p.term = ap (λ (p : Part). p.offset + size_of ds p.term) (sym q) in
        parts_excluded held size base (p.offset + size_of ds p.term) qs nest rs mid to fault (tails p (part_of r) qs (row_parts rs) e) (subst (λ n. RowsRise ds h.entries nest size n rs) done' rise.3) b
        (subst (λ (s : Position). Members ds m held size base (p.offset + size_of ds p.term) rs s to) same (subst (λ n. Members ds m held size base n rs a.1.0 to) done' a.1.2))
    parts_excluded held size base done ps nest [] from to fault e rise (in_end size' base' done' from' fault' b) y =
        let deep = y.shallow in
        let z = ((members_end ds fine.laid_out m held size base done from to (omega (arith, deep))).0 y).1 in
        padding_excluded m.bytes (base + done) (base + size) (size - done) fault (omega (arith, rise)) z b
    parts_excluded held size base done ps nest [] from to fault e rise (in_gap size' base' done' p qs from' fault' b) y = absurd (no_cons p qs e)
    parts_excluded held size base done ps nest [] from to fault e rise (in_next size' base' done' p qs from' fault' z b) y = absurd (no_cons p qs e)
    parts_excluded held size base done ps nest [] from to fault e rise (in_later size' base' done' p qs from' mid fault' z i b) y = absurd (no_cons p qs e)
    parts_excluded held size base done ps nest (r ∷ rs) from to fault e rise (in_end size' base' done' from' fault' b) y = absurd (no_nil (part_of r) (row_parts rs) e)

-- ---- whole messages

stands_wider : (m : List ℕ) (n p : ℕ) (a : List ℕ) → n ≤ length m → Stands (take n m) p a → Stands m p a
stands_wider m n p [] le h = tt
stands_wider m n p (x ∷ a) le h =
    let len = length-take-le n m le in
    let lt = h.0 in
    (omega (arith, len, lt), sym (get_or-take n m p 0 (omega (arith, len, lt))) ∙ h.1, stands_wider m n (p + 1) a le h.2)

carries_wider : (hs : List HandleInfo) (n p : ℕ) (a : List HandleInfo) → Carries (take n hs) p a → Carries hs p a
carries_wider hs n p [] h = tt
carries_wider hs n p (x ∷ a) h =
    let within = slice_get_within (take n hs) p x h.0 in
    let cut = length-take n hs in
    let is : get_or (take n hs) p x ≡ x = same_some _ _ (sym (slice_get-get_or (take n hs) p x within) ∙ h.0) in
    let old : get_or hs p x ≡ x = sym (get_or-take n hs p x (omega (arith, cut, within))) ∙ is in
    (slice_get-get_or hs p x (omega (arith, cut, within)) ∙ ap (λ y. Some y) old, carries_wider hs n (p + 1) a h.1)

item_wider : (types : Declarations) (m m' : Message) (held : ℕ) (t : Term) (place : ℕ) (from to : Position) → ((p : ℕ) (a : List ℕ) → Stands m.bytes p a → Stands m'.bytes p a) → ((p : ℕ) (a : List HandleInfo) → Carries m.handles p a → Carries m'.handles p a)
    → ValueAt types m held t place from to → ValueAt types m' held t place from to
item_wider types m m' held t place from to f g x = record {
  value = x.value;
  typed = x.typed;
  shallow = x.shallow;
  stands = record { inline = f _ _ x.stands.inline; out = f _ _ x.stands.out; carried = g _ _ x.stands.carried };
  end = x.end;
}

module _ (t : List ℕ) (fine : IsFine t) (sound : IsSound (declarations_of t)) (e : ℕ) (lt : e < (header_of t).entries) (bytes : List ℕ) (handles : List HandleInfo) (y : IsEncoding (declarations_of t) (ty.named e) bytes handles) where
  abbrev whole : Message
  whole = message_of bytes handles

  within : IsWithin bytes handles
  within = (y.1.short, y.1.few)

  size : size_of (declarations_of t) (ty.named e) ≡ (entry_at t e).size
  size = size_is t fine e lt

  -- where a value ends that has a part of the message as its own
  ended : (part : Message) → ((p : ℕ) (a : List ℕ) → Stands part.bytes p a → Stands bytes p a) → ((p : ℕ) (a : List HandleInfo) → Carries part.handles p a → Carries handles p a) → IsEncoding (declarations_of t) (ty.named e) part.bytes part.handles
      → (length part.bytes ≡ length bytes) × (length part.handles ≡ length handles)
  ended part f g z =
      let a = (message_item t fine part e lt [] [] z).2 in
      let b = (message_item t fine whole e lt [] [] y).2 in
      let bounded = bounded-resolve (declarations_of t).terms (ty.named e) sound.bounded tt in
      let same = item_unique (declarations_of t) sound whole (short_message whole within) (few_handles whole within) 0 0
      (resolve (declarations_of t).terms (ty.named e)) bounded 0 (start_of (entry_at t e).size) a.0 b.0
      (item_wider (declarations_of t) part whole 0 (resolve (declarations_of t).terms (ty.named e)) 0 (start_of (entry_at t e).size) a.0 f g a.2)
      b.2 in
      (sym a.1.bytes ∙ ap (λ (s : Position). s.next) same ∙ b.1.bytes, sym a.1.handles ∙ ap (λ (s : Position). s.handle) same ∙ b.1.handles)

  part_excluded : (fault : DecodeFault) → BreaksMessage (declarations_of t) (ty.named e) whole fault → ⊥
  part_excluded fault b =
      let r = message_item t fine whole e lt [] [] y in
      elim b [
        | inl p ↦ let far = le-next_multiple_of (entry_at t e).size 8 in
            padding_excluded bytes (entry_at t e).size (next_multiple_of (entry_at t e).size 8) (next_multiple_of (entry_at t e).size 8 - (entry_at t e).size) fault (omega (arith, far)) r.1 (subst (λ (s : ℕ). IsPadding bytes s (next_multiple_of s 8) fault) size p)
        | inr i ↦ item_excluded t fine sound whole within 0 e 0 (start_of (entry_at t e).size) r.2.0 fault
            (resolve (declarations_of t).terms (ty.named e)) lt refl (subst
            (λ (s : ℕ). Breaks (declarations_of t) whole 0 (resolve (declarations_of t).terms (ty.named e)) 0 (start_of s) fault) size i) r.2.2
      ]

  pub told_excluded : (fault : DecodeFault) → IsTold (declarations_of t) (ty.named e) bytes handles fault → ⊥
  told_excluded (TooLong at) h = let s = y.1.short in omega (arith, h.1)
  told_excluded (TooManyHandles at) h = let s = y.1.few in omega (arith, h.2)
  told_excluded (Truncated at) h = elim h.1 [
    | inl p ↦ let r = message_item t fine whole e lt [] [] y in
        let primary = ap (λ n. next_multiple_of n 8) size in
        omega (arith, p.1, r.0, primary)
    | inr b ↦ part_excluded (Truncated at) b
  ]
  told_excluded (Padding at) h = part_excluded (Padding at) h.1
  told_excluded (BadBool at) h = part_excluded (BadBool at) h.1
  told_excluded (UnknownValue at) h = part_excluded (UnknownValue at) h.1
  told_excluded (UnknownBits at) h = part_excluded (UnknownBits at) h.1
  told_excluded (BadMarker at) h = part_excluded (BadMarker at) h.1
  told_excluded (AbsentRequired at) h = part_excluded (AbsentRequired at) h.1
  told_excluded (BadCount at) h = part_excluded (BadCount at) h.1
  told_excluded (OverBound at) h = part_excluded (OverBound at) h.1
  told_excluded (NotUtf8 at) h = part_excluded (NotUtf8 at) h.1
  told_excluded (BadEnvelope at) h = part_excluded (BadEnvelope at) h.1
  told_excluded (WrongCounts at) h = part_excluded (WrongCounts at) h.1
  told_excluded (UnknownOrdinal at) h = part_excluded (UnknownOrdinal at) h.1
  told_excluded (TooDeep at) h = part_excluded (TooDeep at) h.1
  told_excluded (HandleMissing at) h = part_excluded (HandleMissing at) h.1
  told_excluded (WrongHandle at) h = part_excluded (WrongHandle at) h.1
  told_excluded (BytesLeft at) h =
      let before = h.1 in
      let n = h.2.0 in
      let same = (ended (message_of (take at bytes) (take n handles)) (λ p a. stands_wider bytes at p a (omega (arith, before))) (λ p a. carries_wider handles n p a) h.2.1).0 in
      let len = length-take-le at bytes (omega (arith, before)) in
      omega (arith, same, len, before)
  told_excluded (HandlesLeft at) h =
      let n = h.2.0 in
      let fewer = h.2.1 in
      let same = (ended (message_of bytes (take n handles)) (λ p a s. s) (λ p a. carries_wider handles n p a) h.2.2).1 in
      let len = length-take-le n handles (omega (arith, fewer)) in
      omega (arith, same, len, fewer)
