-- Boxes: which values of a box stand at a place, and what a visit of one finds.
use Rattle.std.proofs.Common.{◌≡◌, ℕ, ◌+◌, ◌-◌, ◌<◌, ◌≤◌, List, length, refl, sym, ap, subst, ◌∙◌, arith, inl, inr, ◌%◌}
use Rattle.std.specs.Prelude.{◌⊎◌, Some, None}
use Rattle.fidl_limits.specs.declared.limits.TheConstants.{MAX_DEPTH}
use Rattle.fidl_wire.specs.Value.{Value, Values, absent, fields}
use Rattle.fidl_wire.specs.Term.{Term, Fields, resolve, fields_of}
use Rattle.fidl_wire.specs.Term as ty
use Rattle.fidl_wire.specs.Figure.{Declarations, Figure, IsLaidOut, figure_of, size_of, figure}
use Rattle.fidl_wire.specs.Typed.{IsTyped, IsStruct, EachTyped}
use Rattle.fidl_wire.specs.Encoding.{Encoding, zeros, present, object, pad8, members, encoding_of}
use Rattle.fidl_wire.specs.Depth.{depth_of, fields_depth}
use Rattle.fidl_wire.specs.Standing.{Stands, Carries}
use Rattle.fidl_wire.proofs.Sizes.{length-members, end_of-le}
use Rattle.fidl_wire.proofs.Stand.{stands_front}
use Rattle.fidl_table_format.specs.declared.record.Header.{Header}
use Rattle.fidl_table_format.specs.declared.record.Entry.{Entry}
use Rattle.fidl_table_format.specs.declared.kind.EntryKind.TheVariants.{Box, Struct}
use Rattle.fidl_table_format.specs.Kind.{kind_of}
use Rattle.fidl_table_format.specs.Section.{header_of, entry_at}
use Rattle.fidl_table_format.specs.Terms.{declarations_of, fields_from}
use Rattle.fidl_decode_model.specs.Invariants.{Keys, IsFine}
use Rattle.fidl_decode_model.specs.declared.fault.DecodeFault.{DecodeFault}
use Rattle.fidl_decode_model.specs.declared.fault.DecodeFault.TheVariants.{BadMarker, TooDeep, Truncated}
use Rattle.fidl_decode_model.specs.declared.frame.Remaining.TheVariants.{Rows}
use Rattle.fidl_decode_model.specs.Rows.{Row, table_rows, RowsRise}
use Rattle.fidl_decode_model.specs.State.{Message, Position, linked, after, after_fields, StandsAt, ValueAt}
use Rattle.fidl_decode_model.specs.Breaks.{Part, Object, object_of, member_parts, BreaksBox, BreaksRule, Breaks, BreaksParts}
use Rattle.fidl_decode_model.specs.Breaks as broken
use Rattle.fidl_decode_model.proofs.Aligned.{even_eights_fields, no_names}
use Rattle.fidl_decode_model.proofs.Evenly.{table_even}
use Rattle.fidl_decode_model.specs.Machine.{row_parts, StateFine, Visits, VisitFine}
use Rattle.fidl_decode_model.specs.Work.{values_work}
use Rattle.fidl_decode_model.specs.Worth.{ValueWorth}
use Rattle.fidl_decode_model.proofs.After.{length-pad8}
use Rattle.fidl_decode_model.proofs.Stated.{stated, typed_rows, rows_typed, enc_rows-table, depth_rows-table, after_rows-table, table_rise, table_parts}
use Rattle.fidl_decode_model.proofs.Visiting.{fine_as, term_is, figure_is, size_as}
use Rattle.fidl_decode_model.proofs.Objects.{padded_size, zeros_or_ones, stands_within, Opened, inline_is, object_room, stands_object, object_stands, object_carries, object_frame, visits_absent, visits_object, object_fine}

some_object : (a b : Object) → Some a ≡ Some b → a ≡ b
some_object a b e = cc

module _ (ds : Declarations) (laid : IsLaidOut ds) (m : Message) (held : ℕ) (u : Term) (place : ℕ) (from : Position) where
  -- a present box of a type that is a struct
  pub record Boxed (w : Term) (to : Position) : Type 0 where
    pub values : Values
    pub struct : IsStruct w
    pub typed : EachTyped ds (fields_of w) values
    pub shallow : fields_depth ds (fields_of w) values + (held + 1) ≤ MAX_DEPTH
    pub ones : Stands m.bytes place present
    pub out : Stands m.bytes from.next (object (members ds (size_of ds (ty.struct (fields_of w))) 0 (fields_of w) values))
    pub carried : Carries m.handles from.handle (members ds (size_of ds (ty.struct (fields_of w))) 0 (fields_of w) values).handles
    pub end : to ≡ after_fields ds (fields_of w) 0 values from.next (linked place (length (members ds (size_of ds (ty.struct (fields_of w))) 0 (fields_of w) values).inline) from)

  pub box_values : (to : Position) → ValueAt ds m held (ty.box u) place from to → (Stands m.bytes place (zeros 8) × (from ≡ to)) ⊎ Boxed (resolve ds.terms u) to
  box_values to x = only x.value x.typed x.shallow x.stands x.end
    where
      only : (v : Value) → IsTyped ds (ty.box u) v → depth_of ds (ty.box u) v + held ≤ MAX_DEPTH → StandsAt m (encoding_of ds (ty.box u) v) place from → to ≡ after ds (ty.box u) v place from
          → (Stands m.bytes place (zeros 8) × (from ≡ to)) ⊎ Boxed (resolve ds.terms u) to
      only absent h d s e = inl (s.inline, sym e)
      only (fields vs) h d s e = inr (record { values = vs; struct = h.0; typed = h.1; shallow = omega (arith, d); ones = s.inline; out = s.out; carried = s.carried; end = e })
      only _ h d s e = absurd h

  -- a box is worth one more than the members of its content
  pub worth_box : (to : Position) → (b : Boxed (resolve ds.terms u) to) → (w : ℕ) → values_work b.values ≤ w → ValueWorth ds m held (ty.box u) place from to (w + 1)
  worth_box to b w le = (
    record {
      value = fields b.values;
      typed = (b.struct, b.typed);
      shallow = (let d = b.shallow in omega (arith, d));
      stands = record { inline = b.ones; out = b.out; carried = b.carried };
      end = b.end;
    },
    omega (arith, le),
  )

  pub absent_box : Stands m.bytes place (zeros 8) → held ≤ MAX_DEPTH → ValueWorth ds m held (ty.box u) place from from 1
  absent_box z deep = (record { value = absent; typed = tt; shallow = omega arith; stands = record { inline = z; out = tt; carried = tt }; end = refl }, omega arith)

  -- the content of a present box fits the message
  boxed_room : (w : Term) (to : Position) → Boxed w to → padded_size (size_of ds (ty.struct (fields_of w))) ≤ length m.bytes - from.next
  boxed_room w to b =
      let fs = fields_of w in
      let size = size_of ds (ty.struct fs) in
      let e = members ds size 0 fs b.values in
      let long : 0 + length e.inline ≡ size = length-members ds laid fs size 0 b.values (end_of-le ds fs) b.typed in
      let wide : length (pad8 e.inline) ≡ padded_size size = length-pad8 e.inline ∙ ap padded_size (omega (arith, long)) in
      omega (arith, stands_within m.bytes from.next (pad8 e.inline) (stands_front m.bytes from.next (pad8 e.inline) e.out b.out), wide)

  pub box_excluded : (to : Position) (fault : DecodeFault) → BreaksBox m held (size_of ds (ty.struct (fields_of (resolve ds.terms u)))) place from.next fault → ValueAt ds m held (ty.box u) place from to → ⊥
  box_excluded to (BadMarker at) b x = elim (box_values to x) [ inl y ↦ b.1 y.0 | inr y ↦ b.2 y.ones ]
  box_excluded to (TooDeep at) b x = elim (box_values to x) [
    | inl y ↦ zeros_or_ones m.bytes place y.0 b.1
    | inr y ↦ let d = y.shallow in omega (arith, d, b.2)
  ]
  box_excluded to (Truncated at) b x = elim (box_values to x) [
    | inl y ↦ zeros_or_ones m.bytes place y.0 b.1
    | inr y ↦ omega (arith, boxed_room (resolve ds.terms u) to y, b.2)
  ]
  box_excluded to fault b x = absurd b

  -- a present box that is not too deep, and whose content fits, breaks no rule by itself
  pub box_right : Stands m.bytes place present → held < MAX_DEPTH → padded_size (size_of ds (ty.struct (fields_of (resolve ds.terms u)))) ≤ length m.bytes - from.next
      → (other : DecodeFault) → BreaksRule ds m held (ty.box u) place from.next from.handle other → ⊥
  box_right ones shallow room (BadMarker at) b = b.2 ones
  box_right ones shallow room (TooDeep at) b = omega (arith, shallow, b.2)
  box_right ones shallow room (Truncated at) b = omega (arith, room, b.2)
  box_right ones shallow room other b = absurd b

-- ---- in a table

module _ (t : List ℕ) (fine : IsFine t) (m : Message) (held e place : ℕ) (from : Position) (lt : e < (header_of t).entries) (is : kind_of (entry_at t e).kind ≡ Some Box) where
  abbrev ds : Declarations
  ds = declarations_of t

  abbrev h : Header
  h = header_of t

  -- the entry of the content
  abbrev pub inner : Entry
  inner = entry_at t (entry_at t e).first

  abbrev c : ℕ
  c = (entry_at t e).first

  abbrev fs : Fields
  fs = fields_from t h inner.first inner.count

  abbrev size : ℕ
  size = size_of ds (ty.struct fs)

  abbrev rs : List Row
  rs = table_rows t h inner.first inner.count

  abbrev u : Term
  u = ty.named c

  inside : c < h.entries
  inside = (fine_as t fine e Box lt is).content.0

  struct_is : kind_of inner.kind ≡ Some Struct
  struct_is = (fine_as t fine e Box lt is).content.1

  content_is : resolve ds.terms u ≡ ty.struct fs
  content_is = term_is t fine c Struct inside struct_is

  keys : Keys t inner.first inner.count 0
  keys = (fine_as t fine c Struct inside struct_is).content.1

  pub content_size : size ≡ inner.size
  content_size = size_as t fine c Struct inside struct_is

  pub box_rise : RowsRise ds h.entries inner.nest size 0 rs
  box_rise =
      let nest : (figure_of ds.figures (ty.struct fs)).nest ≡ inner.nest = ap (λ (f : Figure). f.nest) (figure_is t fine c Struct inside struct_is) in
      table_rise t inner.first inner.count inner.nest size 0 keys (end_of-le ds fs) (omega (arith, nest))

  boxed_opens : (to : Position) → Boxed ds fine.laid_out m held u place from (ty.struct fs) to → Opened ds m held place size rs from to
  boxed_opens to b =
      let vs = b.values in
      let typed = typed_rows t inner.first inner.count vs b.typed in
      let same = enc_rows-table t inner.first inner.count size 0 vs keys in
      let deep = depth_rows-table t inner.first inner.count vs in
      let long = ap (λ (x : Encoding). length x.inline) same ∙ inline_is ds fine.laid_out h.entries inner.nest size rs box_rise vs typed in
      let out = subst (λ (x : Encoding). Stands m.bytes from.next (object x)) same b.out in
      let d = b.shallow in
      record {
        ones = b.ones;
        shallow = omega (arith, d);
        room = object_room ds fine.laid_out h.entries inner.nest size rs box_rise vs typed m place from out;
        members = record {
          values = vs;
          typed = typed;
          shallow = omega (arith, d, deep);
          stands = stands_object ds fine.laid_out h.entries inner.nest size rs box_rise vs typed m place from out (subst (λ (x : Encoding). Carries m.handles from.handle x.handles) same b.carried);
          end = b.end ∙ ap (λ n. after_fields ds fs 0 vs from.next (linked place n from)) long ∙ after_rows-table t inner.first inner.count 0 vs from.next (linked place size from) keys;
        };
      }

  opened_boxes : (to : Position) → (o : Opened ds m held place size rs from to) → (b : Boxed ds fine.laid_out m held u place from (ty.struct fs) to) × (values_work b.values ≤ values_work o.members.values)
  opened_boxes to o =
      let y = o.members in
      let vs = y.values in
      let same = enc_rows-table t inner.first inner.count size 0 vs keys in
      let deep = depth_rows-table t inner.first inner.count vs in
      let long = ap (λ (x : Encoding). length x.inline) same ∙ inline_is ds fine.laid_out h.entries inner.nest size rs box_rise vs y.typed in (
        record {
          values = vs;
          struct = tt;
          typed = rows_typed t inner.first inner.count vs y.typed;
          shallow = omega (arith, y.shallow, deep);
          ones = o.ones;
          out = subst (λ (x : Encoding). Stands m.bytes from.next (object x)) (sym same) (object_stands ds fine.laid_out h.entries inner.nest size rs box_rise vs y.typed m place from y.stands);
          carried = subst (λ (x : Encoding). Carries m.handles from.handle x.handles) (sym same) (object_carries ds fine.laid_out h.entries inner.nest size rs box_rise vs y.typed m place from y.stands);
          end = y.end ∙ sym (after_rows-table t inner.first inner.count 0 vs from.next (linked place size from) keys) ∙ sym (ap (λ n. after_fields ds fs 0 vs from.next (linked place n from)) long);
        },
        omega arith,
      )

  -- a present box: its content is the next object
  pub box_item : (to : Position) → ValueAt ds m held (ty.box u) place from to → Stands m.bytes place present → Opened ds m held place size rs from to
  box_item to x ones = elim (box_values ds fine.laid_out m held u place from to x) [
    | inl y ↦ absurd (zeros_or_ones m.bytes place y.0 ones)
    | inr y ↦ boxed_opens to (subst (λ (w : Term). Boxed ds fine.laid_out m held u place from w to) content_is y)
  ]

  item_box : (to : Position) → (o : Opened ds m held place size rs from to) → (w : ℕ) → values_work o.members.values ≤ w → ValueWorth ds m held (ty.box u) place from to (w + 1)
  item_box to o w le =
      let b = subst (λ (t : Term). (b : Boxed ds fine.laid_out m held u place from t to) × (values_work b.values ≤ values_work o.members.values)) (sym content_is) (opened_boxes to o) in
      let few = b.1 in
      worth_box ds fine.laid_out m held u place from to b.0 w (omega (arith, le, few))

  pub box_object : (o : Object) → object_of ds m.bytes (ty.box u) place ≡ Some o → o ≡ record { marker = place; size = size; parts = row_parts rs }
  box_object o has =
      some_object o _ (sym has)
      ∙ ap (λ (w : Term). let x : Object = record { marker = place; size = size_of ds (ty.struct (fields_of w)); parts = member_parts ds 0 (fields_of w) } in x) content_is
      ∙ ap (λ (ps : List Part). let x : Object = record { marker = place; size = size; parts = ps } in x) (sym (table_parts t inner.first inner.count 0 keys))

  -- the rule, with the size that the content's entry states
  rule_size : size_of ds (ty.struct (fields_of (resolve ds.terms u))) ≡ inner.size
  rule_size = ap (λ (w : Term). size_of ds (ty.struct (fields_of w))) content_is ∙ content_size

  own : resolve ds.terms (ty.named e) ≡ ty.box u
  own = term_is t fine e Box lt is

  module _ (state : StateFine m from) (deep : held ≤ MAX_DEPTH) where
    pub visits_absent_box : (spent : ℕ) → spent ≡ 0 → Stands m.bytes place (zeros 8) → Visits t m held e place from from spent None
    visits_absent_box spent nothing z = visits_absent t fine m held e place from lt state spent nothing (λ to. (
      (λ x. elim (box_values ds fine.laid_out m held u place from to (subst (λ (w : Term). ValueAt ds m held w place from to) own x)) [ inl y ↦ y.1 | inr y ↦ absurd (zeros_or_ones m.bytes place z y.ones) ]),
      (λ same. subst (λ (w : Term). ValueAt ds m held w place from to) (sym own) (subst (λ (s : Position). ValueAt ds m held (ty.box u) place from s) same (absent_box ds fine.laid_out m held u place from z deep).0)),
    )) (subst (λ (w : Term). ValueWorth ds m held w place from from 1) (sym own) (absent_box ds fine.laid_out m held u place from z deep))

    -- a box has eight bytes, at a multiple of 8
    box_figure : figure_of ds.figures (ty.named e) ≡ figure 8 8 0
    box_figure = stated t e lt ∙ sym (figure_is t fine e Box lt is)

    pub visits_box : (spent : ℕ) → spent ≡ 0 → Stands m.bytes place present → held < MAX_DEPTH → padded_size inner.size ≤ length m.bytes - from.next
        → Visits t m held e place from (linked place inner.size from) spent (Some (object_frame (Rows inner.first inner.count) inner.size inner.nest held from))
    visits_box spent nothing ones shallow room =
        let f = fine_as t fine c Struct inside struct_is in
        let small = f.nest in
        let room' : padded_size size ≤ length m.bytes - from.next = omega (arith, room, ap padded_size content_size) in
        subst (λ s. Visits t m held e place from (linked place s from) spent (Some (object_frame (Rows inner.first inner.count) s inner.nest held from))) content_size
        (visits_object t fine m held e place from lt state place size inner.nest (Rows inner.first inner.count) spent nothing tt (omega (arith, small)) shallow room'
        (λ to. (
          (λ x. (box_item to (subst (λ (w : Term). ValueAt ds m held w place from to) own x) ones).members),
          (λ y. subst (λ (w : Term). ValueAt ds m held w place from to) (sym own) (item_box to (record { ones = ones; shallow = omega (arith, shallow); room = room'; members = y }) (values_work y.values) (omega arith)).0),
        ))
        (λ to w y. subst (λ (u : Term). ValueWorth ds m held u place from to (w + 1)) (sym own) (item_box to (record { ones = ones; shallow = omega (arith, shallow); room = room'; members = y.0 }) w y.1))
        (λ fault b. subst (λ (w : Term). Breaks ds m held w place from fault) (sym own)
        (broken.in_object (ty.box u) place from fault (let x : Object = record { marker = place; size = size_of ds (ty.struct (fields_of (resolve ds.terms u))); parts = member_parts ds 0 (fields_of (resolve ds.terms u)) } in x) refl ones
        (box_right ds fine.laid_out m held u place from ones shallow (omega (arith, room, ap padded_size rule_size)))
        (subst (λ (w : Term). BreaksParts ds m (held + 1) (padded_size (size_of ds (ty.struct (fields_of w)))) from.next 0 (member_parts ds 0 (fields_of w)) (linked place (size_of ds (ty.struct (fields_of w))) from) fault) (sym content_is)
        (subst (λ (ps : List Part). BreaksParts ds m (held + 1) (padded_size size) from.next 0 ps (linked place size from) fault) (table_parts t inner.first inner.count 0 keys) b))))
        (λ even. let figure = box_figure in (subst (λ (f : Figure). place % f.align ≡ 0) figure even, omega arith, subst (λ (f : Figure). place + 8 ≤ place + f.size) (sym figure) (omega arith)))
        (λ even. let none : from.next ≡ from.next + 0 = omega arith in table_even t fine inner.first inner.count 0 from.next keys (even_eights_fields ds fine.laid_out (no_names t) (fields_from t (header_of t) inner.first inner.count) from.next even)))

    pub box_fine : held < MAX_DEPTH → padded_size inner.size ≤ length m.bytes - from.next → (around : ℕ) → around ≤ 1 → VisitFine t m held around e (Some (object_frame (Rows inner.first inner.count) inner.size inner.nest held from))
    box_fine shallow room around few =
        let f = fine_as t fine c Struct inside struct_is in
        let small = f.nest in
        let some : (figure_of ds.figures (ty.struct fs)).nest ≡ inner.nest = ap (λ (g : Figure). g.nest) (figure_is t fine c Struct inside struct_is) in
        let room' : padded_size size ≤ length m.bytes - from.next = omega (arith, room, ap padded_size content_size) in
        subst (λ s. VisitFine t m held around e (Some (object_frame (Rows inner.first inner.count) s inner.nest held from))) content_size
        (object_fine t fine m held e place from lt state size inner.nest (Rows inner.first inner.count) (f.content.0) tt (omega (arith, some)) (omega (arith, small)) shallow room' box_rise around few)

    pub box_breaks : (fault : DecodeFault) → BreaksBox m held inner.size place from.next fault → Breaks ds m held (resolve ds.terms (ty.named e)) place from fault
    box_breaks fault b =
        subst (λ (w : Term). Breaks ds m held w place from fault) (sym own) (broken.in_field (ty.box u) place from fault (subst (λ n. BreaksBox m held n place from.next fault) (sym rule_size) b))
