-- Vectors: which values of a vector stand at a place, and what a visit of one finds.
use Rattle.std.proofs.Common.{◌≡◌, ℕ, ◌+◌, ◌-◌, ◌*◌, ◌^◌, ◌<◌, ◌≤◌, List, length, get_or, refl, sym, ap, subst, ◌∙◌, arith, inl, inr, true, false, ◌%◌}
use Rattle.std.specs.Prelude.{Bool, ◌⊎◌, Some, None, IsTrue}
use Rattle.std.proofs.Math.Nat.{mul-le-mul_right}
use Rattle.std.specs.Int.{w64, to_le_bytes}
use Rattle.fidl_limits.specs.declared.limits.TheConstants.{MAX_DEPTH}
use Rattle.fidl_wire.specs.Value.{Value, Values, absent, list, count}
use Rattle.fidl_wire.specs.Term.{Term, resolve, uint64}
use Rattle.fidl_wire.specs.Term as ty
use Rattle.fidl_wire.specs.Figure.{Declarations, IsLaidOut, size_of, figure_of, figure, Figure}
use Rattle.fidl_wire.specs.Typed.{IsTyped, AllTyped}
use Rattle.fidl_wire.specs.Encoding.{Encoding, zeros, present, object, pad8, elements, encoding_of}
use Rattle.fidl_wire.specs.Depth.{depth_of, elements_depth}
use Rattle.fidl_wire.specs.Standing.{Stands, Carries}
use Rattle.fidl_wire.proofs.Sizes.{length-elements, size_of-resolve, le-next_multiple_of}
use Rattle.fidl_wire.proofs.Stand.{stands_front, stands_back, stands_both}
use Rattle.fidl_table_format.specs.declared.record.Header.{Header}
use Rattle.fidl_table_format.specs.declared.record.Entry.{Entry}
use Rattle.fidl_table_format.specs.declared.kind.EntryKind.TheVariants.{Vector}
use Rattle.fidl_table_format.specs.Kind.{kind_of}
use Rattle.fidl_table_format.specs.Section.{header_of, entry_at}
use Rattle.fidl_table_format.specs.Terms.{declarations_of, is_optional}
use Rattle.fidl_decode_model.specs.Invariants.{IsFine}
use Rattle.fidl_decode_model.specs.declared.fault.DecodeFault.{DecodeFault}
use Rattle.fidl_decode_model.specs.declared.fault.DecodeFault.TheVariants.{BadMarker, AbsentRequired, BadCount, OverBound, TooDeep, Truncated}
use Rattle.fidl_decode_model.specs.declared.frame.Remaining.TheVariants.{Elements}
use Rattle.fidl_decode_model.specs.Rows.{Row, element_rows, enc_rows, RowsRise}
use Rattle.fidl_decode_model.specs.State.{Message, Position, linked, after, after_elements, StandsAt, ValueAt}
use Rattle.fidl_decode_model.specs.Breaks.{Part, Object, object_of, count_at, element_parts, BreaksCounted, BreaksRule, Breaks, BreaksParts}
use Rattle.fidl_decode_model.specs.Breaks as broken
use Rattle.fidl_decode_model.specs.Frontier.{IsEven}
use Rattle.fidl_decode_model.proofs.Aligned.{even_eights, no_names}
use Rattle.fidl_decode_model.proofs.Evenly.{elements_even}
use Rattle.fidl_decode_model.specs.Machine.{row_parts, StateFine, Visits, VisitFine}
use Rattle.fidl_decode_model.specs.Work.{values_work}
use Rattle.fidl_decode_model.specs.Worth.{ValueWorth}
use Rattle.fidl_decode_model.proofs.After.{length-pad8}
use Rattle.fidl_decode_model.proofs.Numbers.{number_64}
use Rattle.fidl_decode_model.proofs.Scalars.{standing}
use Rattle.fidl_decode_model.proofs.Elements.{elements_rise, typed_elements, elements_typed, enc_rows-elements, depth_rows-elements, after_rows-elements, row_parts-elements}
use Rattle.fidl_decode_model.proofs.Stated.{stated}
use Rattle.fidl_decode_model.proofs.Visiting.{fine_as, term_is, figure_is, size_is, nest_is, positive}
use Rattle.fidl_decode_model.proofs.Objects.{padded_size, zeros_or_ones, stands_within, Opened, inline_is, object_room, stands_object, object_stands, object_carries, object_frame, visits_absent, visits_object, object_fine}

clash : true ≡ false → ⊥
clash e = cc

some_object : (a b : Object) → Some a ≡ Some b → a ≡ b
some_object a b e = cc

module _ (ds : Declarations) (laid : IsLaidOut ds) (m : Message) (held : ℕ) (optional : Bool) (bound : ℕ) (few : bound < 2 ^ 32) (u : Term) (place : ℕ) (from : Position) where
  abbrev term : Term
  term = resolve ds.terms u

  -- a present vector
  pub record Listed (to : Position) : Type 0 where
    pub values : Values
    pub typed : AllTyped ds term values
    pub bounded : count values ≤ bound
    pub shallow : elements_depth ds term values + (held + 1) ≤ MAX_DEPTH
    pub number : Stands m.bytes place (to_le_bytes w64 (count values))
    pub ones : Stands m.bytes (place + 8) present
    pub out : Stands m.bytes from.next (object (elements ds term values))
    pub carried : Carries m.handles from.handle (elements ds term values).handles
    pub end : to ≡ after_elements ds term (size_of ds u) values from.next (linked (place + 8) (length (elements ds term values).inline) from)

  abbrev Absent : Position → Type 0
  Absent to = Stands m.bytes place (zeros 16) × IsTrue optional × (from ≡ to)

  pub vector_values : (to : Position) → ValueAt ds m held (ty.vector optional bound u) place from to → Absent to ⊎ Listed to
  vector_values to x = only x.value x.typed x.shallow x.stands x.end
    where
      only : (v : Value) → IsTyped ds (ty.vector optional bound u) v → depth_of ds (ty.vector optional bound u) v + held ≤ MAX_DEPTH → StandsAt m (encoding_of ds (ty.vector optional bound u) v) place from → to ≡ after ds (ty.vector optional bound u) v place from
          → Absent to ⊎ Listed to
      only absent h d s e = inl (s.inline, h, sym e)
      only (list vs) h d s e = inr (record {
        values = vs;
        typed = h.1;
        bounded = h.0;
        shallow = omega (arith, d);
        number = stands_front m.bytes place (to_le_bytes w64 (count vs)) present s.inline;
        ones = stands_back m.bytes place (to_le_bytes w64 (count vs)) present s.inline;
        out = s.out;
        carried = s.carried;
        end = e;
      })
      only _ h d s e = absurd h

  -- a vector is worth one more than its elements
  pub worth_vector : (to : Position) → (l : Listed to) → (w : ℕ) → values_work l.values ≤ w → ValueWorth ds m held (ty.vector optional bound u) place from to (w + 1)
  worth_vector to l w le = (
    record {
      value = list l.values;
      typed = (l.bounded, l.typed);
      shallow = (let d = l.shallow in omega (arith, d));
      stands = record { inline = stands_both m.bytes place (to_le_bytes w64 (count l.values)) present l.number l.ones; out = l.out; carried = l.carried };
      end = l.end;
    },
    omega (arith, le),
  )

  pub absent_vector : IsTrue optional → Stands m.bytes place (zeros 16) → held ≤ MAX_DEPTH → ValueWorth ds m held (ty.vector optional bound u) place from from 1
  absent_vector may z deep = (record { value = absent; typed = may; shallow = omega arith; stands = record { inline = z; out = tt; carried = tt }; end = refl }, omega arith)

  pub absent_back : Stands m.bytes place (zeros 16) → Stands m.bytes (place + 8) (zeros 8)
  absent_back z = stands_back m.bytes place (zeros 8) (zeros 8) z

  no_count : Stands m.bytes place (zeros 16) → count_at m.bytes place ≡ 0
  no_count z = number_64 m.bytes place 0 (omega arith) (stands_front m.bytes place (zeros 8) (zeros 8) z)

  pub count_is : (to : Position) (l : Listed to) → count_at m.bytes place ≡ count l.values
  count_is to l = let le = l.bounded in number_64 m.bytes place (count l.values) (omega (arith, le, few)) l.number

  -- the elements of a present vector fit the message
  listed_room : (to : Position) → Listed to → padded_size (size_of ds u * count_at m.bytes place) ≤ length m.bytes - from.next
  listed_room to l =
      let e = elements ds term l.values in
      let long : length e.inline ≡ size_of ds u * count_at m.bytes place = length-elements ds laid term l.values l.typed ∙ ap (λ k. k * count l.values) (size_of-resolve ds laid u) ∙ ap (λ n. size_of ds u * n) (sym (count_is to l)) in
      let wide : length (pad8 e.inline) ≡ padded_size (size_of ds u * count_at m.bytes place) = length-pad8 e.inline ∙ ap padded_size long in
      omega (arith, stands_within m.bytes from.next (pad8 e.inline) (stands_front m.bytes from.next (pad8 e.inline) e.out l.out), wide)

  module _ (to : Position) (x : ValueAt ds m held (ty.vector optional bound u) place from to) where
    -- what is present has elements
    present_list : Stands m.bytes (place + 8) present → Listed to
    present_list ones = elim (vector_values to x) [ inl y ↦ absurd (zeros_or_ones m.bytes (place + 8) (absent_back y.0) ones) | inr l ↦ l ]

    excluded : (fault : DecodeFault) → BreaksCounted m held optional bound (size_of ds u * count_at m.bytes place) place from.next fault → ⊥
    excluded (BadMarker at) b = elim (vector_values to x) [ inl y ↦ b.1 (absent_back y.0) | inr l ↦ b.2 l.ones ]
    excluded (AbsentRequired at) b = elim (vector_values to x) [ inl y ↦ clash (sym y.1 ∙ b.1) | inr l ↦ zeros_or_ones m.bytes (place + 8) b.2 l.ones ]
    excluded (BadCount at) b = elim b.1 [
      | inl z ↦ elim (vector_values to x) [ inl y ↦ z.1 (no_count y.0) | inr l ↦ zeros_or_ones m.bytes (place + 8) z.0 l.ones ]
      | inr p ↦ omega (arith, p.1, listed_room to (present_list p.0), le-next_multiple_of (size_of ds u * count_at m.bytes place) 8)
    ]
    excluded (OverBound at) b = let l = present_list b.1 in let le = l.bounded in omega (arith, b.2, le, count_is to l)
    excluded (TooDeep at) b = let l = present_list b.1 in let le = l.shallow in omega (arith, le, b.2)
    excluded (Truncated at) b = omega (arith, b.2, listed_room to (present_list b.1))
    excluded fault b = absurd b

  pub vector_excluded : (to : Position) (fault : DecodeFault) → BreaksCounted m held optional bound (size_of ds u * count_at m.bytes place) place from.next fault → ValueAt ds m held (ty.vector optional bound u) place from to → ⊥
  vector_excluded to fault b x = excluded to x fault b

  -- a present vector within its bound that is not too deep, and whose elements fit, breaks no rule by itself
  pub vector_right : Stands m.bytes (place + 8) present → held < MAX_DEPTH → count_at m.bytes place ≤ bound → padded_size (size_of ds u * count_at m.bytes place) ≤ length m.bytes - from.next
      → (other : DecodeFault) → BreaksRule ds m held (ty.vector optional bound u) place from.next from.handle other → ⊥
  vector_right ones shallow le room (BadMarker at) b = b.2 ones
  vector_right ones shallow le room (AbsentRequired at) b = zeros_or_ones m.bytes (place + 8) b.2 ones
  vector_right ones shallow le room (BadCount at) b = elim b.1 [
    | inl z ↦ zeros_or_ones m.bytes (place + 8) z.0 ones
    | inr p ↦ omega (arith, p.1, room, le-next_multiple_of (size_of ds u * count_at m.bytes place) 8)
  ]
  vector_right ones shallow le room (OverBound at) b = omega (arith, b.2, le)
  vector_right ones shallow le room (TooDeep at) b = omega (arith, b.2, shallow)
  vector_right ones shallow le room (Truncated at) b = omega (arith, b.2, room)
  vector_right ones shallow le room other b = absurd b

-- ---- in a table

module _ (t : List ℕ) (fine : IsFine t) (m : Message) (held e place : ℕ) (from : Position) (lt : e < (header_of t).entries) (is : kind_of (entry_at t e).kind ≡ Some Vector) where
  abbrev ds : Declarations
  ds = declarations_of t

  abbrev h : Header
  h = header_of t

  abbrev d : Entry
  d = entry_at t e

  -- the entry of the elements
  abbrev pub inner : Entry
  inner = entry_at t (entry_at t e).first

  abbrev size : ℕ
  size = size_of ds (ty.named d.first)

  abbrev n : ℕ
  n = count_at m.bytes place

  abbrev rs : List Row
  rs = element_rows d.first size n 0

  abbrev vector : Term
  vector = ty.vector (is_optional d) d.bound (ty.named d.first)

  pub inside : d.first < h.entries
  inside = (fine_as t fine e Vector lt is).content.0

  few : d.bound < 2 ^ 32
  few = (fine_as t fine e Vector lt is).content.1

  pub element_size : size ≡ inner.size
  element_size = size_is t fine d.first inside

  -- an element has a byte at least
  pub count_fits : n ≤ inner.size * n
  count_fits =
      let one : 1 ≤ inner.size = omega (arith, positive t fine d.first inside, element_size) in
      omega (arith, mul-le-mul_right n one)

  pub vector_rise : RowsRise ds h.entries (inner.nest + 1) (size * n) 0 rs
  vector_rise =
      let flat : 0 + size * n ≡ size * n = omega arith in
      subst (λ k. RowsRise ds h.entries (inner.nest + 1) k 0 rs) flat (elements_rise ds d.first h.entries (inner.nest + 1) n 0 inside (omega (arith, nest_is t fine d.first inside)))

  abbrev List_of : Position → Type 0
  List_of to = Listed ds fine.laid_out m held (is_optional d) d.bound few (ty.named d.first) place from to

  same_rows : (vs : Values) → count vs ≡ n → elements ds (resolve ds.terms (ty.named d.first)) vs ≡ enc_rows ds (size * n) 0 rs vs
  same_rows vs c =
      let flat : 0 + size * n ≡ size * n = omega arith in
      enc_rows-elements ds d.first n 0 vs c ∙ ap (λ k. enc_rows ds k 0 rs vs) flat

  listed_opens : (to : Position) → List_of to → Opened ds m held (place + 8) (size * n) rs from to
  listed_opens to l =
      let vs = l.values in
      let c : count vs ≡ n = sym (count_is ds fine.laid_out m held (is_optional d) d.bound few (ty.named d.first) place from to l) in
      let typed = typed_elements ds d.first n 0 vs c l.typed in
      let same = same_rows vs c in
      let deep = depth_rows-elements ds d.first n 0 vs c in
      let long = ap (λ (x : Encoding). length x.inline) same ∙ inline_is ds fine.laid_out h.entries (inner.nest + 1) (size * n) rs vector_rise vs typed in
      let out = subst (λ (x : Encoding). Stands m.bytes from.next (object x)) same l.out in
      let none_more : from.next ≡ from.next + 0 = omega arith in
      let s = l.shallow in
      record {
        ones = l.ones;
        shallow = omega (arith, s);
        room = object_room ds fine.laid_out h.entries (inner.nest + 1) (size * n) rs vector_rise vs typed m (place + 8) from out;
        members = record {
          values = vs;
          typed = typed;
          shallow = omega (arith, s, deep);
          stands = stands_object ds fine.laid_out h.entries (inner.nest + 1) (size * n) rs vector_rise vs typed m (place + 8) from out (subst (λ (x : Encoding). Carries m.handles from.handle x.handles) same l.carried);
          end = l.end ∙ ap (λ k. after_elements ds (resolve ds.terms (ty.named d.first)) size vs from.next (linked (place + 8) k from)) long
              ∙ ap (λ p. after_elements ds (resolve ds.terms (ty.named d.first)) size vs p (linked (place + 8) (size * n) from)) none_more
              ∙ after_rows-elements ds d.first n 0 from.next vs (linked (place + 8) (size * n) from) c;
        };
      }

  opened_lists : (to : Position) → n ≤ d.bound → place + 8 ≤ length m.bytes → ((i : ℕ) → get_or m.bytes i 0 < 256) → (o : Opened ds m held (place + 8) (size * n) rs from to) → (l : List_of to) × (values_work l.values ≤ values_work o.members.values)
  opened_lists to le room small o =
      let y = o.members in
      let vs = y.values in
      let t' = elements_typed ds d.first n 0 vs y.typed in
      let c = t'.0 in
      let same = same_rows vs c in
      let deep = depth_rows-elements ds d.first n 0 vs c in
      let long = ap (λ (x : Encoding). length x.inline) same ∙ inline_is ds fine.laid_out h.entries (inner.nest + 1) (size * n) rs vector_rise vs y.typed in
      let none_more : from.next ≡ from.next + 0 = omega arith in (
        record {
          values = vs;
          typed = t'.1;
          bounded = omega (arith, le, c);
          shallow = omega (arith, y.shallow, deep);
          number = subst (λ k. Stands m.bytes place (to_le_bytes w64 k)) (sym c) (standing uint64 m.bytes place room small).1;
          ones = o.ones;
          out = subst (λ (x : Encoding). Stands m.bytes from.next (object x)) (sym same) (object_stands ds fine.laid_out h.entries (inner.nest + 1) (size * n) rs vector_rise vs y.typed m (place + 8) from y.stands);
          carried = subst (λ (x : Encoding). Carries m.handles from.handle x.handles) (sym same) (object_carries ds fine.laid_out h.entries (inner.nest + 1) (size * n) rs vector_rise vs y.typed m (place + 8) from y.stands);
          end = y.end ∙ sym (after_rows-elements ds d.first n 0 from.next vs (linked (place + 8) (size * n) from) c)
              ∙ sym (ap (λ p. after_elements ds (resolve ds.terms (ty.named d.first)) size vs p (linked (place + 8) (size * n) from)) none_more)
              ∙ sym (ap (λ k. after_elements ds (resolve ds.terms (ty.named d.first)) size vs from.next (linked (place + 8) k from)) long);
        },
        omega arith,
      )

  -- a present vector: its elements are the next object
  pub vector_item : (to : Position) → ValueAt ds m held vector place from to → Stands m.bytes (place + 8) present → Opened ds m held (place + 8) (size * n) rs from to
  vector_item to x ones = listed_opens to (present_list ds fine.laid_out m held (is_optional d) d.bound few (ty.named d.first) place from to x ones)

  item_vector : (to : Position) → n ≤ d.bound → place + 8 ≤ length m.bytes → ((i : ℕ) → get_or m.bytes i 0 < 256) → (o : Opened ds m held (place + 8) (size * n) rs from to) → (w : ℕ) → values_work o.members.values ≤ w → ValueWorth ds m held vector place from to (w + 1)
  item_vector to le room small o w less =
      let l = opened_lists to le room small o in
      let few' = l.1 in
      worth_vector ds fine.laid_out m held (is_optional d) d.bound few (ty.named d.first) place from to l.0 w (omega (arith, less, few'))

  pub vector_object : (o : Object) → object_of ds m.bytes vector place ≡ Some o → o ≡ record { marker = place + 8; size = size * n; parts = row_parts rs }
  vector_object o has =
      some_object o _ (sym has) ∙ ap (λ (ps : List Part). let x : Object = record { marker = place + 8; size = size * n; parts = ps } in x) (sym (row_parts-elements ds d.first n 0))

  own : resolve ds.terms (ty.named e) ≡ vector
  own = term_is t fine e Vector lt is

  module _ (state : StateFine m from) (deep : held ≤ MAX_DEPTH) where
    no_vector : IsTrue (is_optional d) → Stands m.bytes (place + 8) (zeros 8) → place + 8 ≤ length m.bytes → ((i : ℕ) → get_or m.bytes i 0 < 256) → n ≡ 0 → ValueWorth ds m held vector place from from 1
    no_vector may z room small none = absent_vector ds fine.laid_out m held (is_optional d) d.bound few (ty.named d.first) place from may (stands_both m.bytes place (zeros 8) (zeros 8) (subst (λ k. Stands m.bytes place (to_le_bytes w64 k)) none (standing uint64 m.bytes place room small).1) z) deep

    pub visits_absent_vector : (spent : ℕ) → spent ≡ 0 → IsTrue (is_optional d) → Stands m.bytes (place + 8) (zeros 8) → place + 8 ≤ length m.bytes → ((i : ℕ) → get_or m.bytes i 0 < 256) → n ≡ 0 → Visits t m held e place from from spent None
    visits_absent_vector spent nothing may z room small none = visits_absent t fine m held e place from lt state spent nothing (λ to. (
      (λ x. elim (vector_values ds fine.laid_out m held (is_optional d) d.bound few (ty.named d.first) place from to (subst (λ (w : Term). ValueAt ds m held w place from to) own x)) [
        | inl y ↦ y.2
        | inr l ↦ absurd (zeros_or_ones m.bytes (place + 8) z l.ones)
      ]),
      (λ same. subst (λ (w : Term). ValueAt ds m held w place from to) (sym own) (subst (λ (s : Position). ValueAt ds m held vector place from s) same (no_vector may z room small none).0)),
    )) (subst (λ (w : Term). ValueWorth ds m held w place from from 1) (sym own) (no_vector may z room small none))

    -- a vector has sixteen bytes, at a multiple of 8
    vector_figure : figure_of ds.figures (ty.named e) ≡ figure 16 8 0
    vector_figure = stated t e lt ∙ sym (figure_is t fine e Vector lt is)

    pub visits_vector : (spent : ℕ) → spent ≡ 0 → Stands m.bytes (place + 8) present → held < MAX_DEPTH → n ≤ d.bound → padded_size (inner.size * n) ≤ length m.bytes - from.next → place + 8 ≤ length m.bytes → ((i : ℕ) → get_or m.bytes i 0 < 256)
        → Visits t m held e place from (linked (place + 8) (inner.size * n) from) spent (Some (object_frame (Elements d.first inner.size n) (inner.size * n) (inner.nest + 1) held from))
    visits_vector spent nothing ones shallow le room here small =
        let small_nest = (fine.each d.first inside).1.nest in
        let wide : padded_size (size * n) ≡ padded_size (inner.size * n) = ap (λ s. padded_size (s * n)) element_size in
        let room' : padded_size (size * n) ≤ length m.bytes - from.next = omega (arith, room, wide) in
        subst (λ s. Visits t m held e place from (linked (place + 8) (s * n) from) spent (Some (object_frame (Elements d.first s n) (s * n) (inner.nest + 1) held from))) element_size
        (visits_object t fine m held e place from lt state (place + 8) (size * n) (inner.nest + 1) (Elements d.first size n) spent nothing tt (omega (arith, small_nest)) shallow room'
        (λ to. (
          (λ x. (vector_item to (subst (λ (w : Term). ValueAt ds m held w place from to) own x) ones).members),
          (λ y. subst (λ (w : Term). ValueAt ds m held w place from to) (sym own) (item_vector to le here small (record { ones = ones; shallow = shallow; room = room'; members = y }) (values_work y.values) (omega arith)).0),
        ))
        (λ to w y. subst (λ (u : Term). ValueWorth ds m held u place from to (w + 1)) (sym own) (item_vector to le here small (record { ones = ones; shallow = shallow; room = room'; members = y.0 }) w y.1))
        (λ fault b. subst (λ (w : Term). Breaks ds m held w place from fault) (sym own)
        (broken.in_object vector place from fault (let x : Object = record { marker = place + 8; size = size * n; parts = element_parts ds (ty.named d.first) n 0 } in x) refl ones
        (vector_right ds fine.laid_out m held (is_optional d) d.bound few (ty.named d.first) place from ones shallow le room')
        (subst (λ (ps : List Part). BreaksParts ds m (held + 1) (padded_size (size * n)) from.next 0 ps (linked (place + 8) (size * n) from) fault) (row_parts-elements ds d.first n 0) b)))
        (λ even. let eight : place % 8 ≡ 0 = subst (λ (f : Figure). place % f.align ≡ 0) vector_figure even in (omega (arith, eight), omega arith, subst (λ (f : Figure). place + 8 + 8 ≤ place + f.size) (sym vector_figure) (omega arith)))
        (λ even. let none : from.next ≡ from.next + 0 = omega arith in elements_even t fine d.first size n 0 from.next refl (subst (λ p. IsEven ds (ty.named d.first) p) none (even_eights ds fine.laid_out (no_names t) (ty.named d.first) from.next even))))

    pub vector_fine : held < MAX_DEPTH → padded_size (inner.size * n) ≤ length m.bytes - from.next → (around : ℕ) → around ≤ 1 → VisitFine t m held around e (Some (object_frame (Elements d.first inner.size n) (inner.size * n) (inner.nest + 1) held from))
    vector_fine shallow room around few =
        let small_nest = (fine.each d.first inside).1.nest in
        let wide : padded_size (size * n) ≡ padded_size (inner.size * n) = ap (λ s. padded_size (s * n)) element_size in
        let room' : padded_size (size * n) ≤ length m.bytes - from.next = omega (arith, room, wide) in
        subst (λ s. VisitFine t m held around e (Some (object_frame (Elements d.first s n) (s * n) (inner.nest + 1) held from))) element_size
        (object_fine t fine m held e place from lt state (size * n) (inner.nest + 1) (Elements d.first size n) refl tt (omega arith) (omega (arith, small_nest)) shallow room' vector_rise around few)

    pub vector_breaks : (fault : DecodeFault) → BreaksCounted m held (is_optional d) d.bound (inner.size * n) place from.next fault → Breaks ds m held (resolve ds.terms (ty.named e)) place from fault
    vector_breaks fault b = subst (λ (w : Term). Breaks ds m held w place from fault) (sym own)
        (broken.in_field vector place from fault (subst (λ s. BreaksCounted m held (is_optional d) d.bound (s * n) place from.next fault) (sym element_size) b))
