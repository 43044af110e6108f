-- Structs and arrays that are visited: their members and elements are left to read.
use Rattle.std.proofs.Common.{◌≡◌, ℕ, suc, ◌+◌, ◌-◌, ◌*◌, ◌<◌, ◌≤◌, List, length, refl, sym, ap, subst, ◌∙◌, arith, ◌%◌}
use Rattle.fidl_limits.specs.declared.limits.TheConstants.{MAX_DEPTH}
use Rattle.std.specs.Prelude.{Some}
use Rattle.fidl_wire.specs.Term.{Term, Kind, resolve, nothing, width, int8, int16, int32, int64, uint8, uint16, uint32, uint64}
use Rattle.fidl_wire.specs.Term as ty
use Rattle.fidl_wire.specs.Figure.{Declarations, Figure, figure_of, size_of}
use Rattle.fidl_wire.proofs.Sizes.{end_of-le}
use Rattle.fidl_table_format.specs.declared.record.Header.{Header}
use Rattle.fidl_table_format.specs.declared.record.Entry.{Entry}
use Rattle.fidl_table_format.specs.declared.kind.EntryKind.TheVariants.{Array, Struct}
use Rattle.fidl_table_format.specs.Kind.{kind_of}
use Rattle.fidl_table_format.specs.Section.{header_of, entry_at}
use Rattle.fidl_table_format.specs.Terms.{declarations_of, fields_from}
use Rattle.fidl_decode_model.specs.Invariants.{IsFine}
use Rattle.fidl_decode_model.specs.declared.frame.Frame.{Frame}
use Rattle.fidl_decode_model.specs.declared.frame.Remaining.TheVariants.{Rows, Elements}
use Rattle.fidl_decode_model.specs.Rows.{table_rows, element_rows, RowsRise}
use Rattle.fidl_decode_model.specs.State.{Message, Position, ValueAt, Members}
use Rattle.fidl_decode_model.specs.Breaks.{Part, member_parts, element_parts, BreaksField, BreaksRule, Breaks, BreaksParts}
use Rattle.fidl_decode_model.specs.Breaks as broken
use Rattle.fidl_decode_model.specs.Frontier.{IsEven}
use Rattle.fidl_decode_model.proofs.Moving.{moves_enter}
use Rattle.fidl_decode_model.proofs.Evenly.{table_even, elements_even}
use Rattle.fidl_decode_model.specs.Machine.{IsInside, VisitFine, Reads, StateFine, Visits, row_parts, byte_work, inline_work}
use Rattle.fidl_decode_model.specs.Worth.{ValueWorth, MembersWorth}
use Rattle.fidl_decode_model.proofs.Stated.{stated, table_rise, struct_item, item_struct, worth_struct, table_parts}
use Rattle.fidl_decode_model.proofs.Elements.{elements_rise, array_item, item_array, worth_array, row_parts-elements}
use Rattle.fidl_decode_model.proofs.Visiting.{size_is, nest_is, fine_as, term_is, figure_is}

-- the frame of a struct
abbrev pub struct_frame : Entry → (place held inside : ℕ) → Frame
struct_frame d place held inside = record { left = Rows d.first d.count; base = place; done = 0; size = d.size; nest = d.nest; depth = held; in_envelope = inside }

-- the frame of an array, whose elements have this size
abbrev pub array_frame : Entry → (element place held inside : ℕ) → Frame
array_frame d element place held inside = record { left = Elements d.first element d.count; base = place; done = 0; size = d.size; nest = d.nest; depth = held; in_envelope = inside }

pub work_none : (n s : ℕ) → inline_work n * (s - 0) ≡ inline_work n * s
work_none n s = let e : s - 0 ≡ s = omega arith in ap (λ k. inline_work n * k) e

module _ (t : List ℕ) (fine : IsFine t) (m : Message) (held e place : ℕ) (old : Position) (lt : e < (header_of t).entries) (state : StateFine m old) (deep : held ≤ MAX_DEPTH) where
  abbrev ds : Declarations
  ds = declarations_of t

  abbrev h : Header
  h = header_of t

  abbrev fig : ℕ → Figure
  fig e = figure_of ds.figures (ty.named e)

  abbrev term : ℕ → Term
  term e = resolve ds.terms (ty.named e)

  -- a struct
  pub visits_struct : (inside spent : ℕ) → spent ≡ 0 → kind_of (entry_at t e).kind ≡ Some Struct → place + (entry_at t e).size ≤ length m.bytes → Visits t m held e place old old spent (Some (struct_frame (entry_at t e) place held inside))
  visits_struct inside spent nothing is room =
      let d = entry_at t e in
      let f = fine_as t fine e Struct lt is in
      let u = term_is t fine e Struct lt is in
      let g = figure_is t fine e Struct lt is in
      let size : size_of ds (ty.struct (fields_from t h d.first d.count)) ≡ d.size = ap (λ (f : Figure). f.size) g in
      let nest : (figure_of ds.figures (ty.struct (fields_from t h d.first d.count))).nest ≡ d.nest = ap (λ (f : Figure). f.nest) g in
      let k = f.content.1 in
      let to_members : (to : Position) → ValueAt ds m held (term e) place old to → Reads t m (struct_frame d place held inside) old to = λ to x.
      subst (λ (s : ℕ). Members ds m held s place 0 (table_rows t h d.first d.count) old to) size (struct_item t m held place d.first d.count old to k (subst (λ (u : Term). ValueAt ds m held u place old to) u x)) in
      let to_item : (to : Position) → Reads t m (struct_frame d place held inside) old to → ValueAt ds m held (term e) place old to = λ to y.
      subst (λ (u : Term). ValueAt ds m held u place old to) (sym u) (item_struct t m held place d.first d.count old to k (subst (λ (s : ℕ). Members ds m held s place 0 (table_rows t h d.first d.count) old to) (sym size) y)) in
      record {
        same = λ to. (to_members to, to_item to);
        least = λ to w y. subst (λ (u : Term). ValueWorth ds m held u place old to (w + spent + 1)) (sym u)
            (let x = worth_struct t m held place d.first d.count old to k w (subst (λ (s : ℕ). MembersWorth ds m held s place 0 (table_rows t h d.first d.count) old to w) (sym size) y) in let le = x.1 in (x.0, omega (arith, le)));
        breaks = λ fault b. subst (λ (u : Term). Breaks ds m held u place old fault) (sym u)
            (broken.in_parts (ty.struct (fields_from t h d.first d.count)) place old fault (member_parts ds 0 (fields_from t h d.first d.count)) refl
            (subst (λ (ps : List Part). BreaksParts ds m held (size_of ds (ty.struct (fields_from t h d.first d.count))) place 0 ps old fault) (table_parts t d.first d.count 0 k)
            (subst (λ (s : ℕ). BreaksParts ds m held s place 0 (row_parts (table_rows t h d.first d.count)) old fault) (sym size) b)));
        state = state;
        moves = λ ahead read even.
            let own : figure_of ds.figures (ty.struct (fields_from t h d.first d.count)) ≡ fig e = g ∙ sym (stated t e lt) in
            let base = subst (λ (f : Figure). place % f.align ≡ 0) (sym own) even in
            let wide : d.size ≡ (fig e).size = sym (size_is t fine e lt) in
            moves_enter t m place (place + (fig e).size) (struct_frame d place held inside) old ahead
            (record { before = omega (arith, read.before, wide); free = λ k x y. read.free k (omega (arith, x)) (omega (arith, y, wide)); even = table_even t fine d.first d.count 0 place k base }) (omega arith) (omega (arith, wide));
        less = subst (λ (x : Figure). byte_work * (length m.bytes - old.next) + (inline_work d.nest * (d.size - 0) + 1) + spent ≤ byte_work * (length m.bytes - old.next) + inline_work x.nest * x.size + 1) (sym (stated t e lt)) (omega (arith, work_none d.nest d.size, nothing));
      }

  pub struct_fine : (inside : ℕ) → kind_of (entry_at t e).kind ≡ Some Struct → place + (entry_at t e).size ≤ length m.bytes → IsInside inside (entry_at t e).size → VisitFine t m held inside e (Some (struct_frame (entry_at t e) place held inside))
  struct_fine inside is room within =
      let d = entry_at t e in
      let f = fine_as t fine e Struct lt is in
      let g = figure_is t fine e Struct lt is in
      let size : size_of ds (ty.struct (fields_from t h d.first d.count)) ≡ d.size = ap (λ (f : Figure). f.size) g in
      let nest : (figure_of ds.figures (ty.struct (fields_from t h d.first d.count))).nest ≡ d.nest = ap (λ (f : Figure). f.nest) g in
      let k = f.content.1 in (
        record {
          left = f.content.0;
          slots = tt;
          room = room;
          some = omega (arith, nest);
          nest = (let small = f.nest in omega arith);
          depth = deep;
          in_envelope = within;
          rise = table_rise t d.first d.count d.nest d.size 0 k (omega (arith, size, end_of-le ds (fields_from t h d.first d.count))) (omega (arith, nest));
        },
        omega (arith, nest_is t fine e lt),
      )

  -- an array
  pub visits_array : (inside element spent : ℕ) → spent ≡ 0 → kind_of (entry_at t e).kind ≡ Some Array → element ≡ (entry_at t (entry_at t e).first).size → place + (entry_at t e).size ≤ length m.bytes → Visits t m held e place old old spent (Some (array_frame
      (entry_at t e) element place held inside))
  visits_array inside element spent nothing is element_is room =
      let d = entry_at t e in
      let f = fine_as t fine e Array lt is in
      let u = term_is t fine e Array lt is in
      let g = figure_is t fine e Array lt is in
      let one : (fig d.first).size ≡ element = size_is t fine d.first f.content.0 ∙ sym element_is in
      let size : (fig d.first).size * d.count ≡ d.size = ap (λ (f : Figure). f.size) g in
      let nest : suc (fig d.first).nest ≡ d.nest = ap (λ (f : Figure). f.nest) g in
      let both : (to : Position) → Members ds m held ((fig d.first).size * d.count) place 0 (element_rows d.first (fig d.first).size d.count 0) old to ≡ Members ds m held d.size place 0 (element_rows d.first element d.count 0) old to = λ to i. Members ds m held (size i) place 0
      (element_rows d.first (one i) d.count 0) old to in
      let both_worth : (to : Position) (w : ℕ) → MembersWorth ds m held ((fig d.first).size * d.count) place 0
      (element_rows d.first (fig d.first).size d.count 0) old to w ≡ MembersWorth ds m held d.size place 0
      (element_rows d.first element d.count 0) old to w = λ to w i. MembersWorth ds m held (size i) place 0
      (element_rows d.first (one i) d.count 0) old to w in
      record {
        same = λ to. (
          (λ x. subst (λ (X : Type 0). X) (both to) (array_item ds d.first m held place d.count old to (subst (λ (u : Term). ValueAt ds m held u place old to) u x))),
          (λ y. subst (λ (u : Term). ValueAt ds m held u place old to) (sym u) (item_array ds d.first m held place d.count old to (subst (λ (X : Type 0). X) (sym (both to)) y))),
        );
        least = λ to w y. subst (λ (u : Term). ValueWorth ds m held u place old to (w + spent + 1)) (sym u)
            (let x = worth_array ds d.first m held place d.count old to w (subst (λ (X : Type 0). X) (sym (both_worth to w)) y) in let le = x.1 in (x.0, omega (arith, le)));
        breaks = λ fault b. subst (λ (u : Term). Breaks ds m held u place old fault) (sym u)
            (broken.in_parts (ty.array (ty.named d.first) d.count) place old fault (element_parts ds (ty.named d.first) d.count 0) refl
            (subst (λ (ps : List Part). BreaksParts ds m held ((fig d.first).size * d.count) place 0 ps old fault) (row_parts-elements ds d.first d.count 0)
            (subst (λ (e : ℕ). BreaksParts ds m held ((fig d.first).size * d.count) place 0 (row_parts (element_rows d.first e d.count 0)) old fault) (sym one)
            (subst (λ (s : ℕ). BreaksParts ds m held s place 0 (row_parts (element_rows d.first element d.count 0)) old fault) (sym size) b))));
        state = state;
        moves = λ ahead read even.
            let own : figure_of ds.figures (ty.array (ty.named d.first) d.count) ≡ fig e = g ∙ sym (stated t e lt) in
            let first = subst (λ (f : Figure). place % f.align ≡ 0) (sym own) even in
            let wide : d.size ≡ (fig e).size = sym (size_is t fine e lt) in
            let start : place ≡ place + 0 = omega arith in
            moves_enter t m place (place + (fig e).size) (array_frame d element place held inside) old ahead
            (record {
              before = omega (arith, read.before, wide);
              free = λ k x y. read.free k (omega (arith, x)) (omega (arith, y, wide));
              even = elements_even t fine d.first element d.count 0 place (sym one) (subst (λ p. IsEven ds (ty.named d.first) p) start first);
            }) (omega arith) (omega (arith, wide));
        less = subst (λ (x : Figure). byte_work * (length m.bytes - old.next) + (inline_work d.nest * (d.size - 0) + 1) + spent ≤ byte_work * (length m.bytes - old.next) + inline_work x.nest * x.size + 1) (sym (stated t e lt)) (omega (arith, work_none d.nest d.size, nothing));
      }

  pub array_fine : (inside element : ℕ) → kind_of (entry_at t e).kind ≡ Some Array → element ≡ (entry_at t (entry_at t e).first).size → place + (entry_at t e).size ≤ length m.bytes → IsInside inside (entry_at t e).size → VisitFine t m held inside e (Some (array_frame
      (entry_at t e) element place held inside))
  array_fine inside element is element_is room within =
      let d = entry_at t e in
      let f = fine_as t fine e Array lt is in
      let g = figure_is t fine e Array lt is in
      let one : (fig d.first).size ≡ element = size_is t fine d.first f.content.0 ∙ sym element_is in
      let size : (fig d.first).size * d.count ≡ d.size = ap (λ (f : Figure). f.size) g in
      let nest : suc (fig d.first).nest ≡ d.nest = ap (λ (f : Figure). f.nest) g in (
        record {
          left = one;
          slots = tt;
          room = room;
          some = omega (arith, nest);
          nest = (let small = f.nest in omega arith);
          depth = deep;
          in_envelope = within;
          rise = (let rise = elements_rise ds d.first h.entries d.nest d.count 0 f.content.0 (omega (arith, nest)) in
              let flat : 0 + (fig d.first).size * d.count ≡ d.size = omega (arith, size) in
              let end : RowsRise ds h.entries d.nest d.size 0 (element_rows d.first (fig d.first).size d.count 0) = subst (λ k. RowsRise ds h.entries d.nest k 0 (element_rows d.first (fig d.first).size d.count 0)) flat rise in
              subst (λ s. RowsRise ds h.entries d.nest d.size 0 (element_rows d.first s d.count 0)) one end);
        },
        omega (arith, nest_is t fine e lt),
      )
