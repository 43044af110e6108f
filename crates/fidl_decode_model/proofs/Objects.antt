-- Objects out of line: the rows that one has, with its padding, and the visit of what points to one.
use Rattle.std.proofs.Common.{◌≡◌, ℕ, ◌+◌, ◌-◌, ◌*◌, ◌<◌, ◌≤◌, List, [], ◌∷◌, ◌++◌, length, refl, sym, ap, subst, ◌∙◌, arith, length-append, append_assoc, inl, ◌%◌}
use Rattle.std.specs.Prelude.{◌↔◌, Some, None}
use Rattle.std.specs.Int.{next_multiple_of}
use Rattle.std.proofs.Math.ListN.{length-replicate}
use Rattle.std.proofs.Math.Nat.{mul-le-mul_right}
use Rattle.std.proofs.lemmas.List.{replicate-append-replicate}
use Rattle.fidl_wire.specs.declared.handle.HandleInfo.{HandleInfo}
use Rattle.fidl_limits.specs.declared.limits.TheConstants.{MAX_DEPTH}
use Rattle.fidl_wire.specs.Value.{Values, none, value}
use Rattle.fidl_wire.specs.Term.{resolve}
use Rattle.fidl_wire.specs.Term as ty
use Rattle.fidl_wire.specs.Figure.{Declarations, IsLaidOut, size_of, figure_of}
use Rattle.fidl_wire.specs.Encoding.{Encoding, zeros, present, pad8, object, encoding_of}
use Rattle.fidl_wire.specs.Standing.{Stands, Carries}
use Rattle.fidl_wire.proofs.Sizes.{le-next_multiple_of}
use Rattle.fidl_wire.proofs.Stand.{stands_front, stands_back, stands_both}
use Rattle.fidl_table_format.specs.Section.{header_of}
use Rattle.fidl_table_format.specs.Terms.{declarations_of}
use Rattle.fidl_decode_model.specs.Invariants.{IsFine}
use Rattle.fidl_decode_model.specs.declared.fault.DecodeFault.{DecodeFault}
use Rattle.fidl_decode_model.specs.declared.frame.Frame.{Frame}
use Rattle.fidl_decode_model.specs.declared.frame.Remaining.{Remaining}
use Rattle.fidl_decode_model.specs.Rows.{Row, TypedRows, enc_rows, RowsRise}
use Rattle.fidl_decode_model.specs.State.{Message, Position, linked, StandsAt, ValueAt, Members}
use Rattle.fidl_decode_model.specs.Breaks.{Breaks, BreaksParts}
use Rattle.fidl_decode_model.specs.Frontier.{IsEven, LeftEven}
use Rattle.fidl_decode_model.proofs.Moving.{moves_none, moves_linked}
use Rattle.fidl_decode_model.specs.Machine.{rows_left, row_parts, IsPlain, LeftFine, StateFine, Visits, VisitFine, most_nest, inline_work, byte_work}
use Rattle.fidl_decode_model.specs.Worth.{ValueWorth, MembersWorth}
use Rattle.fidl_decode_model.proofs.After.{length-pad8}
use Rattle.fidl_decode_model.proofs.Rows.{rows_fit, length-entry}
use Rattle.fidl_decode_model.proofs.Turning.{plain_reads, plain_worth, plain_breaks, plain_fits}
use Rattle.fidl_decode_model.proofs.Holding.{work_none}

-- the size of an object with its padding
abbrev pub padded_size : ℕ → ℕ
padded_size size = next_multiple_of size 8

pub zeros_or_ones : (m : List ℕ) (p : ℕ) → Stands m p (zeros 8) → Stands m p present → ⊥
zeros_or_ones m p h k = let a = h.1 in let b = k.1 in omega (arith, a, b)

-- what stands in a message ends within it
pub stands_within : (m : List ℕ) (p : ℕ) (a : List ℕ) → Stands m p a → length a ≤ length m - p
stands_within m p [] h = omega arith
stands_within m p (x ∷ a) h = let lt = h.0 in omega (arith, lt, stands_within m (p + 1) a h.2)

-- the next object has these rows; its marker says that it is there
pub record Opened (ds : Declarations) (m : Message) (held marker size : ℕ) (rs : List Row) (from to : Position) : Type 0 where
  pub ones : Stands m.bytes marker present
  pub shallow : held < MAX_DEPTH
  pub room : padded_size size ≤ length m.bytes - from.next
  pub members : Members ds m (held + 1) (padded_size size) from.next 0 rs (linked marker size from) to

module _ (ds : Declarations) (laid : IsLaidOut ds) where
  -- rows are as long as their holder
  length-enc_rows : (n nest size done : ℕ) (rs : List Row) (vs : Values) → RowsRise ds n nest size done rs → TypedRows ds rs vs → length (enc_rows ds size done rs vs).inline ≡ size - done
  length-enc_rows n nest size done [] none f h = length-replicate {A = ℕ} (size - done) 0
  length-enc_rows n nest size done [] (value v vs) f h = absurd h
  length-enc_rows n nest size done (r ∷ rs) none f h = absurd h
  length-enc_rows n nest size done (r ∷ rs) (value v vs) f h =
      let next = r.offset + size_of ds (ty.named r.entry) in
      let a = (encoding_of ds (resolve ds.terms (ty.named r.entry)) v).inline in
      let b = (enc_rows ds size next rs vs).inline in
      let gap : length (zeros (r.offset - done)) ≡ r.offset - done = length-replicate {A = ℕ} (r.offset - done) 0 in
      let one = length-entry ds laid r.entry v h.0 in
      let more = length-enc_rows n nest size next rs vs f.3 h.1 in
      let le = rows_fit ds n nest size next rs f.3 in
      omega (arith, length-append (zeros (r.offset - done)) (a ++ b), length-append a b, gap, one, more, le, f.1)

  -- a greater size is more zeros at the end
  pad_rows : (n nest size done k : ℕ) (rs : List Row) (vs : Values) → RowsRise ds n nest size done rs → TypedRows ds rs vs → (enc_rows ds (size + k) done rs vs).inline ≡ (enc_rows ds size done rs vs).inline ++ zeros k
  pad_rows n nest size done k [] none f h =
      let e : size + k - done ≡ (size - done) + k = omega (arith, f) in
      ap (λ n. zeros n) e ∙ sym (replicate-append-replicate (size - done) k 0)
  pad_rows n nest size done k [] (value v vs) f h = absurd h
  pad_rows n nest size done k (r ∷ rs) none f h = absurd h
  pad_rows n nest size done k (r ∷ rs) (value v vs) f h =
      let next = r.offset + size_of ds (ty.named r.entry) in
      let a = (encoding_of ds (resolve ds.terms (ty.named r.entry)) v).inline in
      let b = (enc_rows ds size next rs vs).inline in
      let g = zeros (r.offset - done) in
      ap (λ (y : List ℕ). g ++ (a ++ y)) (pad_rows n nest size next k rs vs f.3 h.1)
      ∙ ap (λ (y : List ℕ). g ++ y) (sym (append_assoc a b (zeros k)))
      ∙ sym (append_assoc g (a ++ b) (zeros k))

  pad_rows_out : (size wide done : ℕ) (rs : List Row) (vs : Values) → (enc_rows ds wide done rs vs).out ≡ (enc_rows ds size done rs vs).out
  pad_rows_out size wide done rs none = refl
  pad_rows_out size wide done [] (value v vs) = refl
  pad_rows_out size wide done (r ∷ rs) (value v vs) =
      ap (λ (y : List ℕ). (encoding_of ds (resolve ds.terms (ty.named r.entry)) v).out ++ y) (pad_rows_out size wide (r.offset + size_of ds (ty.named r.entry)) rs vs)

  pad_rows_handles : (size wide done : ℕ) (rs : List Row) (vs : Values) → (enc_rows ds wide done rs vs).handles ≡ (enc_rows ds size done rs vs).handles
  pad_rows_handles size wide done rs none = refl
  pad_rows_handles size wide done [] (value v vs) = refl
  pad_rows_handles size wide done (r ∷ rs) (value v vs) =
      ap (λ (y : List HandleInfo). (encoding_of ds (resolve ds.terms (ty.named r.entry)) v).handles ++ y) (pad_rows_handles size wide (r.offset + size_of ds (ty.named r.entry)) rs vs)

  -- rows rise within a greater size too
  pub rows_wider : (n nest size wide done : ℕ) (rs : List Row) → size ≤ wide → RowsRise ds n nest size done rs → RowsRise ds n nest wide done rs
  rows_wider n nest size wide done [] le h = omega (arith, le, h)
  rows_wider n nest size wide done (r ∷ rs) le h = (h.0, h.1, h.2, rows_wider n nest size wide (r.offset + size_of ds (ty.named r.entry)) rs le h.3)

  module _ (n nest size : ℕ) (rs : List Row) (rise : RowsRise ds n nest size 0 rs) (vs : Values) (typed : TypedRows ds rs vs) where
    abbrev own : Encoding
    own = enc_rows ds size 0 rs vs

    abbrev wide : Encoding
    wide = enc_rows ds (padded_size size) 0 rs vs

    pub inline_is : length own.inline ≡ size
    inline_is = let none : size - 0 ≡ size = omega arith in length-enc_rows n nest size 0 rs vs rise typed ∙ none

    padded_is : pad8 own.inline ≡ wide.inline
    padded_is =
        let k = padded_size size - size in
        let le = le-next_multiple_of size 8 in
        let all : size + k ≡ padded_size size = omega arith in
        ap (λ n. own.inline ++ zeros (padded_size n - n)) inline_is ∙ sym (pad_rows n nest size 0 k rs vs rise typed) ∙ ap (λ n. (enc_rows ds n 0 rs vs).inline) all

    length-wide : length (pad8 own.inline) ≡ padded_size size
    length-wide = length-pad8 own.inline ∙ ap padded_size inline_is

    module _ (m : Message) (marker : ℕ) (from : Position) where
      pub object_room : Stands m.bytes from.next (object own) → padded_size size ≤ length m.bytes - from.next
      object_room h = omega (arith, stands_within m.bytes from.next (pad8 own.inline) (stands_front m.bytes from.next (pad8 own.inline) own.out h), length-wide)

      pub stands_object : Stands m.bytes from.next (object own) → Carries m.handles from.handle own.handles → StandsAt m wide (from.next + 0) (linked marker size from)
      stands_object h c =
          let none : from.next ≡ from.next + 0 = omega arith in
          let behind : from.next + length (pad8 own.inline) ≡ from.next + padded_size size = ap (λ n. from.next + n) length-wide in
          record {
            inline = subst (λ p. Stands m.bytes p wide.inline) none (subst (λ (l : List ℕ). Stands m.bytes from.next l) padded_is (stands_front m.bytes from.next (pad8 own.inline) own.out h));
            out = subst (λ p. Stands m.bytes p wide.out) behind (subst (λ (l : List ℕ). Stands m.bytes (from.next + length (pad8 own.inline)) l) (sym (pad_rows_out size (padded_size size) 0 rs vs)) (stands_back m.bytes from.next (pad8 own.inline) own.out h));
            carried = subst (λ (l : List HandleInfo). Carries m.handles from.handle l) (sym (pad_rows_handles size (padded_size size) 0 rs vs)) c;
          }

      pub object_stands : StandsAt m wide (from.next + 0) (linked marker size from) → Stands m.bytes from.next (object own)
      object_stands s =
          let none : from.next + 0 ≡ from.next = omega arith in
          let behind : from.next + padded_size size ≡ from.next + length (pad8 own.inline) = ap (λ n. from.next + n) (sym length-wide) in
          stands_both m.bytes from.next (pad8 own.inline) own.out
          (subst (λ (l : List ℕ). Stands m.bytes from.next l) (sym padded_is) (subst (λ p. Stands m.bytes p wide.inline) none s.inline))
          (subst (λ p. Stands m.bytes p own.out) behind (subst (λ (l : List ℕ). Stands m.bytes (from.next + padded_size size) l) (pad_rows_out size (padded_size size) 0 rs vs) s.out))

      pub object_carries : StandsAt m wide (from.next + 0) (linked marker size from) → Carries m.handles from.handle own.handles
      object_carries s = subst (λ (l : List HandleInfo). Carries m.handles from.handle l) (pad_rows_handles size (padded_size size) 0 rs vs) s.carried

-- ---- visits of what points to an object

-- the frame of the next object, of this size
abbrev pub object_frame : Remaining → (size nest held : ℕ) → Position → Frame
object_frame left size nest held from = record { left = left; base = from.next; done = 0; size = padded_size size; nest = nest; depth = held + 1; in_envelope = 0 }

-- the bytes of an object pay for its frame
object_work : (n w nest : ℕ) → nest ≤ most_nest → inline_work nest * (w - 0) + 1 ≤ byte_work * w + 1
object_work n w nest le = let more : inline_work nest ≤ byte_work = omega (arith, le) in omega (arith, mul-le-mul_right w more, work_none nest w)

split_work : (n next w : ℕ) → w ≤ n - next → byte_work * (n - (next + w)) + byte_work * w ≡ byte_work * (n - next)
split_work n next w le = omega (arith, le)

module _ (t : List ℕ) (fine : IsFine t) (m : Message) (held e place : ℕ) (from : Position) (lt : e < (header_of t).entries) (state : StateFine m from) where
  abbrev ds : Declarations
  ds = declarations_of t

  -- nothing is there
  pub visits_absent : (spent : ℕ) → spent ≡ 0 → ((to : Position) → ValueAt ds m held (resolve ds.terms (ty.named e)) place from to ↔ (from ≡ to)) → ValueWorth ds m held (resolve ds.terms (ty.named e)) place from from 1 → Visits t m held e place from from spent None
  visits_absent spent nothing same there = record {
    same = same;
    breaks = λ fault b. absurd b;
    least = λ to w y. subst (λ (s : Position). ValueWorth ds m held (resolve ds.terms (ty.named e)) place from s (w + spent + 1)) y (let le = there.1 in (there.0, omega (arith, le)));
    state = state;
    moves = λ ahead read even. moves_none t m place (place + (figure_of ds.figures (ty.named e)).size) from ahead;
    less = omega (arith, nothing);
  }

  -- the object is left to read
  pub visits_object : (marker size nest : ℕ) (left : Remaining) (spent : ℕ) → spent ≡ 0 → IsPlain left → nest ≤ most_nest → held < MAX_DEPTH → padded_size size ≤ length m.bytes - from.next
      → ((to : Position) → ValueAt ds m held (resolve ds.terms (ty.named e)) place from to ↔ Members ds m (held + 1) (padded_size size) from.next 0 (rows_left t 0 left) (linked marker size from) to)
      → ((to : Position) (w : ℕ) → MembersWorth ds m (held + 1) (padded_size size) from.next 0 (rows_left t 0 left) (linked marker size from) to w → ValueWorth ds m held (resolve ds.terms (ty.named e)) place from to (w + 1))
      → ((fault : DecodeFault) → BreaksParts ds m (held + 1) (padded_size size) from.next 0 (row_parts (rows_left t 0 left)) (linked marker size from) fault → Breaks ds m held (resolve ds.terms (ty.named e)) place from fault)
      → (IsEven ds (ty.named e) place → (marker % 8 ≡ 0) × (place ≤ marker) × (marker + 8 ≤ place + (figure_of ds.figures (ty.named e)).size)) → (from.next % 8 ≡ 0 → LeftEven t (object_frame left size nest held from) left)
      → Visits t m held e place from (linked marker size from) spent (Some (object_frame left size nest held from))
  visits_object marker size nest left spent nothing plain deep shallow room same least breaks near stands =
      let within = state.next in
      record {
        same = λ to. (
          (λ x. (plain_reads t m (object_frame left size nest held from) left plain (linked marker size from) to).1 ((same to).0 x)),
          (λ y. (same to).1 ((plain_reads t m (object_frame left size nest held from) left plain (linked marker size from) to).0 y)),
        );
        least = λ to w y. let x = least to w ((plain_worth t m (object_frame left size nest held from) left plain (linked marker size from) to w).0 y) in let le = x.1 in (x.0, omega (arith, le));
        breaks = λ fault b. breaks fault ((plain_breaks t m (object_frame left size nest held from) left plain (linked marker size from) fault).0 b);
        state = record { next = omega (arith, within, room); handle = state.handle; few = state.few };
        moves = λ ahead read even. let own = near even in moves_linked t m place (place + (figure_of ds.figures (ty.named e)).size) marker size (object_frame left size nest held from) from ahead read.before own.0 own.1 own.2 room within refl refl refl (stands ahead.even);
        less = omega (arith, nothing, object_work (length m.bytes) (padded_size size) nest deep, split_work (length m.bytes) from.next (padded_size size) room);
      }

  -- and its frame is fine, wherever what points to it lies
  pub object_fine : (size nest : ℕ) (left : Remaining) → LeftFine t left → IsPlain left → 0 < nest → nest ≤ most_nest → held < MAX_DEPTH → padded_size size ≤ length m.bytes - from.next → RowsRise ds (header_of t).entries nest size 0 (rows_left t 0 left)
      → (inside : ℕ) → inside ≤ 1 → VisitFine t m held inside e (Some (object_frame left size nest held from))
  object_fine size nest left left_fine plain some deep shallow room rise inside few =
      let within = state.next in (
        record {
          left = left_fine;
          slots = plain_fits (object_frame left size nest held from) left plain;
          room = omega (arith, within, room);
          some = some;
          nest = deep;
          depth = omega (arith, shallow);
          in_envelope = inl refl;
          rise = rows_wider ds fine.laid_out (header_of t).entries nest size (padded_size size) 0 (rows_left t 0 left) (le-next_multiple_of size 8) rise;
        },
        omega (arith, few, deep),
      )
