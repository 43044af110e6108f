-- Structs that stand behind one another in a frame, read together.
use Rattle.std.proofs.Common.{◌≡◌, ℕ, zero, suc, ◌+◌, ◌-◌, ◌*◌, ◌<◌, ◌≤◌, List, [], length, refl, sym, ap, subst, ◌∙◌, arith, mul-suc, inl, inr}
use Rattle.std.proofs.Math.Nat.{mul-le-mul_left}
use Rattle.std.specs.Prelude.{Some, None}
use Rattle.fidl_wire.specs.Term as ty
use Rattle.fidl_wire.specs.Term.{resolve}
use Rattle.fidl_wire.specs.Figure.{Declarations, size_of}
use Rattle.fidl_wire.specs.Encoding.{zeros}
use Rattle.fidl_wire.specs.Standing.{Stands}
use Rattle.fidl_table_format.specs.declared.record.Entry.{Entry}
use Rattle.fidl_table_format.specs.declared.kind.EntryKind.TheVariants.{Struct}
use Rattle.fidl_table_format.specs.Kind.{kind_of}
use Rattle.fidl_table_format.specs.Section.{header_of, entry_at}
use Rattle.fidl_table_format.specs.Terms.{declarations_of}
use Rattle.fidl_decode_model.specs.declared.fault.DecodeFault.{DecodeFault}
use Rattle.fidl_decode_model.specs.declared.frame.Frame.{Frame}
use Rattle.fidl_decode_model.specs.declared.frame.Remaining.TheVariants.{Elements}
use Rattle.fidl_decode_model.specs.Breaks.{IsPadding, Breaks}
use Rattle.fidl_decode_model.specs.Invariants.{IsFine}
use Rattle.fidl_decode_model.specs.Faults.{message_of}
use Rattle.fidl_decode_model.specs.Rows.{element_rows, RowsRise}
use Rattle.fidl_decode_model.specs.State.{Message, Position}
use Rattle.fidl_decode_model.specs.Machine.{IsInside, StateFine, FrameFine, Visits, Turns, BreaksFrame, inline_work, frame_work}
use Rattle.fidl_decode_model.proofs.Visiting.{size_is, positive}
use Rattle.fidl_decode_model.proofs.Holding.{visits_struct, struct_fine}
use Rattle.fidl_decode_model.proofs.Turning.{raised}
use Rattle.fidl_decode_columns.proofs.Leaves.{going_on, left_over, same_frame, turns_start}
use Rattle.fidl_decode_columns.proofs.Items.{item_takes, item_breaks, items_over, items_break}
use Rattle.fidl_decode_columns.proofs.Wholly.{visits_over}
use Rattle.fidl_decode_columns.specs.declared.structs.Structs.{Structs}
use Rattle.fidl_decode_columns.specs.Columns.{StructsFine, struct_at, IsRead, IsBroken}
use Rattle.fidl_decode_columns.proofs.Sizes.{struct_room}

-- elements that rise fit
pub elements_fit : (ds : Declarations) (n nest all e size : ℕ) → size_of ds (ty.named e) ≡ size → (count done : ℕ) → RowsRise ds n nest all done (element_rows e size count done) → done + size * count ≤ all
elements_fit ds n nest all e size is zero done rise = omega (arith, rise)
elements_fit ds n nest all e size is (suc count) done rise =
    let more : size * suc count ≡ size * count + size = mul-suc size count in
    let on = elements_fit ds n nest all e size is count (done + size) (subst (λ s. RowsRise ds n nest all (done + s) (element_rows e size count (done + size))) is rise.3) in
    omega (arith, on, more)

-- steps for which the bytes of a frame pay
pub pays : (nest all size done count zs n : ℕ) → done + size * count + zs ≤ all → n ≤ 18 * (count * size) + zs + 1 → n ≤ inline_work nest * (all - done) + 1
pays nest all size done count zs n fits le =
    let turned : count * size ≡ size * count = omega arith in
    let many : 18 ≤ inline_work nest = omega arith in
    let bytes : size * count + zs ≤ all - done = omega (arith, fits) in
    omega (arith, turned, le, bytes, mul-le-mul_left 18 bytes, mul-le-mul_left (all - done) many)

-- so many structs of an entry that a frame begins with
abbrev pub structs_of : Frame → (count : ℕ) → Entry → Structs
structs_of f count d = record { entry = d; count = count; base = f.base + f.done; depth = f.depth; in_envelope = f.in_envelope }

module _ (t : List ℕ) (fine : IsFine t) (m : Message) (f : Frame) (ff : FrameFine t m.bytes f) (e size count : ℕ) (is : f.left ≡ Elements e size count) (lt : e < (header_of t).entries) (kind : kind_of (entry_at t e).kind ≡ Some Struct) where
  abbrev d : Entry
  d = entry_at t e

  abbrev all_left : Frame
  all_left = going_on f (Elements e size count) f.done

  same : f ≡ all_left
  same = same_frame f (Elements e size count) is

  as_left : FrameFine t m.bytes all_left
  as_left = subst (λ (g : Frame). FrameFine t m.bytes g) same ff

  pub own_size : d.size ≡ size
  own_size = sym (size_is t fine e lt) ∙ as_left.left

  pub structs_fit : f.done + size * count ≤ f.size
  structs_fit = elements_fit (declarations_of t) (header_of t).entries f.nest f.size e size as_left.left count f.done as_left.rise

  -- a struct has a byte at least
  some_size : count ≤ count * size
  some_size = let one : 1 ≤ size = omega (arith, positive t fine e lt, as_left.left) in omega (arith, mul-le-mul_left count one)

  -- what the structs, their rows and the zeros behind them take is within the frame's work
  pub within_work : (mid begun : ℕ) → mid ≤ begun + 17 * (count * d.size) → mid + (count + (f.base + f.size - (f.base + f.done + size * count)) + 1) ≤ begun + frame_work f
  within_work mid begun le =
      let fits = structs_fit in
      let zs = f.base + f.size - (f.base + f.done + size * count) in
      let all : f.done + size * count + zs ≤ f.size = omega (arith, fits) in
      let alike : count * d.size ≡ count * size = ap (λ n. count * n) own_size in
      let paid = pays f.nest f.size size f.done count zs (18 * (count * size) + zs + 1) all (omega arith) in
      omega (arith, le, alike, paid, some_size)

  -- the structs that the frame begins with
  abbrev pub x : Structs
  x = structs_of f count d

  place : (k : ℕ) → f.base + (f.done + size * k) ≡ f.base + f.done + d.size * k
  place k = let times : d.size * k ≡ size * k = ap (λ n. n * k) own_size in omega (arith, times)

  pub together : f.base + f.done + d.size * count ≤ f.base + f.size
  together = let times : d.size * count ≡ size * count = ap (λ n. n * count) own_size in omega (arith, times, structs_fit)

  struct_there : (k : ℕ) → k < count → f.base + f.done + d.size * k + d.size ≤ f.base + f.size
  struct_there k before = struct_room (f.base + f.done + d.size * k) (f.base + f.done) d.size k count (f.base + f.size) refl before together

  struct_within : (k : ℕ) → k < count → f.base + f.done + d.size * k + d.size ≤ length m.bytes
  struct_within k before = let room = ff.room in omega (arith, struct_there k before, room)

  inside : 0 < count → IsInside f.in_envelope d.size
  inside some = let one = struct_there 0 some in elim ff.in_envelope [ inl out ↦ inl out | inr own ↦ (let four = own.1 in inr (own.0, omega (arith, four, one))) ]

  -- what a frame may read says nothing of handles
  abbrev at_first : Position
  at_first = record { next = 0; handle = 0; objects = []; records = [] }

  first_fine : StateFine (message_of m.bytes []) at_first
  first_fine = record { next = omega arith; handle = omega arith; few = omega arith }

  pub fine_structs : 0 < count → StructsFine t m.bytes x
  fine_structs some = record {
    some = some;
    within = (let room = ff.room in omega (arith, together, room));
    frames = λ k before. (struct_fine t fine (message_of m.bytes []) f.depth e (f.base + f.done + d.size * k) at_first lt first_fine ff.depth f.in_envelope kind (struct_within k before) (inside some)).0;
  }

  -- from each position the structs are read in the same way: numbers lead to nothing below
  module _ (old : Position) (state : StateFine m old) where
    begun : (k : ℕ) → k < count → Visits t m f.depth e (f.base + f.done + d.size * k) old old 0 (Some (struct_at x k))
    begun k before = visits_struct t fine m f.depth e (f.base + f.done + d.size * k) old lt state ff.depth f.in_envelope 0 refl kind (struct_within k before)

    visited : (k : ℕ) → k < count → IsRead t m x k → Visits t m f.depth e (f.base + (f.done + size * k)) old old d.count None
    visited k before read = subst (λ p. Visits t m f.depth e p old old d.count None) (sym (place k)) (visits_over t m f.depth e (f.base + f.done + d.size * k) old old 0 (struct_at x k) (begun k before) old d.count d.count (omega arith) (read old state))

    -- the first n are read, a step for each and one for each of its rows
    read_up_to : (n : ℕ) → n ≤ count → ((k : ℕ) → k < n → IsRead t m x k) → Turns t m f old old (n * (1 + d.count)) (left_over (Some (going_on f (Elements e size (count - n)) (f.done + size * n))))
    read_up_to zero le reads =
        let all : count ≡ count - 0 = omega arith in
        let none : f.done ≡ f.done + size * 0 = omega arith in
        let nothing : 0 ≡ 0 * (1 + d.count) = omega arith in
        subst (λ k. Turns t m f old old k (left_over (Some (going_on f (Elements e size (count - 0)) (f.done + size * 0))))) nothing
        (turns_start t m f old ff state (going_on f (Elements e size (count - 0)) (f.done + size * 0)) (same ∙ (λ i. going_on f (Elements e size (all i)) (none i))))
    read_up_to (suc n) le reads =
        let before = read_up_to n (omega (arith, le)) (λ k less. reads k (omega (arith, less))) in
        let next = item_takes t fine m f old old (n * (1 + d.count)) e size count n (f.done + size * n) before (omega (arith, le)) None old d.count (n * (1 + d.count) + 1 + d.count) refl (visited n (omega (arith, le)) (reads n (omega arith))) tt in
        let fewer : count - (n + 1) ≡ count - suc n = omega arith in
        let more : size * suc n ≡ size * n + size = mul-suc size n in
        let there : f.done + size * n + size ≡ f.done + size * suc n = omega (arith, more) in
        let steps : n * (1 + d.count) + 1 + d.count ≡ suc n * (1 + d.count) = omega arith in
        let whole : Turns t m f old old (n * (1 + d.count) + 1 + d.count) (left_over (Some (going_on f (Elements e size (count - (n + 1))) (f.done + size * n + size))))
        ≡ Turns t m f old old (suc n * (1 + d.count)) (left_over (Some (going_on f (Elements e size (count - suc n)) (f.done + size * suc n))))
        = λ i. Turns t m f old old (steps i) (left_over (Some (going_on f (Elements e size (fewer i)) (there i)))) in
        subst (λ (X : Type 0). X) whole next

    -- steps for which the frame pays
    spent : (a n : ℕ) → a ≤ n → n ≤ frame_work f → Turns t m f old old a (left_over None) → Turns t m f old old n (left_over None)
    spent a n some le turns = record {
      same = turns.same;
      breaks = turns.breaks;
      least = λ to mid v w y z. raised t m f old to (v + w + a) (v + w + n) (omega (arith, some)) (turns.least to mid v w y z);
      state = turns.state;
      moves = turns.moves;
      below_fine = turns.below_fine;
      rest_fine = turns.rest_fine;
      less = omega (arith, le);
    }

    module _ (reads : (k : ℕ) → k < count → IsRead t m x k) where
      all_turns : Turns t m f old old (count * (1 + d.count)) (left_over (Some (going_on f (Elements e size (count - count)) (f.done + size * count))))
      all_turns = read_up_to count (omega arith) reads

      there_end : f.base + f.done + size * count ≡ f.base + (f.done + size * count)
      there_end = omega arith

      -- all are read, and zeros to the end
      pub all_read : (n : ℕ) → count * (1 + d.count) ≤ n → n ≤ frame_work f → Stands m.bytes (f.base + f.done + size * count) (zeros (f.base + f.size - (f.base + f.done + size * count))) → Turns t m f old old n (left_over None)
      all_read n some le z =
          spent (count * (1 + d.count)) n some le (items_over t fine m f old old (count * (1 + d.count)) e size count count (f.done + size * count) all_turns (omega arith) (count * (1 + d.count)) (omega arith) (omega arith) (subst (λ p. Stands m.bytes p (zeros (f.base + f.size - p))) there_end z))

      pub end_breaks : (fault : DecodeFault) → IsPadding m.bytes (f.base + f.done + size * count) (f.base + f.size) fault → BreaksFrame t m f old fault
      end_breaks fault p = items_break t fine m f old old (count * (1 + d.count)) e size count count (f.done + size * count) all_turns (omega arith) fault (subst (λ q. IsPadding m.bytes q (f.base + f.size) fault) there_end p)

    -- the first that is wrong breaks the frame
    pub one_breaks : (n : ℕ) → n < count → ((k : ℕ) → k < n → IsRead t m x k) → (fault : DecodeFault) → IsBroken t m x n fault → BreaksFrame t m f old fault
    one_breaks n before reads fault broken =
        item_breaks t fine m f old old (n * (1 + d.count)) e size count n (f.done + size * n) (read_up_to n (omega (arith, before)) reads) before fault
        (subst (λ p. Breaks (declarations_of t) m f.depth (resolve (declarations_of t).terms (ty.named e)) p old fault) (sym (place n)) ((begun n before).breaks fault (broken old state)))
