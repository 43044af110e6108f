-- Turns behind one another: what is read of a frame in place, up to a frame that is left of it.
use Rattle.std.proofs.Common.{◌≡◌, ℕ, zero, suc, ◌+◌, ◌-◌, ◌*◌, ◌<◌, ◌≤◌, List, [], ◌∷◌, length, get_or, refl, sym, ap, subst, ◌∙◌, arith, mul-suc, inl, inr}
use Rattle.std.specs.Prelude.{Option, Some, None, true}
use Rattle.fidl_wire.specs.Term.{resolve}
use Rattle.fidl_wire.specs.Term as ty
use Rattle.fidl_wire.specs.Figure.{Declarations, size_of}
use Rattle.fidl_wire.specs.Encoding.{zeros}
use Rattle.fidl_wire.specs.Standing.{Stands}
use Rattle.fidl_table_format.specs.declared.record.Row as raw
use Rattle.fidl_table_format.specs.declared.kind.EntryKind.{EntryKind}
use Rattle.fidl_table_format.specs.Kind.{kind_of}
use Rattle.fidl_table_format.specs.Section.{header_of, entry_at, row_at}
use Rattle.fidl_table_format.specs.Terms.{declarations_of}
use Rattle.fidl_decode_model.specs.Invariants.{IsFine, is_free}
use Rattle.fidl_decode_model.specs.declared.frame.Frame.{Frame}
use Rattle.fidl_decode_model.specs.declared.frame.Remaining.{Remaining}
use Rattle.fidl_decode_model.specs.declared.frame.Remaining.TheVariants.{Rows, Elements}
use Rattle.fidl_decode_model.specs.declared.frame.Turn.{Turn}
use Rattle.fidl_decode_model.specs.Rows.{Row, table_rows, element_rows}
use Rattle.fidl_decode_model.specs.State.{Message, Position}
use Rattle.fidl_decode_model.specs.declared.fault.DecodeFault.{DecodeFault}
use Rattle.fidl_decode_model.specs.Breaks.{IsPadding, Breaks}
use Rattle.fidl_decode_model.specs.Work.{Work}
use Rattle.fidl_wire.specs.Value.{Value}
use Rattle.fidl_wire.specs.Typed.{IsTyped}
use Rattle.fidl_decode_model.proofs.Rows.{worth_more}
use Rattle.fidl_decode_model.specs.Machine.{rows_left, Reads, ReadsIf, BreaksFrame, LeftFine, IsPlain, VisitFine, height, FrameFine, frame_work, probes, StateFine, Visits, Turns}
use Rattle.fidl_decode_model.specs.Worth.{MembersWorth, ReadsWorth, WorthIf}
use Rattle.fidl_decode_model.proofs.Moving.{moves_start, moves_then, moves_below}
use Rattle.fidl_decode_model.proofs.Stated.{table_rows-more, element_rows-more}
use Rattle.fidl_decode_model.proofs.Visiting.{size_is, positive, visits_free, light_free}
use Rattle.fidl_decode_model.proofs.Turning.{raised, fine_from, done_fits, spends, spends_more, turns_end, row_fine, row_room, turns_more, end_breaks, gap_breaks, visit_breaks}

-- a frame with other members left, so many of its bytes read
abbrev pub going_on : Frame → Remaining → (done : ℕ) → Frame
going_on f left done = record { left = left; base = f.base; done = done; size = f.size; nest = f.nest; depth = f.depth; in_envelope = f.in_envelope }

pub same_frame : (f : Frame) (left : Remaining) → f.left ≡ left → f ≡ going_on f left f.done
same_frame f left is = λ i. record { left = is i; base = f.base; done = f.done; size = f.size; nest = f.nest; depth = f.depth; in_envelope = f.in_envelope }

-- only a frame is left
abbrev pub left_over : Option Frame → Turn
left_over o = record { below = None; rest = o }

module _ (t : List ℕ) (m : Message) (f : Frame) (old : Position) where
  -- before anything is read
  pub turns_start : FrameFine t m.bytes f → StateFine m old → (g : Frame) → f ≡ g → Turns t m f old old 0 (left_over (Some g))
  turns_start ff state g is = subst (λ (g : Frame). Turns t m f old old 0 (left_over (Some g))) is (record {
    same = λ to. ((λ x. (old, refl, x)), (λ y. subst (λ (s : Position). Reads t m f s to) (sym y.1) y.2));
    least = λ to mid a b y z. raised t m f old to b (a + b + 0) (omega arith) (subst (λ (s : Position). ReadsWorth t m f s to b) (sym y) z);
    breaks = λ fault b. elim b [ inl x ↦ absurd x | inr y ↦ subst (λ (s : Position). BreaksFrame t m f s fault) (sym y.1) y.2 ];
    state = state;
    moves = λ ahead clear. moves_start t m f old ahead clear;
    below_fine = tt;
    rest_fine = (ff, omega arith);
    less = omega arith;
  })

  pub turns_stay : FrameFine t m.bytes f → StateFine m old → (n : ℕ) → n ≡ 0 → Turns t m f old old n (left_over (Some f))
  turns_stay ff state n none = subst (λ n. Turns t m f old old n (left_over (Some f))) (sym none) (turns_start ff state f refl)

  module _ (mid : Position) (a : ℕ) (g : Frame) where
    module _ (one : Turns t m f old mid a (left_over (Some g))) where
      -- what is left is read on
      pub turns_then : (new : Position) (b n : ℕ) (x : Turn) → n ≡ a + b → Turns t m g mid new b x → Turns t m f old new n x
      turns_then new b n x le two = record {
        same = λ to. (
          (λ r. let p = (one.same to).0 r in (two.same to).0 (subst (λ (s : Position). Reads t m g s to) (sym p.1) p.2)),
          (λ y. (one.same to).1 (mid, refl, (two.same to).1 y)),
        );
        breaks = λ fault b. one.breaks fault (inr (mid, refl, two.breaks fault b));
        least = λ to last v w y z. raised t m f old to (0 + (v + w + b) + a) (v + w + n) (omega (arith, le)) (one.least to mid 0 (v + w + b) refl (two.least to last v w y z));
        state = two.state;
        moves = λ ahead clear. let p = one.moves ahead clear in moves_then t m (f.base + f.done) (f.base + f.size) g old mid new x.below x.rest p (two.moves p.ahead p.rest_clear);
        below_fine = fine_from t m.bytes (height g + 1) (height f + 1) x.below (omega (arith, one.rest_fine.1)) two.below_fine;
        rest_fine = fine_from t m.bytes (height g) (height f) x.rest one.rest_fine.1 two.rest_fine;
        less = omega (arith, one.less, two.less);
      }

      pub turns_break : (fault : DecodeFault) → BreaksFrame t m g mid fault → BreaksFrame t m f old fault
      turns_break fault b = one.breaks fault (inr (mid, refl, b))

    -- what is below is read up to what is left of it
    module _ (h : Frame) (one : Turns t m f old mid a (record { below = Some g; rest = Some h })) where
      pub turns_below : (new : Position) (b n : ℕ) (o : Option Frame) → n ≡ a + b → Turns t m g mid new b (left_over o) → Turns t m f old new n (record { below = o; rest = Some h })
      turns_below new b n o le two = record {
        same = λ to. (
          (λ r. let p = (one.same to).0 r in
              let q = (two.same p.0).0 p.1 in
              (p.0, subst (λ (s : Position). ReadsIf t m o s p.0) (sym q.1) q.2, p.2)),
          (λ y. (one.same to).1 (y.0, (two.same y.0).1 (new, refl, y.1), y.2)),
        );
        breaks = λ fault b. elim b [
          | inl x ↦ one.breaks fault (inl (two.breaks fault (inr (new, refl, x))))
          | inr y ↦ one.breaks fault (inr (y.0, (two.same y.0).1 (new, refl, y.1), y.2))
        ];
        least = λ to last v w y z. raised t m f old to ((0 + v + b) + w + a) (v + w + n) (omega (arith, le)) (one.least to last (0 + v + b) w (two.least last new 0 v refl y) z);
        state = two.state;
        moves = λ ahead clear. let p = one.moves ahead clear in moves_below t m (f.base + f.done) (f.base + f.size) g old mid new o (Some h) p (two.moves p.ahead p.below_clear);
        below_fine = fine_from t m.bytes (height g) (height f + 1) o one.below_fine.1 two.rest_fine;
        rest_fine = one.rest_fine;
        less = omega (arith, one.less, two.less);
      }

      -- to its end
      pub turns_over : (new : Position) (b n : ℕ) → n ≡ a + b → Turns t m g mid new b (left_over None) → Turns t m f old new n (left_over (Some h))
      turns_over new b n le two = turns_below new b n None le two

      pub below_breaks : (fault : DecodeFault) → BreaksFrame t m g mid fault → BreaksFrame t m f old fault
      below_breaks fault b = one.breaks fault (inl b)

module _ (t : List ℕ) (fine : IsFine t) (m : Message) (f : Frame) (old now : Position) (a : ℕ) (g : Frame) (turns : Turns t m f old now a (left_over (Some g))) where
  abbrev ds : Declarations
  ds = declarations_of t

  abbrev gf : FrameFine t m.bytes g
  gf = turns.rest_fine.0

  -- the members are read: zeros to the end
  module _ (over : rows_left t g.done g.left ≡ []) (plain : IsPlain g.left) where
    pub over_turns : (n : ℕ) → a ≤ n → n ≤ a + (g.base + g.size - (g.base + g.done) + 1) → Stands m.bytes (g.base + g.done) (zeros (g.base + g.size - (g.base + g.done))) → Turns t m f old now n (left_over None)
    over_turns n some le z = turns_then t m f old now a g turns now (n - a) n (left_over None) (omega (arith, some)) (turns_end t fine m g now gf turns.state over plain z (n - a) (omega (arith, le)))

    pub over_breaks : (fault : DecodeFault) → IsPadding m.bytes (g.base + g.done) (g.base + g.size) fault → BreaksFrame t m f old fault
    over_breaks fault p = turns_break t m f old now a g turns fault (end_breaks t fine m g now gf turns.state over plain fault p)

  -- the bytes that are left lie within the message, and there is work for them
  pub over_room : (g.done ≤ g.size) × (g.base + g.size ≤ length m.bytes) × (g.size - g.done + 1 ≤ frame_work g)
  over_room = let d = done_fits t fine m g now gf turns.state in (d, gf.room, spends g.nest (g.size - g.done) (g.size - g.done) (omega arith))

  -- a member is next
  module _ (r : Row) (left : Remaining) (one : rows_left t g.done g.left ≡ r ∷ rows_left t (r.offset + size_of ds (ty.named r.entry)) left) where
    pub next_known : r.entry < (header_of t).entries
    next_known = (row_fine t fine m g now gf turns.state r left one).0

    pub next_size : size_of ds (ty.named r.entry) ≡ (entry_at t r.entry).size
    next_size = size_is t fine r.entry next_known

    -- it lies behind what is read, within the frame and the message, and there is work for it
    pub next_room : (g.done ≤ r.offset) × (r.offset + (entry_at t r.entry).size ≤ g.size) × (g.base + g.size ≤ length m.bytes) × (r.offset - g.done + 2 + probes ≤ frame_work g)
    next_room =
        let known = row_fine t fine m g now gf turns.state r left one in
        let fits = row_room t fine m g now gf turns.state r left one in
        let size = next_size in
        let pos = positive t fine r.entry next_known in
        (known.1, omega (arith, size), gf.room, spends_more g.nest (r.offset - g.done) (g.size - g.done) (omega (arith, fits, known.1, pos)))

    module _ (plain : IsPlain g.left) where
      pub next_gap_breaks : (fault : DecodeFault) → IsPadding m.bytes (g.base + g.done) (g.base + r.offset) fault → BreaksFrame t m f old fault
      next_gap_breaks fault p = turns_break t m f old now a g turns fault (gap_breaks t fine m g now gf turns.state r left one plain fault p)

      pub next_leaf_breaks : (fault : DecodeFault) → Stands m.bytes (g.base + g.done) (zeros (g.base + r.offset - (g.base + g.done))) → Breaks ds m g.depth (resolve ds.terms (ty.named r.entry)) (g.base + r.offset) now fault → BreaksFrame t m f old fault
      next_leaf_breaks fault z b = turns_break t m f old now a g turns fault (visit_breaks t fine m g now gf turns.state r left one plain fault z b)

      -- it is a leaf, or leads to what is below
      pub next_takes : LeftFine t left → IsPlain left → (below : Option Frame) (new : Position) (done spent n : ℕ) → done ≡ r.offset + (entry_at t r.entry).size → a + 1 + spent ≤ n → n ≤ a + (g.base + r.offset - (g.base + g.done) + 1 + spent)
          → Stands m.bytes (g.base + g.done) (zeros (g.base + r.offset - (g.base + g.done))) → Visits t m g.depth r.entry (g.base + r.offset) now new spent below → VisitFine t m g.depth g.in_envelope r.entry below
          → Turns t m f old new n (record { below = below; rest = Some (going_on g left done) })
      next_takes left_fine left_plain below new done spent n is some le z v vf =
          turns_then t m f old now a g turns new (n - a) n (record { below = below; rest = Some (going_on g left done) }) (omega (arith, some))
          (turns_more t fine m g now gf turns.state r left one plain (positive t fine r.entry next_known) left_fine left_plain below new done spent (n - a) (omega (arith, is, next_size)) (omega (arith, some)) (omega (arith, le)) z v vf)

      pub next_turns : LeftFine t left → IsPlain left → (new : Position) (done spent n : ℕ) → done ≡ r.offset + (entry_at t r.entry).size → a + 1 + spent ≤ n → n ≤ a + (g.base + r.offset - (g.base + g.done) + 1 + spent)
          → Stands m.bytes (g.base + g.done) (zeros (g.base + r.offset - (g.base + g.done))) → Visits t m g.depth r.entry (g.base + r.offset) now new spent None
          → Turns t m f old new n (left_over (Some (going_on g left done)))
      next_turns left_fine left_plain new done spent n is some le z v = next_takes left_fine left_plain None new done spent n is some le z v tt

-- the next of a struct's rows
pub rows_next : (t : List ℕ) (first end done d : ℕ) (w : raw.Row) → w ≡ row_at t (header_of t) first → first < end → rows_left t done (Rows first (end - first)) ≡ (let x : Row = record { offset = w.key; entry = w.entry } in x) ∷ rows_left t d (Rows (first + 1) (end - (first + 1)))
rows_next t first end done d w is lt =
    let fewer : end - first - 1 ≡ end - (first + 1) = omega arith in
    table_rows-more t first (end - first) (λ none. absurd (omega (arith, none)))
    ∙ ap (λ n. (let x : Row = record { offset = (row_at t (header_of t) first).key; entry = (row_at t (header_of t) first).entry } in x) ∷ table_rows t (header_of t) (first + 1) n) fewer
    ∙ ap (λ (r : raw.Row). (let x : Row = record { offset = r.key; entry = r.entry } in x) ∷ table_rows t (header_of t) (first + 1) (end - (first + 1))) (sym is)

-- the next of an array's elements
pub elements_next : (t : List ℕ) (e size k count done : ℕ) → size_of (declarations_of t) (ty.named e) ≡ size → k < count
    → rows_left t done (Elements e size (count - k)) ≡ (let x : Row = record { offset = done; entry = e } in x) ∷ rows_left t (done + size_of (declarations_of t) (ty.named e)) (Elements e size (count - (k + 1)))
elements_next t e size k count done is lt =
    let fewer : count - k - 1 ≡ count - (k + 1) = omega arith in
    element_rows-more e size (count - k) done (λ none. absurd (omega (arith, none)))
    ∙ ap (λ n. (let x : Row = record { offset = done; entry = e } in x) ∷ element_rows e size n (done + size)) fewer
    ∙ ap (λ s. (let x : Row = record { offset = done; entry = e } in x) ∷ element_rows e size (count - (k + 1)) (done + s)) (sym is)

pub elements_over : (t : List ℕ) (e size k count done : ℕ) → count ≤ k → rows_left t done (Elements e size (count - k)) ≡ []
elements_over t e size k count done le = let none : count - k ≡ 0 = omega arith in ap (λ n. element_rows e size n done) none

pub no_zeros : (m : List ℕ) (p k : ℕ) → k ≡ 0 → Stands m p (zeros k)
no_zeros m p k is = subst (λ n. Stands m p (zeros n)) (sym is) tt

-- what is read is worth no more than is said here
pub turns_worth : (t : List ℕ) (m : Message) (f : Frame) (old new : Position) (a n : ℕ) (x : Turn) → n ≤ a → Turns t m f old new a x
    → ((to mid : Position) (v w : ℕ) → WorthIf t m x.below new mid v → WorthIf t m x.rest mid to w → ReadsWorth t m f old to (v + w + n)) → Turns t m f old new n x
turns_worth t m f old new a n x le turns least = record {
  same = turns.same;
  breaks = turns.breaks;
  least = least;
  state = turns.state;
  moves = turns.moves;
  below_fine = turns.below_fine;
  rest_fine = turns.rest_fine;
  less = omega (arith, le, turns.less);
}

-- elements that any bytes are need no look, and are worth nothing
module _ (t : List ℕ) (fine : IsFine t) (m : Message) (e size : ℕ) (f : Frame) (at : Position) where
  abbrev at_element : (n done : ℕ) → Frame
  at_element n done = going_on f (Elements e size n) done

  pub any_elements : (n done : ℕ) → FrameFine t m.bytes (at_element n done) → StateFine m at → ((place : ℕ) → e < (header_of t).entries → place + (entry_at t e).size ≤ length m.bytes → Visits t m f.depth e place at at 0 None)
      → ((v : Value) → IsTyped (declarations_of t) (resolve (declarations_of t).terms (ty.named e)) v → Work v ≡ 0) → Turns t m (at_element n done) at at 0 (left_over (Some (at_element 0 (done + size * n))))
  any_elements zero done ff state v light =
      let none : done ≡ done + size * 0 = omega arith in
      turns_start t m (at_element zero done) at ff state (at_element 0 (done + size * 0)) (ap (λ d. at_element 0 d) none)
  any_elements (suc n) done ff state v light =
      let g = at_element (suc n) done in
      let is = ff.left in
      let r : Row = record { offset = done; entry = e } in
      let left = Elements e size n in
      let one : rows_left t done (Elements e size (suc n)) ≡ r ∷ rows_left t (done + size_of (declarations_of t) (ty.named e)) left = ap (λ s. r ∷ element_rows e size n (done + s)) (sym is) in
      let start = turns_start t m g at ff state g refl in
      let known = next_known t fine m g at at 0 g start r left one in
      let own = next_size t fine m g at at 0 g start r left one in
      let room = next_room t fine m g at at 0 g start r left one in
      let none : f.base + done - (f.base + done) ≡ 0 = omega arith in
      let here = v (f.base + done) known (omega (arith, room.1, room.2)) in
      let step = next_turns t fine m g at at 0 g start r left one tt is tt at (done + size) 0 1 (omega (arith, is, own)) (omega arith) (omega arith) (no_zeros m.bytes (f.base + done) _ none) here in
      let gone : (to mid : Position) (v w : ℕ) → at ≡ mid → ReadsWorth t m (at_element n (done + size)) mid to w → ReadsWorth t m g at to (v + w + 0) = λ to mid v w y z.
      let item = (here.same mid).1 y in
      let rest : MembersWorth (declarations_of t) m f.depth f.size f.base (done + size_of (declarations_of t) (ty.named e)) (element_rows e size n (done + size_of (declarations_of t) (ty.named e))) mid to w =
      subst (λ s. MembersWorth (declarations_of t) m f.depth f.size f.base (done + s) (element_rows e size n (done + s)) mid to w) (sym is) z in
      let more = worth_more (declarations_of t) fine.laid_out m f.depth (header_of t).entries f.nest f.size f.base done r (rows_left t (done + size_of (declarations_of t) (ty.named e)) left) at mid to (row_fine t fine m g at ff state r left one)
      (no_zeros m.bytes (f.base + done) _ (let gap : done - done ≡ 0 = omega arith in gap)) 0 w (item, omega (arith, light item.value item.typed)) rest in
      let le = more.1 in
      subst (λ (rs : List Row). MembersWorth (declarations_of t) m f.depth f.size f.base done rs at to (v + w + 0)) (sym one) (more.0, omega (arith, le)) in
      let free = turns_worth t m g at at 1 0 (left_over (Some (at_element n (done + size)))) (omega arith) step gone in
      let on = any_elements n (done + size) step.rest_fine.0 state v light in
      let more : size * suc n ≡ size * n + size = mul-suc size n in
      let same : done + size + size * n ≡ done + size * suc n = omega arith in
      subst (λ d. Turns t m g at at 0 (left_over (Some (at_element 0 d)))) same (turns_then t m g at at 0 (at_element n (done + size)) free at 0 0 (left_over (Some (at_element 0 (done + size + size * n)))) (omega arith) on)

-- an array's frame, from its start
module _ (t : List ℕ) (fine : IsFine t) (m : Message) (f : Frame) (old : Position) (ff : FrameFine t m.bytes f) (state : StateFine m old) (e size count : ℕ) (is : f.left ≡ Elements e size count) where
  start : Turns t m f old old 0 (left_over (Some (going_on f (Elements e size count) f.done)))
  start = turns_start t m f old ff state (going_on f (Elements e size count) f.done) (same_frame f (Elements e size count) is)

  pub element_known : (count ≡ 0 → ⊥) → e < (header_of t).entries
  element_known some =
      let own = start.rest_fine.0.left in
      let all : count ≡ count - 0 = omega arith in
      let none : 0 < count = omega (arith, some) in
      next_known t fine m f old old 0 (going_on f (Elements e size count) f.done) start (let x : Row = record { offset = f.done; entry = e } in x) (Elements e size (count - (0 + 1)))
      (ap (λ n. rows_left t f.done (Elements e size n)) all ∙ elements_next t e size 0 count f.done own none)

  -- any bytes are elements
  pub free_turns : (k : EntryKind) → kind_of (entry_at t e).kind ≡ Some k → is_free k (entry_at t e) ≡ true → ((i : ℕ) → get_or m.bytes i 0 < 256)
      → Turns t m f old old 0 (left_over (Some (going_on f (Elements e size 0) (f.done + size * count))))
  free_turns k known free small = go count refl
    where
      go : (n : ℕ) → n ≡ count → Turns t m f old old 0 (left_over (Some (going_on f (Elements e size 0) (f.done + size * count))))
      go zero none = subst (λ n. Turns t m f old old 0 (left_over (Some (going_on f (Elements e size 0) (f.done + size * n))))) none
          (let same : f.done ≡ f.done + size * 0 = omega arith in turns_start t m f old ff state (going_on f (Elements e size 0) (f.done + size * 0)) (same_frame f (Elements e size count) is ∙ (λ i. going_on f (Elements e size (sym none i)) (same i))))
      go (suc n) some = turns_then t m f old old 0 (going_on f (Elements e size count) f.done) start old 0 0 (left_over (Some (going_on f (Elements e size 0) (f.done + size * count)))) (omega arith)
          (any_elements t fine m e size f old count f.done start.rest_fine.0 state (λ place lt room. visits_free t fine m f.depth e place old lt state ff.depth k known free 0 (omega arith) room small)
          (light_free t fine e (element_known (λ none. absurd (omega (arith, some, none)))) k known free))
