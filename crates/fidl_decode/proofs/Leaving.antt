-- What reading a frame leaves, up to three frames.
use Rattle.std.proofs.Common.{◌≡◌, ℕ, ◌+◌, ◌<◌, ◌≤◌, List, [], ◌∷◌, ◌++◌, length, Option, Some, None, refl, sym, subst, arith}
use Rattle.std.specs.Prelude.{◌↔◌, IfSome}
use Rattle.std.specs.Option.{option_to_list}
use Rattle.std.proofs.lemmas.List.{append-nil}
use Rattle.fidl_limits.specs.declared.limits.TheConstants.{STACK_PLACES}
use Rattle.fidl_decode_model.specs.declared.frame.Frame.{Frame}
use Rattle.fidl_decode_model.specs.declared.frame.Turn.{Turn}
use Rattle.fidl_decode_model.specs.declared.fault.DecodeFault.{DecodeFault}
use Rattle.fidl_decode_model.specs.State.{Message, Position}
use Rattle.fidl_decode_model.specs.Machine.{Turns, StateFine, Finishes, BreaksStack, StackFine, height, work}
use Rattle.fidl_decode_model.specs.Worth.{FinishesWorth}
use Rattle.fidl_decode_values.specs.Ready.{StackReady}
use Rattle.fidl_decode_columns.proofs.Leaves.{left_over, turns_then}
use Rattle.fidl_decode.specs.Pending.{LeavesIf}
use Rattle.fidl_decode.proofs.Running.{finishes_raised, room_if, length_if, turn_same, turn_worth, turn_breaks, turn_fine, turn_less}
use Rattle.fidl_decode.proofs.ReadyStack.{turn_ready}

module _ (t : List ℕ) (m : Message) (f : Frame) (old mid : Position) (a : ℕ) (g : Frame) (one : Turns t m f old mid a (left_over (Some g))) (new : Position) (b n : ℕ) (all : n ≡ a + b) where
  -- what is left of what is left
  pub leaves_then : (under : Option Frame) (turn : Turn) → LeavesIf t m g mid new b under turn → LeavesIf t m f old new n under turn
  leaves_then None turn two = turns_then t m f old mid a g one new b n turn all two
  leaves_then (Some h) turn two = record {
    above = two.above;
    mid = two.mid;
    before = a + two.before;
    behind = two.behind;
    all = omega (arith, all, two.all);
    up_to = turns_then t m f old mid a g one two.mid two.before (a + two.before) (record { below = Some two.above; rest = Some h }) refl two.up_to;
    turns = two.turns;
  }

-- where no frame is under it, that is a turn
pub turn_alone : (t : List ℕ) (m : Message) (f : Frame) (old new : Position) (spent : ℕ) (under : Option Frame) (turn : Turn) → under ≡ None → LeavesIf t m f old new spent under turn → Turns t m f old new spent turn
turn_alone t m f old new spent under turn is h = subst (λ (o : Option Frame). LeavesIf t m f old new spent o turn) is h

-- there is room for both frames that a turn leaves
pub turn_rooms : (t : List ℕ) (m : Message) (fs : List Frame) (f : Frame) (old new : Position) (spent : ℕ) (x : Turn) → Turns t m f old new spent x → length fs ≤ height f
    → IfSome x.rest (λ g. length fs < STACK_PLACES) × IfSome x.below (λ g. length (fs ++ option_to_list x.rest) < STACK_PLACES)
turn_rooms t m fs f old new spent x turns le = (
  room_if t m (height f) (length fs) x.rest turns.rest_fine le,
  room_if t m (height f + 1) (length (fs ++ option_to_list x.rest)) x.below turns.below_fine (omega (arith, le, length_if t m fs x.rest)),
)

-- the stack that is left: what is under, and what a turn leaves above it
abbrev pub stack_left : List Frame → Option Frame → Turn → List Frame
stack_left fs under turn = ((fs ++ option_to_list under) ++ option_to_list turn.rest) ++ option_to_list turn.below

module _ (t : List ℕ) (m : Message) (fs : List Frame) (f : Frame) (old new : Position) (spent : ℕ) where
  -- nothing is under it
  bare : (P : List Frame → Type 0) → P fs → P (fs ++ option_to_list None)
  bare P h = subst P (sym (append-nil fs)) h

  pub left_same : (under : Option Frame) (turn : Turn) → LeavesIf t m f old new spent under turn → (to : Position) → Finishes t m (fs ++ f ∷ []) old to ↔ Finishes t m (stack_left fs under turn) new to
  left_same None turn x to = bare (λ (l : List Frame). Finishes t m (fs ++ f ∷ []) old to ↔ Finishes t m ((l ++ option_to_list turn.rest) ++ option_to_list turn.below) new to) (turn_same t m fs f old new spent turn x to)
  left_same (Some h) turn x to =
      let one = turn_same t m fs f old x.mid x.before (record { below = Some x.above; rest = Some h }) x.up_to to in
      let two = turn_same t m (fs ++ h ∷ []) x.above x.mid new x.behind turn x.turns to in
      ((λ y. two.0 (one.0 y)), (λ y. one.1 (two.1 y)))

  pub left_worth : (under : Option Frame) (turn : Turn) → LeavesIf t m f old new spent under turn → (to : Position) (w : ℕ) → FinishesWorth t m (stack_left fs under turn) new to w → FinishesWorth t m (fs ++ f ∷ []) old to (w + spent)
  left_worth None turn x to w y = bare (λ (l : List Frame). FinishesWorth t m ((l ++ option_to_list turn.rest) ++ option_to_list turn.below) new to w → FinishesWorth t m (fs ++ f ∷ []) old to (w + spent)) (turn_worth t m fs f old new spent turn x to w) y
  left_worth (Some h) turn x to w y =
      let two = turn_worth t m (fs ++ h ∷ []) x.above x.mid new x.behind turn x.turns to w y in
      let one = turn_worth t m fs f old x.mid x.before (record { below = Some x.above; rest = Some h }) x.up_to to (w + x.behind) two in
      finishes_raised t m (fs ++ f ∷ []) old to _ (w + spent) (omega (arith, x.all)) one

  pub left_breaks : (under : Option Frame) (turn : Turn) → LeavesIf t m f old new spent under turn → (fault : DecodeFault) → BreaksStack t m (stack_left fs under turn) new fault → BreaksStack t m (fs ++ f ∷ []) old fault
  left_breaks None turn x fault b = bare (λ (l : List Frame). BreaksStack t m ((l ++ option_to_list turn.rest) ++ option_to_list turn.below) new fault → BreaksStack t m (fs ++ f ∷ []) old fault) (turn_breaks t m fs f old new spent turn x fault) b
  left_breaks (Some h) turn x fault b =
      turn_breaks t m fs f old x.mid x.before (record { below = Some x.above; rest = Some h }) x.up_to fault (turn_breaks t m (fs ++ h ∷ []) x.above x.mid new x.behind turn x.turns fault b)

  pub left_fine : (under : Option Frame) (turn : Turn) → LeavesIf t m f old new spent under turn → StackFine t m.bytes 0 (fs ++ f ∷ []) → StackFine t m.bytes 0 (stack_left fs under turn)
  left_fine None turn x s = bare (λ (l : List Frame). StackFine t m.bytes 0 ((l ++ option_to_list turn.rest) ++ option_to_list turn.below)) (turn_fine t m fs f old new spent turn x s)
  left_fine (Some h) turn x s =
      turn_fine t m (fs ++ h ∷ []) x.above x.mid new x.behind turn x.turns (turn_fine t m fs f old x.mid x.before (record { below = Some x.above; rest = Some h }) x.up_to s)

  pub left_less : (under : Option Frame) (turn : Turn) → LeavesIf t m f old new spent under turn → work m.bytes (stack_left fs under turn) new.next + spent ≤ work m.bytes (fs ++ f ∷ []) old.next
  left_less None turn x = bare (λ (l : List Frame). work m.bytes ((l ++ option_to_list turn.rest) ++ option_to_list turn.below) new.next + spent ≤ work m.bytes (fs ++ f ∷ []) old.next) (turn_less t m fs f old new spent turn x)
  left_less (Some h) turn x =
      let one = turn_less t m fs f old x.mid x.before (record { below = Some x.above; rest = Some h }) x.up_to in
      let two = turn_less t m (fs ++ h ∷ []) x.above x.mid new x.behind turn x.turns in
      omega (arith, one, two, x.all)

  pub left_ready : (under : Option Frame) (turn : Turn) → LeavesIf t m f old new spent under turn → StackReady t m old (fs ++ f ∷ []) → StackReady t m new (stack_left fs under turn)
  left_ready None turn x s = bare (λ (l : List Frame). StackReady t m new ((l ++ option_to_list turn.rest) ++ option_to_list turn.below)) (turn_ready t m fs f old new spent turn x s)
  left_ready (Some h) turn x s =
      turn_ready t m (fs ++ h ∷ []) x.above x.mid new x.behind turn x.turns (turn_ready t m fs f old x.mid x.before (record { below = Some x.above; rest = Some h }) x.up_to s)

  pub left_state : (under : Option Frame) (turn : Turn) → LeavesIf t m f old new spent under turn → StateFine m new
  left_state None turn x = x.state
  left_state (Some h) turn x = x.turns.state

  -- there is room for each frame
  pub left_rooms : (under : Option Frame) (turn : Turn) → LeavesIf t m f old new spent under turn → length fs ≤ height f
      → IfSome under (λ g. length fs < STACK_PLACES) × IfSome turn.rest (λ g. length (fs ++ option_to_list under) < STACK_PLACES) × IfSome turn.below (λ g. length ((fs ++ option_to_list under) ++ option_to_list turn.rest) < STACK_PLACES)
  left_rooms None turn x le =
      let two = bare (λ (l : List Frame). IfSome turn.rest (λ g. length l < STACK_PLACES) × IfSome turn.below (λ g. length (l ++ option_to_list turn.rest) < STACK_PLACES)) (turn_rooms t m fs f old new spent turn x le) in
      (tt, two.0, two.1)
  left_rooms (Some h) turn x le =
      let first = turn_rooms t m fs f old x.mid x.before (record { below = Some x.above; rest = Some h }) x.up_to le in
      let higher = x.up_to.below_fine.1 in
      let two = turn_rooms t m (fs ++ h ∷ []) x.above x.mid new x.behind turn x.turns (omega (arith, le, higher, length_if t m fs (Some h))) in
      (first.0, two.0, two.1)
