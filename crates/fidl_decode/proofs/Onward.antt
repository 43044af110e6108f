-- A turn that leaves a frame, and what is read of that frame next.
use Rattle.std.proofs.Common.{◌≡◌, ℕ, ◌-◌, ◌≤◌, List, Option, Some, sym, subst, arith}
use Rattle.fidl_decode_model.specs.declared.frame.Frame.{Frame}
use Rattle.fidl_decode_model.specs.declared.frame.Turn.{Turn}
use Rattle.fidl_decode_model.specs.declared.frame.Remaining.TheVariants.{Rows}
use Rattle.fidl_decode_model.specs.State.{Message, Position}
use Rattle.fidl_decode_model.specs.Machine.{Turns}
use Rattle.fidl_decode_columns.proofs.Leaves.{going_on, left_over, turns_then}

module _ (t : List ℕ) (m : Message) (f : Frame) where
  -- leaves are read of the frame that is left, and a frame is left again
  pub leaves_on : (rest now : Frame) (old mid new : Position) (first second third : ℕ) → Turns t m f old mid (second - first) (left_over (Some rest)) → first ≤ second → second ≤ third
      → (o : Option Frame) → o ≡ Some now → Turns t m rest mid new (third - second) (left_over o) → Turns t m f old new (third - first) (left_over (Some now))
  leaves_on rest now old mid new first second third one so_far grows o is two =
      turns_then t m f old mid (second - first) rest one new (third - second) (third - first) (left_over (Some now)) (omega (arith, so_far, grows))
      (subst (λ (p : Option Frame). Turns t m rest mid new (third - second) (left_over p)) is two)

  -- a turn of the frame that is left
  pub turn_on : (now : Frame) (old mid new : Position) (first second third : ℕ) (x : Turn) → Turns t m f old mid (second - first) (left_over (Some now)) → first ≤ second → second ≤ third
      → Turns t m now mid new (third - second) x → Turns t m f old new (third - first) x
  turn_on now old mid new first second third x one so_far grows two =
      turns_then t m f old mid (second - first) now one new (third - second) (third - first) x (omega (arith, so_far, grows)) two

  -- what stands in the box of a frame that goes on is entered
  pub entered : (g rest below : Frame) (old now new : Position) (first second third : ℕ) → Turns t m f old now (second - first) (left_over (Some g)) → rest ≡ g → first ≤ second → second ≤ third
      → (o : Option Frame) → o ≡ Some below → Turns t m rest now new (third - second) (left_over o) → Turns t m f old new (third - first) (left_over (Some below))
  entered g rest below old now new first second third one same begun rises o is two =
      leaves_on rest below old now new first second third (subst (λ (x : Frame). Turns t m f old now (second - first) (left_over (Some x))) (sym same) one) begun rises o is two

  -- no row is left of the frame that goes on
  pub all_read_of : (old now : Position) (a : ℕ) (holder rest : Frame) (next many done : ℕ) → many ≡ 0 → rest ≡ going_on holder (Rows next 0) done
      → Turns t m f old now a (left_over (Some (going_on holder (Rows next many) done))) → Turns t m f old now a (left_over (Some rest))
  all_read_of old now a holder rest next many done none same one =
      subst (λ (x : Frame). Turns t m f old now a (left_over (Some x))) (sym same)
      (subst (λ n. Turns t m f old now a (left_over (Some (going_on holder (Rows next n) done)))) none one)
