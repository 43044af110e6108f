-- What a frame, an envelope or the content of one has left stands where it can be read.
use Rattle.std.proofs.Common.{◌≡◌, ℕ, zero, suc, ◌+◌, ◌%◌, ◌<◌, List, sym, subst, ◌∙◌, arith}
use Rattle.std.specs.Prelude.{Some}
use Rattle.fidl_wire.specs.Term as ty
use Rattle.fidl_wire.specs.Figure.{size_of}
use Rattle.fidl_table_format.specs.declared.kind.EntryKind.TheVariants.{Table}
use Rattle.fidl_table_format.specs.Kind.{kind_of}
use Rattle.fidl_table_format.specs.Section.{header_of, entry_at}
use Rattle.fidl_table_format.specs.Terms.{declarations_of}
use Rattle.fidl_decode_model.specs.declared.frame.Frame.{Frame}
use Rattle.fidl_decode_model.specs.declared.frame.Remaining.{Remaining}
use Rattle.fidl_decode_model.specs.declared.frame.Remaining.TheVariants.{Envelopes, Content}
use Rattle.fidl_decode_model.specs.declared.frame.Until.{Until}
use Rattle.fidl_decode_model.specs.Frontier.{LeftEven}
use Rattle.fidl_decode_model.specs.Invariants.{IsFine}
use Rattle.fidl_decode_model.specs.State.{Message, Position}
use Rattle.fidl_decode_model.specs.Machine.{EnvelopesFit, FrameFine, StateFine, Visits}
use Rattle.fidl_decode_model.proofs.Aligned.{even_eights, no_names}
use Rattle.fidl_decode_model.proofs.Visiting.{size_is, size_as}
use Rattle.fidl_decode_values.specs.Ready.{PlaceReady, ValueReady, FrameReady}
use Rattle.fidl_decode_columns.proofs.Leaves.{same_frame}
use Rattle.fidl_decode_values.proofs.ContentTurns.{content_known, content_room}

module _ (t : List ℕ) (m : Message) (s : Position) where
  -- the next of a frame's envelopes
  pub slot_ready : (f : Frame) (e read count : ℕ) → f.left ≡ Envelopes e read count → 0 < count → FrameFine t m.bytes f → FrameReady t m s f → PlaceReady m s (f.base + f.done) 8 8
  slot_ready f e read count is some ff ready =
      let fit = subst (λ (l : Remaining). EnvelopesFit f l) is ff.slots in
      let even : f.base % 8 ≡ 0 = subst (λ (l : Remaining). LeftEven t f l) is ready.1.even in
      let done = fit.0 in
      let size = fit.1 in (
        ready.0,
        record { before = omega (arith, ready.1.before, done, size, some); free = λ k x y. ready.1.free k x (omega (arith, y, done, size, some)) },
        omega (arith, even, done),
      )

  -- the next value of an envelope's content
  pub content_ready : IsFine t → (f : Frame) (e size count : ℕ) (u : Until) → f.left ≡ Content e size count u → 0 < count → FrameFine t m.bytes f → StateFine m s → FrameReady t m s f → ValueReady t m s e (f.base + f.done)
  content_ready fine f e size zero u is some ff state ready = absurd (omega (arith, some))
  content_ready fine f e size (suc n) u is some ff state ready =
      let gf = subst (λ (f : Frame). FrameFine t m.bytes f) (same_frame f (Content e size (suc n) u) is) ff in
      let lt = content_known t fine m f e size (suc n) u s gf state some in
      let fits = content_room t fine m f e size (suc n) u s gf state some in
      let wide = size_is t fine e lt in
      let even = subst (λ (l : Remaining). LeftEven t f l) is ready.1.even in (
        ready.0,
        record { before = omega (arith, ready.1.before, fits.0, wide); free = λ k x y. ready.1.free k x (omega (arith, y, fits.0, wide)) },
        even.0,
      )

  -- a table's count and marker
  pub table_ready : IsFine t → (e place : ℕ) → e < (header_of t).entries → kind_of (entry_at t e).kind ≡ Some Table → PlaceReady m s place 16 8 → ValueReady t m s e place
  table_ready fine e place lt is ready =
      let wide : 16 ≡ size_of (declarations_of t) (ty.named e) = size_as t fine e Table lt is ∙ sym (size_is t fine e lt) in (
        ready.0,
        record { before = omega (arith, ready.1.before, wide); free = λ k x y. ready.1.free k x (omega (arith, y, wide)) },
        even_eights (declarations_of t) fine.laid_out (no_names t) (ty.named e) place ready.2,
      )

-- what a visit leaves
pub visit_ready : (t : List ℕ) (m : Message) (held e place : ℕ) (old new : Position) (n : ℕ) (g : Frame) → Visits t m held e place old new n (Some g) → ValueReady t m old e place → FrameReady t m new g
visit_ready t m held e place old new n g v ready = let p = v.moves ready.0 ready.1 ready.2 in (p.ahead, p.below_clear)
