-- The frame of a struct, of which all is left to read, stands for the struct.
use Rattle.std.proofs.Common.{◌≡◌, ℕ, ◌+◌, ◌<◌, ◌≤◌, List, Some, length, sym, ap, subst, ◌∙◌}
use Rattle.fidl_limits.specs.declared.limits.TheConstants.{MAX_DEPTH}
use Rattle.fidl_table_format.specs.declared.record.Entry.{Entry}
use Rattle.fidl_table_format.specs.declared.kind.EntryKind.TheVariants.{Struct}
use Rattle.fidl_table_format.specs.Kind.{kind_of}
use Rattle.fidl_table_format.specs.Section.{header_of, entry_at}
use Rattle.fidl_decode_model.specs.declared.frame.Frame.{Frame}
use Rattle.fidl_decode_model.specs.State.{Message, Position}
use Rattle.fidl_decode_model.specs.Invariants.{IsFine}
use Rattle.fidl_decode_model.specs.Machine.{IsInside, StateFine, Visits, VisitFine}
use Rattle.fidl_decode_model.proofs.Holding.{visits_struct, struct_fine, struct_frame}

module _ (t : List ℕ) (fine : IsFine t) (m : Message) (depth entry place : ℕ) (at : Position) (lt : entry < (header_of t).entries) (state : StateFine m at) (deep : depth ≤ MAX_DEPTH)
    (is : kind_of (entry_at t entry).kind ≡ Some Struct) (room : place + (entry_at t entry).size ≤ length m.bytes)
    (e : Entry) (read : e ≡ entry_at t entry) (in_envelope : ℕ) (f : Frame) (made : f ≡ struct_frame e place depth in_envelope) where
  same : f ≡ struct_frame (entry_at t entry) place depth in_envelope
  same = made ∙ ap (λ (d : Entry). struct_frame d place depth in_envelope) read

  pub frame_visits : (spent : ℕ) → spent ≡ 0 → Visits t m depth entry place at at spent (Some f)
  frame_visits spent nothing =
      subst (λ (g : Frame). Visits t m depth entry place at at spent (Some g)) (sym same) (visits_struct t fine m depth entry place at lt state deep in_envelope spent nothing is room)

  pub frame_fine : IsInside in_envelope (entry_at t entry).size → VisitFine t m depth in_envelope entry (Some f)
  frame_fine within =
      subst (λ (g : Frame). VisitFine t m depth in_envelope entry (Some g)) (sym same) (struct_fine t fine m depth entry place at lt state deep in_envelope is room within)
