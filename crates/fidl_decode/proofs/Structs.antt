-- The structs of a vector, of which those before one are read: the room of the next one, and the turn that begins it.
use Rattle.std.proofs.Common.{◌≡◌, ℕ, ◌+◌, ◌-◌, ◌<◌, ◌≤◌, List, length, inl, inr, refl, sym, subst, arith}
use Rattle.std.specs.Prelude.{Some}
use Rattle.fidl_table_format.specs.declared.record.Entry.{Entry}
use Rattle.fidl_table_format.specs.declared.kind.EntryKind.TheVariants.{Struct}
use Rattle.fidl_table_format.specs.Kind.{kind_of}
use Rattle.fidl_table_format.specs.Section.{header_of, entry_at}
use Rattle.fidl_decode_model.specs.declared.frame.Frame.{Frame}
use Rattle.fidl_decode_model.specs.declared.frame.Remaining.{Remaining}
use Rattle.fidl_decode_model.specs.declared.frame.Remaining.TheVariants.{Elements}
use Rattle.fidl_decode_model.specs.Invariants.{IsFine}
use Rattle.fidl_decode_model.specs.Rows.{Row}
use Rattle.fidl_decode_model.specs.State.{Message, Position}
use Rattle.fidl_decode_model.specs.Machine.{FrameFine, Visits, VisitFine, Turns}
use Rattle.fidl_decode_model.proofs.Holding.{struct_frame, visits_struct, struct_fine}
use Rattle.fidl_decode_columns.proofs.Leaves.{going_on, left_over, next_size, next_room, next_takes, elements_next, no_zeros}

module _ (t : List ℕ) (fine : IsFine t) (m : Message) (f : Frame) (old now : Position) (a entry size count i done : ℕ)
    (turns : Turns t m f old now a (left_over (Some (going_on f (Elements entry size (count - i)) done)))) (more : i < count) where
  abbrev g : Frame
  g = going_on f (Elements entry size (count - i)) done

  abbrev behind : Remaining
  behind = Elements entry size (count - (i + 1))

  abbrev next : Row
  next = record { offset = done; entry = entry }

  -- it lies within the frame, and the frame within the message
  pub struct_room : (size ≡ (entry_at t entry).size) × (done + size ≤ f.size) × (f.base + f.size ≤ length m.bytes)
  struct_room =
      let is = turns.rest_fine.0.left in
      let one = elements_next t entry size i count done is more in
      let room = next_room t fine m f old now a g turns next behind one in
      let own = next_size t fine m f old now a g turns next behind one in
      (omega (arith, own, is), omega (arith, room.1, own, is), room.2)

  -- the turn so far, and the frame of the struct below it
  pub struct_taken : (d : Entry) → d ≡ entry_at t entry → entry < (header_of t).entries → kind_of (entry_at t entry).kind ≡ Some Struct → FrameFine t m.bytes f → (n : ℕ) → n ≡ a + 1
      → Turns t m f old now n (record { below = Some (struct_frame d (f.base + done) f.depth f.in_envelope); rest = Some (going_on g behind (done + size)) })
  struct_taken d same known kind frame n spent =
      let is = turns.rest_fine.0.left in
      let one = elements_next t entry size i count done is more in
      let room = struct_room in
      let place = f.base + done in
      let none : place - place ≡ 0 = omega arith in
      let fits : place + (entry_at t entry).size ≤ length m.bytes = omega (arith, room.0, room.1, room.2) in
      let seen = subst (λ (d : Entry). Visits t m f.depth entry place now now 0 (Some (struct_frame d place f.depth f.in_envelope))) (sym same)
      (visits_struct t fine m f.depth entry place now known turns.state frame.depth f.in_envelope 0 refl kind fits) in
      let seen_fine = subst (λ (d : Entry). VisitFine t m f.depth f.in_envelope entry (Some (struct_frame d place f.depth f.in_envelope))) (sym same)
      (struct_fine t fine m f.depth entry place now known turns.state frame.depth f.in_envelope kind fits
      (elim frame.in_envelope [ inl out ↦ inl out | inr own ↦ (let four = own.1 in inr (own.0, omega (arith, four, room.0, room.1))) ])) in
      next_takes t fine m f old now a g turns next behind one tt is tt (Some (struct_frame d place f.depth f.in_envelope)) now (done + size) 0 n
      (omega (arith, room.0)) (omega (arith, spent)) (omega (arith, spent)) (no_zeros m.bytes place _ none) seen seen_fine
