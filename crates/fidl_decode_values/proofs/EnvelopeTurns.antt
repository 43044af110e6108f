-- Turns on the envelopes of a table: the next is zeros, or holds a member.
use Rattle.std.proofs.Common.{◌≡◌, ℕ, suc, ◌+◌, ◌-◌, ◌*◌, ◌<◌, ◌≤◌, List, refl, sym, ap, subst, ◌∙◌, arith, inl, inr, ◌%◌}
use Rattle.std.specs.Prelude.{Option, Some, None, IfSome, IfNone}
use Rattle.fidl_wire.specs.Term.{Rows, find}
use Rattle.fidl_wire.specs.Term as ty
use Rattle.fidl_wire.specs.Figure.{Declarations}
use Rattle.fidl_wire.specs.Encoding.{zeros}
use Rattle.fidl_wire.specs.Standing.{Stands}
use Rattle.fidl_table_format.specs.declared.record.Row as raw
use Rattle.fidl_table_format.specs.Terms.{declarations_of, members_of}
use Rattle.fidl_decode_model.proofs.Moving.{moves_none, moves_part}
use Rattle.fidl_decode_model.specs.Frontier.{CanRead}
use Rattle.fidl_decode_model.specs.declared.fault.DecodeFault.{DecodeFault}
use Rattle.fidl_decode_model.specs.declared.frame.Frame.{Frame}
use Rattle.fidl_decode_model.specs.declared.frame.Remaining.TheVariants.{Envelopes}
use Rattle.fidl_decode_model.specs.Invariants.{IsFine}
use Rattle.fidl_decode_model.specs.Faults.{IsWithin}
use Rattle.fidl_decode_model.specs.State.{Message, Position, envelope_place, Slots}
use Rattle.fidl_decode_model.specs.Envelopes.{Contained}
use Rattle.fidl_decode_model.specs.Breaks.{BreaksMember, BreaksEnvelopes}
use Rattle.fidl_decode_model.specs.Machine.{Reads, BreaksFrame, StateFine, FrameFine, Turns, Opens, PaysEnvelope, member_term, most_nest, inline_work, frame_work, envelope_work, height}
use Rattle.fidl_decode_model.specs.Worth.{ReadsWorth, SlotsWorth, ContainedWorth}
use Rattle.fidl_decode_columns.proofs.Leaves.{going_on}
use Rattle.fidl_decode_model.proofs.Turning.{fine_from}
use Rattle.fidl_decode_model.proofs.Enclosed.{worth_zeros, worth_member, worth_end, slots_step, step_slots, slots_end, end_slots, contained_some}
use Rattle.fidl_decode_model.proofs.Broken.{next_broken}

-- the member of an ordinal has the type of the row that was found
pub member_found : (rows : Rows) (ordinal : ℕ) (o : Option raw.Row) → IfNone o (find rows ordinal ≡ None) → IfSome o (λ row. find rows ordinal ≡ Some (ty.named row.entry)) → find rows ordinal ≡ member_term o
member_found rows ordinal None none some = none
member_found rows ordinal (Some row) none some = some

module _ (t : List ℕ) (fine : IsFine t) (m : Message) (within : IsWithin m.bytes m.handles) (f : Frame) (e read count : ℕ) (old : Position) (ff : FrameFine t m.bytes (going_on f (Envelopes e read count) f.done)) (state : StateFine m old) where
  abbrev ds : Declarations
  ds = declarations_of t

  abbrev rows : Rows
  rows = members_of t e

  abbrev g : Frame
  g = going_on f (Envelopes e read count) f.done

  abbrev place : ℕ
  place = f.base + f.done

  own_place : envelope_place f.base (suc read) ≡ place
  own_place = let done = ff.slots.0 in omega (arith, done)

  -- ---- no envelope is left

  pub envelopes_over : count ≡ 0 → (n : ℕ) → n ≡ 1 → Turns t m g old old n (record { below = None; rest = None })
  envelopes_over none n is =
      let all : read + count ≡ read = omega (arith, none) in
      record {
        same = λ to. (
          (λ x. (old, refl, slots_end ds fine.laid_out m f.depth rows read f.base old to (subst (λ k. Slots ds m f.depth rows read k f.base old to) all x))),
          (λ y. subst (λ k. Slots ds m f.depth rows read k f.base old to) (sym all) (subst (λ (s : Position). Slots ds m f.depth rows read read f.base old s) (y.1 ∙ y.2) (end_slots ds fine.laid_out m f.depth rows read f.base old ff.depth))),
        );
        breaks = λ fault b. elim b [ inl x ↦ absurd x | inr y ↦ absurd y.2 ];
        least = λ to mid a b y z. subst (λ k. SlotsWorth ds m f.depth rows read k f.base old to (a + b + n)) (sym all) (subst (λ (s : Position). SlotsWorth ds m f.depth rows read read f.base old s (a + b + n)) (y ∙ z) (worth_end ds fine.laid_out m f.depth rows read f.base old ff.depth (a + b + n)));
        state = state;
        moves = λ ahead clear. moves_none t m (g.base + g.done) (g.base + g.size) old ahead;
        below_fine = tt;
        rest_fine = tt;
        less = omega (arith, is);
      }

  -- ---- one is next

  module _ (r c : ℕ) (next : r ≡ suc read) (fewer : r + c ≡ read + count) (more : 0 < count) where
    abbrev rest : Frame
    rest = going_on f (Envelopes e r c) (f.done + 8)

    to_rest : (from to : Position) → Slots ds m f.depth rows (suc read) (read + count) f.base from to → Reads t m rest from to
    to_rest from to x = subst (λ k. Slots ds m f.depth rows r k f.base from to) (sym fewer) (subst (λ k. Slots ds m f.depth rows k (read + count) f.base from to) (sym next) x)

    from_rest : (from to : Position) → Reads t m rest from to → Slots ds m f.depth rows (suc read) (read + count) f.base from to
    from_rest from to x = subst (λ k. Slots ds m f.depth rows k (read + count) f.base from to) next (subst (λ k. Slots ds m f.depth rows r k f.base from to) fewer x)

    worth_rest : (from to : Position) (w : ℕ) → ReadsWorth t m rest from to w → SlotsWorth ds m f.depth rows (suc read) (read + count) f.base from to w
    worth_rest from to w x = subst (λ k. SlotsWorth ds m f.depth rows k (read + count) f.base from to w) next (subst (λ k. SlotsWorth ds m f.depth rows r k f.base from to w) fewer x)

    rest_breaks : (from : Position) (fault : DecodeFault) → BreaksFrame t m rest from fault → BreaksEnvelopes ds m f.depth rows (suc (suc read)) (read + count) f.base from fault
    rest_breaks from fault b = subst (λ k. BreaksEnvelopes ds m f.depth rows (suc k) (read + count) f.base from fault) next (subst (λ k. BreaksEnvelopes ds m f.depth rows (suc r) k f.base from fault) fewer b)

    at_place : (P : ℕ → Type 0) → P place → P (f.base + 8 * read)
    at_place P h = subst P (let done = ff.slots.0 in omega (arith, done)) h

    rest_fine : FrameFine t m.bytes rest
    rest_fine =
        let done = ff.slots.0 in
        let size = ff.slots.1 in
        record {
          left = ff.left;
          slots = (omega (arith, done, next), size ∙ ap (λ k. 8 * k) (sym fewer), ff.slots.2, ff.slots.3);
          room = ff.room;
          some = ff.some;
          nest = ff.nest;
          depth = ff.depth;
          in_envelope = ff.in_envelope;
          rise = omega (arith, done, size, more);
        }

    -- the bytes of the envelope pay for it
    pays : (frame_work g ≡ inline_work most_nest * (f.size - f.done) + 1) × (frame_work rest ≡ inline_work most_nest * (f.size - (f.done + 8)) + 1) × (f.done + 8 ≤ f.size)
    pays =
        let nest = ff.slots.2 in
        let done = ff.slots.0 in
        let size = ff.slots.1 in
        (ap (λ k. inline_work k * (f.size - f.done) + 1) nest, ap (λ k. inline_work k * (f.size - (f.done + 8)) + 1) nest, omega (arith, done, size, more))

    -- there is work for a search, and for the envelope
    pub envelope_room : envelope_work + 18 ≤ frame_work g
    envelope_room = omega (arith, pays.0, pays.1, pays.2)

    pub envelope_absent : Stands m.bytes place (zeros 8) → (n : ℕ) → n ≡ 1 → Turns t m g old old n (record { below = None; rest = Some rest })
    envelope_absent z n is =
        let z' = subst (λ p. Stands m.bytes p (zeros 8)) (sym own_place) z in
        record {
          same = λ to. (
            (λ x. elim (slots_step ds fine.laid_out m f.depth rows (read + count) f.base read old to (omega (arith, more)) x) [
              | inl y ↦ (old, refl, to_rest old to y.1)
              | inr b ↦ absurd (contained_some ds fine.laid_out m within f.depth (find rows (suc read)) (envelope_place f.base (suc read)) old b.mid b.contained z')
            ]),
            (λ y. step_slots ds fine.laid_out m f.depth rows (read + count) f.base read old to (omega (arith, more)) (inl (z', from_rest old to (subst (λ (s : Position). Reads t m rest s to) (sym y.1) y.2)))),
          );
          breaks = λ fault b. elim b [
            | inl x ↦ absurd x
            | inr y ↦ next_broken ds m f.depth rows (read + count) f.base read old fault (omega (arith, more))
                (inl (at_place (λ p. Stands m.bytes p (zeros 8)) z, subst (λ (s : Position). BreaksEnvelopes ds m f.depth rows (suc (suc read)) (read + count) f.base s fault) (sym y.1) (rest_breaks y.0 fault y.2)))
          ];
          least = λ to mid a b y w. let x = worth_zeros ds fine.laid_out m f.depth rows (read + count) f.base read (omega (arith, more)) old to z' b (worth_rest old to b (subst (λ (s : Position). ReadsWorth t m rest s to b) (sym y) w)) in let le = x.1 in (x.0, omega (arith, le));
          state = state;
          moves = λ ahead clear. moves_part t m g place (place + 8) rest old old None clear (moves_none t m place (place + 8) old ahead) (omega arith) (omega arith) (omega arith) (omega arith) (omega (arith, pays.2)) clear.even;
          below_fine = tt;
          rest_fine = (rest_fine, omega arith);
          less = omega (arith, is, pays.0, pays.1, pays.2);
        }

    module _ (some : Stands m.bytes place (zeros 8) → ⊥) where
      no_zeros_there : Stands m.bytes (envelope_place f.base (suc read)) (zeros 8) → ⊥
      no_zeros_there z = some (subst (λ p. Stands m.bytes p (zeros 8)) own_place z)

      pub envelope_opened : (found : Option Frame) (new : Position) (spent n : ℕ) → spent + 1 ≤ n → n ≤ 18 + spent → PaysEnvelope m.bytes old.next
          new.next spent found → Opens t m f.depth (find rows (suc read)) place old new spent found → Turns t m g old new n
          (record { below = found; rest = Some rest })
      envelope_opened found new spent n some_steps few own o = record {
        same = λ to. (
          (λ x. elim (slots_step ds fine.laid_out m f.depth rows (read + count) f.base read old to (omega (arith, more)) x) [
            | inl y ↦ absurd (no_zeros_there y.0)
            | inr b ↦ (b.mid, (o.same b.mid).0 (subst (λ p. Contained ds m f.depth (find rows (suc read)) p old b.mid) own_place b.contained), to_rest b.mid to b.slots)
          ]),
          (λ y. step_slots ds fine.laid_out m f.depth rows (read + count) f.base read old to (omega (arith, more))
              (inr (record { mid = y.0; contained = subst (λ p. Contained ds m f.depth (find rows (suc read)) p old y.0) (sym own_place) ((o.same y.0).1 y.1); slots = from_rest y.0 to y.2 }))),
        );
        breaks = λ fault b. next_broken ds m f.depth rows (read + count) f.base read old fault (omega (arith, more)) (elim b [
          | inl x ↦ inr (inl ((λ z. some (subst (λ p. Stands m.bytes p (zeros 8)) (let done = ff.slots.0 in omega (arith, done)) z)), at_place (λ p. BreaksMember ds m f.depth (find rows (suc read)) p old fault) (o.breaks fault x)))
          | inr y ↦ inr (inr (y.0, at_place (λ p. Contained ds m f.depth (find rows (suc read)) p old y.0) ((o.same y.0).1 y.1), rest_breaks y.0 fault y.2))
        ]);
        least = λ to mid a b y w.
            let x = worth_member ds fine.laid_out m f.depth rows (read + count) f.base read (omega (arith, more)) old mid to (a + spent + 1) b (subst (λ p. ContainedWorth ds m f.depth (find rows (suc read)) p old mid (a + spent + 1)) (sym own_place) (o.least mid a y)) (worth_rest mid to b w) in
            let le = x.1 in
            (x.0, omega (arith, le, some_steps));
        state = o.state;
        moves = λ ahead clear.
            let done = ff.slots.0 in
            let even : place % 8 ≡ 0 = omega (arith, clear.even, done) in
            let read : CanRead old place 8 = record { before = omega (arith, clear.before, pays.2); free = λ k x y. clear.free k x (omega (arith, y, pays.2)) } in
            moves_part t m g place (place + 8) rest old new found clear (o.moves ahead read even) (omega arith) (omega arith) (omega arith) (omega arith) (omega (arith, pays.2)) clear.even;
        below_fine = (let nest = ff.slots.2 in let out = ff.slots.3 in fine_from t m.bytes _ (height g + 1) found (omega (arith, nest, out)) o.fine);
        rest_fine = (rest_fine, omega arith);
        less = omega (arith, own, few, pays.0, pays.1, pays.2);
      }

      pub envelope_breaks : (fault : DecodeFault) → BreaksMember ds m f.depth (find rows (suc read)) place old fault → BreaksFrame t m g old fault
      envelope_breaks fault b = next_broken ds m f.depth rows (read + count) f.base read old fault (omega (arith, more))
          (inr (inl ((λ z. some (subst (λ p. Stands m.bytes p (zeros 8)) (let done = ff.slots.0 in omega (arith, done)) z)), at_place (λ p. BreaksMember ds m f.depth (find rows (suc read)) p old fault) b)))
