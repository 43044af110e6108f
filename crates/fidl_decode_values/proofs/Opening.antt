-- Envelopes that are opened: what is left to read of their members.
use Rattle.std.proofs.Common.{◌≡◌, ℕ, ◌+◌, ◌-◌, ◌*◌, ◌≤◌, List, length, Some, None, refl, sym, subst, arith, inl, inr, false, ◌%◌}
use Rattle.std.specs.Prelude.{◌↔◌, ◌⊎◌, Option}
use Rattle.fidl_wire.specs.Term.{Term}
use Rattle.fidl_wire.specs.Term as ty
use Rattle.fidl_table_format.specs.Terms.{declarations_of}
use Rattle.fidl_decode_model.specs.Invariants.{IsFine}
use Rattle.fidl_decode_model.proofs.Aligned.{no_names}
use Rattle.fidl_decode_model.proofs.Staying.{stays_member, ahead_still}
use Rattle.fidl_decode_model.proofs.Moving.{moves_below}
use Rattle.fidl_decode_model.specs.Frontier.{IsAhead, CanRead, Stays, Moves}
use Rattle.fidl_decode_model.specs.declared.fault.DecodeFault.{DecodeFault}
use Rattle.fidl_decode_model.specs.declared.frame.Frame.{Frame}
use Rattle.fidl_decode_model.specs.State.{Message, Position}
use Rattle.fidl_decode_model.specs.Envelopes.{Contained}
use Rattle.fidl_decode_model.specs.Breaks.{BreaksMember}
use Rattle.fidl_wire.specs.Value.{Member, known, unknown}
use Rattle.fidl_wire.specs.Typed.{IsTypedMember}
use Rattle.fidl_decode_model.specs.Work.{member_work}
use Rattle.fidl_decode_model.specs.Machine.{Reads, ReadsIf, BreaksFrame, FrameFine, StateFine, Turns, Opens, PaysEnvelope, level, height, most_nest, inline_work, frame_work, byte_work, envelope_work}
use Rattle.fidl_decode_model.specs.Worth.{ReadsWorth, WorthIf, ContainedWorth}
use Rattle.fidl_decode_model.proofs.Turning.{fine_from}
use Rattle.fidl_decode_columns.proofs.Leaves.{left_over}

module _ (t : List ℕ) (m : Message) (held envelope : ℕ) (old new : Position) (state : StateFine m new) where
  -- a known member is left to read
  pub opens_known : (spent e : ℕ) (f : Frame) → old.next ≤ new.next
      → ((to : Position) → Contained (declarations_of t) m held (Some (ty.named e)) envelope old to ↔ Reads t m f new to)
      → ((fault : DecodeFault) → BreaksFrame t m f new fault → BreaksMember (declarations_of t) m held (Some (ty.named e)) envelope old fault)
      → ((to : Position) (w : ℕ) → ReadsWorth t m f new to w → ContainedWorth (declarations_of t) m held (Some (ty.named e)) envelope old to w)
      → FrameFine t m.bytes f → level held 1 most_nest ≤ height f
      → ((new.next ≡ old.next) × (frame_work f ≤ inline_work most_nest * 4 + 1)) ⊎ (frame_work f ≤ inline_work most_nest * (new.next - old.next) + 1)
      → (IsAhead m old → CanRead old envelope 8 → envelope % 8 ≡ 0 → Moves t m envelope (envelope + 8) old new (Some f) None)
      → Opens t m held (Some (ty.named e)) envelope old new spent (Some f)
  opens_known spent e f grows same breaks least fine deeper cost moves = record {
    same = same;
    breaks = breaks;
    least = λ to w y. let x = least to w y in let le = x.1 in (x.0, omega (arith, le));
    state = state;
    fine = (fine, deeper);
    moves = moves;
    less = (let within = state.next in elim cost [
      | inl own ↦ (let still = own.0 in let few = own.1 in omega (arith, still, few))
      | inr moved ↦ omega (arith, moved, within, grows)
    ]);
  }

  light_unknown : (c : Member) → IsTypedMember (declarations_of t) false None c → member_work c ≤ 1
  light_unknown (unknown inline bytes handles) h = omega arith
  light_unknown (known v) h = absurd h

  -- an unknown member is skipped
  pub opens_unknown : (spent : ℕ) → old.next ≤ new.next → ((to : Position) → Contained (declarations_of t) m held None envelope old to ↔ (new ≡ to)) → IsFine t → Opens t m held None envelope old new spent None
  opens_unknown spent grows same fine = record {
    same = same;
    breaks = λ fault b. absurd b;
    least = λ to w y. let x = (same to).1 y in (x, omega (arith, light_unknown x.content x.typed));
    state = state;
    fine = tt;
    moves = λ ahead read even.
        let x = (same new).1 refl in
        let own = stays_member (declarations_of t) fine.laid_out (no_names t) false None x.content envelope old x.typed ahead.even even in
        let next = subst (λ (s : Position). s.next % 8 ≡ 0) (sym x.end) own.1 in
        let stays = subst (λ (s : Position). Stays envelope (envelope + 8) old.next s.next old s) (sym x.end) own.0 in
        record { stays = stays; ahead = ahead_still m envelope (envelope + 8) old new stays read.before next ahead; below_clear = tt; rest_clear = tt; below_in = tt; rest_in = tt; apart = tt };
    less = omega (arith, grows);
  }

-- what is opened is worth no more than is said here
pub opens_worth : (t : List ℕ) (m : Message) (held : ℕ) (member : Option Term) (envelope : ℕ) (old new : Position) (a n : ℕ) (found : Option Frame) → Opens t m held member envelope old new a found
    → ((to : Position) (w : ℕ) → WorthIf t m found new to w → ContainedWorth (declarations_of t) m held member envelope old to (w + n + 1)) → Opens t m held member envelope old new n found
opens_worth t m held member envelope old new a n found o least = record { same = o.same; breaks = o.breaks; least = least; state = o.state; fine = o.fine; moves = o.moves; less = o.less }

module _ (t : List ℕ) (m : Message) (held : ℕ) (member : Option Term) (envelope : ℕ) (old mid : Position) (a : ℕ) (f : Frame) (o : Opens t m held member envelope old mid a (Some f)) where
  -- what is left of a member is read on
  pub opens_on : (new : Position) (spent n : ℕ) (found : Option Frame) → a + spent ≤ n → Turns t m f mid new spent (left_over found) → Opens t m held member envelope old new n found
  opens_on new spent n found le turns = record {
    same = λ to. (
      (λ x. let p = (turns.same to).0 ((o.same to).0 x) in subst (λ (s : Position). ReadsIf t m found s to) (sym p.1) p.2),
      (λ y. (o.same to).1 ((turns.same to).1 (new, refl, y))),
    );
    breaks = λ fault b. o.breaks fault (turns.breaks fault (inr (new, refl, b)));
    least = λ to w y. let x = o.least to (0 + w + spent) (turns.least to new 0 w refl y) in let worth = x.1 in (x.0, omega (arith, worth, le));
    state = turns.state;
    moves = λ ahead read even. let p = o.moves ahead read even in moves_below t m envelope (envelope + 8) f old mid new found None p (turns.moves p.ahead p.below_clear);
    fine = fine_from t m.bytes (height f) (level held 1 most_nest) found o.fine.1 turns.rest_fine;
    less = omega (arith, o.less, turns.less);
  }

  pub opens_pays : (new : Position) (spent : ℕ) (found : Option Frame) → Turns t m f mid new spent (left_over found) → PaysEnvelope m.bytes old.next new.next spent found
  opens_pays new spent found turns = omega (arith, o.less, turns.less)

  -- there is work for what is left
  pub opens_work : byte_work * (length m.bytes - mid.next) + frame_work f ≤ byte_work * (length m.bytes - old.next) + envelope_work
  opens_work = o.less
