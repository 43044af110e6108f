-- An envelope that holds a known member: what of it is left to read, in a table.
use Rattle.std.proofs.Common.{None, ◌≡◌, ℕ, ◌+◌, ◌-◌, ◌*◌, ◌<◌, ◌≤◌, Bool, false, List, length, get_or, Some, refl, sym, ap, subst, ◌∙◌, arith, inl, inr, ◌%◌}
use Rattle.std.specs.Prelude.{◌↔◌, ◌⊎◌, ◌≢◌}
use Rattle.std.specs.Int.{next_multiple_of}
use Rattle.std.proofs.Math.Nat.{mul-le-mul_right}
use Rattle.std.proofs.lemmas.Bool.{cases_eq}
use Rattle.fidl_limits.specs.declared.limits.TheConstants.{MAX_DEPTH}
use Rattle.fidl_wire.specs.Term.{Term, resolve}
use Rattle.fidl_wire.specs.Term as ty
use Rattle.fidl_wire.specs.Figure.{Declarations, Figure, figure_of, size_of}
use Rattle.fidl_wire.specs.Typed.{IsUnknownLength}
use Rattle.fidl_wire.proofs.Sizes.{le-next_multiple_of}
use Rattle.fidl_table_format.specs.declared.record.Entry.{Entry}
use Rattle.fidl_table_format.specs.Section.{header_of, entry_at}
use Rattle.fidl_table_format.specs.Terms.{declarations_of}
use Rattle.fidl_decode_model.proofs.Aligned.{even_eights, no_names}
use Rattle.fidl_decode_model.proofs.Moving.{moves_opened, moves_begun}
use Rattle.fidl_decode_model.specs.Frontier.{IsAhead, CanRead, IsEven, Moves}
use Rattle.fidl_decode_model.specs.Invariants.{IsFine}
use Rattle.fidl_decode_model.specs.Faults.{IsWithin}
use Rattle.fidl_decode_model.specs.declared.fault.DecodeFault.{DecodeFault}
use Rattle.fidl_decode_model.specs.declared.fault.DecodeFault.TheVariants.{BadEnvelope, TooDeep, Truncated, WrongCounts}
use Rattle.fidl_decode_model.specs.declared.frame.Frame.{Frame}
use Rattle.fidl_decode_model.specs.declared.frame.Remaining.TheVariants.{Content}
use Rattle.fidl_decode_model.specs.State.{Message, Position, opened, linked, member_at, begun, ValueAt}
use Rattle.fidl_decode_model.specs.Envelopes.{Contained, CanHold, CountsTooMany, BreaksEnvelope, depth_within, Miscounts}
use Rattle.fidl_wire.specs.Envelope.{bytes_below, handles_below, flags_at}
use Rattle.fidl_decode_model.specs.Breaks.{BreaksMember}
use Rattle.fidl_decode_model.specs.Breaks as broken
use Rattle.fidl_decode_model.specs.Work.{Work}
use Rattle.fidl_decode_model.specs.Machine.{Reads, BreaksFrame, FrameFine, StateFine, level, height, most_nest, inline_work, frame_work}
use Rattle.fidl_decode_model.specs.Worth.{ReadsWorth, ContainedWorth}
use Rattle.fidl_decode_model.proofs.Stated.{stated}
use Rattle.fidl_decode_model.proofs.Enveloped.{envelope_excluded}
use Rattle.fidl_decode_values.proofs.Counts.{at_most_four, not_at_most_four}
use Rattle.fidl_decode_values.proofs.Contents.{members_only, only_members, worth_only, inside_led, below_led, contained_inside, contained_below, inside_contained, below_contained}

-- the frame of a member in its envelope, of this size and nest
abbrev pub inside_frame : (m : Message) (e size nest held p : ℕ) → Position → Frame
inside_frame m e size nest held p from = record {
  left = Content e size 1 (record { envelope = p; next = from.next; handle = from.handle + handles_below m.bytes p });
  base = p;
  done = 0;
  size = 4;
  nest = nest + 1;
  depth = held;
  in_envelope = 1;
}

-- the frame of a member that is the next object
abbrev pub below_frame : (m : Message) (e size nest held p : ℕ) → Position → Frame
below_frame m e size nest held p from = record {
  left = Content e size 1 (record { envelope = p; next = from.next + bytes_below m.bytes p; handle = from.handle + handles_below m.bytes p });
  base = from.next;
  done = 0;
  size = next_multiple_of size 8;
  nest = nest + 1;
  depth = held + 1;
  in_envelope = 0;
}

-- the content of the envelope is left to read, as this frame
pub record Enters (t : List ℕ) (m : Message) (held e p : ℕ) (old new : Position) (frame : Frame) : Type 0 where
  pub same : (to : Position) → Contained (declarations_of t) m held (Some (ty.named e)) p old to ↔ Reads t m frame new to
  pub breaks : (fault : DecodeFault) → BreaksFrame t m frame new fault → BreaksMember (declarations_of t) m held (Some (ty.named e)) p old fault
  pub least : (to : Position) (w : ℕ) → ReadsWorth t m frame new to w → ContainedWorth (declarations_of t) m held (Some (ty.named e)) p old to w
  pub fine : FrameFine t m.bytes frame
  pub deeper : level held 1 most_nest ≤ height frame
  pub state : StateFine m new
  pub moves : IsAhead m old → CanRead old p 8 → p % 8 ≡ 0 → Moves t m p (p + 8) old new (Some frame) None
  pub work : ((new.next ≡ old.next) × (frame_work frame ≤ inline_work most_nest * 4 + 1)) ⊎ (frame_work frame ≤ inline_work most_nest * (new.next - old.next) + 1)

module _ (t : List ℕ) (fine : IsFine t) (m : Message) (within : IsWithin m.bytes m.handles) (held e p : ℕ) (from : Position) (lt : e < (header_of t).entries) (room : p + 8 ≤ length m.bytes) (small : (i : ℕ) → get_or m.bytes i 0 < 256) (state : StateFine m from) (deep : held ≤ MAX_DEPTH) where
  abbrev ds : Declarations
  ds = declarations_of t

  abbrev d : Entry
  d = entry_at t e

  abbrev u : Term
  u = ty.named e

  abbrev size : ℕ
  size = size_of ds (ty.named e)

  size_is : size ≡ d.size
  size_is = ap (λ (f : Figure). f.size) (stated t e lt)

  nest_is : (figure_of ds.figures (ty.named e)).nest ≡ d.nest
  nest_is = ap (λ (f : Figure). f.nest) (stated t e lt)

  few : d.nest + 1 ≤ most_nest
  few = let n = (fine.each e lt).1.nest in omega (arith, n)

  -- an end that is not the one counted
  inside_miscounts : size ≤ 4 → (to : Position) → ValueAt ds m held (resolve ds.terms u) p (opened p from) to → (((to.next ≡ from.next) × (to.handle ≡ from.handle + handles_below m.bytes p)) → ⊥) → Miscounts ds m held u p from
  inside_miscounts le to x wrong =
      let led = inside_led ds fine.laid_out m within held u p from to le x in
      let n = led.0 in
      let h = led.1 in
      subst (λ (b : Bool). (to : Position) × ValueAt ds m (depth_within b held) (resolve ds.terms u) (member_at b p from) (begun b p size from) to
      × ((handles_below m.bytes p ≢ to.handle - from.handle) ⊎ ((b ≡ false) × (bytes_below m.bytes p ≢ to.next - from.next)))) (sym (at_most_four size le))
      (to, x, inl (λ k. wrong (n, omega (arith, h, k))))

  below_miscounts : 4 < size → (to : Position) → ValueAt ds m (held + 1) (resolve ds.terms u) from.next (linked p size (opened p from)) to → (((to.next ≡ from.next + bytes_below m.bytes p) × (to.handle ≡ from.handle + handles_below m.bytes p)) → ⊥) → Miscounts ds m held u p from
  below_miscounts over to x wrong =
      let led = below_led ds fine.laid_out m within held u p from to x in
      let n = led.0 in
      let h = led.1 in
      subst (λ (b : Bool). (to : Position) × ValueAt ds m (depth_within b held) (resolve ds.terms u) (member_at b p from) (begun b p size from) to
      × ((handles_below m.bytes p ≢ to.handle - from.handle) ⊎ ((b ≡ false) × (bytes_below m.bytes p ≢ to.next - from.next)))) (sym (not_at_most_four size over)) (
        to,
        x,
        elim (cases_eq to.handle (from.handle + handles_below m.bytes p)) [
          | inl same ↦ inr (refl, λ k. wrong (omega (arith, n, k), same))
          | inr other ↦ inl (λ k. other (omega (arith, h, k)))
        ],
      )

  own_inside : size ≤ 4 → flags_at m.bytes p ≡ 1 → Enters t m held e p from (opened p from) (inside_frame m e size d.nest held p from)
  own_inside le flags = record {
    same = λ to. (
      (λ x. let i = contained_inside ds fine.laid_out m within held u p from to le x in (only_members ds fine.laid_out m e held 4 p deep le (opened p from) to i.item i.behind, (i.next, i.handle))),
      (λ r. let one = members_only ds fine.laid_out m e held 4 p deep le (opened p from) to r.0 in
          (inside_contained ds fine.laid_out m within held u p from to room small le deep flags (record { item = one.0; behind = one.1; next = r.1.0; handle = r.1.1 }) (Work one.0.value) (omega arith)).0),
    );
    least = λ to w r. let one = worth_only ds fine.laid_out m e held 4 p deep le (opened p from) to w r.0 in
        inside_contained ds fine.laid_out m within held u p from to room small le deep flags (record { item = one.0.0; behind = one.1; next = r.1.0; handle = r.1.1 }) w one.0.1;
    breaks = λ fault b. elim b [
      | inl c ↦ broken.in_envelope u p from fault (inl (flags, le)) le c
      | inr w ↦ subst (λ (f : DecodeFault). BreaksMember ds m held (Some u) p from f) (sym w.3)
          (broken.by_counts u p from (inside_miscounts le w.0 (members_only ds fine.laid_out m e held 4 p deep le (opened p from) w.0 w.1).0 w.2))
    ];
    fine = record {
      left = refl;
      slots = tt;
      room = omega (arith, room);
      some = omega arith;
      nest = few;
      depth = deep;
      in_envelope = inr (refl, omega arith);
      rise = (lt, omega arith, omega (arith, nest_is), omega (arith, le));
    };
    deeper = omega (arith, few);
    state = record { next = state.next; handle = state.handle; few = state.few };
    moves = λ ahead read even. let none : p ≡ p + 0 = omega arith in moves_opened t m p (inside_frame m e size d.nest held p from) from ahead read even refl refl refl (subst (λ q. IsEven ds u q) none (even_eights ds fine.laid_out (no_names t) u p even), tt);
    work = inl (refl, omega (arith, few));
  }

  module _ (over : 4 < size) (flags : flags_at m.bytes p ≡ 0) (whole : IsUnknownLength false (bytes_below m.bytes p)) (shallow : held < MAX_DEPTH) (fits : next_multiple_of size 8 ≤ length m.bytes - from.next) (counts : CountsTooMany m.bytes p → ⊥) where
    right : (other : DecodeFault) → BreaksEnvelope ds m held (Some u) p from.next from.handle other → ⊥
    right (BadEnvelope at) b = b.1 (inr (flags, whole, over))
    right (TooDeep at) b = omega (arith, shallow, b.2)
    right (Truncated at) b = omega (arith, fits, b.2)
    right (WrongCounts at) b = counts b.1
    right other b = absurd b

    below_work : inline_work (d.nest + 1) * (next_multiple_of size 8 - 0) + 1 ≤ inline_work most_nest * (from.next + next_multiple_of size 8 - from.next) + 1
    below_work =
        let more : inline_work (d.nest + 1) ≤ inline_work most_nest = omega (arith, few) in
        let a : next_multiple_of size 8 - 0 ≡ next_multiple_of size 8 = omega arith in
        let b : from.next + next_multiple_of size 8 - from.next ≡ next_multiple_of size 8 = omega arith in
        subst (λ k. inline_work (d.nest + 1) * k + 1 ≤ inline_work most_nest * (from.next + next_multiple_of size 8 - from.next) + 1) (sym a)
        (subst (λ k. inline_work (d.nest + 1) * next_multiple_of size 8 + 1 ≤ inline_work most_nest * k + 1) (sym b) (omega (arith, mul-le-mul_right (next_multiple_of size 8) more)))

    own_below : Enters t m held e p from (linked p size (opened p from)) (below_frame m e size d.nest held p from)
    own_below =
        let le : size ≤ next_multiple_of size 8 = le-next_multiple_of size 8 in
        let deeper : held + 1 ≤ MAX_DEPTH = omega (arith, shallow) in
        let mid = linked p size (opened p from) in
        let inner = state.next in
        record {
          same = λ to. (
            (λ x. let i = contained_below ds fine.laid_out m within held u p from to over x in (only_members ds fine.laid_out m e (held + 1) (next_multiple_of size 8) from.next deeper le mid to i.item i.behind, (i.next, i.handle))),
            (λ r. let one = members_only ds fine.laid_out m e (held + 1) (next_multiple_of size 8) from.next deeper le mid to r.0 in
                (below_contained ds fine.laid_out m within held u p from to room small over flags (record { item = one.0; behind = one.1; next = r.1.0; handle = r.1.1 }) (Work one.0.value) (omega arith)).0),
          );
          least = λ to w r. let one = worth_only ds fine.laid_out m e (held + 1) (next_multiple_of size 8) from.next deeper le mid to w r.0 in
              below_contained ds fine.laid_out m within held u p from to room small over flags (record { item = one.0.0; behind = one.1; next = r.1.0; handle = r.1.1 }) w one.0.1;
          breaks = λ fault b. elim b [
            | inl c ↦ broken.out_of_line u p from fault (inr (flags, whole, over)) over right c
            | inr w ↦ subst (λ (f : DecodeFault). BreaksMember ds m held (Some u) p from f) (sym w.3)
                (broken.by_counts u p from (below_miscounts over w.0 (members_only ds fine.laid_out m e (held + 1) (next_multiple_of size 8) from.next deeper le mid w.0 w.1).0 w.2))
          ];
          fine = record {
            left = refl;
            slots = tt;
            room = omega (arith, inner, fits);
            some = omega arith;
            nest = few;
            depth = deeper;
            in_envelope = inl refl;
            rise = (lt, omega arith, omega (arith, nest_is), omega (arith, le));
          };
          deeper = omega (arith, few);
          state = record { next = omega (arith, inner, fits); handle = state.handle; few = state.few };
          moves = λ ahead read even. let none : from.next ≡ from.next + 0 = omega arith in
              moves_begun t m p size (below_frame m e size d.nest held p from) from ahead read even fits inner refl refl refl (subst (λ q. IsEven ds u q) none (even_eights ds fine.laid_out (no_names t) u from.next ahead.even), tt);
          work = inr below_work;
        }

  pub enters_inside : d.size ≤ 4 → flags_at m.bytes p ≡ 1 → Enters t m held e p from (opened p from) (inside_frame m e d.size d.nest held p from)
  enters_inside le flags = subst (λ s. Enters t m held e p from (opened p from) (inside_frame m e s d.nest held p from)) size_is (own_inside (omega (arith, le, size_is)) flags)

  pub enters_below : 4 < d.size → flags_at m.bytes p ≡ 0 → IsUnknownLength false (bytes_below m.bytes p) → held < MAX_DEPTH → next_multiple_of d.size 8 ≤ length m.bytes - from.next → (CountsTooMany m.bytes p → ⊥)
      → Enters t m held e p from (linked p d.size (opened p from)) (below_frame m e d.size d.nest held p from)
  enters_below over flags whole shallow fits counts =
      let up = ap (λ k. next_multiple_of k 8) size_is in
      subst (λ s. Enters t m held e p from (linked p s (opened p from)) (below_frame m e s d.nest held p from)) size_is
      (own_below (omega (arith, over, size_is)) flags whole shallow (omega (arith, fits, up)) counts)

  -- the same, of what stands for the entry, the numbers and the state
  pub enters_inside_as : (c : Entry) (k : ℕ) (new : Position) → c ≡ d → k ≡ handles_below m.bytes p → opened p from ≡ new → c.size ≤ 4 → flags_at m.bytes p ≡ 1
      → Enters t m held e p from new (record { left = Content e c.size 1 (record { envelope = p; next = from.next; handle = from.handle + k }); base = p; done = 0; size = 4; nest = c.nest + 1; depth = held; in_envelope = 1 })
  enters_inside_as c k new is many led le flags =
      let frame : Entry → ℕ → Frame = λ c k. record { left = Content e c.size 1 (record { envelope = p; next = from.next; handle = from.handle + k }); base = p; done = 0; size = 4; nest = c.nest + 1; depth = held; in_envelope = 1 } in
      let same : frame d (handles_below m.bytes p) ≡ frame c k = λ i. frame (sym is i) (sym many i) in
      let small_size = ap (λ (c : Entry). c.size) is in
      subst (λ (s : Position). Enters t m held e p from s (frame c k)) led
      (subst (λ (f : Frame). Enters t m held e p from (opened p from) f) same (enters_inside (omega (arith, le, small_size)) flags))

  pub enters_below_as : (c : Entry) (n k whole : ℕ) (new : Position) → c ≡ d → n ≡ bytes_below m.bytes p → k ≡ handles_below m.bytes p → whole ≡ next_multiple_of c.size 8 → linked p d.size (opened p from) ≡ new
      → 4 < c.size → flags_at m.bytes p ≡ 0 → IsUnknownLength false n → held < MAX_DEPTH → whole ≤ length m.bytes - from.next → (CountsTooMany m.bytes p → ⊥)
      → Enters t m held e p from new (record { left = Content e c.size 1 (record { envelope = p; next = from.next + n; handle = from.handle + k }); base = from.next; done = 0; size = whole; nest = c.nest + 1; depth = held + 1; in_envelope = 0 })
  enters_below_as c n k whole new is much many wide led over flags counted shallow fits counts =
      let frame : Entry → (n k whole : ℕ) → Frame = λ c n k whole. record { left = Content e c.size 1 (record { envelope = p; next = from.next + n; handle = from.handle + k }); base = from.next; done = 0; size = whole; nest = c.nest + 1; depth = held + 1; in_envelope = 0 } in
      let wide_is : whole ≡ next_multiple_of d.size 8 = wide ∙ ap (λ (c : Entry). next_multiple_of c.size 8) is in
      let same : frame d (bytes_below m.bytes p) (handles_below m.bytes p) (next_multiple_of d.size 8) ≡ frame c n k whole = λ i. frame (sym is i) (sym much i) (sym many i) (sym wide_is i) in
      let large_size = ap (λ (c : Entry). c.size) is in
      subst (λ (s : Position). Enters t m held e p from s (frame c n k whole)) led
      (subst (λ (f : Frame). Enters t m held e p from (linked p d.size (opened p from)) f) same
      (enters_below (omega (arith, over, large_size)) flags (subst (λ n. IsUnknownLength false n) much counted) shallow (omega (arith, fits, wide_is)) counts))

  -- the numbers are refused
  pub numbers_refuse : (fault : DecodeFault) → BreaksEnvelope ds m held (Some u) p from.next from.handle fault
      → BreaksMember ds m held (Some u) p from fault × ((to : Position) → Contained ds m held (Some u) p from to → ⊥)
  numbers_refuse fault b = (broken.by_numbers (Some u) p from fault b, λ to. envelope_excluded ds fine.laid_out m within held p from (Some u) to fault b)

  pub not_inside : d.size ≤ 4 → (flags_at m.bytes p ≡ 1 → ⊥) → CanHold ds m.bytes (Some u) p → ⊥
  not_inside le other h = elim h [ inl i ↦ other i.0 | inr o ↦ omega (arith, le, o.2, size_is) ]

  pub not_below : 4 < d.size → (flags_at m.bytes p ≡ 0 → IsUnknownLength false (bytes_below m.bytes p) → ⊥) → CanHold ds m.bytes (Some u) p → ⊥
  not_below over other h = elim h [ inl i ↦ omega (arith, over, i.1, size_is) | inr o ↦ other o.0 o.1 ]

  pub cut_off : next_multiple_of d.size 8 ≡ next_multiple_of size 8
  cut_off = ap (λ k. next_multiple_of k 8) (sym size_is)
