-- Turns on the content of an envelope: a value, and its end, which is where the envelope counts up to.
use Rattle.std.proofs.Common.{◌≡◌, ℕ, ◌+◌, ◌-◌, ◌*◌, ◌<◌, ◌≤◌, List, [], ◌∷◌, length, refl, sym, ap, subst, ◌∙◌, arith, inl, inr}
use Rattle.std.specs.Prelude.{Option, Some, None}
use Rattle.fidl_wire.specs.Term.{resolve}
use Rattle.fidl_wire.specs.Term as ty
use Rattle.fidl_wire.specs.Figure.{Declarations, size_of}
use Rattle.fidl_wire.specs.Encoding.{zeros}
use Rattle.fidl_wire.specs.Standing.{Stands}
use Rattle.fidl_table_format.specs.Section.{header_of, entry_at}
use Rattle.fidl_table_format.specs.Terms.{declarations_of}
use Rattle.fidl_decode_model.proofs.Moving.{moves_none, apart_as}
use Rattle.fidl_decode_model.specs.declared.fault.DecodeFault.{DecodeFault}
use Rattle.fidl_decode_model.specs.declared.fault.DecodeFault.TheVariants.{WrongCounts}
use Rattle.fidl_decode_model.specs.declared.frame.Frame.{Frame}
use Rattle.fidl_decode_model.specs.declared.frame.Until.{Until}
use Rattle.fidl_decode_model.specs.declared.frame.Remaining.TheVariants.{Elements, Content}
use Rattle.fidl_decode_model.specs.Invariants.{IsFine}
use Rattle.fidl_decode_model.specs.Rows.{Row, element_rows, RowsRise}
use Rattle.fidl_decode_model.specs.State.{Message, Position}
use Rattle.fidl_decode_model.specs.Breaks.{IsPadding, Breaks}
use Rattle.fidl_decode_model.proofs.Rows.{worth_more, worth_none}
use Rattle.fidl_decode_model.specs.Machine.{rows_left, BreaksFrame, IsInside, StateFine, FrameFine, Visits, VisitFine, Turns, inline_work, frame_work, probes}
use Rattle.fidl_decode_model.specs.Worth.{ReadsWorth, MembersWorth}
use Rattle.fidl_decode_model.specs.Envelopes.{IsUntil}
use Rattle.fidl_decode_model.proofs.Stated.{element_rows-more}
use Rattle.fidl_decode_model.proofs.Visiting.{size_is, nest_is, positive}
use Rattle.fidl_decode_model.proofs.Turning.{raised, work_falls, done_fits, spends, spends_more, turns_end, end_breaks, row_fine, row_room, row_inside, visit_breaks, turns_more}
use Rattle.fidl_decode_columns.proofs.Leaves.{going_on, no_zeros}

module _ (t : List ℕ) (fine : IsFine t) (m : Message) (f : Frame) (e size count : ℕ) (u : Until) (old : Position) (ff : FrameFine t m.bytes (going_on f (Content e size count u) f.done)) (state : StateFine m old) where
  abbrev ds : Declarations
  ds = declarations_of t

  abbrev g : Frame
  g = going_on f (Content e size count u) f.done

  -- the same frame with elements left, wherever they end
  abbrev s : Frame
  s = going_on f (Elements e size count) f.done

  sf : FrameFine t m.bytes s
  sf = record { left = ff.left; slots = tt; room = ff.room; some = ff.some; nest = ff.nest; depth = ff.depth; in_envelope = ff.in_envelope; rise = ff.rise }

  -- the bytes that are left lie within the message, and there is work for them
  pub content_end_room : (f.done ≤ f.size) × (f.base + f.size ≤ length m.bytes) × (f.size - f.done + 1 ≤ frame_work g)
  content_end_room = let d = done_fits t fine m s old sf state in (d, ff.room, spends f.nest (f.size - f.done) (f.size - f.done) (omega arith))

  -- ---- the end

  module _ (none : count ≡ 0) where
    over : rows_left t f.done (Elements e size count) ≡ []
    over = ap (λ n. element_rows e size n f.done) none

    module _ (z : Stands m.bytes (f.base + f.done) (zeros (f.base + f.size - (f.base + f.done)))) where
      ended : Turns t m s old old (f.base + f.size - (f.base + f.done) + 1) (record { below = None; rest = None })
      ended = turns_end t fine m s old sf state over tt z _ (omega arith)

      pub content_over : IsUntil u old → (n : ℕ) → n ≡ f.base + f.size - (f.base + f.done) + 1 → Turns t m g old old n (record { below = None; rest = None })
      content_over own n is = record {
        same = λ to. (
          (λ x. (ended.same to).0 x.0),
          (λ y. ((ended.same to).1 y, subst (λ (k : Position). IsUntil u k) (y.1 ∙ y.2) own)),
        );
        breaks = λ fault b. elim b [ inl x ↦ absurd x | inr y ↦ absurd y.2 ];
        least = λ to mid a b y k. (raised t m s old to (a + b + (f.base + f.size - (f.base + f.done) + 1)) (a + b + n) (omega (arith, is)) (ended.least to mid a b y k), subst (λ (k : Position). IsUntil u k) (y ∙ k) own);
        state = state;
        moves = λ ahead clear. moves_none t m (g.base + g.done) (g.base + g.size) old ahead;
        below_fine = tt;
        rest_fine = tt;
        less = (let less = ended.less in omega (arith, less, is));
      }

      pub content_miscounted : (IsUntil u old → ⊥) → BreaksFrame t m g old (WrongCounts u.envelope)
      content_miscounted other = inr (old, (ended.same old).1 (old, refl, refl), other, refl)

    pub content_end_breaks : (fault : DecodeFault) → IsPadding m.bytes (f.base + f.done) (f.base + f.size) fault → BreaksFrame t m g old fault
    content_end_breaks fault p = inl (end_breaks t fine m s old sf state over tt fault p)

  -- ---- the value

  module _ (some : 0 < count) where
    abbrev r : Row
    r = record { offset = f.done; entry = e }

    one : rows_left t f.done (Elements e size count) ≡ r ∷ rows_left t (r.offset + size_of ds (ty.named r.entry)) (Elements e size (count - 1))
    one = element_rows-more e size count f.done (λ none. absurd (omega (arith, some, none))) ∙ ap (λ k. r ∷ element_rows e size (count - 1) (f.done + k)) (sym ff.left)

    pub content_known : e < (header_of t).entries
    content_known = (row_fine t fine m s old sf state r (Elements e size (count - 1)) one).0

    pub content_size : (entry_at t e).size ≡ size
    content_size = sym (size_is t fine e content_known) ∙ ff.left

    -- it lies within the frame and the message, and there is work for it
    pub content_room : (f.done + (entry_at t e).size ≤ f.size) × (f.base + f.size ≤ length m.bytes) × (0 + 2 + probes ≤ frame_work g)
    content_room =
        let fits = row_room t fine m s old sf state r (Elements e size (count - 1)) one in
        let own = size_is t fine e content_known in
        let pos = positive t fine e content_known in
        (omega (arith, fits, own), ff.room, spends_more f.nest 0 (f.size - f.done) (omega (arith, fits, pos)))

    -- and for what the value may make, with a turn more
    pub content_pays : inline_work (entry_at t e).nest * (entry_at t e).size + 1 + 1 ≤ frame_work g
    content_pays =
        let fits = row_room t fine m s old sf state r (Elements e size (count - 1)) one in
        let own = size_is t fine e content_known in
        let nest = nest_is t fine e content_known in
        let less = (row_fine t fine m s old sf state r (Elements e size (count - 1)) one).2 in
        let pos = positive t fine e content_known in
        omega (arith, work_falls f.nest (entry_at t e).nest (entry_at t e).size 0 (f.size - f.done) 0 (omega (arith, less, nest)) (omega (arith, pos, own)) (omega (arith, fits, own)))

    pub content_inside : IsInside f.in_envelope (entry_at t e).size
    content_inside = row_inside t fine m s old sf state r (Elements e size (count - 1)) one (entry_at t e).size (size_is t fine e content_known)

    none_between : Stands m.bytes (f.base + f.done) (zeros (f.base + f.done - (f.base + f.done)))
    none_between = no_zeros m.bytes (f.base + f.done) (f.base + f.done - (f.base + f.done)) (omega arith)

    pub content_breaks : (fault : DecodeFault) → Breaks ds m f.depth (resolve ds.terms (ty.named e)) (f.base + f.done) old fault → BreaksFrame t m g old fault
    content_breaks fault b = inl (visit_breaks t fine m s old sf state r (Elements e size (count - 1)) one tt fault none_between b)

    pub content_turns : (below : Option Frame) (new : Position) (spent n : ℕ) → n ≡ 1 + spent → Visits t m f.depth e (f.base + f.done) old new spent below → VisitFine t m f.depth f.in_envelope e below
        → Turns t m g old new n (record { below = below; rest = Some (going_on f (Content e size (count - 1) u) (f.done + size)) })
    content_turns below new spent n is v vf =
        let one_more = turns_more t fine m s old sf state r (Elements e size (count - 1)) one tt (positive t fine e content_known) ff.left tt below new (f.done + size) spent (1 + spent) (ap (λ k. f.done + k) (sym ff.left)) (omega arith) (omega arith) none_between v vf in
        let rest = one_more.rest_fine.0 in
        record {
          same = λ to. (
            (λ x. let y = (one_more.same to).0 x.0 in (y.0, y.1, (y.2, x.1))),
            (λ y. ((one_more.same to).1 (y.0, y.1, y.2.0), y.2.1)),
          );
          breaks = λ fault b. elim b [
            | inl x ↦ inl (one_more.breaks fault (inl x))
            | inr y ↦ elim y.2 [
              | inl rows ↦ inl (one_more.breaks fault (inr (y.0, y.1, rows)))
              | inr end ↦ inr (end.0, (one_more.same end.0).1 (y.0, y.1, end.1), end.2, end.3)
            ]
          ];
          least = λ to mid a b y k. (raised t m s old to (a + b + (1 + spent)) (a + b + n) (omega (arith, is)) (one_more.least to mid a b y k.0), k.1);
          state = one_more.state;
          moves = λ ahead clear.
              let p = one_more.moves ahead (record { before = clear.before; free = clear.free; even = clear.even }) in
              record {
                stays = p.stays;
                ahead = p.ahead;
                below_clear = p.below_clear;
                rest_clear = record { before = p.rest_clear.before; free = p.rest_clear.free; even = p.rest_clear.even };
                below_in = p.below_in;
                rest_in = p.rest_in;
                apart = apart_as (going_on f (Elements e size (count - 1)) (f.done + size)) (going_on f (Content e size (count - 1) u) (f.done + size)) below refl refl p.apart;
              };
          below_fine = one_more.below_fine;
          rest_fine = (record { left = rest.left; slots = tt; room = rest.room; some = rest.some; nest = rest.nest; depth = rest.depth; in_envelope = rest.in_envelope; rise = rest.rise }, one_more.rest_fine.1);
          less = (let less = one_more.less in omega (arith, less, is));
        }

  -- the value, up to the zeros behind it, is worth no more than itself
  module _ (one : count ≡ 1) (new : Position) (spent : ℕ) (v : Visits t m f.depth e (f.base + f.done) old new spent None) where
    abbrev row : Row
    row = record { offset = f.done; entry = e }

    only : element_rows e size count f.done ≡ row ∷ []
    only = ap (λ n. element_rows e size n f.done) one

    rises : RowsRise ds (header_of t).entries f.nest f.size f.done (row ∷ [])
    rises = subst (λ (rs : List Row). RowsRise ds (header_of t).entries f.nest f.size f.done rs) only ff.rise

    pub content_worth : Stands m.bytes (f.base + (f.done + size)) (zeros (f.base + f.size - (f.base + (f.done + size)))) → IsUntil u new → ReadsWorth t m g old new (spent + 1)
    content_worth z own =
        let next = f.done + size_of ds (ty.named e) in
        let there : next ≡ f.done + size = ap (λ k. f.done + k) ff.left in
        let fits : next ≤ f.size = rises.3 in
        let wide : f.base + f.size - (f.base + (f.done + size)) ≡ f.size - next = omega (arith, there, fits) in
        let at : f.base + (f.done + size) ≡ f.base + next = omega (arith, there) in
        let end = subst (λ p. Stands m.bytes p (zeros (f.size - next))) at (subst (λ n. Stands m.bytes (f.base + (f.done + size)) (zeros n)) wide z) in
        let none = no_zeros m.bytes (f.base + f.done) (f.done - f.done) (omega arith) in
        let more = worth_more ds fine.laid_out m f.depth (header_of t).entries f.nest f.size f.base f.done row [] old new new rises none (spent + 1) 0
        (let x = v.least new 0 refl in let le = x.1 in (x.0, omega (arith, le)))
        (worth_none ds fine.laid_out m f.depth f.size f.base next new new ff.depth refl end 0) in
        let le = more.1 in
        (subst (λ (rs : List Row). MembersWorth ds m f.depth f.size f.base f.done rs old new (spent + 1)) (sym only) (more.0, omega (arith, le)), own)
