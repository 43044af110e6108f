-- The last object that a frame holds takes the frame's place.
use Rattle.std.proofs.Common.{◌≡◌, ℕ, ◌+◌, ◌-◌, List, [], refl, sym, ap, subst, arith, inl, inr}
use Rattle.std.specs.Prelude.{Some, None}
use Rattle.fidl_wire.specs.Figure.{Declarations}
use Rattle.fidl_table_format.specs.Section.{header_of}
use Rattle.fidl_table_format.specs.Terms.{declarations_of}
use Rattle.fidl_decode_model.proofs.Moving.{moves_tail}
use Rattle.fidl_decode_model.specs.declared.frame.Frame.{Frame}
use Rattle.fidl_decode_model.specs.declared.frame.Remaining.{Remaining}
use Rattle.fidl_decode_model.specs.declared.frame.Remaining.TheVariants.{Rows, Elements, Envelopes, Content}
use Rattle.fidl_decode_model.specs.Invariants.{IsFine}
use Rattle.fidl_decode_model.specs.Rows.{Row, table_rows, element_rows}
use Rattle.fidl_decode_model.specs.State.{Message, Position, Members}
use Rattle.fidl_decode_model.specs.Machine.{rows_left, Reads, BreaksFrame, IsPlain, Turns}
use Rattle.fidl_decode_model.specs.Worth.{ReadsWorth, MembersWorth}
use Rattle.fidl_decode.specs.Over.{NoRows, IsOver}
use Rattle.fidl_decode_model.proofs.Rows.{members_end, worth_none}
use Rattle.fidl_decode_model.proofs.Turning.{plain_reads, plain_worth, raised}
use Rattle.fidl_decode_columns.proofs.Leaves.{left_over, no_zeros, over_turns}

no_rows_plain : (left : Remaining) → NoRows left → IsPlain left
no_rows_plain (Rows first count) none = tt
no_rows_plain (Elements entry size count) none = tt
no_rows_plain (Envelopes entry read count) none = absurd none
no_rows_plain (Content entry size count until) none = absurd none

no_rows_left : (t : List ℕ) (done : ℕ) (left : Remaining) → NoRows left → rows_left t done left ≡ []
no_rows_left t done (Rows first count) none = ap (λ n. table_rows t (header_of t) first n) none
no_rows_left t done (Elements entry size count) none = ap (λ n. element_rows entry size n done) none
no_rows_left t done (Envelopes entry read count) none = absurd none
no_rows_left t done (Content entry size count until) none = absurd none

module _ (t : List ℕ) (fine : IsFine t) (m : Message) (f g h : Frame) (old new : Position) (steps : ℕ) (one : Turns t m f old new steps (record { below = Some g; rest = Some h })) (over : IsOver h) where
  abbrev ds : Declarations
  ds = declarations_of t

  none : rows_left t h.done h.left ≡ []
  none = no_rows_left t h.done h.left over.0

  plain : IsPlain h.left
  plain = no_rows_plain h.left over.0

  nothing_more : (x to : Position) → Reads t m h x to → x ≡ to
  nothing_more x to r = ((members_end ds fine.laid_out m h.depth h.size h.base h.done x to one.rest_fine.0.depth).0 (subst (λ (rs : List Row). Members ds m h.depth h.size h.base h.done rs x to) none ((plain_reads t m h h.left plain x to).0 r))).0

  worth_at_end : (to : Position) → ReadsWorth t m h to to 0
  worth_at_end to = (plain_worth t m h h.left plain to to 0).1 (subst (λ (rs : List Row). MembersWorth ds m h.depth h.size h.base h.done rs to to 0)
      (sym none) (worth_none ds fine.laid_out m h.depth h.size h.base h.done to to one.rest_fine.0.depth refl
      (no_zeros m.bytes (h.base + h.done) (h.size - h.done) (omega (arith, over.1))) 0))

  at_the_end : (to : Position) → Reads t m h to to
  at_the_end to = (plain_reads t m h h.left plain to to).1 (subst (λ (rs : List Row). Members ds m h.depth h.size h.base h.done rs to to) (sym none)
      ((members_end ds fine.laid_out m h.depth h.size h.base h.done to to one.rest_fine.0.depth).1
      (refl, no_zeros m.bytes (h.base + h.done) (h.size - h.done) (omega (arith, over.1)))))

  pub turns_tail : Turns t m f old new steps (left_over (Some g))
  turns_tail = record {
    same = λ to. (
      (λ r. let p = (one.same to).0 r in (new, refl, subst (λ (s : Position). Reads t m g new s) (nothing_more p.0 to p.2) p.1)),
      (λ y. (one.same to).1 (to, subst (λ (s : Position). Reads t m g s to) (sym y.1) y.2, at_the_end to)),
    );
    breaks = λ fault b. elim b [ inl x ↦ absurd x | inr y ↦ one.breaks fault (inl (subst (λ (s : Position). BreaksFrame t m g s fault) (sym y.1) y.2)) ];
    least = λ to mid a b y z. raised t m f old to (b + 0 + steps) (a + b + steps) (omega arith) (one.least to to b 0 (subst (λ (s : Position). ReadsWorth t m g s to b) (sym y) z) (worth_at_end to));
    state = one.state;
    moves = λ ahead clear. moves_tail t m (f.base + f.done) (f.base + f.size) g old new (Some h) (one.moves ahead clear);
    below_fine = tt;
    rest_fine = (one.below_fine.0, omega (arith, one.below_fine.1));
    less = omega (arith, one.less);
  }

-- a frame of which all is read is over
pub turns_done : (t : List ℕ) (fine : IsFine t) (m : Message) (f h : Frame) (old new : Position) (steps : ℕ) → Turns t m f old new steps (left_over (Some h)) → IsOver h → Turns t m f old new steps (left_over None)
turns_done t fine m f h old new steps turns over =
    over_turns t fine m f old new steps h turns (no_rows_left t h.done h.left over.0) (no_rows_plain h.left over.0) steps (omega arith) (omega arith) (no_zeros m.bytes (h.base + h.done) _ (omega (arith, over.1)))
