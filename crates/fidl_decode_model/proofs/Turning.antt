-- What a turn on a frame does.
use Rattle.std.proofs.Common.{◌≡◌, ℕ, ◌+◌, ◌-◌, ◌*◌, ◌<◌, ◌≤◌, List, [], ◌∷◌, refl, sym, subst, ◌∙◌, arith, inl, inr}
use Rattle.std.specs.Prelude.{◌↔◌, Option, Some, None, IfNone, Result, Ok, Err, OnErr, OnOk, IfOk, IfErr}
use Rattle.std.specs.Result.{IsErrAnd}
use Rattle.std.proofs.Math.Nat.{mul-le-mul_left, mul-le-mul_right}
use Rattle.fidl_wire.specs.Term.{resolve}
use Rattle.fidl_wire.specs.Term as ty
use Rattle.fidl_wire.specs.Figure.{Declarations, figure_of, size_of}
use Rattle.fidl_wire.specs.Encoding.{zeros}
use Rattle.fidl_wire.specs.Standing.{Stands}
use Rattle.fidl_table_format.specs.Section.{header_of}
use Rattle.fidl_table_format.specs.Terms.{declarations_of}
use Rattle.fidl_decode_model.specs.Invariants.{IsFine}
use Rattle.fidl_decode_model.specs.declared.frame.Frame.{Frame}
use Rattle.fidl_decode_model.specs.declared.frame.Remaining.{Remaining}
use Rattle.fidl_decode_model.specs.declared.frame.Remaining.TheVariants.{Rows, Elements, Envelopes, Content}
use Rattle.fidl_decode_model.specs.Rows.{Row, RowsRise}
use Rattle.fidl_decode_model.specs.State.{Message, Position, ValueAt, Members}
use Rattle.fidl_decode_model.specs.declared.fault.DecodeFault.{DecodeFault}
use Rattle.fidl_decode_model.specs.Breaks.{IsPadding, Breaks, BreaksParts}
use Rattle.fidl_decode_model.specs.Breaks as broken
use Rattle.fidl_decode_model.specs.Machine.{rows_left, Reads, ReadsLeft, ReadsRows, row_parts, BreaksFrame, BreaksLeft, BreaksRows, LeftFine, EnvelopesFit, IsPlain, IsInside, VisitFine, level, height, FrameFine, FineIf, StateFine, Visits, Turns, inline_work, probes}
use Rattle.fidl_decode_model.specs.Worth.{MembersWorth, LeftWorth, ReadsWorth, WorthIf}
use Rattle.fidl_decode_model.specs.Frontier.{CanRead, RowsEven}
use Rattle.fidl_decode_model.proofs.Moving.{moves_none, moves_part}
use Rattle.fidl_decode_model.proofs.Evenly.{plain_even, even_plain}
use Rattle.fidl_decode_model.proofs.Rows.{rows_fit, members_end, members_more, more_members, worth_none, worth_more}

-- what holds anyway, at an error
pub on_err : {T E : Type 0} (r : Result T E) (P : Type 0) → P → OnErr r P
on_err (Ok x) P h = tt
on_err (Err e) P h = h

-- what holds of an error holds of it where a `?` passes it on
pub passed_on : {T E : Type 0} (r : Result T E) (e : E) (P : E → Type 0) → IsErrAnd r (λ y. y ≡ e) → P e → IfErr r P
passed_on (Ok x) e P h p = tt
passed_on (Err y) e P h p = subst P (sym h) p

pub if_ok_two : {T E : Type 0} (r : Result T E) (P Q R : T → Type 0) → ((x : T) → P x → Q x → R x) → IfOk r P → IfOk r Q → IfOk r R
if_ok_two (Ok x) P Q R f p q = f x p q
if_ok_two (Err e) P Q R f p q = tt

pub if_ok_on : {T E Q : Type 0} (r : Result T E) (P R : T → Type 0) → ((x : T) → P x → Q → R x) → IfOk r P → OnOk r Q → IfOk r R
if_ok_on (Ok x) P R f p q = f x p q
if_ok_on (Err e) P R f p q = tt

-- what holds where there is no value
pub none_weaker : {T : Type 0} (o : Option T) (P Q : Type 0) → (P → Q) → IfNone o P → IfNone o Q
none_weaker None P Q f h = f h
none_weaker (Some x) P Q f h = tt

pub on_ok_two : {T E P Q R : Type 0} (r : Result T E) → (P → Q → R) → OnOk r P → OnOk r Q → OnOk r R
on_ok_two (Ok x) f p q = f p q
on_ok_two (Err e) f p q = tt

pub on_ok_three : {T E P Q S R : Type 0} (r : Result T E) → (P → Q → S → R) → OnOk r P → OnOk r Q → OnOk r S → OnOk r R
on_ok_three (Ok x) f p q s = f p q s
on_ok_three (Err e) f p q s = tt

pub on_ok_four : {T E P Q S U R : Type 0} (r : Result T E) → (P → Q → S → U → R) → OnOk r P → OnOk r Q → OnOk r S → OnOk r U → OnOk r R
on_ok_four (Ok x) f p q s u = f p q s u
on_ok_four (Err e) f p q s u = tt

pub on_ok_from : {T E P Q : Type 0} (r : Result T E) → (P → Q) → OnOk r P → OnOk r Q
on_ok_from (Ok x) f p = f p
on_ok_from (Err e) f p = tt

pub work_falls : (n k s g a b : ℕ) → k < n → 0 < s → b + s + g ≤ a → inline_work k * s + 1 + (inline_work n * b + 1) + (g + 1) ≤ inline_work n * a + 1
work_falls n k s g a b lt pos le =
    let more : inline_work k + 2 ≤ inline_work n = omega arith in
    let one : 1 ≤ inline_work n = omega arith in
    omega (arith, mul-le-mul_left (inline_work n) le, mul-le-mul_right s more, mul-le-mul_right g one)

-- what a turn spends on zeros is within the frame's work
pub spends : (n x y : ℕ) → x ≤ y → x + 1 ≤ inline_work n * y + 1
spends n x y le = let one : 1 ≤ inline_work n = omega arith in omega (arith, mul-le-mul_right y one)

-- and what it spends on a union and a search too, where a byte is left
pub spends_more : (n x y : ℕ) → x < y → x + 2 + probes ≤ inline_work n * y + 1
spends_more n x y lt = let many : 2 + probes ≤ inline_work n = omega arith in omega (arith, mul-le-mul_right y many)

pub fine_from : (t : List ℕ) (m : List ℕ) (h k : ℕ) (o : Option Frame) → k ≤ h → FineIf t m h o → FineIf t m k o
fine_from t m h k None le x = tt
fine_from t m h k (Some f) le x = (x.0, omega (arith, x.1))

-- ---- what is left are rows alone

pub plain_reads : (t : List ℕ) (m : Message) (f : Frame) (left : Remaining) → IsPlain left → (from to : Position) → ReadsLeft t m f left from to ↔ ReadsRows t m f (rows_left t f.done left) from to
plain_reads t m f (Rows first count) plain from to = ((λ x. x), (λ x. x))
plain_reads t m f (Elements entry size count) plain from to = ((λ x. x), (λ x. x))
plain_reads t m f (Envelopes entry read count) plain from to = absurd plain
plain_reads t m f (Content entry size count until) plain from to = absurd plain

pub plain_worth : (t : List ℕ) (m : Message) (f : Frame) (left : Remaining) → IsPlain left → (from to : Position) (w : ℕ) → LeftWorth t m f left from to w ↔ MembersWorth (declarations_of t) m f.depth f.size f.base f.done (rows_left t f.done left) from to w
plain_worth t m f (Rows first count) plain from to w = ((λ x. x), (λ x. x))
plain_worth t m f (Elements entry size count) plain from to w = ((λ x. x), (λ x. x))
plain_worth t m f (Envelopes entry read count) plain from to w = absurd plain
plain_worth t m f (Content entry size count until) plain from to w = absurd plain

-- what is worth so much is worth more
pub left_raised : (t : List ℕ) (m : Message) (f : Frame) (left : Remaining) (from to : Position) (v w : ℕ) → v ≤ w → LeftWorth t m f left from to v → LeftWorth t m f left from to w
left_raised t m f (Rows first count) from to v w le x = let own = x.1 in (x.0, omega (arith, own, le))
left_raised t m f (Elements entry size count) from to v w le x = let own = x.1 in (x.0, omega (arith, own, le))
left_raised t m f (Envelopes entry read count) from to v w le x = let own = x.1 in (x.0, omega (arith, own, le))
left_raised t m f (Content entry size count until) from to v w le x = let own = x.0.1 in ((x.0.0, omega (arith, own, le)), x.1)

pub raised : (t : List ℕ) (m : Message) (f : Frame) (from to : Position) (v w : ℕ) → v ≤ w → ReadsWorth t m f from to v → ReadsWorth t m f from to w
raised t m f from to v w le x = left_raised t m f f.left from to v w le x

pub raised_if : (t : List ℕ) (m : Message) (o : Option Frame) (from to : Position) (v w : ℕ) → v ≤ w → WorthIf t m o from to v → WorthIf t m o from to w
raised_if t m None from to v w le x = x
raised_if t m (Some f) from to v w le x = raised t m f from to v w le x

pub plain_breaks : (t : List ℕ) (m : Message) (f : Frame) (left : Remaining) → IsPlain left → (from : Position) (fault : DecodeFault) → BreaksLeft t m f left from fault ↔ BreaksRows t m f (rows_left t f.done left) from fault
plain_breaks t m f (Rows first count) plain from fault = ((λ x. x), (λ x. x))
plain_breaks t m f (Elements entry size count) plain from fault = ((λ x. x), (λ x. x))
plain_breaks t m f (Envelopes entry read count) plain from fault = absurd plain
plain_breaks t m f (Content entry size count until) plain from fault = absurd plain

pub plain_fits : (f : Frame) (left : Remaining) → IsPlain left → EnvelopesFit f left
plain_fits f (Rows first count) plain = tt
plain_fits f (Elements entry size count) plain = tt
plain_fits f (Envelopes entry read count) plain = absurd plain
plain_fits f (Content entry size count until) plain = absurd plain

module _ (t : List ℕ) (fine : IsFine t) (m : Message) (f : Frame) (old : Position) (ff : FrameFine t m.bytes f) (state : StateFine m old) where
  abbrev ds : Declarations
  ds = declarations_of t

  pub done_fits : f.done ≤ f.size
  done_fits = rows_fit ds (header_of t).entries f.nest f.size f.done (rows_left t f.done f.left) ff.rise

  pub zeros_left : f.base + f.size - (f.base + f.done) ≡ f.size - f.done
  zeros_left = let h = done_fits in omega arith

  module _ (over : rows_left t f.done f.left ≡ []) (plain : IsPlain f.left) where
    at_end : (to : Position) → Reads t m f old to → (old ≡ to) × Stands m.bytes (f.base + f.done) (zeros (f.size - f.done))
    at_end to x = (members_end ds fine.laid_out m f.depth f.size f.base f.done old to ff.depth).0 (subst (λ (rs : List Row). Members ds m f.depth f.size f.base f.done rs old to) over ((plain_reads t m f f.left plain old to).0 x))

    pub end_breaks : (fault : DecodeFault) → IsPadding m.bytes (f.base + f.done) (f.base + f.size) fault → BreaksFrame t m f old fault
    end_breaks fault p = (plain_breaks t m f f.left plain old fault).1 (subst (λ (rs : List Row). BreaksParts ds m f.depth f.size f.base f.done (row_parts rs) old fault) (sym over) (broken.in_end f.size f.base f.done old fault p))

    pub turns_end : Stands m.bytes (f.base + f.done) (zeros (f.base + f.size - (f.base + f.done))) → (n : ℕ) → n ≤ f.base + f.size - (f.base + f.done) + 1 → Turns t m f old old n (record { below = None; rest = None })
    turns_end z n few =
        let z' = subst (λ n. Stands m.bytes (f.base + f.done) (zeros n)) zeros_left z in
        record {
          same = λ to. (
            (λ x. (old, refl, (at_end to x).0)),
            (λ y. (plain_reads t m f f.left plain old to).1 (subst (λ (rs : List Row). Members ds m f.depth f.size f.base f.done rs old to) (sym over) ((members_end ds fine.laid_out m f.depth f.size f.base f.done old to ff.depth).1 (y.1 ∙ y.2, z')))),
          );
          breaks = λ fault b. elim b [ inl x ↦ absurd x | inr y ↦ absurd y.2 ];
          least = λ to mid a b y z. (plain_worth t m f f.left plain old to (a + b + n)).1
              (subst (λ (rs : List Row). MembersWorth ds m f.depth f.size f.base f.done rs old to (a + b + n)) (sym over) (worth_none ds fine.laid_out m f.depth f.size f.base f.done old to ff.depth (y ∙ z) z' (a + b + n)));
          state = state;
          moves = λ ahead clear. moves_none t m (f.base + f.done) (f.base + f.size) old ahead;
          below_fine = tt;
          rest_fine = tt;
          less = omega (arith, few, zeros_left, spends f.nest (f.size - f.done) (f.size - f.done) (omega arith));
        }

  module _ (r : Row) (left : Remaining) (one : rows_left t f.done f.left ≡ r ∷ rows_left t (r.offset + size_of ds (ty.named r.entry)) left) where
    abbrev rest : List Row
    rest = rows_left t (r.offset + size_of ds (ty.named r.entry)) left

    pub row_fine : RowsRise ds (header_of t).entries f.nest f.size f.done (r ∷ rows_left t (r.offset + size_of ds (ty.named r.entry)) left)
    row_fine = subst (λ (rs : List Row). RowsRise ds (header_of t).entries f.nest f.size f.done rs) one ff.rise

    pub row_room : r.offset + size_of ds (ty.named r.entry) ≤ f.size
    row_room = rows_fit ds (header_of t).entries f.nest f.size (r.offset + size_of ds (ty.named r.entry)) rest row_fine.3

    -- it lies in the four bytes of an envelope where its frame does
    pub row_inside : (size : ℕ) → size_of ds (ty.named r.entry) ≡ size → IsInside f.in_envelope size
    row_inside size is = elim ff.in_envelope [ inl out ↦ inl out | inr own ↦ (let four = own.1 in inr (own.0, omega (arith, four, row_room, is))) ]

    pub gap : f.base + r.offset - (f.base + f.done) ≡ r.offset - f.done
    gap = let h = row_fine.1 in omega arith

    module _ (plain : IsPlain f.left) where
      apart : (to : Position) → Reads t m f old to → Stands m.bytes (f.base + f.done) (zeros (r.offset - f.done)) ×
          ((mid : Position) × ValueAt ds m f.depth (resolve ds.terms (ty.named r.entry)) (f.base + r.offset) old mid × Members ds m f.depth f.size
          f.base (r.offset + size_of ds (ty.named r.entry)) rest mid to)
      apart to x = members_more ds fine.laid_out m f.depth (header_of t).entries f.nest f.size f.base f.done r rest old to row_fine (subst (λ (rs : List Row). Members ds m f.depth f.size f.base f.done rs old to) one ((plain_reads t m f f.left plain old to).0 x))

      -- the frame breaks a rule where the parts that are left do
      parts_break : (fault : DecodeFault) → BreaksParts ds m f.depth f.size f.base f.done (row_parts (r ∷ rest)) old fault → BreaksFrame t m f old fault
      parts_break fault b = (plain_breaks t m f f.left plain old fault).1 (subst (λ (rs : List Row). BreaksParts ds m f.depth f.size f.base f.done (row_parts rs) old fault) (sym one) b)

      pub gap_breaks : (fault : DecodeFault) → IsPadding m.bytes (f.base + f.done) (f.base + r.offset) fault → BreaksFrame t m f old fault
      gap_breaks fault p = parts_break fault (broken.in_gap f.size f.base f.done _ _ old fault p)

      pub visit_breaks : (fault : DecodeFault) → Stands m.bytes (f.base + f.done) (zeros (f.base + r.offset - (f.base + f.done))) → Breaks ds m f.depth (resolve ds.terms (ty.named r.entry)) (f.base + r.offset) old fault → BreaksFrame t m f old fault
      visit_breaks fault z b = parts_break fault (broken.in_next f.size f.base f.done _ _ old fault (subst (λ n. Stands m.bytes (f.base + f.done) (zeros n)) gap z) b)

      pub rest_breaks : (fault : DecodeFault) (mid : Position) → Stands m.bytes (f.base + f.done) (zeros (f.base + r.offset - (f.base + f.done))) → ValueAt ds m f.depth (resolve ds.terms (ty.named r.entry)) (f.base + r.offset) old mid
          → BreaksParts ds m f.depth f.size f.base (r.offset + size_of ds (ty.named r.entry)) (row_parts rest) mid fault → BreaksFrame t m f old fault
      rest_breaks fault mid z i b = parts_break fault (broken.in_later f.size f.base f.done _ _ old mid fault (subst (λ n. Stands m.bytes (f.base + f.done) (zeros n)) gap z) i b)

      pub turns_more : 0 < size_of ds (ty.named r.entry) → LeftFine t left → IsPlain left → (below : Option Frame) (new : Position) (done spent n : ℕ)
          → done ≡ r.offset + size_of ds (ty.named r.entry) → spent + 1 ≤ n → n ≤ f.base + r.offset - (f.base + f.done) + 1 + spent → Stands m.bytes
          (f.base + f.done) (zeros (f.base + r.offset - (f.base + f.done))) → Visits t m f.depth r.entry (f.base + r.offset) old new spent below →
          VisitFine t m f.depth f.in_envelope r.entry below
          → Turns t m f old new n (record { below = below; rest = Some (record { left = left; base = f.base; done = done; size = f.size; nest = f.nest; depth = f.depth; in_envelope = f.in_envelope }) })
      turns_more pos left_fine left_plain below new done spent k done-is some few z v vf =
          let s = size_of ds (ty.named r.entry) in
          let n = (figure_of ds.figures (ty.named r.entry)).nest in
          let d = r.offset + s in
          let rest_frame : Frame = record { left = left; base = f.base; done = d; size = f.size; nest = f.nest; depth = f.depth; in_envelope = f.in_envelope } in
          let z' = subst (λ k. Stands m.bytes (f.base + f.done) (zeros k)) gap z in
          let falls = work_falls f.nest n s (r.offset - f.done) (f.size - f.done) (f.size - d) row_fine.2 pos (omega (arith, row_room, row_fine.1)) in
          let main : Turns t m f old new k (record { below = below; rest = Some (record { left = left; base = f.base; done = d; size = f.size; nest = f.nest; depth = f.depth; in_envelope = f.in_envelope }) }) = record {
            same = λ to. (
              (λ x. let a = (apart to x).1 in (a.0, (v.same a.0).0 a.1, (plain_reads t m rest_frame left left_plain a.0 to).1 a.2)),
              (λ y. (plain_reads t m f f.left plain old to).1 (subst (λ (rs : List Row). Members ds m f.depth f.size f.base f.done rs old to)
                  (sym one) (more_members ds fine.laid_out m f.depth (header_of t).entries f.nest f.size f.base f.done r rest old y.0 to row_fine z'
                  ((v.same y.0).1 y.1) ((plain_reads t m rest_frame left left_plain y.0 to).0 y.2)))),
            );
            breaks = λ fault b. elim b [
              | inl x ↦ visit_breaks fault z (v.breaks fault x)
              | inr y ↦ rest_breaks fault y.0 z ((v.same y.0).1 y.1) ((plain_breaks t m rest_frame left left_plain y.0 fault).0 y.2)
            ];
            least = λ to mid a b y w.
                let all = a + b + k in
                let more = worth_more ds fine.laid_out m f.depth (header_of t).entries f.nest f.size f.base f.done r rest old mid to row_fine z' (a + spent + 1) b (v.least mid a y) ((plain_worth t m rest_frame left left_plain mid to b).0 w) in
                let le = more.1 in
                (plain_worth t m f f.left plain old to all).1 (subst (λ (rs : List Row). MembersWorth ds m f.depth f.size f.base f.done rs old to all) (sym one) (more.0, omega (arith, le, some)));
            state = v.state;
            moves = λ ahead clear.
                let rows = subst (λ (rs : List Row). RowsEven ds f.base rs) one (plain_even t f f.left plain clear.even) in
                let read : CanRead old (f.base + r.offset) s = record { before = omega (arith, clear.before, row_room); free = λ k x y. clear.free k (omega (arith, x, row_fine.1)) (omega (arith, y, row_room)) } in
                moves_part t m f (f.base + r.offset) (f.base + r.offset + s) rest_frame old new below clear (v.moves ahead read rows.0) (omega arith) (omega (arith, row_fine.1)) (omega arith) (omega arith) (omega (arith, row_room))
                (even_plain t rest_frame left left_plain rows.1);
            below_fine = fine_from t m.bytes (level f.depth f.in_envelope n) (height f + 1) below (omega (arith, row_fine.2, ff.nest)) vf;
            rest_fine = (record { left = left_fine; slots = plain_fits rest_frame left left_plain; room = ff.room; some = ff.some; nest = ff.nest; depth = ff.depth; in_envelope = ff.in_envelope; rise = row_fine.3 }, omega arith);
            less = omega (arith, v.less, falls, gap, few);
          } in
          subst (λ d. Turns t m f old new k (record { below = below; rest = Some (record { left = left; base = f.base; done = d; size = f.size; nest = f.nest; depth = f.depth; in_envelope = f.in_envelope }) })) (sym done-is) main
