-- How an input is cut: a whole frame first, the beginning of one, and nothing.
use Rattle.std.proofs.Common.{◌≡◌, ℕ, zero, suc, ◌-◌, ◌<◌, ◌≤◌, ◌++◌, List, [], ◌∷◌, length, take, drop, Bool, true, false, cond, ltb, arith, refl, sym, ap, ◌∙◌}
use Rattle.fidl_frames.specs.Frames.{Front, cut, improper, whole, front_of, between, inside, past_limit, Cut, cut_at, frames_behind, frames_of, frame_length, is_proper, IsFrame, IsBegun, IsPastLimit}
use Rattle.std.proofs.lemmas.List.{length-append, take-append-le}
use Rattle.std.proofs.Math.Seq.{take-append_seam, drop-append_seam}
use native.Mathlib.Decide.{dec_le}
use mathlib.Core.Logic.{dite}
use Rattle.std.proofs.lemmas.Grind.{common_steps}

behind : (k : ℕ) (bytes : List ℕ) → frames_behind k bytes ≡ frames_behind 0 (drop k bytes)
behind zero bytes = refl
behind (suc k) [] = refl
behind (suc k) (b ∷ bs) = behind k bs

not_less : (m n : ℕ) → n ≤ m → ltb m n ≡ false
not_less m n h = grind (arith, common_steps)

less : (m n : ℕ) → m < n → ltb m n ≡ true
less m n h = grind (arith, common_steps)

chosen : (p q r : Bool) → p ≡ false → q ≡ true → r ≡ false → cond p cut (cond q (cond r cut whole) improper) ≡ whole
chosen p q r e f g = rw (e, f, g)

chosen_improper : (p q r : Bool) → p ≡ false → q ≡ false → cond p cut (cond q (cond r cut whole) improper) ≡ improper
chosen_improper p q r e f = rw (e, f)

chosen_cut : (p q r : Bool) → p ≡ false → q ≡ true → r ≡ true → cond p cut (cond q (cond r cut whole) improper) ≡ cut
chosen_cut p q r e f g = rw (e, f, g)

chosen_short : (p q r : Bool) → p ≡ true → cond p cut (cond q (cond r cut whole) improper) ≡ cut
chosen_short p q r e = rw e

pub front_whole : (b : ℕ) (bs : List ℕ) → 8 ≤ length (b ∷ bs) → is_proper (take 8 (b ∷ bs)) ≡ true → frame_length (take 8 (b ∷ bs)) ≤ length (b ∷ bs) → front_of (b ∷ bs) ≡ whole
front_whole b bs h p l = chosen _ _ _ (not_less _ _ h) p (not_less _ _ l)

pub front_improper : (b : ℕ) (bs : List ℕ) → 8 ≤ length (b ∷ bs) → is_proper (take 8 (b ∷ bs)) ≡ false → front_of (b ∷ bs) ≡ improper
front_improper b bs h p = chosen_improper _ _ _ (not_less _ _ h) p

front_short : (b : ℕ) (bs : List ℕ) → length (b ∷ bs) < 8 → front_of (b ∷ bs) ≡ cut
front_short b bs h = chosen_short _ _ _ (less _ _ h)

front_begun : (b : ℕ) (bs : List ℕ) → 8 ≤ length (b ∷ bs) → is_proper (take 8 (b ∷ bs)) ≡ true → length (b ∷ bs) < frame_length (take 8 (b ∷ bs)) → front_of (b ∷ bs) ≡ cut
front_begun b bs h p l = chosen_cut _ _ _ (not_less _ _ h) p (less _ _ l)

-- what stands at the front, and what is then cut
pub first_cut : (b : ℕ) (bs : List ℕ) (front : Front) → front_of (b ∷ bs) ≡ front → frames_of (b ∷ bs) ≡ cut_at front (b ∷ bs) (frames_behind (frame_length (take 8 (b ∷ bs)) - 1) bs)
unfolding frames_of
first_cut b bs front e = ap (λ (f : Front). cut_at f (b ∷ bs) (frames_behind (frame_length (take 8 (b ∷ bs)) - 1) bs)) e

rest_behind : (more bs : List ℕ) (n : ℕ) → n ≡ suc (length bs) → frames_behind (n - 1) (bs ++ more) ≡ frames_of more
unfolding frames_of
rest_behind more bs n e =
    let k : n - 1 ≡ length bs = omega arith in
    ap (λ (i : ℕ). frames_behind i (bs ++ more)) k ∙ behind (length bs) (bs ++ more) ∙ ap (λ (x : List ℕ). frames_behind 0 x) (drop-append_seam bs more)

-- the cut of an input that begins with a whole frame
abbrev pub with_frame : List ℕ → Cut → Cut
with_frame frame rest = record { frames = frame ∷ rest.frames; tail = rest.tail }

pub cut_whole : (frame more : List ℕ) → IsFrame frame → frames_of (frame ++ more) ≡ with_frame frame (frames_of more)
cut_whole [] more f = let h = f.head in absurd (omega arith)
cut_whole (b ∷ bs) more f =
    let h = f.head in
    let all = length-append (b ∷ bs) more in
    let t : take 8 (b ∷ (bs ++ more)) ≡ take 8 (b ∷ bs) = take-append-le 8 (b ∷ bs) more h in
    let long : frame_length (take 8 (b ∷ (bs ++ more))) ≡ length (b ∷ bs) = ap frame_length t ∙ sym f.long in
    let front : front_of (b ∷ (bs ++ more)) ≡ whole = front_whole b (bs ++ more) (omega arith) (ap is_proper t ∙ f.proper) (omega arith) in
    first_cut b (bs ++ more) whole front
    ∙ ap (λ (x : List ℕ). record { frames = x ∷ (frames_behind (frame_length (take 8 (b ∷ (bs ++ more))) - 1) (bs ++ more)).frames; tail = (frames_behind (frame_length (take 8 (b ∷ (bs ++ more))) - 1) (bs ++ more)).tail })
    (ap (λ (n : ℕ). take n (b ∷ (bs ++ more))) long ∙ take-append_seam (b ∷ bs) more)
    ∙ ap (λ (c : Cut). with_frame (b ∷ bs) c) (rest_behind more bs (frame_length (take 8 (b ∷ (bs ++ more)))) long)

pub cut_nothing : frames_of [] ≡ record { frames = []; tail = between }
unfolding frames_of
cut_nothing = refl

begun_by : (b : ℕ) (bs : List ℕ) → IsBegun (b ∷ bs) → frames_of (b ∷ bs) ≡ record { frames = []; tail = inside }
begun_by b bs f = dite (dec_le 8 (length (b ∷ bs)))
    (λ h. let s = f.short h in first_cut b bs cut (front_begun b bs h s.0 s.1))
    (λ h. first_cut b bs cut (front_short b bs (omega arith)))

pub cut_begun : (bytes : List ℕ) → IsBegun bytes → frames_of bytes ≡ record { frames = []; tail = inside }
cut_begun [] f = let h = f.some in absurd (omega arith)
cut_begun (b ∷ bs) f = begun_by b bs f

pub cut_past_limit : (bytes more : List ℕ) → IsPastLimit bytes → frames_of (bytes ++ more) ≡ record { frames = []; tail = past_limit }
cut_past_limit [] more f = let h = f.head in absurd (omega arith)
cut_past_limit (b ∷ bs) more f =
    let h = f.head in
    let all = length-append (b ∷ bs) more in
    let low : 8 ≤ length (b ∷ bs) = omega arith in
    let t : take 8 (b ∷ (bs ++ more)) ≡ take 8 (b ∷ bs) = take-append-le 8 (b ∷ bs) more low in
    first_cut b (bs ++ more) improper (front_improper b (bs ++ more) (omega arith) (ap is_proper t ∙ f.improper))
