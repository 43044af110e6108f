-- How the frames of more input stand to those of a front of it.
use Rattle.std.proofs.Common.{◌≡◌, ℕ, zero, suc, ◌-◌, ◌≤◌, ◌++◌, List, [], ◌∷◌, length, take, Bool, true, false, cond, ltb, arith, refl, sym, ap, subst, ◌∙◌}
use Rattle.std.proofs.lemmas.Bool.{ltb-false}
use Rattle.std.proofs.lemmas.List.{take-append-le, length-append}
use Rattle.fidl_frames.specs.Frames.{Front, nothing, cut, improper, whole, front_of, past_limit, Cut, frames_behind, frames_of, frame_length, is_proper}
use Rattle.fidl_frames.proofs.Cuts.{front_whole, front_improper, first_cut, with_frame}
use Rattle.fidl_serve.specs.Output.{is_open_tail}

-- how the cut of more input stands to this one
pub data Extends (old new : Cut) : Type 0 where
  closed : old.tail ≡ past_limit → new ≡ old → Extends old new
  open_end : (later : List (List ℕ)) → is_open_tail old.tail ≡ true → new.frames ≡ old.frames ++ later → Extends old new

-- what a whole frame, or one past a limit, at the front says
abbrev front_says : (b : ℕ) (bs : List ℕ) → Front → Type 0
front_says b bs whole = (8 ≤ length (b ∷ bs)) × (is_proper (take 8 (b ∷ bs)) ≡ true) × (frame_length (take 8 (b ∷ bs)) ≤ length (b ∷ bs))
front_says b bs improper = (8 ≤ length (b ∷ bs)) × (is_proper (take 8 (b ∷ bs)) ≡ false)
front_says b bs cut = Unit {0}
front_says b bs nothing = ⊥

said : (b : ℕ) (bs : List ℕ) (p q r : Bool) → ltb (length (b ∷ bs)) 8 ≡ p → is_proper (take 8 (b ∷ bs)) ≡ q → ltb (length (b ∷ bs)) (frame_length (take 8 (b ∷ bs))) ≡ r
    → front_says b bs (cond p cut (cond q (cond r cut whole) improper))
said b bs true q r e f g = tt
said b bs false true true e f g = tt
said b bs false true false e f g = (ltb-false _ _ e, f, ltb-false _ _ g)
said b bs false false r e f g = (ltb-false _ _ e, f)

says : (b : ℕ) (bs : List ℕ) → front_says b bs (front_of (b ∷ bs))
says b bs = said b bs _ _ _ refl refl refl

-- more stands behind a cut of what is behind a frame
behind_frame : (frame : List ℕ) (old new : Cut) → Extends old new → Extends (with_frame frame old) (with_frame frame new)
behind_frame frame old new (closed t e) = closed t (ap (λ (c : Cut). with_frame frame c) e)
behind_frame frame old new (open_end later t e) = open_end later t (ap (λ (l : List (List ℕ)). frame ∷ l) e)

extends_as : (old a new b : Cut) → old ≡ a → new ≡ b → Extends a b → Extends old new
extends_as old a new b e f h = subst (λ (c : Cut). Extends c new) (sym e) (subst (λ (c : Cut). Extends a c) (sym f) h)

front_kept : (b : ℕ) (bs more : List ℕ) → 8 ≤ length (b ∷ bs) → take 8 (b ∷ (bs ++ more)) ≡ take 8 (b ∷ bs)
front_kept b bs more h = take-append-le 8 (b ∷ bs) more h

more_long : (b : ℕ) (bs more : List ℕ) (n : ℕ) → n ≤ length (b ∷ bs) → n ≤ length (b ∷ (bs ++ more))
more_long b bs more n h = let k = length-append (b ∷ bs) more in omega arith

-- what one place says of the cut of more input
grown_at : (b : ℕ) (bs more : List ℕ) (front : Front) → front_of (b ∷ bs) ≡ front → front_says b bs front
    → Extends (frames_behind (frame_length (take 8 (b ∷ bs)) - 1) bs) (frames_behind (frame_length (take 8 (b ∷ bs)) - 1) (bs ++ more))
    → Extends (frames_of (b ∷ bs)) (frames_of (b ∷ (bs ++ more)))
grown_at b bs more nothing e s h = absurd s
grown_at b bs more cut e s h =
    let old = first_cut b bs cut e in
    open_end (frames_of (b ∷ (bs ++ more))).frames (ap (λ (c : Cut). is_open_tail c.tail) old) (ap (λ (c : Cut). c.frames ++ (frames_of (b ∷ (bs ++ more))).frames) (sym old))
grown_at b bs more improper e s h =
    let t = front_kept b bs more s.0 in
    let old = first_cut b bs improper e in
    let new = first_cut b (bs ++ more) improper (front_improper b (bs ++ more) (more_long b bs more 8 s.0) (ap is_proper t ∙ s.1)) in
    closed (ap (λ (c : Cut). c.tail) old) (new ∙ sym old)
grown_at b bs more whole e s h =
    let t = front_kept b bs more s.0 in
    let n = frame_length (take 8 (b ∷ bs)) in
    let same : frame_length (take 8 (b ∷ (bs ++ more))) ≡ frame_length (take 8 (b ∷ bs)) = ap frame_length t in
    let within : frame_length (take 8 (b ∷ (bs ++ more))) ≤ length (b ∷ (bs ++ more)) = subst (λ (i : ℕ). i ≤ length (b ∷ (bs ++ more))) (sym same) (more_long b bs more n s.2) in
    let old = first_cut b bs whole e in
    let new : frames_of (b ∷ (bs ++ more)) ≡ with_frame (take n (b ∷ bs)) (frames_behind (n - 1) (bs ++ more)) =
    first_cut b (bs ++ more) whole (front_whole b (bs ++ more) (more_long b bs more 8 s.0) (ap is_proper t ∙ s.1) within)
    ∙ ap (λ (i : ℕ). with_frame (take i (b ∷ (bs ++ more))) (frames_behind (i - 1) (bs ++ more))) same
    ∙ ap (λ (f : List ℕ). with_frame f (frames_behind (n - 1) (bs ++ more))) (take-append-le n (b ∷ bs) more s.2) in
    extends_as (frames_of (b ∷ bs)) (with_frame (take n (b ∷ bs)) (frames_behind (n - 1) bs)) (frames_of (b ∷ (bs ++ more))) (with_frame (take n (b ∷ bs)) (frames_behind (n - 1) (bs ++ more))) old new
    (behind_frame (take n (b ∷ bs)) (frames_behind (n - 1) bs) (frames_behind (n - 1) (bs ++ more)) h)

pub grows : (k : ℕ) (bytes more : List ℕ) → Extends (frames_behind k bytes) (frames_behind k (bytes ++ more))
unfolding frames_of
grows zero [] more = open_end _ refl refl
grows (suc k) [] more = open_end _ refl refl
grows zero (b ∷ bs) more = grown_at b bs more (front_of (b ∷ bs)) refl (says b bs) (grows (frame_length (take 8 (b ∷ bs)) - 1) bs more)
grows (suc k) (b ∷ bs) more = grows k bs more
