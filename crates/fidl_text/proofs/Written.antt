-- What a writer holds after one write and then the next.
use Rattle.std.proofs.Common.{◌≡◌, ℕ, ◌++◌, List, [], ◌-◌, length, take, drop, take-append-drop, arith, refl, sym, ap, subst, ◌∙◌}
use Rattle.std.specs.Prelude.{Option, Some, None, Result, Ok, Err, IsErr}
use Rattle.std.specs.Io.KnownBytes.{Appends, Keeps, WriteAppends}
use Rattle.fidl_text.specs.Outputs.{AppendsFront, Writes}
use Rattle.std.proofs.KnownBytes.{Appends-nil}
use mathlib.Core.List.{append_assoc}
use Rattle.std.proofs.lemmas.List.{append-nil, take_all, length-drop}

pub appends_then : (a b c : Option (List ℕ)) (xs ys : List ℕ) → Appends a b xs → Appends b c ys → Appends a c (xs ++ ys)
appends_then None b c xs ys h k = tt
appends_then (Some s) None c xs ys h k = absurd h
appends_then (Some s) (Some t) None xs ys h k = absurd k
appends_then (Some s) (Some t) (Some u) xs ys h k = k ∙ ap (λ (l : List ℕ). l ++ ys) h ∙ append_assoc s xs ys

pub appends_kept : (a b c : Option (List ℕ)) (xs : List ℕ) → Appends a b xs → Keeps b c → Appends a c xs
appends_kept None b c xs h k = tt
appends_kept (Some s) None c xs h k = absurd h
appends_kept (Some s) (Some t) None xs h k = absurd k
appends_kept (Some s) (Some t) (Some u) xs h k = k ∙ h

-- a front of the whole is written, and this is left
pub record IsSoFar (old now : Option (List ℕ)) (whole left : List ℕ) : Type 0 where
  pub front : List ℕ
  pub written : Appends old now front
  pub whole_is : whole ≡ front ++ left

pub so_far_begin : (old now : Option (List ℕ)) (whole xs left : List ℕ) → Appends old now xs → whole ≡ xs ++ left → IsSoFar old now whole left
so_far_begin old now whole xs left h e = record { front = xs; written = h; whole_is = e }

pub so_far_more : (old mid now : Option (List ℕ)) (whole left xs rest : List ℕ) → IsSoFar old mid whole left → Appends mid now xs → left ≡ xs ++ rest → IsSoFar old now whole rest
so_far_more old mid now whole left xs rest s h e = record {
  front = s.front ++ xs;
  written = appends_then old mid now s.front xs s.written h;
  whole_is = s.whole_is ∙ ap (λ (l : List ℕ). s.front ++ l) e ∙ sym (append_assoc s.front xs rest);
}

pub so_far_end : (old mid now : Option (List ℕ)) (whole left : List ℕ) → IsSoFar old mid whole left → Appends mid now left → Appends old now whole
so_far_end None mid now whole left s h = tt
so_far_end (Some a) None now whole left s h = absurd s.written
so_far_end (Some a) (Some b) None whole left s h = absurd h
so_far_end (Some a) (Some b) (Some c) whole left s h = h ∙ ap (λ (l : List ℕ). l ++ left) s.written ∙ append_assoc a s.front left ∙ ap (λ (l : List ℕ). a ++ l) (sym s.whole_is)

-- a write that failed left a front of the whole
pub so_far_failed : (old mid now : Option (List ℕ)) (whole left xs rest : List ℕ) → IsSoFar old mid whole left → AppendsFront mid now xs → left ≡ xs ++ rest → AppendsFront old now whole
so_far_failed old mid now whole left xs rest s h e = (
  s.front ++ h.0,
  h.1 ++ rest,
  s.whole_is ∙ ap (λ (l : List ℕ). s.front ++ l) (e ∙ ap (λ (l : List ℕ). l ++ rest) h.2 ∙ append_assoc h.0 h.1 rest) ∙ sym (append_assoc s.front h.0 (h.1 ++ rest)),
  appends_then old mid now s.front h.0 s.written h.3,
)

-- what is left is written
pub so_far_written : {T E : Type 0} (old mid now : Option (List ℕ)) (whole left : List ℕ) (r : Result T E) → IsSoFar old mid whole left → Writes mid now left r → Writes old now whole r
so_far_written old mid now whole left (Ok x) s h = so_far_end old mid now whole left s h
so_far_written old mid now whole left (Err e) s h = so_far_failed old mid now whole left left [] s h (sym (append-nil left))

-- the first write failed
pub begin_failed : (old now : Option (List ℕ)) (whole xs left : List ℕ) → AppendsFront old now xs → whole ≡ xs ++ left → AppendsFront old now whole
begin_failed old now whole xs left h e = (h.0, h.1 ++ left, e ∙ ap (λ (l : List ℕ). l ++ left) h.2 ∙ append_assoc h.0 h.1 left, h.3)

-- all of it is a front of it
pub front_whole : (old now : Option (List ℕ)) (xs : List ℕ) → Appends old now xs → AppendsFront old now xs
front_whole old now xs h = (xs, [], sym (append-nil xs), h)

pub writes_as : {T E : Type 0} (old now : Option (List ℕ)) (xs ys : List ℕ) (r : Result T E) → xs ≡ ys → Writes old now xs r → Writes old now ys r
writes_as old now xs ys r e h = subst (λ (l : List ℕ). Writes old now l r) e h

pub so_far_as : (old now : Option (List ℕ)) (whole left rest : List ℕ) → IsSoFar old now whole left → left ≡ rest → IsSoFar old now whole rest
so_far_as old now whole left rest s e = subst (λ (l : List ℕ). IsSoFar old now whole l) e s

pub appends_as : (old new : Option (List ℕ)) (xs ys : List ℕ) → xs ≡ ys → Appends old new xs → Appends old new ys
appends_as old new xs ys e h = subst (λ (l : List ℕ). Appends old new l) e h

pub so_far_none : (a : Option (List ℕ)) (whole : List ℕ) → IsSoFar a a whole whole
so_far_none a whole = record { front = []; written = Appends-nil a; whole_is = refl }

pub so_far_kept : (old mid now : Option (List ℕ)) (whole left : List ℕ) → IsSoFar old mid whole left → Keeps mid now → IsSoFar old now whole left
so_far_kept old mid now whole left s k = record { front = s.front; written = appends_kept old mid now s.front s.written k; whole_is = s.whole_is }

pub so_far_front : (old now : Option (List ℕ)) (whole left : List ℕ) → IsSoFar old now whole left → AppendsFront old now whole
so_far_front old now whole left s = (s.front, left, s.whole_is, s.written)

pub so_far_all : (old now : Option (List ℕ)) (whole left : List ℕ) → IsSoFar old now whole left → left ≡ [] → Appends old now whole
so_far_all old now whole left s e = appends_as old now s.front whole (sym (append-nil s.front) ∙ ap (λ (l : List ℕ). s.front ++ l) (sym e) ∙ sym s.whole_is) s.written

-- one write takes a front of what is left, or nothing
pub so_far_taken : {E : Type 0} (old mid now : Option (List ℕ)) (whole left rest : List ℕ) (r : Result ℕ E) (n : ℕ) → IsSoFar old mid whole left → WriteAppends mid now r left → r ≡ Ok n → rest ≡ drop n left
    → IsSoFar old now whole rest
so_far_taken old mid now whole left rest (Ok m) n s h is e =
    let same : m ≡ n = cc in
    so_far_more old mid now whole left (take n left) rest s (subst (λ k. Appends mid now (take k left)) same h) (sym (take-append-drop n left) ∙ ap (λ (l : List ℕ). take n left ++ l) (sym e))
so_far_taken old mid now whole left rest (Err x) n s h is e = cc

pub so_far_refused : {E : Type 0} (old mid now : Option (List ℕ)) (whole left rest : List ℕ) (r : Result ℕ E) (x : E) → IsSoFar old mid whole left → WriteAppends mid now r left → r ≡ Err x → rest ≡ left
    → IsSoFar old now whole rest
so_far_refused old mid now whole left rest (Ok m) x s h is e = cc
so_far_refused old mid now whole left rest (Err y) x s h is e = so_far_as old now whole left rest (so_far_kept old mid now whole left s h) (sym e)

-- what is left after a front of it, as a slice of the rest has it
pub rest_of : (rest left : List ℕ) (n : ℕ) → rest ≡ take (length left - n) (drop n left) → rest ≡ drop n left
rest_of rest left n e = e ∙ take_all (length left - n) (drop n left) (let long = length-drop n left in omega (arith, long))

-- a write that failed
pub failed_as : {T E : Type 0} (old now : Option (List ℕ)) (whole : List ℕ) (r : Result T E) → IsErr r → AppendsFront old now whole → Writes old now whole r
failed_as old now whole (Ok y) is h = cc
failed_as old now whole (Err y) is h = h

-- all of it was written, whatever came after
pub writes_kept : {T E : Type 0} (old now : Option (List ℕ)) (whole : List ℕ) (r : Result T E) → Appends old now whole → Writes old now whole r
writes_kept old now whole (Ok x) h = h
writes_kept old now whole (Err x) h = front_whole old now whole h

pub front_as : (old now : Option (List ℕ)) (xs ys : List ℕ) → xs ≡ ys → AppendsFront old now xs → AppendsFront old now ys
front_as old now xs ys e h = subst (λ (l : List ℕ). AppendsFront old now l) e h

-- the first of two writes failed
pub so_far_first : (old mid now : Option (List ℕ)) (whole left xs ys rest : List ℕ) → IsSoFar old mid whole left → AppendsFront mid now xs → left ≡ xs ++ ys ++ rest → AppendsFront old now whole
so_far_first old mid now whole left xs ys rest s h e = so_far_failed old mid now whole left xs (ys ++ rest) s h (e ∙ append_assoc xs ys rest)

-- the second of two writes failed
pub so_far_second : (old mid next now : Option (List ℕ)) (whole left xs ys rest : List ℕ) → IsSoFar old mid whole left → Appends mid next xs → AppendsFront next now ys → left ≡ xs ++ ys ++ rest → AppendsFront old now whole
so_far_second old mid next now whole left xs ys rest s w h e =
    so_far_failed old next now whole (ys ++ rest) ys rest (so_far_more old mid next whole left xs (ys ++ rest) s w (e ∙ append_assoc xs ys rest)) h refl

-- a write behind others, one of which failed, or none
pub writes_then : {T E : Type 0} (a b c : Option (List ℕ)) (xs ys : List ℕ) (r : Result T E) → Appends a b xs → Writes b c ys r → Writes a c (xs ++ ys) r
writes_then a b c xs ys r h w = so_far_written a b c (xs ++ ys) ys r (so_far_begin a b (xs ++ ys) xs ys h refl) w

pub failed_then : (a b c : Option (List ℕ)) (xs ys : List ℕ) → Appends a b xs → AppendsFront b c ys → AppendsFront a c (xs ++ ys)
failed_then a b c xs ys h w = so_far_failed a b c (xs ++ ys) ys ys [] (so_far_begin a b (xs ++ ys) xs ys h refl) w (sym (append-nil ys))

-- a front of more
pub more_left : (a c : Option (List ℕ)) (xs ys : List ℕ) → AppendsFront a c xs → AppendsFront a c (xs ++ ys)
more_left a c xs ys h = begin_failed a c (xs ++ ys) xs ys h refl

-- where nothing was written, it is the empty front of any text
pub none_written : (old : Option (List ℕ)) (bytes : List ℕ) → AppendsFront old old bytes
none_written old bytes = ([], bytes, refl, Appends-nil old)
