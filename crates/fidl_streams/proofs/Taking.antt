-- What a writer has taken after one write and then the next.
use Rattle.std.proofs.Common.{◌≡◌, ℕ, zero, suc, ◌+◌, ◌-◌, ◌<◌, ◌≤◌, ◌++◌, List, [], ◌∷◌, length, take, drop, take-append-drop, arith, refl, sym, ap, subst, ◌∙◌}
use Rattle.std.proofs.lemmas.Grind.{common_steps}
use Rattle.std.specs.Prelude.{◌==◌, cond, Option, Some, None, Result, Ok, Err, IsErr, true}
use Rattle.fidl_streams.specs.declared.Failed.{Failed}
use Rattle.std.specs.Io.KnownBytes.{Appends, Keeps, WriteAppends}
use Rattle.std.proofs.KnownBytes.{Appends-nil}
use Rattle.fidl_streams.specs.Counts.{add_count, count_when, is_refused}
use Rattle.fidl_streams.specs.Written.{Taken, Takes, TakesPart, Writes}
use mathlib.Core.List.{append_assoc}
use Rattle.std.proofs.lemmas.List.{append-nil, take_all, length-drop, length-append}

appends_both : (a b c : Option (List ℕ)) (xs ys : List ℕ) → Appends a b xs → Appends b c ys → Appends a c (xs ++ ys)
appends_both None b c xs ys h k = tt
appends_both (Some s) None c xs ys h k = absurd h
appends_both (Some s) (Some t) None xs ys h k = absurd k
appends_both (Some s) (Some t) (Some u) xs ys h k = k ∙ ap (λ (l : List ℕ). l ++ ys) h ∙ append_assoc s xs ys

pub appends_kept : (a b c : Option (List ℕ)) (xs : List ℕ) → Appends a b xs → Keeps b c → Appends a c xs
appends_kept None b c xs h k = tt
appends_kept (Some s) None c xs h k = absurd h
appends_kept (Some s) (Some t) None xs h k = absurd k
appends_kept (Some s) (Some t) (Some u) xs h k = k ∙ h

pub takes_then : (a b c : Taken) (xs ys : List ℕ) → Takes a b xs → Takes b c ys → Takes a c (xs ++ ys)
takes_then a b c xs ys h k = record {
  contents = appends_both a.contents b.contents c.contents xs ys h.contents k.contents;
  failures = k.failures ∙ h.failures;
}

pub takes_as : (a b : Taken) (xs ys : List ℕ) → xs ≡ ys → Takes a b xs → Takes a b ys
takes_as a b xs ys e h = subst (λ (l : List ℕ). Takes a b l) e h

pub front_as : (a b : Taken) (xs ys : List ℕ) → xs ≡ ys → TakesPart a b xs → TakesPart a b ys
front_as a b xs ys e h = subst (λ (l : List ℕ). TakesPart a b l) e h

-- nothing is written
pub takes_none : (a : Taken) → Takes a a []
takes_none a = record { contents = Appends-nil a.contents; failures = refl }

-- a front of the whole is taken, and this is left
pub record IsSoFar (old now : Taken) (whole left : List ℕ) : Type 0 where
  pub front : List ℕ
  pub taken : Takes old now front
  pub whole_is : whole ≡ front ++ left

pub so_far_begin : (old now : Taken) (whole xs left : List ℕ) → Takes old now xs → whole ≡ xs ++ left → IsSoFar old now whole left
so_far_begin old now whole xs left h e = record { front = xs; taken = h; whole_is = e }

pub so_far_none : (a : Taken) (whole : List ℕ) → IsSoFar a a whole whole
so_far_none a whole = record {
  front = [];
  taken = takes_none a;
  whole_is = refl;
}

pub so_far_more : (old mid now : Taken) (whole left xs rest : List ℕ) → IsSoFar old mid whole left → Takes mid now xs → left ≡ xs ++ rest → IsSoFar old now whole rest
so_far_more old mid now whole left xs rest s h e = record {
  front = s.front ++ xs;
  taken = takes_then old mid now s.front xs s.taken h;
  whole_is = s.whole_is ∙ ap (λ (l : List ℕ). s.front ++ l) e ∙ sym (append_assoc s.front xs rest);
}

pub so_far_as : (old now : Taken) (whole left rest : List ℕ) → IsSoFar old now whole left → left ≡ rest → IsSoFar old now whole rest
so_far_as old now whole left rest s e = subst (λ (l : List ℕ). IsSoFar old now whole l) e s

pub so_far_end : (old mid now : Taken) (whole left : List ℕ) → IsSoFar old mid whole left → Takes mid now left → Takes old now whole
so_far_end old mid now whole left s h = takes_as old now (s.front ++ left) whole (sym s.whole_is) (takes_then old mid now s.front left s.taken h)

pub so_far_all : (old now : Taken) (whole left : List ℕ) → IsSoFar old now whole left → left ≡ [] → Takes old now whole
so_far_all old now whole left s e =
    takes_as old now s.front whole (sym (append-nil s.front) ∙ ap (λ (l : List ℕ). s.front ++ l) (sym e) ∙ sym s.whole_is) s.taken

-- a write that failed left a part of the whole
pub so_far_failed : (old mid now : Taken) (whole left xs rest : List ℕ) → IsSoFar old mid whole left → TakesPart mid now xs → left ≡ xs ++ rest → TakesPart old now whole
so_far_failed old mid now whole left xs rest s h e = record {
  front = s.front ++ h.front;
  rest = h.rest ++ rest;
  whole = s.whole_is ∙ ap (λ (l : List ℕ). s.front ++ l) (e ∙ ap (λ (l : List ℕ). l ++ rest) h.whole ∙ append_assoc h.front h.rest rest) ∙ sym (append_assoc s.front h.front (h.rest ++ rest));
  left = omega (arith, length-append h.rest rest, h.left);
  contents = appends_both old.contents mid.contents now.contents s.front h.front s.taken.contents h.contents;
  failures = h.failures ∙ ap (λ n. add_count n 1) s.taken.failures;
}

-- what is left is written
pub so_far_written : {T E : Type 0} (old mid now : Taken) (whole left : List ℕ) (r : Result T E) → IsSoFar old mid whole left → Writes mid now left r → Writes old now whole r
so_far_written old mid now whole left (Ok x) s h = so_far_end old mid now whole left s h
so_far_written old mid now whole left (Err e) s h = so_far_failed old mid now whole left left [] s h (sym (append-nil left))

-- the first write failed
pub begin_failed : (old now : Taken) (whole xs left : List ℕ) → TakesPart old now xs → whole ≡ xs ++ left → TakesPart old now whole
begin_failed old now whole xs left h e = so_far_failed old old now whole whole xs left (so_far_none old whole) h e

-- the first of two writes failed
pub so_far_first : (old mid now : Taken) (whole left xs ys rest : List ℕ) → IsSoFar old mid whole left → TakesPart mid now xs → left ≡ xs ++ ys ++ rest → TakesPart old now whole
so_far_first old mid now whole left xs ys rest s h e = so_far_failed old mid now whole left xs (ys ++ rest) s h (e ∙ append_assoc xs ys rest)

-- the second of two writes failed
pub so_far_second : (old mid next now : Taken) (whole left xs ys rest : List ℕ) → IsSoFar old mid whole left → Takes mid next xs → TakesPart next now ys → left ≡ xs ++ ys ++ rest → TakesPart old now whole
so_far_second old mid next now whole left xs ys rest s w h e =
    so_far_failed old next now whole (ys ++ rest) ys rest (so_far_more old mid next whole left xs (ys ++ rest) s w (e ∙ append_assoc xs ys rest)) h refl

-- a write that failed
pub failed_as : {T E : Type 0} (old now : Taken) (whole : List ℕ) (r : Result T E) → IsErr r → TakesPart old now whole → Writes old now whole r
failed_as old now whole (Ok y) is h = cc
failed_as old now whole (Err y) is h = h

pub writes_as : {T E : Type 0} (old now : Taken) (xs ys : List ℕ) (r : Result T E) → xs ≡ ys → Writes old now xs r → Writes old now ys r
writes_as old now xs ys r e h = subst (λ (l : List ℕ). Writes old now l r) e h

-- a write behind others, one of which failed, or none
pub writes_then : {T E : Type 0} (a b c : Taken) (xs ys : List ℕ) (r : Result T E) → Takes a b xs → Writes b c ys r → Writes a c (xs ++ ys) r
writes_then a b c xs ys r h w = so_far_written a b c (xs ++ ys) ys r (so_far_begin a b (xs ++ ys) xs ys h refl) w

pub failed_then : (a b c : Taken) (xs ys : List ℕ) → Takes a b xs → TakesPart b c ys → TakesPart a c (xs ++ ys)
failed_then a b c xs ys h w = so_far_failed a b c (xs ++ ys) ys ys [] (so_far_begin a b (xs ++ ys) xs ys h refl) w (sym (append-nil ys))

-- a part of more
pub more_left : (a c : Taken) (xs ys : List ℕ) → TakesPart a c xs → TakesPart a c (xs ++ ys)
more_left a c xs ys h = begin_failed a c (xs ++ ys) xs ys h refl

-- what is left after a front of it, as a slice of the rest has it
pub rest_of : (rest left : List ℕ) (n : ℕ) → rest ≡ take (length left - n) (drop n left) → rest ≡ drop n left
rest_of rest left n e = e ∙ take_all (length left - n) (drop n left) (let long = length-drop n left in omega (arith, long))

not_none : (n a b : ℕ) → (n ≡ 0 → ⊥) → cond (n == 0) a b ≡ b
not_none n a b some = grind (arith, common_steps)

-- a write that took some bytes did not fail
not_refused : (before after n : ℕ) (bs : List ℕ) → (n ≡ 0 → ⊥) → after ≡ count_when before (is_refused {E = Failed} (Ok n) bs) → after ≡ before
not_refused before after n [] some h = h
not_refused before after n (b ∷ bs) some h = h ∙ not_none n _ before some

-- one write took a front of what is left
pub so_far_taken : (old mid now : Taken) (whole left rest : List ℕ) (n : ℕ) → IsSoFar old mid whole left → Appends mid.contents now.contents (take n left)
    → now.failures ≡ count_when mid.failures (is_refused {E = Failed} (Ok n) left) → (n ≡ 0 → ⊥) → rest ≡ take (length left - n) (drop n left)
    → IsSoFar old now whole rest
so_far_taken old mid now whole left rest n s h f some e =
    so_far_more old mid now whole left (take n left) rest s
    (record { contents = h; failures = not_refused mid.failures now.failures n left some f })
    (sym (take-append-drop n left) ∙ ap (λ (l : List ℕ). take n left ++ l) (sym (rest_of rest left n e)))
