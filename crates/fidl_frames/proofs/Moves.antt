-- What a source and a sink hold after one move and then the next.
use Rattle.std.proofs.Common.{◌≡◌, ℕ, ◌+◌, ◌-◌, ◌≤◌, ◌++◌, List, [], ◌∷◌, length, take, drop, take-append-drop, arith, refl, sym, ap, subst, ◌∙◌}
use Rattle.std.proofs.lemmas.Grind.{common_steps}
use Rattle.std.specs.Prelude.{◌==◌, cond, Option, Some, None, Ok}
use Rattle.std.specs.Io.KnownBytes.{Appends, Consumes, Keeps}
use Rattle.fidl_streams.specs.Counts.{add_count, count_when, is_refused}
use Rattle.fidl_streams.specs.declared.Failed.{Failed}
use mathlib.Core.List.{append_assoc}
use Rattle.std.proofs.lemmas.List.{take_all, length-drop, length-take, length-append, take-append-le}
use Rattle.std.proofs.Math.Seq.{take-append-add}
use borrow.Rule.Slice.PartMut.{put_mid, post_of}

pub consumes_none : (a : Option (List ℕ)) → Consumes a a []
consumes_none None = tt
consumes_none (Some s) = refl

pub consumes_then : (a b c : Option (List ℕ)) (xs ys : List ℕ) → Consumes a b xs → Consumes b c ys → Consumes a c (xs ++ ys)
consumes_then None b c xs ys h k = tt
consumes_then (Some s) None c xs ys h k = absurd h
consumes_then (Some s) (Some t) None xs ys h k = absurd k
consumes_then (Some s) (Some t) (Some u) xs ys h k = h ∙ ap (λ (l : List ℕ). xs ++ l) k ∙ sym (append_assoc xs ys u)

pub consumes_kept : (a b c : Option (List ℕ)) (xs : List ℕ) → Consumes a b xs → Keeps b c → Consumes a c xs
consumes_kept None b c xs h k = tt
consumes_kept (Some s) None c xs h k = absurd h
consumes_kept (Some s) (Some t) None xs h k = absurd k
consumes_kept (Some s) (Some t) (Some u) xs h k = h ∙ ap (λ (l : List ℕ). xs ++ l) (sym k)

pub appends_then : (a b c : Option (List ℕ)) (xs ys : List ℕ) → Appends a b xs → Appends b c ys → Appends a c (xs ++ ys)
appends_then None b c xs ys h k = tt
appends_then (Some s) None c xs ys h k = absurd h
appends_then (Some s) (Some t) None xs ys h k = absurd k
appends_then (Some s) (Some t) (Some u) xs ys h k = k ∙ ap (λ (l : List ℕ). l ++ ys) h ∙ append_assoc s xs ys

pub appends_kept : (a b c : Option (List ℕ)) (xs : List ℕ) → Appends a b xs → Keeps b c → Appends a c xs
appends_kept None b c xs h k = tt
appends_kept (Some s) None c xs h k = absurd h
appends_kept (Some s) (Some t) None xs h k = absurd k
appends_kept (Some s) (Some t) (Some u) xs h k = k ∙ h

-- what is left after a front of it, as a slice of the rest has it
pub rest_of : (rest left : List ℕ) (n : ℕ) → rest ≡ take (length left - n) (drop n left) → rest ≡ drop n left
rest_of rest left n e = e ∙ take_all (length left - n) (drop n left) (let long = length-drop n left in omega (arith, long))

-- a read put its bytes behind those that a buffer held
pub filled_more : (a b c : Option (List ℕ)) (count taken k : ℕ) (old part : List ℕ) → count ≤ length old → taken ≤ length part → Consumes a b (take count old) → Consumes b c (take taken part)
    → Consumes a c (take (count + taken) (put_mid count k old part))
filled_more a b c count taken k old part within room h more =
    let long : length (take count old) ≡ count = simp length-take (omega arith) in
    let e : take (count + taken) (put_mid count k old part) ≡ take count old ++ take taken part =
    ap (λ (n : ℕ). take (n + taken) (put_mid count k old part)) (sym long)
    ∙ take-append-add (take count old) (part ++ post_of count k old) taken
    ∙ ap (λ (l : List ℕ). take count old ++ l) (take-append-le taken part (post_of count k old) room) in
    subst (λ (l : List ℕ). Consumes a c l) (sym e) (consumes_then a b c (take count old) (take taken part) h more)

-- a write took a front of what was left
pub put_more : (old mid new : Option (List ℕ)) (whole left rest : List ℕ) (n : ℕ) → ((front : List ℕ) × (whole ≡ front ++ left) × Appends old mid front) → Appends mid new (take n left) → rest ≡ take (length left - n) (drop n left)
    → (front : List ℕ) × (whole ≡ front ++ rest) × Appends old new front
put_more old mid new whole left rest n h more e =
    let end : rest ≡ drop n left = rest_of rest left n e in (
      h.0 ++ take n left,
      h.1 ∙ ap (λ (l : List ℕ). h.0 ++ l) (sym (take-append-drop n left) ∙ ap (λ (l : List ℕ). take n left ++ l) (sym end)) ∙ sym (append_assoc h.0 (take n left) rest),
      appends_then old mid new h.0 (take n left) h.2 more,
    )

-- a buffer has room for the bytes that were read
pub filled_within : (count taken k : ℕ) (old part : List ℕ) → count ≤ length old → taken ≤ length part → count + taken ≤ length (put_mid count k old part)
filled_within count taken k old part within room =
    let long : length (take count old) ≡ count = simp length-take (omega arith) in
    omega (arith, length-append (take count old) (part ++ post_of count k old), length-append part (post_of count k old))

-- no read yet
pub counted_none : (reads left : ℕ) → reads ≡ add_count reads (left - left)
counted_none reads left = omega arith

-- one read more
pub counted_more : (start before after all left : ℕ) → left ≤ all → (left ≡ 0 → ⊥) → before ≡ add_count start (all - left) → after ≡ add_count before 1 → after ≡ add_count start (all - (left - 1))
counted_more start before after all left within some h k = omega arith

not_none : (n a b : ℕ) → (n ≡ 0 → ⊥) → cond (n == 0) a b ≡ b
not_none n a b some = grind (arith, common_steps)

-- a write that took some bytes is no failure
pub taken_some : (before after n : ℕ) (bs : List ℕ) → (n ≡ 0 → ⊥) → after ≡ count_when before (is_refused {E = Failed} (Ok n) bs) → after ≡ before
taken_some before after n [] some h = h
taken_some before after n (b ∷ bs) some h = h ∙ not_none n _ before some
