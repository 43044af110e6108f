-- The replies of a script from the places of the next ones on, and what a call takes.
use Rattle.std.proofs.Common.{◌≡◌, ℕ, zero, suc, ◌+◌, ◌-◌, min, ◌<◌, ◌≤◌, List, [], ◌∷◌, length, get_or, set, drop, Bool, true, false, cond, inl, inr, arith, refl, sym, ap, ◌∙◌, add-one}
use Rattle.std.specs.Prelude.{◌==◌, replicate}
use Rattle.std.specs.List.{AllZip}
use Rattle.std.proofs.lemmas.Bool.{cases_lt}
use Rattle.std.proofs.lemmas.Grind.{common_steps}
use Rattle.std.proofs.lemmas.List.{drop_all}
use Rattle.std.proofs.Math.Seq.{drop-cons}
use Rattle.fidl_requests.specs.declared.verdict.Verdict.TheVariants.{Call}
use Rattle.fidl_script.specs.Script.{Body, Replies, Script, bodies_of}
use Rattle.fidl_serve.specs.Replying.{Answer, reply, frame_of, next_reply, answer_of, advanced_by, advanced, methods_after, script_after}
use Rattle.fidl_serve.specs.Cursors.{left_from, methods_from, left_of, ArePlaces, IsMethodPlace}

same : (m n : ℕ) → n ≡ m → (n == m) ≡ true
same m n h = grind (arith, common_steps)

not_same : (m n : ℕ) → (n ≡ m → ⊥) → (n == m) ≡ false
not_same m n h = grind (arith, common_steps)

when_true : {A : Type 0} (b : Bool) (x y : A) → b ≡ true → cond b x y ≡ x
when_true b x y e = rw e

when_false : {A : Type 0} (b : Bool) (x y : A) → b ≡ false → cond b x y ≡ y
when_false b x y e = rw e

-- a method's next place, where there is one, and the last one otherwise
pub advances : (r : Replies) (place : ℕ) → place + 1 < length (bodies_of r) → left_from r (place + 1) ≡ advanced (left_from r place)
advances r place h =
    let bs = bodies_of r in
    let e : drop (place + 1) bs ≡ get_or bs (place + 1) r.next ∷ drop (place + 1 + 1) bs = drop-cons bs (place + 1) r.next h ∙ ap (λ (n : ℕ). get_or bs (place + 1) r.next ∷ drop n bs) (sym (add-one (place + 1))) in
    ap (λ (l : List Body). advanced_by (record { ordinal = r.ordinal; flexible = r.flexible; next = get_or bs place r.next; later = drop (place + 1) bs }) l) (sym e)

pub stays : (r : Replies) (place : ℕ) → length (bodies_of r) ≤ place + 1 → left_from r place ≡ advanced (left_from r place)
stays r place h =
    let bs = bodies_of r in
    ap (λ (l : List Body). advanced_by (record { ordinal = r.ordinal; flexible = r.flexible; next = get_or bs place r.next; later = drop (place + 1) bs }) l) (sym (drop_all (place + 1) bs h))

-- the place that a call leaves
pub next_from : (r : Replies) (place next count : ℕ) → count ≡ length (bodies_of r) → place < count → next ≡ min (place + 1) (count - 1) → left_from r next ≡ advanced (left_from r place)
next_from r place next count long within is =
    elim (cases_lt (place + 1) count) [
      | inl more ↦ let e : next ≡ place + 1 = omega (arith, is, more) in ap (λ (n : ℕ). left_from r n) e ∙ advances r place (omega (arith, more, long))
      | inr last ↦ let e : next ≡ place = omega (arith, is, last, within) in ap (λ (n : ℕ). left_from r n) e ∙ stays r place (omega (arith, last, long))
    ]

-- the place of a method is within its replies
pub place_within : (rs : List Replies) (places : List ℕ) (k : ℕ) (d : Replies) → AllZip (λ (r : Replies) (place : ℕ). place ≤ length r.later) rs places → k < length rs → get_or places k 0 < length (bodies_of (get_or rs k d))
place_within [] [] k d z h = absurd (omega (arith, h))
place_within [] (c ∷ cs) k d z h = absurd z
place_within (r ∷ rs) [] k d z h = absurd z
place_within (r ∷ rs) (c ∷ cs) zero d z h = omega (arith, z.0)
place_within (r ∷ rs) (c ∷ cs) (suc k) d z h = place_within rs cs k d z.1 (omega (arith, h))

pub place_set : (rs : List Replies) (places : List ℕ) (k n : ℕ) (d : Replies) → AllZip (λ (r : Replies) (place : ℕ). place ≤ length r.later) rs places → n < length (bodies_of (get_or rs k d)) → k < length rs
    → AllZip (λ (r : Replies) (place : ℕ). place ≤ length r.later) rs (set places k n)
place_set [] [] k n d z w h = absurd (omega (arith, h))
place_set [] (c ∷ cs) k n d z w h = absurd z
place_set (r ∷ rs) [] k n d z w h = absurd z
place_set (r ∷ rs) (c ∷ cs) zero n d z w h = (omega (arith, w), z.1)
place_set (r ∷ rs) (c ∷ cs) (suc k) n d z w h = (z.0, place_set rs cs k n d z.1 w (omega (arith, h)))

pub places_long : (rs : List Replies) (places : List ℕ) → AllZip (λ (r : Replies) (place : ℕ). place ≤ length r.later) rs places → length places ≡ length rs
places_long [] [] z = refl
places_long [] (c ∷ cs) z = absurd z
places_long (r ∷ rs) [] z = absurd z
places_long (r ∷ rs) (c ∷ cs) z = let e = places_long rs cs z.1 in omega arith

behind : (ordinal k : ℕ) (r : Replies) (rs : List Replies) → IsMethodPlace ordinal (r ∷ rs) (suc k) → IsMethodPlace ordinal rs k
behind ordinal k r rs m = let within = m.within in record {
  within = omega arith;
  is = m.is;
  first = λ d i h. m.first d (suc i) (omega (arith, h));
}

-- the reply of a method at a place
abbrev pub reply_at : (txid ordinal : ℕ) → Replies → (place : ℕ) → Answer
reply_at txid ordinal r place = reply (frame_of (record { txid = txid; flexible = r.flexible; ordinal = ordinal }) (get_or (bodies_of r) place r.next))

next_is : (txid ordinal : ℕ) (rs : List Replies) (places : List ℕ) (k : ℕ) (d : Replies) → IsMethodPlace ordinal rs k → AllZip (λ (r : Replies) (place : ℕ). place ≤ length r.later) rs places
    → next_reply txid ordinal (methods_from rs places) ≡ reply_at txid ordinal (get_or rs k d) (get_or places k 0)
next_is txid ordinal [] [] k d m z = absurd (omega (arith, m.within))
next_is txid ordinal [] (c ∷ cs) k d m z = absurd z
next_is txid ordinal (r ∷ rs) [] k d m z = absurd z
next_is txid ordinal (r ∷ rs) (c ∷ cs) zero d m z = when_true _ _ _ (same ordinal r.ordinal (m.is d))
next_is txid ordinal (r ∷ rs) (c ∷ cs) (suc k) d m z = when_false _ _ _ (not_same ordinal r.ordinal (m.first d 0 (omega arith))) ∙ next_is txid ordinal rs cs k d (behind ordinal k r rs m) z.1

after_is : (ordinal : ℕ) (rs : List Replies) (places : List ℕ) (k n : ℕ) (d : Replies) → IsMethodPlace ordinal rs k → AllZip (λ (r : Replies) (place : ℕ). place ≤ length r.later) rs places
    → left_from (get_or rs k d) n ≡ advanced (left_from (get_or rs k d) (get_or places k 0)) → methods_from rs (set places k n) ≡ methods_after ordinal (methods_from rs places)
after_is ordinal [] [] k n d m z e = absurd (omega (arith, m.within))
after_is ordinal [] (c ∷ cs) k n d m z e = absurd z
after_is ordinal (r ∷ rs) [] k n d m z e = absurd z
after_is ordinal (r ∷ rs) (c ∷ cs) zero n d m z e = ap (λ (x : Replies). x ∷ methods_from rs cs) e ∙ sym (when_true _ _ _ (same ordinal r.ordinal (m.is d)))
after_is ordinal (r ∷ rs) (c ∷ cs) (suc k) n d m z e =
    ap (λ (l : List Replies). left_from r c ∷ l) (after_is ordinal rs cs k n d (behind ordinal k r rs m) z.1 e) ∙ sym (when_false _ _ _ (not_same ordinal r.ordinal (m.first d 0 (omega arith))))

-- at the start each method has all its replies
start_is : (rs : List Replies) → methods_from rs (replicate (length rs) 0) ≡ rs
start_is [] = refl
start_is (r ∷ rs) = ap (λ (l : List Replies). r ∷ l) (start_is rs)

pub starts : (s : Script) → left_of s (replicate (length s.methods) 0) ≡ s
unfolding left_of
starts s = ap (λ (l : List Replies). record { protocol = s.protocol; methods = l }) (start_is s.methods)

start_places : (rs : List Replies) → AllZip (λ (r : Replies) (place : ℕ). place ≤ length r.later) rs (replicate (length rs) 0)
start_places [] = tt
start_places (r ∷ rs) = (omega arith, start_places rs)

pub starts_within : (s : Script) → ArePlaces s (replicate (length s.methods) 0)
starts_within s = start_places s.methods

-- a call is replied to, and takes the reply
pub replies_to : (s : Script) (places : List ℕ) (txid ordinal k : ℕ) (d : Replies) → IsMethodPlace ordinal s.methods k → ArePlaces s places → answer_of (left_of s places) (Call txid ordinal) ≡ reply_at txid ordinal (get_or s.methods k d) (get_or places k 0)
unfolding answer_of left_of
replies_to s places txid ordinal k d m z = next_is txid ordinal s.methods places k d m z

pub takes_reply : (s : Script) (places : List ℕ) (txid ordinal k n : ℕ) (d : Replies) → IsMethodPlace ordinal s.methods k → ArePlaces s places → left_from (get_or s.methods k d) n ≡ advanced (left_from (get_or s.methods k d) (get_or places k 0))
    → left_of s (set places k n) ≡ script_after (left_of s places) (Call txid ordinal)
unfolding script_after left_of
takes_reply s places txid ordinal k n d m z e = ap (λ (l : List Replies). record { protocol = s.protocol; methods = l }) (after_is ordinal s.methods places k n d m z e)
