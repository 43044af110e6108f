-- The reply to a call, and the place that it leaves.
use Rattle.std.proofs.Common.{◌≡◌, ℕ, ◌+◌, ◌-◌, min, ◌<◌, List, length, get_or, set, arith, sym, ap, subst, ◌∙◌}
use Rattle.std.specs.List.{AllByRecursion}
use Rattle.fidl_requests.specs.declared.verdict.Verdict.TheVariants.{Call}
use Rattle.fidl_script.specs.Script.{Replies, Script, bodies_of}
use Rattle.fidl_serve.specs.Replying.{reply, frame_of, answer_of, script_after, advanced}
use Rattle.fidl_serve.specs.Cursors.{left_from, left_of, ArePlaces, IsMethodPlace, Fits, AreReady}
use Rattle.fidl_serve.proofs.Places.{next_from, place_within, place_set, places_long, reply_at, replies_to, takes_reply}
use Rattle.fidl_serve.proofs.Ready.{at_place}

-- a method of the script was found, and its replies were read
pub record IsFound (s : Script) (places : List ℕ) (ordinal k : ℕ) (rs : List Replies) (r : Replies) : Type 0 where
  pub same : rs ≡ s.methods
  pub places_are : ArePlaces s places
  pub place : IsMethodPlace ordinal rs k
  pub is : r ≡ get_or rs k r

module _ (s : Script) (places : List ℕ) (ordinal k : ℕ) (rs : List Replies) (r : Replies) (f : IsFound s places ordinal k rs r) where
  here : IsMethodPlace ordinal s.methods k
  here = subst (λ (l : List Replies). IsMethodPlace ordinal l k) f.same f.place

  read : get_or s.methods k r ≡ r
  read = sym (f.is ∙ ap (λ (l : List Replies). get_or l k r) f.same)

  pub ordinal_is : r.ordinal ≡ ordinal
  ordinal_is = sym (ap (λ (x : Replies). x.ordinal) read) ∙ here.is r

  pub call_within : k < length places
  call_within = subst (λ (n : ℕ). k < n) (sym (places_long s.methods places f.places_are)) here.within

  pub call_place : get_or places k 0 < length (bodies_of r)
  call_place = subst (λ (x : Replies). get_or places k 0 < length (bodies_of x)) read (place_within s.methods places k r f.places_are here.within)

  pub call_fits : AreReady s.methods → AllByRecursion Fits (bodies_of r)
  call_fits ready = subst (λ (x : Replies). AllByRecursion Fits (bodies_of x)) read (at_place (λ (x : Replies). AllByRecursion Fits (bodies_of x)) s.methods k r ready.fit here.within)

  pub call_replies : (txid : ℕ) (all : List ℕ) → all ≡ frame_of (record { txid = txid; flexible = r.flexible; ordinal = r.ordinal }) (get_or (bodies_of r) (get_or places k 0) r.next)
      → answer_of (left_of s places) (Call txid ordinal) ≡ reply all
  call_replies txid all e =
      replies_to s places txid ordinal k r here f.places_are
      ∙ ap (λ (x : Replies). reply_at txid ordinal x (get_or places k 0)) read
      ∙ ap (λ (o : ℕ). reply (frame_of (record { txid = txid; flexible = r.flexible; ordinal = o }) (get_or (bodies_of r) (get_or places k 0) r.next))) (sym ordinal_is)
      ∙ ap (λ (l : List ℕ). reply l) (sym e)

  module _ (next count : ℕ) (long : count ≡ length (bodies_of r)) (is : next ≡ min (get_or places k 0 + 1) (count - 1)) where
    advanced_is : left_from (get_or s.methods k r) next ≡ advanced (left_from (get_or s.methods k r) (get_or places k 0))
    advanced_is =
        subst (λ (x : Replies). left_from x next ≡ advanced (left_from x (get_or places k 0))) (sym read)
        (next_from r (get_or places k 0) next count long (subst (λ (n : ℕ). get_or places k 0 < n) (sym long) call_place) is)

    pub call_takes : (txid : ℕ) → left_of s (set places k next) ≡ script_after (left_of s places) (Call txid ordinal)
    call_takes txid = takes_reply s places txid ordinal k next r here f.places_are advanced_is

    next_within : next < length (bodies_of (get_or s.methods k r))
    next_within = subst (λ (x : Replies). next < length (bodies_of x)) (sym read) (omega (arith, is, long, call_place))

    pub call_places : ArePlaces s (set places k next)
    call_places = place_set s.methods places k next r f.places_are next_within here.within
