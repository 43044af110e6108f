-- What is held of the replies of all lines.
use Rattle.std.proofs.Common.{◌≡◌, ◌<◌, ◌≤◌, ◌+◌, ◌==◌, ℕ, zero, suc, Bool, true, false, not, cond, if◌then◌else◌, List, [], ◌∷◌, ◌++◌, length, map, get_or, drop, refl, sym, ap, subst, ◌∙◌, arith, inl, inr, length-append}
use Rattle.std.specs.List.{All, AllByRecursion, AllPairs, AllZip, Contains, filter}
use Rattle.std.specs.Prelude.{Option, Some, None}
use Rattle.std.proofs.lemmas.Bool.{eqb-true, cases_order}
use Rattle.std.proofs.lemmas.List.{get_or_default}
use Rattle.std.proofs.Math.ListN.{get_or-map, length-map, get_or-append}
use Rattle.std.proofs.Math.Seq.{get_or-append_seam}
use Rattle.std.specs.Global.{Vec}
use Rattle.fidl_encode.specs.declared.message.Message.{Message}
use Rattle.std.proofs.lemmas.List.Elements.{All-contains, All-from_recursion, Contains-append_right}
use Rattle.std.proofs.lemmas.List.Kept.{AllPairs-cons}
use Rattle.fidl_table_format.specs.Method.{is_strict}
use Rattle.fidl_verify.specs.Lookups.{TableProtocol, IsProtocolOfTable, protocol_record, response_of}
use Rattle.fidl_verify.specs.declared.method.Payload.{Payload}
use Rattle.fidl_verify.specs.declared.method.Payload.TheVariants.{Missing, Empty, Entry}
use Rattle.fidl_script.specs.Lines.{Line}
use Rattle.fidl_script.specs.Script.{Body, Replies, empty_body, bodies_of, IsReplyOf, method_of, has_both, IsTwoWay, AreRepliesOf}
use Rattle.fidl_script.specs.Text.{Reply, IsReply, GivesBody, replies_with}
use Rattle.fidl_script.specs.Held.{bodies_view, replies_of}
use Rattle.fidl_script.specs.Faults.{LacksReply}
use Rattle.fidl_script.specs.Collected.{places_view, AreCollected, held_from, HaveBodies, LacksBody, IsHeld, AreGiven}
use Rattle.fidl_script.proofs.Rising.{rises, one_place}

-- a body that the words of a line give is one that the payload has
gives_reply : (table : List ℕ) (payload : Payload) (text : Option (List ℕ)) (body : Body) → GivesBody table payload text body → IsReplyOf table payload body
gives_reply table Missing None body h = absurd h
gives_reply table Missing (Some text) body h = absurd h
gives_reply table Empty None body h = h
gives_reply table Empty (Some text) body h = absurd h
gives_reply table (Entry e) None body h = absurd h
gives_reply table (Entry e) (Some text) body h = ((h.value, h.has.encodes), h.has.short)

-- what a front or a whole has
if_all : {X : Type 0} (P : X → Type 0) (t : Bool) (x : X) (xs : List X) → (t ≡ true → P x) → AllByRecursion P xs → AllByRecursion P (if t then x ∷ xs else xs)
if_all P true x xs h all = (h refl, all)
if_all P false x xs h all = all

if_push : {X : Type 0} (t : Bool) (x : X) (xs ys zs : List X) → xs ≡ ys ++ zs → (if t then x ∷ xs else xs) ≡ (if t then x ∷ ys else ys) ++ zs
if_push true x xs ys zs e = ap (λ l. x ∷ l) e
if_push false x xs ys zs e = e

if_pairs : {X : Type 0} (R : X → X → Type 0) (t : Bool) (x : X) (xs : List X) → All (R x) xs → AllPairs R xs → AllPairs R (if t then x ∷ xs else xs)
if_pairs R true x xs h all = AllPairs-cons R x xs h all
if_pairs R false x xs h all = all

if_first : {X : Type 0} (t : Bool) (x : X) (xs : List X) → t ≡ true → Contains (if t then x ∷ xs else xs) x
if_first true x xs e = (0, omega arith, refl)
if_first false x xs e = absurd (cc e)

if_later : {X : Type 0} (t : Bool) (x : X) (xs : List X) (y : X) → Contains xs y → Contains (if t then x ∷ xs else xs) y
if_later true x xs y h = Contains-append_right (x ∷ []) xs y h
if_later false x xs y h = h

mapped : (P : Body → Type 0) (t : Bool) (r : Reply) (rs : List Reply) → (t ≡ true → P r.body) → AllByRecursion P (map (λ (q : Reply). q.body) rs) → AllByRecursion P (map (λ (q : Reply). q.body) (cond t (r ∷ rs) rs))
mapped P true r rs h all = (h refl, all)
mapped P false r rs h all = all

-- bodies, of which there is one at least
pub whole : (bodies : List Body) → 0 < length bodies → get_or bodies 0 empty_body ∷ drop 1 bodies ≡ bodies
whole [] some = absurd (omega (arith, some))
whole (b ∷ bodies) some = refl

module _ (p : TableProtocol) where
  -- the replies of the method at a place
  abbrev pub held_at : (place : ℕ) → List Body → Replies
  held_at place bodies = replies_of (method_of p place).ordinal (not (is_strict (method_of p place))) bodies

  -- the methods of one place more
  pub held_push : (places : List (List Body)) (k n : ℕ) (bodies : List Body) → n ≡ k + length places
      → held_from p k (places ++ bodies ∷ []) ≡ held_from p k places ++ (if has_both (method_of p n) then held_at n bodies ∷ [] else [])
  held_push [] k n bodies e =
      let same : k ≡ n = omega (arith, e) in
      ap (λ j. if has_both (method_of p j) then held_at j bodies ∷ [] else []) same
  held_push (x ∷ places) k n bodies e =
      if_push (has_both (method_of p k)) (held_at k x) (held_from p (suc k) (places ++ bodies ∷ [])) (held_from p (suc k) places) _ (held_push places (suc k) n bodies (omega (arith, e)))

  -- what each place keeps
  abbrev Each : (P : ℕ → List Body → Type 0) → (k : ℕ) → List (List Body) → Type 0
  Each P k [] = Unit {0}
  Each P k (x ∷ xs) = P k x × Each P (suc k) xs

  each : (P : ℕ → List Body → Type 0) (k : ℕ) (xs : List (List Body)) → ((i n : ℕ) → i < length xs → n ≡ k + i → P n (get_or xs i [])) → Each P k xs
  each P k [] h = tt
  each P k (x ∷ xs) h = (h 0 k (omega arith) (omega arith), each P (suc k) xs (λ i n less e. h (suc i) n (omega (arith, less)) (omega (arith, e))))

  held_all : (Q : Replies → Type 0) (k : ℕ) (xs : List (List Body)) → Each (λ n bodies. has_both (method_of p n) ≡ true → Q (held_at n bodies)) k xs → AllByRecursion Q (held_from p k xs)
  held_all Q k [] h = tt
  held_all Q k (x ∷ xs) h = if_all Q (has_both (method_of p k)) (held_at k x) (held_from p (suc k) xs) h.0 (held_all Q (suc k) xs h.1)

  held_has : (k i n : ℕ) (xs : List (List Body)) → i < length xs → n ≡ k + i → has_both (method_of p n) ≡ true → Contains (held_from p k xs) (held_at n (get_or xs i []))
  held_has k i n [] less e has = absurd (omega (arith, less))
  held_has k zero n (x ∷ xs) less e has =
      let same : k ≡ n = omega (arith, e) in
      subst (λ j. has_both (method_of p j) ≡ true → Contains (held_from p k (x ∷ xs)) (held_at j x)) same (if_first (has_both (method_of p k)) (held_at k x) (held_from p (suc k) xs)) has
  held_has k (suc i) n (x ∷ xs) less e has =
      if_later (has_both (method_of p k)) (held_at k x) (held_from p (suc k) xs) (held_at n (get_or xs i [])) (held_has (suc k) i n xs (omega (arith, less)) (omega (arith, e)) has)

  module _ (is : IsProtocolOfTable p) where
    held_rise : (k : ℕ) (xs : List (List Body)) → k + length xs ≤ (protocol_record p).methods → AllPairs (λ (r q : Replies). r.ordinal < q.ordinal) (held_from p k xs)
    held_rise k [] within = λ i j d less in'. absurd (omega (arith, in'))
    held_rise k (x ∷ xs) within =
        if_pairs (λ (r q : Replies). r.ordinal < q.ordinal) (has_both (method_of p k)) (held_at k x) (held_from p (suc k) xs)
        (All-from_recursion (λ (q : Replies). (method_of p k).ordinal < q.ordinal) (held_from p (suc k) xs)
        (held_all (λ (q : Replies). (method_of p k).ordinal < q.ordinal) (suc k) xs
        (each _ (suc k) xs (λ i n less e has. rises p is k n (omega (arith, e)) (omega (arith, e, less, within))))))
        (held_rise (suc k) xs (omega (arith, within)))

    -- the replies of a method are bodies of its payload
    reply_bodies : (place : ℕ) → place < (protocol_record p).methods → (lines : List Line) (replies : List Reply) → AllZip (IsReply p) lines replies
        → AllByRecursion (IsReplyOf p.table (response_of (method_of p place))) (replies_with (method_of p place).ordinal replies)
    reply_bodies place within [] [] are = tt
    reply_bodies place within [] (r ∷ replies) are = absurd are
    reply_bodies place within (line ∷ lines) [] are = absurd are
    reply_bodies place within (line ∷ lines) (r ∷ replies) are =
        mapped (IsReplyOf p.table (response_of (method_of p place))) (r.ordinal == (method_of p place).ordinal) r (filter (λ (q : Reply). q.ordinal == (method_of p place).ordinal) replies)
        (λ e. of_it (eqb-true r.ordinal (method_of p place).ordinal e)) (reply_bodies place within lines replies are.1)
      where
        of_it : r.ordinal ≡ (method_of p place).ordinal → IsReplyOf p.table (response_of (method_of p place)) r.body
        of_it e =
            let h = are.0 in
            let same : h.place ≡ place = one_place p is h.place place h.means.two_way.within within (sym h.ordinal ∙ e) in
            gives_reply p.table (response_of (method_of p place)) h.text r.body (subst (λ n. GivesBody p.table (response_of (method_of p n)) h.text r.body) same h.body)

    module _ (lines : List Line) (places : List (List Body)) (collected : AreCollected p lines places) (some : HaveBodies p places) where
      two_way : (place i : ℕ) → i < length places → place ≡ 0 + i → has_both (method_of p place) ≡ true → IsTwoWay p place
      two_way place i less e has = record { within = omega (arith, less, e, collected.long); messages = has }

      bodies_at : (place i : ℕ) → i < length places → place ≡ 0 + i → get_or places i [] ≡ replies_with (method_of p place).ordinal collected.replies
      bodies_at place i less e =
          let same : place ≡ i = omega (arith, e) in
          ap (λ n. get_or places n []) (sym same) ∙ collected.bodies place (omega (arith, less, e, collected.long))

      some_at : (place i : ℕ) → i < length places → place ≡ 0 + i → has_both (method_of p place) ≡ true → 0 < length (get_or places i [])
      some_at place i less e has =
          let same : place ≡ i = omega (arith, e) in
          subst (λ n. 0 < length (get_or places n [])) same (some place (omega (arith, less, e)) (two_way place i less e has))

      all_of : (place i : ℕ) → i < length places → place ≡ 0 + i → has_both (method_of p place) ≡ true → bodies_of (held_at place (get_or places i [])) ≡ replies_with (method_of p place).ordinal collected.replies
      all_of place i less e has = whole (get_or places i []) (some_at place i less e has) ∙ bodies_at place i less e

      are_replies : (place i : ℕ) → i < length places → place ≡ 0 + i → has_both (method_of p place) ≡ true → AreRepliesOf p place (held_at place (get_or places i []))
      are_replies place i less e has =
          let way = two_way place i less e has in
          record {
            two_way = way;
            ordinal = refl;
            flexible = refl;
            bodies = subst (AllByRecursion (IsReplyOf p.table (response_of (method_of p place)))) (sym (all_of place i less e has)) (reply_bodies place way.within lines collected.replies collected.are);
          }

      all_sound : AllByRecursion (λ r. (place : ℕ) × AreRepliesOf p place r) (held_from p 0 places)
      all_sound = held_all (λ r. (place : ℕ) × AreRepliesOf p place r) 0 places (each _ 0 places (λ i n less e has. (n, are_replies n i less e has)))

      given_held : AreGiven p lines (held_from p 0 places)
      given_held = record {
        replies = collected.replies;
        are = collected.are;
        held = held_all (λ (m : Replies). bodies_of m ≡ replies_with m.ordinal collected.replies) 0 places (each _ 0 places (λ i n less e has. all_of n i less e has));
        sound = λ r h. All-contains (λ r. (place : ℕ) × AreRepliesOf p place r) (held_from p 0 places) r (All-from_recursion (λ r. (place : ℕ) × AreRepliesOf p place r) (held_from p 0 places) all_sound) h;
        complete = λ place way. (
            let less : place < length places = omega (arith, way.within, collected.long) in
            let e : place ≡ 0 + place = omega arith in
            (held_at place (get_or places place []), held_has 0 place place places less e way.messages, are_replies place place less e way.messages)
            );
        rise = held_rise 0 places (omega (arith, collected.long));
      }

    -- what is held is what the lines give
    pub given : (lines : List Line) (places : List (List Body)) (held : List Replies) → AreCollected p lines places → IsHeld p places held → AreGiven p lines held
    given lines places held collected h = subst (AreGiven p lines) (sym h.is) (given_held lines places collected h.some)

-- the methods of no places
pub none_held : (p : TableProtocol) → HaveBodies p []
none_held p place less way = absurd (omega (arith, less))

module _ (p : TableProtocol) (places : List (List Body)) (bodies : List Body) where
  -- one place more
  pub held_more : (held new : List Replies) (place : ℕ) → place ≡ length places → held ≡ held_from p 0 places → new ≡ held ++ held_from p place (bodies ∷ []) → new ≡ held_from p 0 (places ++ bodies ∷ [])
  held_more held new place at is e = e ∙ ap (λ l. l ++ held_from p place (bodies ∷ [])) is ∙ sym (held_push p places 0 place bodies (omega (arith, at)))

  pub have_more : (place : ℕ) → place ≡ length places → HaveBodies p places → (IsTwoWay p place → 0 < length bodies) → HaveBodies p (places ++ bodies ∷ [])
  have_more place at before some k less way =
      elim (cases_order k (length places)) [
        | inl same ↦
            let here : get_or (places ++ bodies ∷ []) k [] ≡ bodies = ap (λ n. get_or (places ++ bodies ∷ []) n []) same ∙ get_or-append_seam places bodies [] [] in
            subst (λ l. 0 < length l) (sym here) (some (subst (IsTwoWay p) (same ∙ sym at) way))
        | inr (inl down) ↦ subst (λ l. 0 < length l) (sym (get_or-append places (bodies ∷ []) [] k down)) (before k down way)
        | inr (inr up) ↦ absurd (omega (arith, up, less, length-append places (bodies ∷ [])))
      ]

-- a place without a method is that of a one-way one
pub one_way : (p : TableProtocol) (place : ℕ) (bodies : List Body) → place < (protocol_record p).methods → ¬ (IsTwoWay p place) → held_from p place (bodies ∷ []) ≡ []
one_way p place bodies within none = go (has_both (method_of p place)) refl
  where
    go : (t : Bool) → has_both (method_of p place) ≡ t → held_from p place (bodies ∷ []) ≡ []
    go true e = absurd (none (record { within = within; messages = e }))
    go false e = ap (λ t. if t then held_at p place bodies ∷ [] else []) e

pub two_way_held : (p : TableProtocol) (place : ℕ) (bodies : List Body) → IsTwoWay p place → held_from p place (bodies ∷ []) ≡ held_at p place bodies ∷ []
two_way_held p place bodies way = ap (λ t. if t then held_at p place bodies ∷ [] else []) way.messages

-- a place without bodies
pub lacks_at : (p : TableProtocol) (ms : List (Vec Message)) (place : ℕ) (m : Vec Message) → place < length ms → m ≡ get_or ms place m → IsTwoWay p place → m.items ≡ [] → LacksBody p (places_view ms)
lacks_at p ms place m less at way none =
    let here : get_or (places_view ms) place [] ≡ bodies_view m.items =
    get_or_default (places_view ms) place [] (bodies_view m.items) (omega (arith, less, length-map ms (λ (v : Vec Message). bodies_view v.items)))
    ∙ get_or-map (λ (v : Vec Message). bodies_view v.items) ms place m ∙ ap (λ (v : Vec Message). bodies_view v.items) (sym at) in
    (place, way, here ∙ ap bodies_view none)

pub lacks_here : (p : TableProtocol) (ms : List (Vec Message)) (n place : ℕ) (m : Vec Message) → place ≡ n → n < length ms → m ≡ get_or ms n m → IsTwoWay p place → m.items ≡ [] → LacksBody p (places_view ms)
lacks_here p ms n place m e less at way none = lacks_at p ms n m less at (subst (IsTwoWay p) e way) none

-- the methods of all lines, or one that lacks a reply
pub lacks_reply : (p : TableProtocol) (lines : List Line) (places : List (List Body)) → AreCollected p lines places → LacksBody p places → LacksReply p lines
lacks_reply p lines places collected h = record {
  replies = collected.replies;
  are = collected.are;
  place = h.0;
  two_way = h.1;
  none = sym (collected.bodies h.0 h.1.within) ∙ h.2;
}

-- no items
pub nothing_in : {A : Type 0} (items : List A) (n : ℕ) → n ≡ length items → (n == 0) ≡ true → items ≡ []
nothing_in [] n e zero' = refl
nothing_in (x ∷ items) n e zero' = let none : n ≡ 0 = eqb-true n 0 zero' in absurd (omega (arith, e, none))
