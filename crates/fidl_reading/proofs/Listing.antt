-- Handles in a list, one by one.
use Rattle.std.proofs.Common.{◌≡◌, List, [], ◌∷◌, ◌++◌, Bool, true, false, sym, ap, subst, ◌∙◌}
use Rattle.std.proofs.lemmas.List.{append_assoc}
use Rattle.fidl_wire.specs.declared.handle.HandleInfo.{HandleInfo}
use Rattle.fidl_spelling.specs.Words.{Words}
use Rattle.fidl_spelling.specs.Spells.{The, ◌⨾◌, CommaIf, AHandle, Handles}
use Rattle.fidl_spelling.proofs.Det.{det_comma, det_handle}
use Rattle.fidl_reading.specs.Reads.{StandsNot, has_some, AHandleList}
use Rattle.fidl_reading.proofs.Leading.{Leads, leads_as, leads_all, leads_word, some_more}

-- handles up to the bracket that closes their list
abbrev pub HandlesLeft : (later : Bool) → List HandleInfo → Words → Words → Type 0
HandlesLeft later hs = Handles later hs ⨾ The "]"

-- what is left behind a handle
rest_of : (later : Bool) (to : Words) → StandsNot (The "]") to → (h : HandleInfo) (mid next : Words) → CommaIf later to mid → AHandle h mid next → (hs : List HandleInfo) (r : Words) → HandlesLeft later hs to r → (ks : List HandleInfo) × HandlesLeft true ks next r
rest_of later to going h mid next c a [] r p = absurd (going r (p.1 ∙ p.2))
rest_of later to going h mid next c a (k ∷ ks) r p =
    let same = det_comma later to mid p.1.0 c p.1.1 in
    let x = det_handle h k mid next p.1.2.0 a (subst (λ m. AHandle k m p.1.2.0) (sym same.1) p.1.2.1) in
    (ks, (p.0, subst (λ m. Handles true ks m p.0) (sym x.1) p.1.2.2, p.2))

module _ {U : Type 0} {Whole : U → Words → Words → Type 0} {from : Words} (later : Bool) (to : Words) (going : StandsNot (The "]") to) where
  -- a handle was read
  pub handle_read : (join : List HandleInfo → U) (h : HandleInfo) (mid next : Words) → Leads Whole from (HandlesLeft later) to join → CommaIf later to mid → AHandle h mid next → Leads Whole from (HandlesLeft true) next (λ hs. join (h ∷ hs))
  handle_read join h mid next n c a =
      record {
        narrows = record { narrow = λ u r p. let x = n.narrows.narrow u r p in rest_of later to going h mid next c a x.0 r x.1 };
        sound = λ hs r p. n.sound (h ∷ hs) r (p.0, (mid, c, (next, a, p.1)), p.2);
      }

  -- none can be read
  pub no_comma : (join : List HandleInfo → U) → Leads Whole from (HandlesLeft later) to join → StandsNot (CommaIf later) to → (u : U) → StandsNot (Whole u) from
  no_comma join n c u r p = let x = n.narrows.narrow u r p in go x.0 x.1
    where
      go : (hs : List HandleInfo) → HandlesLeft later hs to r → ⊥
      go [] q = going r (q.1 ∙ q.2)
      go (k ∷ ks) q = c q.1.0 q.1.1

  pub no_item : (join : List HandleInfo → U) (mid : Words) → Leads Whole from (HandlesLeft later) to join → CommaIf later to mid → ((h : HandleInfo) → StandsNot (AHandle h) mid) → (u : U) → StandsNot (Whole u) from
  no_item join mid n c a u r p = let x = n.narrows.narrow u r p in go x.0 x.1
    where
      go : (hs : List HandleInfo) → HandlesLeft later hs to r → ⊥
      go [] q = going r (q.1 ∙ q.2)
      go (k ∷ ks) q =
          let same = det_comma later to mid q.1.0 c q.1.1 in
          a k q.1.2.0 (subst (λ m. AHandle k m q.1.2.0) (sym same.1) q.1.2.1)

-- all were read
pub all_read : {U : Type 0} {Whole : U → Words → Words → Type 0} {from : Words} (later : Bool) (to rest : Words) (join : List HandleInfo → U) → Leads Whole from (HandlesLeft later) to join → The "]" to rest → Whole (join []) from rest
all_read later to rest join n e = n.sound [] rest (to, (λ i. to), e)

-- one more behind those that were read
pub one_more : {U : Type 0} {Whole : U → Words → Words → Type 0} {from : Words} (xs ys : List HandleInfo) (h : HandleInfo) (to mid next : Words) (join : List HandleInfo → U) → ys ≡ xs ++ h ∷ []
    → Leads Whole from (HandlesLeft (has_some xs)) to (λ hs. join (xs ++ hs)) → StandsNot (The "]") to → CommaIf (has_some xs) to mid → AHandle h mid next
    → Leads Whole from (HandlesLeft (has_some ys)) next (λ hs. join (ys ++ hs))
one_more {Whole = Whole} {from = from} xs ys h to mid next join e n going c a =
    subst (λ zs. Leads Whole from (HandlesLeft (has_some zs)) next (λ hs. join (zs ++ hs))) (sym e)
    (subst (λ b. Leads Whole from (HandlesLeft b) next (λ hs. join ((xs ++ h ∷ []) ++ hs))) (sym (some_more xs h))
    (leads_as (λ hs. join (xs ++ h ∷ hs)) (λ hs. join ((xs ++ h ∷ []) ++ hs)) (λ hs. ap join (sym (append_assoc xs (h ∷ []) hs))) (handle_read (has_some xs) to going (λ hs. join (xs ++ hs)) h mid next n c a)))

-- the bracket that opens the list was read
pub list_begun : (xs : List HandleInfo) (from to : Words) → xs ≡ [] → The "[" from to → Leads AHandleList from (HandlesLeft (has_some xs)) to (λ hs. xs ++ hs)
list_begun xs from to e p = subst (λ zs. Leads AHandleList from (HandlesLeft (has_some zs)) to (λ hs. zs ++ hs)) (sym e) (leads_word "[" (HandlesLeft false) from to (leads_all AHandleList from) p)
