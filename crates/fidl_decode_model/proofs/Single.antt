-- One value of a type stands at a place of a message, and leads to one state; so does one member in an envelope.
use Rattle.std.proofs.Common.{◌≡◌, ℕ, suc, ◌+◌, ◌-◌, ◌^◌, ◌<◌, List, [], ◌∷◌, ◌++◌, length, get_or, drop, nat_le, Option, Some, None, refl, sym, ap, subst, ◌∙◌, arith, inl, inr, add-one, drop-cons}
use Rattle.std.proofs.lemmas.List.{length-drop}
use Rattle.std.proofs.lemmas.Option.{slice_get-get_or, slice_get_within}
use Rattle.fidl_wire.specs.declared.handle.HandleInfo.{HandleInfo}
use Rattle.fidl_wire.specs.Value.{Value}
use Rattle.fidl_wire.specs.Term.{Term, IsBounded, resolve}
use Rattle.fidl_wire.specs.Figure.{Declarations, IsSound, size_of}
use Rattle.fidl_wire.specs.Encoding.{encoding_of}
use Rattle.fidl_wire.specs.Standing.{Stands, Carries}
use Rattle.fidl_wire.proofs.Sizes.{length-inline}
use Rattle.fidl_wire.proofs.Unique.{only, bounded-resolve}
use Rattle.fidl_decode_model.specs.State.{Message, Position, member_at, begun, after, ValueAt}
use Rattle.fidl_decode_model.specs.Envelopes.{Contained, Miscounts, depth_within}
use Rattle.fidl_decode_model.specs.Faults.{IsWithin}
use Rattle.fidl_decode_model.proofs.Enclosed.{known_content, unknown_led}

-- ---- what stands at a place

same_stand : (m : List ℕ) (p : ℕ) (a b : List ℕ) → length a ≡ length b → Stands m p a → Stands m p b → a ≡ b
same_stand m p [] [] e h k = refl
same_stand m p (x ∷ a) (y ∷ b) e h k =
    let is : x ≡ y = sym h.1 ∙ k.1 in
    let rest = same_stand m (p + 1) a b (omega (arith, e)) h.2 k.2 in
    λ i. is i ∷ rest i
same_stand m p [] (y ∷ b) e h k = absurd (omega (arith, e))
same_stand m p (x ∷ a) [] e h k = absurd (omega (arith, e))

-- it is the front of what is left from there
front_of : (m : List ℕ) (p : ℕ) (a : List ℕ) → Stands m p a → a ++ drop (p + length a) m ≡ drop p m
front_of m p [] h = let e : p + 0 ≡ p = omega arith in ap (λ n. drop n m) e
front_of m p (x ∷ a) h =
    let more = front_of m (p + 1) a h.2 in
    let there : p + length (x ∷ a) ≡ p + 1 + length a = omega arith in
    let one : x ∷ drop (p + 1) m ≡ drop p m = ap (λ n. x ∷ drop n m) (add-one p) ∙ sym (ap (λ y. y ∷ drop (suc p) m) h.1) ∙ sym (drop-cons m p 0 h.0) in
    ap (λ n. x ∷ (a ++ drop n m)) there ∙ ap (λ l. x ∷ l) more ∙ one

pub same_some : {A : Type 0} (a b : A) → Some a ≡ Some b → a ≡ b
same_some a b e = cc

front_of_handles : (hs : List HandleInfo) (p : ℕ) (a : List HandleInfo) → Carries hs p a → a ++ drop (p + length a) hs ≡ drop p hs
front_of_handles hs p [] h = let e : p + 0 ≡ p = omega arith in ap (λ n. drop n hs) e
front_of_handles hs p (x ∷ a) h =
    let more = front_of_handles hs (p + 1) a h.1 in
    let there : p + length (x ∷ a) ≡ p + 1 + length a = omega arith in
    let lt = slice_get_within hs p x h.0 in
    let is : get_or hs p x ≡ x = same_some _ _ (sym (slice_get-get_or hs p x lt) ∙ h.0) in
    let one : x ∷ drop (p + 1) hs ≡ drop p hs = ap (λ n. x ∷ drop n hs) (add-one p) ∙ sym (ap (λ y. y ∷ drop (suc p) hs) is) ∙ sym (drop-cons hs p x lt) in
    ap (λ n. x ∷ (a ++ drop n hs)) there ∙ ap (λ l. x ∷ l) more ∙ one

-- ---- one value of a type stands at a place, and leads to one state

pub item_unique : (ds : Declarations) → IsSound ds → (m : Message) → length m.bytes < 2 ^ 32 → length m.handles < 2 ^ 16 → (held held' : ℕ) (t : Term) → IsBounded t → (place : ℕ) (from to to' : Position)
    → ValueAt ds m held t place from to → ValueAt ds m held' t place from to' → to ≡ to'
item_unique ds sound m short few held held' t g place from to to' x y =
    let a = encoding_of ds t x.value in
    let b = encoding_of ds t y.value in
    let same = length-inline ds sound.laid_out t x.value x.typed ∙ sym (length-inline ds sound.laid_out t y.value y.typed) in
    let inline = same_stand m.bytes place a.inline b.inline same x.stands.inline y.stands.inline in
    let out_a = front_of m.bytes from.next a.out x.stands.out in
    let out_b = front_of m.bytes from.next b.out y.stands.out in
    let handles_a = front_of_handles m.handles from.handle a.handles x.stands.carried in
    let handles_b = front_of_handles m.handles from.handle b.handles y.stands.carried in
    let small : length (a.out ++ drop (from.next + length a.out) m.bytes) < 2 ^ 32 = subst (λ (l : List ℕ). length l < 2 ^ 32) (sym out_a) (omega (arith, length-drop from.next m.bytes)) in
    let fewer : length (a.handles ++ drop (from.handle + length a.handles) m.handles) < 2 ^ 16 = subst (λ (l : List HandleInfo). length l < 2 ^ 16) (sym handles_a) (omega (arith, length-drop from.handle m.handles)) in
    let one = (only ds sound t x.value g x.typed y.value y.typed _ _ _ _ inline (out_a ∙ sym out_b) (handles_a ∙ sym handles_b) small fewer).0 in
    x.end ∙ ap (λ (v : Value). after ds t v place from) one ∙ sym y.end

-- ---- one member is in an envelope

pub short_message : (m : Message) → IsWithin m.bytes m.handles → length m.bytes < 2 ^ 32
short_message m within = let s = within.0 in omega arith

pub few_handles : (m : Message) → IsWithin m.bytes m.handles → length m.handles < 2 ^ 16
few_handles m within = let s = within.1 in omega arith

-- the type of a member, if any, has bounds of 32 bits
abbrev pub IsBoundedIf : Option Term → Type 0
IsBoundedIf None = Unit {0}
IsBoundedIf (Some t) = IsBounded t

module _ (ds : Declarations) (sound : IsSound ds) (m : Message) (within : IsWithin m.bytes m.handles) where
  pub contained_unique : (held held' : ℕ) (t : Option Term) → IsBoundedIf t → (p : ℕ) (from to to' : Position) → Contained ds m held t p from to → Contained ds m held' t p from to' → to ≡ to'
  contained_unique held held' (Some t) g p from to to' x y =
      let inline = nat_le (size_of ds t) 4 in
      let a = known_content ds sound.laid_out m within held t p from inline refl to x in
      let b = known_content ds sound.laid_out m within held' t p from inline refl to' y in
      item_unique ds sound m (short_message m within) (few_handles m within) (depth_within inline held) (depth_within inline held') (resolve ds.terms t) (bounded-resolve ds.terms t sound.bounded g)
      (member_at inline p from) (begun inline p (size_of ds t) from) to to' a.item b.item
  contained_unique held held' None g p from to to' x y =
      elim (unknown_led ds sound.laid_out m within held None p from to refl x) [
        | inl a ↦ elim (unknown_led ds sound.laid_out m within held' None p from to' refl y) [
          | inl b ↦ a.1 ∙ sym b.1
          | inr b ↦ absurd (omega (arith, a.0, b.0))
        ]
        | inr a ↦ elim (unknown_led ds sound.laid_out m within held' None p from to' refl y) [
          | inl b ↦ absurd (omega (arith, a.0, b.0))
          | inr b ↦ a.1 ∙ sym b.1
        ]
      ]

  -- a member whose envelope counts what it does not have is not in that
  pub miscounts_excluded : (held : ℕ) (t : Term) → IsBounded t → (p : ℕ) (from to : Position) → Miscounts ds m held t p from → Contained ds m held (Some t) p from to → ⊥
  miscounts_excluded held t g p from to wrong x =
      let inline = nat_le (size_of ds t) 4 in
      let a = known_content ds sound.laid_out m within held t p from inline refl to x in
      let same = item_unique ds sound m (short_message m within) (few_handles m within) (depth_within inline held) (depth_within inline held) (resolve ds.terms t) (bounded-resolve ds.terms t sound.bounded g)
      (member_at inline p from) (begun inline p (size_of ds t) from) to wrong.0 a.item wrong.1 in
      elim wrong.2 [
        | inl h ↦ h (a.handles ∙ ap (λ (s : Position). s.handle - from.handle) same)
        | inr b ↦ b.1 (a.bytes b.0 ∙ ap (λ (s : Position). s.next - from.next) same)
      ]
