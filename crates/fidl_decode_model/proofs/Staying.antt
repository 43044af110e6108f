-- A value that is read changes only cells whose bytes lie wholly in its own bytes, or in those of
-- the objects behind it.
use Rattle.std.proofs.Common.{◌≡◌, ◌≢◌, ℕ, ◌+◌, ◌*◌, ◌/◌, ◌%◌, ◌<◌, ◌≤◌, ◌⊎◌, inl, inr, Bool, true, false, nat_le, Option, Some, None, length, get_or, refl, sym, ap, subst, ◌∙◌, arith, mul-suc, get_or-set_other, zero-add}
use Rattle.std.specs.Int.{next_multiple_of}
use Rattle.fidl_wire.specs.Value.{Value, absent, bool, number, text, list, fields, handle, table, union, Values, none, value, count, Member, known, unknown, Members, empty, member}
use Rattle.fidl_wire.specs.Term.{Term, Fields, no_fields, field, Rows, nothing, resolve, fields_of, find, IsNoName}
use Rattle.fidl_wire.specs.Term as ty
use Rattle.fidl_wire.specs.Figure.{Declarations, figure_of, end_of, align_of, size_of, IsLaidOut}
use Rattle.fidl_wire.specs.Typed.{IsTyped, AllTyped, EachTyped, IsTypedMember, RiseTyped}
use Rattle.fidl_wire.specs.Encoding.{elements, members}
use Rattle.fidl_wire.proofs.Sizes.{size_of-resolve, length-elements, length-members, end_of-le, le-next_multiple_of, le_of_test}
use Rattle.fidl_decode_model.specs.State.{Message, Position, taken, passed, opened, linked, member_at, begun, envelope_place, after, after_elements, after_fields, after_member, after_envelopes}
use Rattle.fidl_decode_model.specs.Frontier.{IsFree, IsOutside, Stays, IsAhead, IsEven}
use Rattle.fidl_decode_model.proofs.Keeping.{ends_behind}
use Rattle.fidl_decode_model.proofs.Aligned.{even_eights, even_eights_fields, even_after, even_first, even_rest, even_resolve}

-- nothing changes
pub stays_all : (a b c d : ℕ) (s : Position) → Stays a b c d s s
stays_all a b c d s = record { objects = λ i x y. refl; records = λ j x y. refl; grows = omega arith }

-- one after the other, over the same ranges
pub stays_both : (a b c d : ℕ) (s mid r : Position) → Stays a b c d s mid → Stays a b c d mid r → Stays a b c d s r
stays_both a b c d s mid r h g = record {
  objects = λ i x y. g.objects i x y ∙ h.objects i x y;
  records = λ j x y. g.records j x y ∙ h.records j x y;
  grows = omega (arith, h.grows, g.grows);
}

pub stays_wider : (a b c d e f g i : ℕ) (s r : Position) → ((k n : ℕ) → IsOutside k n e f → IsOutside k n g i → IsOutside k n a b × IsOutside k n c d) → Stays a b c d s r → Stays e f g i s r
stays_wider a b c d e f g i s r out h = record {
  objects = λ k x y. h.objects k (out (8 * k) 8 x y).0 (out (8 * k) 8 x y).1;
  records = λ k x y. h.records k (out (4 * k) 4 x y).0 (out (4 * k) 4 x y).1;
  grows = h.grows;
}

-- a byte outside of both ranges stays free
pub free_still : (a b c d : ℕ) (s r : Position) → Stays a b c d s r → (k : ℕ) → (k < a) ⊎ (b ≤ k) → (k < c) ⊎ (d ≤ k) → IsFree s k → IsFree r k
free_still a b c d s r h k x y f = (
  h.objects (k / 8) (λ p q. no a b x (omega (arith, p)) (omega (arith, q))) (λ p q. no c d y (omega (arith, p)) (omega (arith, q))) ∙ f.0,
  h.records (k / 4) (λ p q. no a b x (omega (arith, p)) (omega (arith, q))) (λ p q. no c d y (omega (arith, p)) (omega (arith, q))) ∙ f.1,
)
  where
    no : (a b : ℕ) → (k < a) ⊎ (b ≤ k) → a ≤ k → k < b → ⊥
    no a b (inl lt) p q = omega (arith, lt, p)
    no a b (inr ge) p q = omega (arith, ge, q)

-- what lies ahead stays free
pub ahead_still : (m : Message) (a b : ℕ) (s r : Position) → Stays a b s.next r.next s r → b ≤ s.next → r.next % 8 ≡ 0 → IsAhead m s → IsAhead m r
ahead_still m a b s r h le even ahead = record {
  even = even;
  free = λ k x y. free_still a b s.next r.next s r h k (inr (omega (arith, x, le, h.grows))) (inr x) (ahead.free k (omega (arith, x, h.grows)) y);
}

pub stays_linked : (a b c d marker n : ℕ) (s : Position) → a ≤ marker → marker + 8 ≤ b → marker % 8 ≡ 0 → Stays a b c d s (linked marker n s)
stays_linked a b c d marker n s le room even = record {
  objects = λ i x y. get_or-set_other s.objects (marker / 8) i s.next 0 (other i x);
  records = λ j x y. refl;
  grows = omega arith;
}
  where
    other : (i : ℕ) → IsOutside (8 * i) 8 a b → i ≢ marker / 8
    other i x e = x (omega arith) (omega arith)

pub stays_taken : (place c d : ℕ) (s : Position) → place % 4 ≡ 0 → Stays place (place + 4) c d s (taken place s)
stays_taken place c d s even = record {
  objects = λ i x y. refl;
  records = λ j x y. get_or-set_other s.records (place / 4) j (s.handle + 1) 0 (other j x);
  grows = omega arith;
}
  where
    other : (j : ℕ) → IsOutside (4 * j) 4 place (place + 4) → j ≢ place / 4
    other j x e = x (omega arith) (omega arith)

pub stays_opened : (place c d : ℕ) (s : Position) → place % 8 ≡ 0 → Stays place (place + 8) c d s (opened place s)
stays_opened place c d s even = record {
  objects = λ i x y. refl;
  records = λ j x y. get_or-set_other s.records ((place + 4) / 4) j (s.handle + 1) 0 (other j x);
  grows = omega arith;
}
  where
    other : (j : ℕ) → IsOutside (4 * j) 4 place (place + 8) → j ≢ (place + 4) / 4
    other j x e = x (omega arith) (omega arith)

pub stays_begun : (inline : Bool) (place size c d : ℕ) (s : Position) → place % 8 ≡ 0 → Stays place (place + 8) c d s (begun inline place size s)
stays_begun true place size c d s even = stays_opened place c d s even
stays_begun false place size c d s even = stays_both _ _ _ _ s (opened place s) (begun false place size s) (stays_opened place c d s even) (stays_linked place (place + 8) c d place size (opened place s) (omega arith) (omega arith) even)

pub next_begun : (inline : Bool) (place size : ℕ) (s : Position) → s.next % 8 ≡ 0 → (begun inline place size s).next % 8 ≡ 0
next_begun true place size s even = even
next_begun false place size s even = omega arith

stays_passed : (a b c d n : ℕ) (s r : Position) → Stays a b c d s r → Stays a b c d s (passed n r)
stays_passed a b c d n s r h = record { objects = h.objects; records = h.records; grows = h.grows }

pub even_member_at : (inline : Bool) (place : ℕ) (s : Position) → place % 8 ≡ 0 → s.next % 8 ≡ 0 → member_at inline place s % 8 ≡ 0
even_member_at true place s h g = h
even_member_at false place s h g = g

-- a member of this size, in its envelope or as the next object
stays_member_at : (size place : ℕ) (s r : Position) → place % 8 ≡ 0 → Stays (member_at (nat_le size 4) place s) (member_at (nat_le size 4) place s + size) (begun (nat_le size 4) place size s).next r.next (begun (nat_le size 4) place size s) r
    → Stays place (place + 8) s.next r.next s r
stays_member_at size place s r even = go (nat_le size 4) refl
  where
    go : (b : Bool) → nat_le size 4 ≡ b → Stays (member_at b place s) (member_at b place s + size) (begun b place size s).next r.next (begun b place size s) r → Stays place (place + 8) s.next r.next s r
    go true e h =
        let small = le_of_test size e in
        stays_both _ _ _ _ s (opened place s) r
        (stays_opened place s.next r.next s even)
        (stays_wider place (place + size) s.next r.next place (place + 8) s.next r.next (opened place s) r (λ k i x y. ((λ p q. x (omega arith) (omega arith)), y)) h)
    go false e h =
        let mid = begun false place size s in
        let grows = h.grows in
        let up = le-next_multiple_of size 8 in
        stays_both _ _ _ _ s mid r
        (stays_begun false place size s.next r.next s even)
        (stays_wider s.next (s.next + size) mid.next r.next place (place + 8) s.next r.next mid r (λ k i x y. ((λ p q. y (omega arith) (omega arith)), (λ p q. y (omega arith) (omega arith)))) h)

module _ (ds : Declarations) (laid : IsLaidOut ds) (named : (i : ℕ) → IsNoName (get_or ds.terms i nothing)) where
  mutual
    -- a value at a place
    pub stays : (t : Term) (v : Value) (place : ℕ) (s : Position) → IsTyped ds t v → s.next % 8 ≡ 0 → IsEven ds t place → Stays place (place + size_of ds t) s.next (after ds t v place s).next s (after ds t v place s) × ((after ds t v place s).next % 8 ≡ 0)
    stays t absent place s h next even = (stays_all _ _ _ _ s, next)
    stays t (bool b) place s h next even = (stays_all _ _ _ _ s, next)
    stays t (number z) place s h next even = (stays_all _ _ _ _ s, next)
    stays (ty.handle optional subtype rights) (handle i) place s h next even = (stays_taken place _ _ s even, next)
    stays (ty.string optional bound) (text bytes) place s h next even = (stays_linked _ _ _ _ (place + 8) (length bytes) s (omega arith) (omega arith) (omega arith), omega arith)
    stays (ty.vector optional bound t) (list vs) place s h next even =
        let u = resolve ds.terms t in
        let size = size_of ds t in
        let n = length (elements ds u vs).inline in
        let same = size_of-resolve ds laid t in
        let mid = linked (place + 8) n s in
        let r = after_elements ds u size vs s.next mid in
        let len : n ≡ size * count vs = length-elements ds laid u vs h.1 ∙ ap (λ k. k * count vs) same in
        let on : mid.next % 8 ≡ 0 = omega arith in
        let more = stays_elements u size (sym same) vs s.next mid h.1 on (even_eights ds laid named u s.next next) in
        let grows = more.0.grows in
        let up = le-next_multiple_of n 8 in (
          stays_both _ _ _ _ s mid r
              (stays_linked place (place + 16) s.next r.next (place + 8) n s (omega arith) (omega arith) (omega arith))
              (stays_wider s.next (s.next + size * count vs) mid.next r.next place (place + 16) s.next r.next mid r (λ k i x y. ((λ p q. y (omega arith) (omega arith)), (λ p q. y (omega arith) (omega arith)))) more.0),
          more.1,
        )
    stays (ty.array t n) (list vs) place s h next even =
        let same = size_of-resolve ds laid t in
        let size = size_of ds t in
        let r = after ds (ty.array t n) (list vs) place s in
        let more = stays_elements (resolve ds.terms t) size (sym same) vs place s h.1 next (even_resolve ds laid named t place even) in
        (subst (λ k. Stays place (place + size * k) s.next r.next s r) h.0 more.0, more.1)
    stays (ty.struct fs) (fields vs) place s h next even =
        let size = size_of ds (ty.struct fs) in
        let r = after ds (ty.struct fs) (fields vs) place s in
        let more = stays_fields fs size 0 place vs s (end_of-le ds fs) h next even in
        (stays_wider (place + 0) (place + size) s.next r.next place (place + size) s.next r.next s r (λ k i x y. ((λ p q. x (omega arith) (omega arith)), y)) more.0, more.1)
    stays (ty.box t) (fields vs) place s h next even =
        let fs = fields_of (resolve ds.terms t) in
        let size = size_of ds (ty.struct fs) in
        let n = length (members ds size 0 fs vs).inline in
        let len : n ≡ size = sym (zero-add _) ∙ length-members ds laid fs size 0 vs (end_of-le ds fs) h.1 in
        let mid = linked place n s in
        let r = after_fields ds fs 0 vs s.next mid in
        let on : mid.next % 8 ≡ 0 = omega arith in
        let more = stays_fields fs size 0 s.next vs mid (end_of-le ds fs) h.1 on (even_eights_fields ds laid named fs s.next next) in
        let grows = more.0.grows in
        let up = le-next_multiple_of n 8 in (
          stays_both _ _ _ _ s mid r
              (stays_linked place (place + 8) s.next r.next place n s (omega arith) (omega arith) even)
              (stays_wider (s.next + 0) (s.next + size) mid.next r.next place (place + 8) s.next r.next mid r (λ k i x y. ((λ p q. y (omega arith) (omega arith)), (λ p q. y (omega arith) (omega arith)))) more.0),
          more.1,
        )
    stays (ty.table rows) (table n ms) place s h next even =
        let mid = linked (place + 8) (8 * n) s in
        let r = after_envelopes ds rows ms s.next mid in
        let on : mid.next % 8 ≡ 0 = omega arith in
        let more = stays_envelopes rows 0 n s.next ms mid h.1 on next in
        let grows = more.0.grows in
        let up = le-next_multiple_of (8 * n) 8 in (
          stays_both _ _ _ _ s mid r
              (stays_linked place (place + 16) s.next r.next (place + 8) (8 * n) s (omega arith) (omega arith) (omega arith))
              (stays_wider (s.next + 8 * 0) (s.next + 8 * n) mid.next r.next place (place + 16) s.next r.next mid r (λ k i x y. ((λ p q. y (omega arith) (omega arith)), (λ p q. y (omega arith) (omega arith)))) more.0),
          more.1,
        )
    stays (ty.union optional strict rows) (union ordinal x) place s h next even =
        let r = after_member ds (find rows ordinal) x (place + 8) s in
        let more = stays_member strict (find rows ordinal) x (place + 8) s h.2 next (omega arith) in
        (stays_wider (place + 8) (place + 8 + 8) s.next r.next place (place + 16) s.next r.next s r (λ k i x y. ((λ p q. x (omega arith) (omega arith)), y)) more.0, more.1)
    stays _ _ place s h next even = absurd h

    -- elements behind one another, the first at a place
    pub stays_elements : (u : Term) (size : ℕ) → size ≡ size_of ds u → (vs : Values) (place : ℕ) (s : Position) → AllTyped ds u vs → s.next % 8 ≡ 0 → IsEven ds u place
        → Stays place (place + size * count vs) s.next (after_elements ds u size vs place s).next s (after_elements ds u size vs place s) × ((after_elements ds u size vs place s).next % 8 ≡ 0)
    stays_elements u size same none place s h next even = (stays_all _ _ _ _ s, next)
    stays_elements u size same (value v vs) place s h next even =
        let mid = after ds u v place s in
        let r = after_elements ds u size vs (place + size) mid in
        let more = mul-suc size (count vs) in
        let one = stays u v place s h.0 next even in
        let two = stays_elements u size same vs (place + size) mid h.1 one.1 (subst (λ k. IsEven ds u (place + k)) (sym same) (even_after ds laid named u place even)) in
        let up = one.0.grows in
        let on = two.0.grows in (
          stays_both _ _ _ _ s mid r
              (stays_wider place (place + size_of ds u) s.next mid.next place (place + size * count (value v vs)) s.next r.next s mid (λ k i x y. ((λ p q. x (omega arith) (omega arith)), (λ p q. y (omega arith) (omega arith)))) one.0)
              (stays_wider (place + size) (place + size + size * count vs) mid.next r.next place (place + size * count (value v vs)) s.next r.next mid r (λ k i x y. ((λ p q. x (omega arith) (omega arith)), (λ p q. y (omega arith) (omega arith)))) two.0),
          two.1,
        )

    -- fields behind `from`, in a struct at a base
    pub stays_fields : (fs : Fields) (size from base : ℕ) (vs : Values) (s : Position) → end_of ds.figures from fs ≤ size → EachTyped ds fs vs → s.next % 8 ≡ 0 → base % align_of ds.figures fs ≡ 0
        → Stays (base + from) (base + size) s.next (after_fields ds fs from vs base s).next s (after_fields ds fs from vs base s) × ((after_fields ds fs from vs base s).next % 8 ≡ 0)
    stays_fields no_fields size from base none s le h next even = (stays_all _ _ _ _ s, next)
    stays_fields (field name t fs) size from base (value v vs) s le h next even =
        let f = figure_of ds.figures t in
        let at = next_multiple_of from f.align in
        let u = resolve ds.terms t in
        let same = size_of-resolve ds laid t in
        let mid = after ds u v (base + at) s in
        let r = after_fields ds fs (at + f.size) vs base mid in
        let up = le-next_multiple_of from f.align in
        let fit = ends_behind ds fs (at + f.size) in
        let one = stays u v (base + at) s h.0 next (even_resolve ds laid named t (base + at) (even_first ds laid named name t fs from base even)) in
        let two = stays_fields fs size (at + f.size) base vs mid le h.1 one.1 (even_rest ds laid named name t fs base even) in
        let grows = one.0.grows in
        let on = two.0.grows in (
          stays_both _ _ _ _ s mid r
              (stays_wider (base + at) (base + at + size_of ds u) s.next mid.next (base + from) (base + size) s.next r.next s mid (λ k i x y. ((λ p q. x (omega arith) (omega arith)), (λ p q. y (omega arith) (omega arith)))) one.0)
              (stays_wider (base + (at + f.size)) (base + size) mid.next r.next (base + from) (base + size) s.next r.next mid r (λ k i x y. ((λ p q. x (omega arith) (omega arith)), (λ p q. y (omega arith) (omega arith)))) two.0),
          two.1,
        )
    stays_fields _ size from base _ s le h next even = absurd h

    -- an envelope at a place
    pub stays_member : (strict : Bool) (o : Option Term) (x : Member) (place : ℕ) (s : Position) → IsTypedMember ds strict o x → s.next % 8 ≡ 0 → place % 8 ≡ 0
        → Stays place (place + 8) s.next (after_member ds o x place s).next s (after_member ds o x place s) × ((after_member ds o x place s).next % 8 ≡ 0)
    stays_member strict (Some t) (known v) place s h next even =
        let u = resolve ds.terms t in
        let size = size_of ds t in
        let at = member_at (nat_le size 4) place s in
        let mid = begun (nat_le size 4) place size s in
        let r = after ds u v at mid in
        let more = stays u v at mid h (next_begun (nat_le size 4) place size s next) (even_eights ds laid named u at (even_member_at (nat_le size 4) place s even next)) in
        (stays_member_at size place s r even (subst (λ k. Stays at (at + k) mid.next r.next mid r) (size_of-resolve ds laid t) more.0), more.1)
    stays_member strict None (unknown inline bytes handles) place s h next even = (
      stays_passed _ _ _ _ (length handles) s (begun inline place (length bytes) s) (stays_begun inline place (length bytes) s.next (begun inline place (length bytes) s).next s even),
      next_begun inline place (length bytes) s next,
    )
    stays_member strict _ _ place s h next even = absurd h

    -- the envelopes behind `last`
    pub stays_envelopes : (rows : Rows) (last n base : ℕ) (ms : Members) (s : Position) → RiseTyped ds rows last n ms → s.next % 8 ≡ 0 → base % 8 ≡ 0
        → Stays (base + 8 * last) (base + 8 * n) s.next (after_envelopes ds rows ms base s).next s (after_envelopes ds rows ms base s) × ((after_envelopes ds rows ms base s).next % 8 ≡ 0)
    stays_envelopes rows last n base empty s h next even = (stays_all _ _ _ _ s, next)
    stays_envelopes rows last n base (member ordinal x ms) s h next even =
        let at = envelope_place base ordinal in
        let mid = after_member ds (find rows ordinal) x at s in
        let r = after_envelopes ds rows ms base mid in
        let one = stays_member false (find rows ordinal) x at s h.2 next (omega arith) in
        let two = stays_envelopes rows ordinal n base ms mid h.3 one.1 even in
        let above = h.0 in
        let within = h.1 in
        let up = one.0.grows in
        let on = two.0.grows in (
          stays_both _ _ _ _ s mid r
              (stays_wider at (at + 8) s.next mid.next (base + 8 * last) (base + 8 * n) s.next r.next s mid (λ k i x y. ((λ p q. x (omega arith) (omega arith)), (λ p q. y (omega arith) (omega arith)))) one.0)
              (stays_wider (base + 8 * ordinal) (base + 8 * n) mid.next r.next (base + 8 * last) (base + 8 * n) s.next r.next mid r (λ k i x y. ((λ p q. x (omega arith) (omega arith)), (λ p q. y (omega arith) (omega arith)))) two.0),
          two.1,
        )
