-- What a value links lies in its own bytes, and in those of the objects behind it.
use Rattle.std.proofs.Common.{◌≡◌, ◌≢◌, ℕ, ◌+◌, ◌*◌, ◌/◌, ◌<◌, ◌≤◌, Bool, true, false, nat_le, Option, Some, None, length, get_or, refl, sym, ap, subst, ◌∙◌, arith, mul-suc, get_or-set_other, length-set, zero-add}
use Rattle.std.specs.Int.{next_multiple_of}
use Rattle.fidl_wire.specs.Value.{Value, absent, bool, number, text, list, fields, handle, table, union, Values, none, value, count, Member, known, unknown, Members, empty, member}
use Rattle.fidl_wire.specs.Term.{Term, Fields, no_fields, field, Rows, resolve, fields_of, find}
use Rattle.fidl_wire.specs.Term as ty
use Rattle.fidl_wire.specs.Figure.{Declarations, figure_of, end_of, size_of, IsLaidOut}
use Rattle.fidl_wire.specs.Typed.{IsTyped, AllTyped, EachTyped, IsTypedMember, RiseTyped}
use Rattle.fidl_wire.specs.Encoding.{elements, members}
use Rattle.fidl_wire.proofs.Sizes.{size_of-resolve, length-elements, length-members, end_of-le, le-next_multiple_of, le_of_test}
use Rattle.fidl_decode_model.specs.State.{Position, taken, passed, opened, linked, member_at, begun, envelope_place, after, after_elements, after_fields, after_member, after_envelopes}

-- n bytes at k don't meet the bytes from a up to b
abbrev pub Apart : (k n a b : ℕ) → Type 0
Apart k n a b = k < b → a < k + n → ⊥

-- from one state to another the cells stay of all places outside two ranges
pub record Keeps (a b c d : ℕ) (s r : Position) : Type 0 where
  pub objects : (k : ℕ) → Apart k 8 a b → Apart k 8 c d → get_or r.objects (k / 8) 0 ≡ get_or s.objects (k / 8) 0
  pub records : (k : ℕ) → Apart k 4 a b → Apart k 4 c d → get_or r.records (k / 4) 0 ≡ get_or s.records (k / 4) 0
  pub as_many : length r.objects ≡ length s.objects
  pub as_many_records : length r.records ≡ length s.records
  pub grows : s.next ≤ r.next

keeps_all : (a b c d : ℕ) (s : Position) → Keeps a b c d s s
keeps_all a b c d s = record { objects = λ k x y. refl; records = λ k x y. refl; as_many = refl; as_many_records = refl; grows = omega arith }

keeps_both : (a b c d : ℕ) (s mid r : Position) → Keeps a b c d s mid → Keeps a b c d mid r → Keeps a b c d s r
keeps_both a b c d s mid r h g = record {
  objects = λ k x y. g.objects k x y ∙ h.objects k x y;
  records = λ k x y. g.records k x y ∙ h.records k x y;
  as_many = g.as_many ∙ h.as_many;
  as_many_records = g.as_many_records ∙ h.as_many_records;
  grows = (let one = h.grows in let two = g.grows in omega arith);
}

keeps_wider : (a b c d e f g i : ℕ) (s r : Position) → ((k n : ℕ) → Apart k n e f → Apart k n g i → Apart k n a b × Apart k n c d) → Keeps a b c d s r → Keeps e f g i s r
keeps_wider a b c d e f g i s r out h = record {
  objects = λ k x y. h.objects k (out k 8 x y).0 (out k 8 x y).1;
  records = λ k x y. h.records k (out k 4 x y).0 (out k 4 x y).1;
  as_many = h.as_many;
  as_many_records = h.as_many_records;
  grows = h.grows;
}

keeps_linked : (a b c d marker n : ℕ) (s : Position) → a ≤ marker → marker + 8 ≤ b → Keeps a b c d s (linked marker n s)
keeps_linked a b c d marker n s le room = record {
  objects = λ k x y. get_or-set_other s.objects (marker / 8) (k / 8) s.next 0 (other k x);
  records = λ k x y. refl;
  as_many = length-set s.objects (marker / 8) s.next;
  as_many_records = refl;
  grows = omega arith;
}
  where
    other : (k : ℕ) → Apart k 8 a b → k / 8 ≢ marker / 8
    other k x e = x (omega arith) (omega arith)

keeps_taken : (place c d : ℕ) (s : Position) → Keeps place (place + 4) c d s (taken place s)
keeps_taken place c d s = record {
  objects = λ k x y. refl;
  records = λ k x y. get_or-set_other s.records (place / 4) (k / 4) (s.handle + 1) 0 (other k x);
  as_many = refl;
  as_many_records = length-set s.records (place / 4) (s.handle + 1);
  grows = omega arith;
}
  where
    other : (k : ℕ) → Apart k 4 place (place + 4) → k / 4 ≢ place / 4
    other k x e = x (omega arith) (omega arith)

-- the cell of an envelope's second half is no other's
keeps_opened : (place c d : ℕ) (s : Position) → Keeps place (place + 8) c d s (opened place s)
keeps_opened place c d s = record {
  objects = λ k x y. refl;
  records = λ k x y. get_or-set_other s.records ((place + 4) / 4) (k / 4) (s.handle + 1) 0 (other k x);
  as_many = refl;
  as_many_records = length-set s.records ((place + 4) / 4) (s.handle + 1);
  grows = omega arith;
}
  where
    other : (k : ℕ) → Apart k 4 place (place + 8) → k / 4 ≢ (place + 4) / 4
    other k x e = x (omega arith) (omega arith)

keeps_begun : (inline : Bool) (place size c d : ℕ) (s : Position) → Keeps place (place + 8) c d s (begun inline place size s)
keeps_begun true place size c d s = keeps_opened place c d s
keeps_begun false place size c d s = keeps_both _ _ _ _ s (opened place s) (begun false place size s) (keeps_opened place c d s) (keeps_linked place (place + 8) c d place size (opened place s) (omega arith) (omega arith))

keeps_passed : (a b c d n : ℕ) (s r : Position) → Keeps a b c d s r → Keeps a b c d s (passed n r)
keeps_passed a b c d n s r h = record { objects = h.objects; records = h.records; as_many = h.as_many; as_many_records = h.as_many_records; grows = h.grows }

-- a member of this size, in its envelope or as the next object, keeps what lies outside of both
keeps_member_at : (size place : ℕ) (s r : Position) → Keeps (member_at (nat_le size 4) place s) (member_at (nat_le size 4) place s + size) (begun (nat_le size 4) place size s).next r.next (begun (nat_le size 4) place size s) r
    → Keeps place (place + 8) s.next r.next s r
keeps_member_at size place s r = go (nat_le size 4) refl
  where
    go : (b : Bool) → nat_le size 4 ≡ b → Keeps (member_at b place s) (member_at b place s + size) (begun b place size s).next r.next (begun b place size s) r → Keeps place (place + 8) s.next r.next s r
    go true e h =
        let small = le_of_test size e in
        keeps_both _ _ _ _ s (opened place s) r
        (keeps_opened place s.next r.next s)
        (keeps_wider place (place + size) s.next r.next place (place + 8) s.next r.next (opened place s) r (λ k i x y. ((λ p q. x (omega arith) (omega arith)), y)) h)
    go false e h =
        let mid = begun false place size s in
        let grows = h.grows in
        let up = le-next_multiple_of size 8 in
        keeps_both _ _ _ _ s mid r
        (keeps_begun false place size s.next r.next s)
        (keeps_wider s.next (s.next + size) mid.next r.next place (place + 8) s.next r.next mid r (λ k i x y. ((λ p q. y (omega arith) (omega arith)), (λ p q. y (omega arith) (omega arith)))) h)

-- members end behind where they begin
pub ends_behind : (ds : Declarations) (fs : Fields) (from : ℕ) → from ≤ end_of ds.figures from fs
ends_behind ds no_fields from = omega arith
ends_behind ds (field name t fs) from =
    let f = figure_of ds.figures t in
    let at = next_multiple_of from f.align in
    omega (arith, ends_behind ds fs (at + f.size), le-next_multiple_of from f.align)

module _ (ds : Declarations) (laid : IsLaidOut ds) where
  mutual
    -- a value at a place links nothing outside its bytes inline and those behind it
    pub keeps : (t : Term) (v : Value) (place : ℕ) (s : Position) → IsTyped ds t v → Keeps place (place + size_of ds t) s.next (after ds t v place s).next s (after ds t v place s)
    keeps t absent place s h = keeps_all _ _ _ _ s
    keeps t (bool b) place s h = keeps_all _ _ _ _ s
    keeps t (number z) place s h = keeps_all _ _ _ _ s
    keeps (ty.handle optional subtype rights) (handle i) place s h = keeps_taken place _ _ s
    keeps (ty.string optional bound) (text bytes) place s h = keeps_linked _ _ _ _ (place + 8) (length bytes) s (omega arith) (omega arith)
    keeps (ty.vector optional bound t) (list vs) place s h =
        let u = resolve ds.terms t in
        let size = size_of ds t in
        let n = length (elements ds u vs).inline in
        let same = size_of-resolve ds laid t in
        let mid = linked (place + 8) n s in
        let r = after_elements ds u size vs s.next mid in
        let len : n ≡ size * count vs = length-elements ds laid u vs h.1 ∙ ap (λ k. k * count vs) same in
        let more = keeps_elements u size (sym same) vs s.next mid h.1 in
        let grows = more.grows in
        let up = le-next_multiple_of n 8 in
        keeps_both _ _ _ _ s mid r
        (keeps_linked place (place + 16) s.next r.next (place + 8) n s (omega arith) (omega arith))
        (keeps_wider s.next (s.next + size * count vs) mid.next r.next place (place + 16) s.next r.next mid r (λ k i x y. ((λ p q. y (omega arith) (omega arith)), (λ p q. y (omega arith) (omega arith)))) more)
    keeps (ty.array t n) (list vs) place s h =
        let same = size_of-resolve ds laid t in
        let size = size_of ds t in
        let r = after ds (ty.array t n) (list vs) place s in
        subst (λ k. Keeps place (place + size * k) s.next r.next s r) h.0 (keeps_elements (resolve ds.terms t) size (sym same) vs place s h.1)
    keeps (ty.struct fs) (fields vs) place s h =
        let size = size_of ds (ty.struct fs) in
        let r = after ds (ty.struct fs) (fields vs) place s in
        keeps_wider (place + 0) (place + size) s.next r.next place (place + size) s.next r.next s r (λ k i x y. ((λ p q. x (omega arith) (omega arith)), y)) (keeps_fields fs size 0 place vs s (end_of-le ds fs) h)
    keeps (ty.box t) (fields vs) place s h =
        let fs = fields_of (resolve ds.terms t) in
        let size = size_of ds (ty.struct fs) in
        let n = length (members ds size 0 fs vs).inline in
        let len : n ≡ size = sym (zero-add _) ∙ length-members ds laid fs size 0 vs (end_of-le ds fs) h.1 in
        let mid = linked place n s in
        let r = after_fields ds fs 0 vs s.next mid in
        let more = keeps_fields fs size 0 s.next vs mid (end_of-le ds fs) h.1 in
        let grows = more.grows in
        let up = le-next_multiple_of n 8 in
        keeps_both _ _ _ _ s mid r
        (keeps_linked place (place + 8) s.next r.next place n s (omega arith) (omega arith))
        (keeps_wider (s.next + 0) (s.next + size) mid.next r.next place (place + 8) s.next r.next mid r (λ k i x y. ((λ p q. y (omega arith) (omega arith)), (λ p q. y (omega arith) (omega arith)))) more)
    keeps (ty.table rows) (table n ms) place s h =
        let mid = linked (place + 8) (8 * n) s in
        let r = after_envelopes ds rows ms s.next mid in
        let more = keeps_envelopes rows 0 n s.next ms mid h.1 in
        let grows = more.grows in
        let up = le-next_multiple_of (8 * n) 8 in
        keeps_both _ _ _ _ s mid r
        (keeps_linked place (place + 16) s.next r.next (place + 8) (8 * n) s (omega arith) (omega arith))
        (keeps_wider (s.next + 8 * 0) (s.next + 8 * n) mid.next r.next place (place + 16) s.next r.next mid r (λ k i x y. ((λ p q. y (omega arith) (omega arith)), (λ p q. y (omega arith) (omega arith)))) more)
    keeps (ty.union optional strict rows) (union ordinal x) place s h =
        let r = after_member ds (find rows ordinal) x (place + 8) s in
        keeps_wider (place + 8) (place + 8 + 8) s.next r.next place (place + 16) s.next r.next s r (λ k i x y. ((λ p q. x (omega arith) (omega arith)), y)) (keeps_member strict (find rows ordinal) x (place + 8) s h.2)
    keeps _ _ place s h = absurd h

    pub keeps_elements : (u : Term) (size : ℕ) → size ≡ size_of ds u → (vs : Values) (place : ℕ) (s : Position) → AllTyped ds u vs → Keeps place (place + size * count vs) s.next (after_elements ds u size vs place s).next s (after_elements ds u size vs place s)
    keeps_elements u size same none place s h = keeps_all _ _ _ _ s
    keeps_elements u size same (value v vs) place s h =
        let mid = after ds u v place s in
        let r = after_elements ds u size vs (place + size) mid in
        let more = mul-suc size (count vs) in
        let one = keeps u v place s h.0 in
        let two = keeps_elements u size same vs (place + size) mid h.1 in
        let up = one.grows in
        let on = two.grows in
        keeps_both _ _ _ _ s mid r
        (keeps_wider place (place + size_of ds u) s.next mid.next place (place + size * count (value v vs)) s.next r.next s mid (λ k i x y. ((λ p q. x (omega arith) (omega arith)), (λ p q. y (omega arith) (omega arith)))) one)
        (keeps_wider (place + size) (place + size + size * count vs) mid.next r.next place (place + size * count (value v vs)) s.next r.next mid r (λ k i x y. ((λ p q. x (omega arith) (omega arith)), (λ p q. y (omega arith) (omega arith)))) two)

    pub keeps_fields : (fs : Fields) (size from base : ℕ) (vs : Values) (s : Position) → end_of ds.figures from fs ≤ size → EachTyped ds fs vs → Keeps (base + from) (base + size) s.next (after_fields ds fs from vs base s).next s (after_fields ds fs from vs base s)
    keeps_fields no_fields size from base none s le h = keeps_all _ _ _ _ s
    keeps_fields (field name t fs) size from base (value v vs) s le h =
        let f = figure_of ds.figures t in
        let at = next_multiple_of from f.align in
        let u = resolve ds.terms t in
        let same = size_of-resolve ds laid t in
        let mid = after ds u v (base + at) s in
        let r = after_fields ds fs (at + f.size) vs base mid in
        let up = le-next_multiple_of from f.align in
        let fit = ends_behind ds fs (at + f.size) in
        let one = keeps u v (base + at) s h.0 in
        let two = keeps_fields fs size (at + f.size) base vs mid le h.1 in
        let grows = one.grows in
        let on = two.grows in
        keeps_both _ _ _ _ s mid r
        (keeps_wider (base + at) (base + at + size_of ds u) s.next mid.next (base + from) (base + size) s.next r.next s mid (λ k i x y. ((λ p q. x (omega arith) (omega arith)), (λ p q. y (omega arith) (omega arith)))) one)
        (keeps_wider (base + (at + f.size)) (base + size) mid.next r.next (base + from) (base + size) s.next r.next mid r (λ k i x y. ((λ p q. x (omega arith) (omega arith)), (λ p q. y (omega arith) (omega arith)))) two)
    keeps_fields _ size from base _ s le h = absurd h

    -- an envelope at a place
    pub keeps_member : (strict : Bool) (o : Option Term) (x : Member) (place : ℕ) (s : Position) → IsTypedMember ds strict o x → Keeps place (place + 8) s.next (after_member ds o x place s).next s (after_member ds o x place s)
    keeps_member strict (Some t) (known v) place s h =
        let u = resolve ds.terms t in
        let size = size_of ds t in
        let at = member_at (nat_le size 4) place s in
        let mid = begun (nat_le size 4) place size s in
        let r = after ds u v at mid in
        keeps_member_at size place s r (subst (λ k. Keeps at (at + k) mid.next r.next mid r) (size_of-resolve ds laid t) (keeps u v at mid h))
    keeps_member strict None (unknown inline bytes handles) place s h =
        keeps_passed _ _ _ _ (length handles) s (begun inline place (length bytes) s) (keeps_begun inline place (length bytes) s.next (begun inline place (length bytes) s).next s)
    keeps_member strict _ _ place s h = absurd h

    -- the envelopes behind `last`
    pub keeps_envelopes : (rows : Rows) (last n base : ℕ) (ms : Members) (s : Position) → RiseTyped ds rows last n ms → Keeps (base + 8 * last) (base + 8 * n) s.next (after_envelopes ds rows ms base s).next s (after_envelopes ds rows ms base s)
    keeps_envelopes rows last n base empty s h = keeps_all _ _ _ _ s
    keeps_envelopes rows last n base (member ordinal x ms) s h =
        let at = envelope_place base ordinal in
        let mid = after_member ds (find rows ordinal) x at s in
        let r = after_envelopes ds rows ms base mid in
        let one = keeps_member false (find rows ordinal) x at s h.2 in
        let two = keeps_envelopes rows ordinal n base ms mid h.3 in
        let above = h.0 in
        let within = h.1 in
        let up = one.grows in
        let on = two.grows in
        keeps_both _ _ _ _ s mid r
        (keeps_wider at (at + 8) s.next mid.next (base + 8 * last) (base + 8 * n) s.next r.next s mid (λ k i x y. ((λ p q. x (omega arith) (omega arith)), (λ p q. y (omega arith) (omega arith)))) one)
        (keeps_wider (base + 8 * ordinal) (base + 8 * n) mid.next r.next (base + 8 * last) (base + 8 * n) s.next r.next mid r (λ k i x y. ((λ p q. x (omega arith) (omega arith)), (λ p q. y (omega arith) (omega arith)))) two)
