-- Only one value has a message.
use Rattle.std.proofs.Common.{rules, ◌≡◌, ℕ, zero, suc, ◌+◌, ◌-◌, ◌*◌, ◌<◌, ◌≤◌, ◌^◌, Bool, true, false, cond, ◌==◌, List, [], ◌∷◌, ◌++◌, length, get_or, take, drop, Option, Some, None, refl, ap, arith, sym, ◌∙◌, subst, append_assoc, append-nil, length-append, nat_le, nat_lt, mul-suc, ◌⊎◌, inl, inr}
use Rattle.std.proofs.lemmas.List.{replicate-append-replicate}
use Rattle.std.proofs.Math.ListN.{length-replicate}
use Rattle.std.specs.Int.{w32, w64, to_le_bytes, next_multiple_of, from_bool}
use Rattle.std.specs.List.{AllByRecursion}
use Rattle.fidl_wire.specs.declared.handle.HandleInfo.{HandleInfo}
use Rattle.fidl_wire.specs.Value.{Value, absent, bool, number, text, list, fields, handle, table, union, Values, none, value, Member, known, unknown, Members, empty, member, count}
use Rattle.fidl_wire.specs.Term.{Term, Fields, no_fields, field, Rows, no_rows, row, resolve, fields_of, rows_of, find, nothing, IsBounded, AreFieldsBounded, AreRowsBounded}
use Rattle.fidl_wire.specs.Term as ty
use Rattle.fidl_wire.specs.Figure.{Declarations, figure_of, IsLaidOut, IsSound, end_of, size_of}
use Rattle.fidl_wire.specs.Typed.{Typed, IsTyped, AllTyped, EachTyped, IsTypedMember, RiseTyped}
use Rattle.fidl_wire.specs.Encoding.{Encoding, zeros, padded, pad8, object, joined, inline_only, envelope, envelope_end, inline_envelope, out_envelope, encoding_of, elements, members, enveloped, envelopes}
use Rattle.fidl_wire.specs.Message.{Message, Encodes}
use Rattle.fidl_wire.proofs.Sizes.{length-inline, length-elements, length-members, length-enveloped, length-padded, size_of-resolve, end_of-le, le-next_multiple_of, le_of_test}
use Rattle.fidl_wire.proofs.Agree.{Agree, agree_map, agree_inline, agree_joined, agree_pointing, split_at, le_inj_16, le_inj_32, le_inj_64, number_inj}

-- ---- bounds

bounded_at : (terms : List Term) (i : ℕ) → AllByRecursion IsBounded terms → IsBounded (get_or terms i nothing)
bounded_at [] i h = tt
bounded_at (t ∷ terms) zero h = h.0
bounded_at (t ∷ terms) (suc i) h = bounded_at terms i h.1

pub bounded-resolve : (terms : List Term) (t : Term) → AllByRecursion IsBounded terms → IsBounded t → IsBounded (resolve terms t)
bounded-resolve terms (ty.named i) h p = bounded_at terms i h
bounded-resolve terms ty.bool h p = p
bounded-resolve terms _ h p = p

abbrev MayBeBounded : Option Term → Type 0
MayBeBounded None = Unit {0}
MayBeBounded (Some t) = IsBounded t

pub bounded-find : (rows : Rows) (ordinal : ℕ) → AreRowsBounded rows → MayBeBounded (find rows ordinal)
bounded-find no_rows ordinal h = tt
bounded-find (row key name t rows) ordinal h = go (key == ordinal) (bounded-find rows ordinal h.1)
  where
    go : (b : Bool) → MayBeBounded (find rows ordinal) → MayBeBounded (cond b (Some t) (find rows ordinal))
    go true k = h.0
    go false k = k

bounded-fields_of : (t : Term) → IsBounded t → AreFieldsBounded (fields_of t)
bounded-fields_of (ty.struct fs) h = h
bounded-fields_of _ h = tt

-- ---- what is at most four bytes long has no out part

le-end_of : (ds : Declarations) (from : ℕ) (fs : Fields) → from ≤ end_of ds.figures from fs
le-end_of ds from no_fields = omega arith
le-end_of ds from (field name t fs) = let f = figure_of ds.figures t in omega (arith, le-next_multiple_of from f.align, le-end_of ds (next_multiple_of from f.align + f.size) fs)

mutual
  pub no_out : (ds : Declarations) → IsLaidOut ds → (t : Term) (v : Value) → IsTyped ds t v → size_of ds t ≤ 4 → (encoding_of ds t v).out ≡ []
  no_out ds w t absent h s = refl
  no_out ds w ty.bool (bool b) h s = refl
  no_out ds w (ty.number kind) (number z) h s = refl
  no_out ds w (ty.bits kind mask) (number z) h s = refl
  no_out ds w (ty.enum kind values) (number z) h s = refl
  no_out ds w (ty.string optional bound) (text bytes) h s = absurd (omega (arith, s))
  no_out ds w (ty.vector optional bound t) (list vs) h s = absurd (omega (arith, s))
  no_out ds w (ty.array t n) (list vs) h s = no_out_elements ds w (resolve ds.terms t) vs h.1 (rw (size_of-resolve ds w t, h.0) s)
  no_out ds w (ty.struct fs) (fields vs) h s = no_out_members ds w fs (size_of ds (ty.struct fs)) 0 vs h (omega (arith, s, end_of-le ds fs))
  no_out ds w (ty.box t) (fields vs) h s = absurd (omega (arith, s))
  no_out ds w (ty.handle optional subtype rights) (handle i) h s = refl
  no_out ds w (ty.table rows) (table n ms) h s = absurd (omega (arith, s))
  no_out ds w (ty.union optional strict rows) (union ordinal m) h s = absurd (omega (arith, s))
  no_out ds w _ _ h s = absurd h

  no_out_elements : (ds : Declarations) → IsLaidOut ds → (t : Term) (vs : Values) → AllTyped ds t vs → size_of ds t * count vs ≤ 4 → (elements ds t vs).out ≡ []
  no_out_elements ds w t none h s = refl
  no_out_elements ds w t (value v vs) h s =
      let s' : size_of ds t * count vs + size_of ds t ≤ 4 = subst (λ k. k ≤ 4) (mul-suc (size_of ds t) (count vs)) s in
      λ i. no_out ds w t v h.0 (omega (arith, s')) i ++ no_out_elements ds w t vs h.1 (omega (arith, s')) i

  no_out_members : (ds : Declarations) → IsLaidOut ds → (fs : Fields) (size from : ℕ) (vs : Values) → EachTyped ds fs vs → end_of ds.figures from fs ≤ 4 → (members ds size from fs vs).out ≡ []
  no_out_members ds w no_fields size from none h s = refl
  no_out_members ds w (field name t fs) size from (value v vs) h s =
      let f = figure_of ds.figures t in
      let at = next_multiple_of from f.align in
      λ i. no_out ds w (resolve ds.terms t) v h.0 (rw (size_of-resolve ds w t) (omega (arith, s, le-end_of ds (at + f.size) fs))) i ++ no_out_members ds w fs size (at + f.size) vs h.1 s i
  no_out_members ds w _ size from _ h s = absurd h

-- ---- envelopes

agree_envelope : {S : Type 0} (size : ℕ) (a b : Encoding) → length a.inline ≡ size → length b.inline ≡ size → (size ≤ 4 → a.out ≡ []) → (size ≤ 4 → b.out ≡ []) → Agree a b S → Agree (envelope size a) (envelope size b) S
agree_envelope {S} size a b la lb na nb f = go (nat_le size 4) refl
  where
    go : (t : Bool) → nat_le size 4 ≡ t
        → Agree (cond t (inline_envelope (padded 4 a.inline) a.handles) (out_envelope (object a) a.handles)) (cond t (inline_envelope (padded 4 b.inline) b.handles) (out_envelope (object b) b.handles)) S
    go true r x y p q inline out handles small few =
        let s = le_of_test size r in
        let wide : length (padded 4 a.inline) ≡ length (padded 4 b.inline) = length-padded 4 a.inline (rw la s) ∙ sym (length-padded 4 b.inline (rw lb s)) in
        let heads = split_at (padded 4 a.inline) (padded 4 b.inline) (envelope_end 1 a.handles) (envelope_end 1 b.handles) wide inline in
        let own = split_at a.inline b.inline (zeros (4 - length a.inline)) (zeros (4 - length b.inline)) (la ∙ sym lb) heads.0 in
        f x y p q own.0 ((λ i. na s i ++ x) ∙ out ∙ (λ i. sym (nb s) i ++ y)) handles (subst (λ l. length (l ++ x) < 2 ^ 32) (sym (na s)) small) few
    go false r x y p q inline out handles small few = agree_pointing _ _ a b (la ∙ sym lb) f x y p q inline out handles small few

gt_of_test : (n : ℕ) → nat_le n 4 ≡ false → 4 < n
gt_of_test n h = search (rules, h)

-- an envelope of a member isn't that of none
not_zeros : (ds : Declarations) → IsLaidOut ds → (strict : Bool) (o : Option Term) (m : Member) → IsTypedMember ds strict o m → length (enveloped ds o m).out < 2 ^ 32 → (enveloped ds o m).inline ≡ zeros 8 → ⊥
not_zeros ds w strict (Some t) (known v) h small e = go (nat_le (size_of ds t) 4) refl small e
  where
    a : Encoding
    a = encoding_of ds (resolve ds.terms t) v

    go : (b : Bool) → nat_le (size_of ds t) 4 ≡ b → length (cond b (inline_envelope (padded 4 a.inline) a.handles) (out_envelope (object a) a.handles)).out < 2 ^ 32
        → (cond b (inline_envelope (padded 4 a.inline) a.handles) (out_envelope (object a) a.handles)).inline ≡ zeros 8 → ⊥
    go true r small e = omega (arith, ap (λ l. get_or l 2 0) (split_at (padded 4 a.inline) (zeros 4) (envelope_end 1 a.handles) (zeros 4) (length-padded 4 a.inline (rw (length-inline ds w (resolve ds.terms t) v h, size_of-resolve ds w t) (le_of_test (size_of ds t) r))) e).1)
    go false r small e = omega (arith, gt_of_test (size_of ds t) r, length-inline ds w (resolve ds.terms t) v h, size_of-resolve ds w t, le_inj_32 (length (object a)) 0 small (omega arith) (ap (λ l. take 4 l) e), length-append (pad8 a.inline) a.out, length-append a.inline (zeros (next_multiple_of (length a.inline) 8 - length a.inline)))
not_zeros ds w strict None (unknown true bytes handles) h small e = omega (arith, ap (λ l. get_or l 2 0) (split_at bytes (zeros 4) (envelope_end 1 handles) (zeros 4) h.2 e).1)
not_zeros ds w strict None (unknown false bytes handles) h small e = omega (arith, h.2.0, le_inj_32 (length bytes) 0 small (omega arith) (ap (λ l. take 4 l) e))
not_zeros ds w strict _ _ h small e = absurd h

agree_unknown : (strict : Bool) (ds : Declarations) (m : Member) → IsTypedMember ds strict None m → (n : Member) → IsTypedMember ds strict None n → Agree (enveloped ds None m) (enveloped ds None n) (m ≡ n)
agree_unknown strict ds (unknown true bytes hs) h (unknown true cs ks) k x y p q inline out handles small few =
    let s = split_at bytes cs (envelope_end 1 hs) (envelope_end 1 ks) (h.2 ∙ sym k.2) inline in
    let many : length (ks ++ q) < 2 ^ 16 = subst (λ l. length l < 2 ^ 16) handles few in
    let n : length hs ≡ length ks = le_inj_16 (length hs) (length ks) (omega (arith, few, length-append hs p)) (omega (arith, many, length-append ks q)) (ap (λ l. take 2 l) s.1) in
    let t = split_at hs ks p q n handles in
    ((λ i. unknown true (s.0 i) (t.0 i)), out, t.1)
agree_unknown strict ds (unknown false bytes hs) h (unknown false cs ks) k x y p q inline out handles small few =
    let many : length (ks ++ q) < 2 ^ 16 = subst (λ l. length l < 2 ^ 16) handles few in
    let large : length (cs ++ y) < 2 ^ 32 = subst (λ l. length l < 2 ^ 32) out small in
    let n : length hs ≡ length ks = le_inj_16 (length hs) (length ks) (omega (arith, few, length-append hs p)) (omega (arith, many, length-append ks q)) (ap (λ l. take 2 (drop 4 l)) inline) in
    let m : length bytes ≡ length cs = le_inj_32 (length bytes) (length cs) (omega (arith, small, length-append bytes x)) (omega (arith, large, length-append cs y)) (ap (λ l. take 4 l) inline) in
    let s = split_at bytes cs x y m out in
    let t = split_at hs ks p q n handles in
    ((λ i. unknown false (s.0 i) (t.0 i)), s.1, t.1)
agree_unknown strict ds (unknown true bytes hs) h (unknown false cs ks) k x y p q inline out handles small few = absurd (omega (arith, ap (λ l. get_or l 2 0) (split_at bytes (to_le_bytes w32 (length cs)) (envelope_end 1 hs) (envelope_end 0 ks) h.2 inline).1))
agree_unknown strict ds (unknown false bytes hs) h (unknown true cs ks) k x y p q inline out handles small few = absurd (omega (arith, ap (λ l. get_or l 2 0) (split_at (to_le_bytes w32 (length bytes)) cs (envelope_end 0 hs) (envelope_end 1 ks) (sym k.2) inline).1))
agree_unknown strict ds (unknown _ _ _) h (known w) k x y p q inline out handles small few = absurd k
agree_unknown strict ds (known v) h _ k x y p q inline out handles small few = absurd h

-- ---- a table's gaps

length-zeros : (n : ℕ) → length (zeros n) ≡ n
length-zeros n = length-replicate n 0

-- an envelope before the end of the zeros is zero
in_gap : (i j : ℕ) (e r s : List ℕ) → length e ≡ 8 → i < j → zeros (8 * i) ++ (e ++ r) ≡ zeros (8 * j) ++ s → e ≡ zeros 8
in_gap i j e r s l h g =
    let three : zeros (8 * j) ≡ zeros (8 * i) ++ (zeros 8 ++ zeros (8 * (j - suc i))) =
    ap zeros (parts i j h) ∙ sym (replicate-append-replicate (8 * i) (8 + 8 * (j - suc i)) 0) ∙ ap (λ l. zeros (8 * i) ++ l) (sym (replicate-append-replicate 8 (8 * (j - suc i)) 0)) in
    let g' : zeros (8 * i) ++ (e ++ r) ≡ zeros (8 * i) ++ (zeros 8 ++ (zeros (8 * (j - suc i)) ++ s)) =
    g ∙ ap (λ l. l ++ s) three ∙ append_assoc (zeros (8 * i)) (zeros 8 ++ zeros (8 * (j - suc i))) s ∙ ap (λ l. zeros (8 * i) ++ l) (append_assoc (zeros 8) (zeros (8 * (j - suc i))) s) in
    (split_at e (zeros 8) r (zeros (8 * (j - suc i)) ++ s) l (split_at (zeros (8 * i)) (zeros (8 * i)) (e ++ r) (zeros 8 ++ (zeros (8 * (j - suc i)) ++ s)) refl g').1).0
  where
    parts : (i j : ℕ) → i < j → 8 * j ≡ 8 * i + (8 + 8 * (j - suc i))
    parts i j h = omega arith

pub length-envelopes : (ds : Declarations) → IsLaidOut ds → (rows : Rows) (last n : ℕ) (ms : Members) → RiseTyped ds rows last n ms → length (envelopes ds rows (suc last) n ms).inline ≡ 8 * (n - last)
length-envelopes ds w rows last n empty h = length-zeros (8 * (suc n - suc last)) ∙ omega arith
length-envelopes ds w rows last n (member ordinal m ms) h =
    let e = enveloped ds (find rows ordinal) m in
    let rest = envelopes ds rows (suc ordinal) n ms in
    omega (arith, h.0, h.1, length-append (zeros (8 * (ordinal - suc last))) (e.inline ++ rest.inline), length-append e.inline rest.inline, length-zeros (8 * (ordinal - suc last)), length-enveloped ds w false (find rows ordinal) m h.2, length-envelopes ds w rows ordinal n ms h.3)

tri : (m n : ℕ) → (m < n) ⊎ ((m ≡ n) ⊎ (n < m))
tri m n = go (nat_lt m n) refl (nat_lt n m) refl
  where
    go : (a : Bool) → nat_lt m n ≡ a → (b : Bool) → nat_lt n m ≡ b → (m < n) ⊎ ((m ≡ n) ⊎ (n < m))
    go true e b f = inl (search (rules, e))
    go false e true f = inr (inr (search (rules, f)))
    go false e false f =
        let a : n ≤ m = search (rules, e) in
        let b : m ≤ n = search (rules, f) in
        inr (inl (omega (arith, a, b)))

-- an envelope where the other side has none
clash : (ds : Declarations) → IsLaidOut ds → (o : Option Term) (m : Member) → IsTypedMember ds false o m → (rest : Encoding) (i j : ℕ) (s x : List ℕ) → i < j
    → length ((enveloped ds o m).out ++ rest.out ++ x) < 2 ^ 32 → zeros (8 * i) ++ ((enveloped ds o m).inline ++ rest.inline) ≡ zeros (8 * j) ++ s → ⊥
clash ds w o m h rest i j s x lt small e =
    let e' = in_gap i j (enveloped ds o m).inline rest.inline s (length-enveloped ds w false o m h) lt e in
    not_zeros ds w false o m h (omega (arith, small, length-append ((enveloped ds o m).out ++ rest.out) x, length-append (enveloped ds o m).out rest.out)) e'

-- ---- leaves

absent_case : (ds : Declarations) (t : Term) → IsTyped ds t absent → (w : Value) → IsTyped ds t w → Agree (encoding_of ds t absent) (encoding_of ds t w) (absent ≡ w)
absent_case ds t h absent k = agree_inline _ _ (λ e. refl)
absent_case ds (ty.box t) h (fields ws) k = λ x y p q inline out handles small few. absurd (omega (arith, ap (λ l. get_or l 0 0) inline))
absent_case ds (ty.handle optional subtype rights) h (handle j) k = λ x y p q inline out handles small few. absurd (omega (arith, ap (λ l. get_or l 0 0) inline))
absent_case ds (ty.string optional bound) h (text cs) k = λ x y p q inline out handles small few. absurd (omega (arith, ap (λ l. get_or l 8 0) inline))
absent_case ds (ty.vector optional bound t) h (list ws) k = λ x y p q inline out handles small few. absurd (omega (arith, ap (λ l. get_or l 8 0) inline))
absent_case ds (ty.union optional strict rows) h (union ordinal m) k = λ x y p q inline out handles small few. absurd (omega (arith, k.0, le_inj_64 0 ordinal (omega arith) k.1 (ap (λ l. take 8 l) inline)))
absent_case ds (ty.box t) h _ k = absurd k
absent_case ds (ty.handle optional subtype rights) h _ k = absurd k
absent_case ds (ty.string optional bound) h _ k = absurd k
absent_case ds (ty.vector optional bound t) h _ k = absurd k
absent_case ds (ty.union optional strict rows) h _ k = absurd k
absent_case ds _ h _ k = absurd h

bool_inj : (b c : Bool) → from_bool b ∷ [] ≡ from_bool c ∷ [] → b ≡ c
bool_inj true true e = refl
bool_inj false false e = refl
bool_inj true false e = absurd (omega (arith, ap (λ l. get_or l 0 0) e))
bool_inj false true e = absurd (omega (arith, ap (λ l. get_or l 0 0) e))

-- two values of one term, the first of them as the induction knows it
abbrev Only : Declarations → Term → Value → Type 0
Only ds t v = (w : Value) → IsTyped ds t w → Agree (encoding_of ds t v) (encoding_of ds t w) (v ≡ w)

module _ (ds : Declarations) (sound : IsSound ds) where
  mutual
    pub only : (t : Term) (v : Value) → IsBounded t → IsTyped ds t v → Only ds t v
    only t absent g h = absent_case ds t h
    only ty.bool (bool b) g h = go
      where
        go : Only ds ty.bool (bool b)
        go (bool c) k = agree_inline _ _ (λ e. ap bool (bool_inj b c e))
        go _ k = absurd k
    only (ty.number kind) (number z) g h = go
      where
        go : Only ds (ty.number kind) (number z)
        go (number y) k = agree_inline _ _ (λ e. ap number (number_inj kind z y h k e))
        go _ k = absurd k
    only (ty.bits kind mask) (number z) g h = go
      where
        go : Only ds (ty.bits kind mask) (number z)
        go (number y) k = agree_inline _ _ (λ e. ap number (number_inj kind z y h.0 k.0 e))
        go _ k = absurd k
    only (ty.enum kind values) (number z) g h = go
      where
        go : Only ds (ty.enum kind values) (number z)
        go (number y) k = agree_inline _ _ (λ e. ap number (number_inj kind z y h.0 k.0 e))
        go _ k = absurd k
    only (ty.string optional bound) (text bs) g h = go
      where
        go : Only ds (ty.string optional bound) (text bs)
        go absent k = λ x y p q inline out handles small few. absurd (omega (arith, ap (λ l. get_or l 8 0) inline))
        go (text cs) k = λ x y p q inline out handles small few.
            let n : length bs ≡ length cs = le_inj_64 (length bs) (length cs) (omega (arith, g, h.1)) (omega (arith, g, k.1)) (ap (λ l. take 8 l) inline) in
            agree_pointing _ _ (inline_only bs) (inline_only cs) n (agree_inline bs cs (λ e. ap text e)) x y p q inline out handles small few
        go _ k = absurd k
    only (ty.vector optional bound t) (list vs) g h = go (only_elements (resolve ds.terms t) vs (bounded-resolve ds.terms t sound.bounded g.1) h.1)
      where
        go : ((ws : Values) → AllTyped ds (resolve ds.terms t) ws → count vs ≡ count ws → Agree (elements ds (resolve ds.terms t) vs) (elements ds (resolve ds.terms t) ws) (vs ≡ ws)) → Only ds (ty.vector optional bound t) (list vs)
        go f absent k = λ x y p q inline out handles small few. absurd (omega (arith, ap (λ l. get_or l 8 0) inline))
        go f (list ws) k = λ x y p q inline out handles small few.
            let n : count vs ≡ count ws = le_inj_64 (count vs) (count ws) (omega (arith, g.0, h.0)) (omega (arith, g.0, k.0)) (ap (λ l. take 8 l) inline) in
            let l = length-elements ds sound.laid_out (resolve ds.terms t) vs h.1 ∙ ap (λ n. size_of ds (resolve ds.terms t) * n) n ∙ sym (length-elements ds sound.laid_out (resolve ds.terms t) ws k.1) in
            agree_pointing _ _ (elements ds (resolve ds.terms t) vs) (elements ds (resolve ds.terms t) ws) l (agree_map _ _ (λ e. ap list e) (f ws k.1 n)) x y p q inline out handles small few
        go f _ k = absurd k
    only (ty.array t n) (list vs) g h = go (only_elements (resolve ds.terms t) vs (bounded-resolve ds.terms t sound.bounded g) h.1)
      where
        go : ((ws : Values) → AllTyped ds (resolve ds.terms t) ws → count vs ≡ count ws → Agree (elements ds (resolve ds.terms t) vs) (elements ds (resolve ds.terms t) ws) (vs ≡ ws)) → Only ds (ty.array t n) (list vs)
        go f (list ws) k = agree_map _ _ (λ e. ap list e) (f ws k.1 (h.0 ∙ sym k.0))
        go f _ k = absurd k
    only (ty.struct fs) (fields vs) g h = go (only_members fs (size_of ds (ty.struct fs)) 0 vs g h)
      where
        go : ((ws : Values) → EachTyped ds fs ws → Agree (members ds (size_of ds (ty.struct fs)) 0 fs vs) (members ds (size_of ds (ty.struct fs)) 0 fs ws) (vs ≡ ws)) → Only ds (ty.struct fs) (fields vs)
        go f (fields ws) k = agree_map _ _ (λ e. ap fields e) (f ws k)
        go f _ k = absurd k
    only (ty.box t) (fields vs) g h = go (only_members fs size 0 vs (bounded-fields_of (resolve ds.terms t) (bounded-resolve ds.terms t sound.bounded g)) h.1)
      where
        fs : Fields
        fs = fields_of (resolve ds.terms t)

        size : ℕ
        size = size_of ds (ty.struct fs)

        go : ((ws : Values) → EachTyped ds fs ws → Agree (members ds size 0 fs vs) (members ds size 0 fs ws) (vs ≡ ws)) → Only ds (ty.box t) (fields vs)
        go f absent k = λ x y p q inline out handles small few. absurd (omega (arith, ap (λ l. get_or l 0 0) inline))
        go f (fields ws) k = agree_pointing _ _ _ _ (omega (arith, length-members ds sound.laid_out fs size 0 vs (end_of-le ds fs) h.1, length-members ds sound.laid_out fs size 0 ws (end_of-le ds fs) k.1)) (agree_map _ _ (λ e. ap fields e) (f ws k.1))
        go f _ k = absurd k
    only (ty.handle optional subtype rights) (handle i) g h = go
      where
        go : Only ds (ty.handle optional subtype rights) (handle i)
        go absent k = λ x y p q inline out handles small few. absurd (omega (arith, ap (λ l. get_or l 0 0) inline))
        go (handle j) k = λ x y p q inline out handles small few.
            let s = split_at (i ∷ []) (j ∷ []) p q refl handles in
            (ap (λ l. handle (get_or l 0 i)) s.0, out, s.1)
        go _ k = absurd k
    only (ty.table rows) (table n ms) g h = go (only_envelopes rows 0 n ms g h.1)
      where
        go : ((ns : Members) → RiseTyped ds rows 0 n ns → Agree (envelopes ds rows 1 n ms) (envelopes ds rows 1 n ns) (ms ≡ ns)) → Only ds (ty.table rows) (table n ms)
        go f (table m ns) k = λ x y p q inline out handles small few.
            let e : n ≡ m = le_inj_64 n m h.0 k.0 (ap (λ l. take 8 l) inline) in
            same m e ns k.1 x y p q inline out handles small few
          where
            same : (m : ℕ) → n ≡ m → (ns : Members) → RiseTyped ds rows 0 m ns → Agree (encoding_of ds (ty.table rows) (table n ms)) (encoding_of ds (ty.table rows) (table m ns)) (table n ms ≡ table m ns)
            same m e = subst (λ m. (ns : Members) → RiseTyped ds rows 0 m ns → Agree (encoding_of ds (ty.table rows) (table n ms)) (encoding_of ds (ty.table rows) (table m ns)) (table n ms ≡ table m ns)) e
                (λ ns k. agree_pointing _ _ _ _ (length-envelopes ds sound.laid_out rows 0 n ms h.1 ∙ sym (length-envelopes ds sound.laid_out rows 0 n ns k)) (agree_map _ _ (λ e. ap (λ l. table n l) e) (f ns k)))
        go f _ k = absurd k
    only (ty.union optional strict rows) (union ordinal m) g h = go (only_member strict (find rows ordinal) m (bounded-find rows ordinal g) h.2)
      where
        go : ((n : Member) → IsTypedMember ds strict (find rows ordinal) n → Agree (enveloped ds (find rows ordinal) m) (enveloped ds (find rows ordinal) n) (m ≡ n)) → Only ds (ty.union optional strict rows) (union ordinal m)
        go f absent k = λ x y p q inline out handles small few. absurd (omega (arith, h.0, le_inj_64 ordinal 0 h.1 (omega arith) (ap (λ l. take 8 l) inline)))
        go f (union o n) k = λ x y p q inline out handles small few.
            let e : ordinal ≡ o = le_inj_64 ordinal o h.1 k.1 (ap (λ l. take 8 l) inline) in
            same o e n k.2 x y p q inline out handles small few
          where
            same : (o : ℕ) → ordinal ≡ o → (n : Member) → IsTypedMember ds strict (find rows o) n → Agree (encoding_of ds (ty.union optional strict rows) (union ordinal m)) (encoding_of ds (ty.union optional strict rows) (union o n)) (union ordinal m ≡ union o n)
            same o e = subst (λ o. (n : Member) → IsTypedMember ds strict (find rows o) n → Agree (encoding_of ds (ty.union optional strict rows) (union ordinal m)) (encoding_of ds (ty.union optional strict rows) (union o n)) (union ordinal m ≡ union o n)) e
                (λ n k. agree_map _ _ (λ r. ap (λ l. union ordinal l) r.1) (agree_joined (inline_only (to_le_bytes w64 ordinal)) (inline_only (to_le_bytes w64 ordinal)) _ _ refl (agree_inline {S = Unit {0}} _ _ (λ _. tt)) (f n k)))
        go f _ k = absurd k
    only _ _ g h = absurd h

    only_elements : (t : Term) (vs : Values) → IsBounded t → AllTyped ds t vs → (ws : Values) → AllTyped ds t ws → count vs ≡ count ws → Agree (elements ds t vs) (elements ds t ws) (vs ≡ ws)
    only_elements t none g h none k e = agree_inline _ _ (λ _. refl)
    only_elements t (value v vs) g h (value w ws) k e =
        agree_map _ _ (λ r i. value (r.0 i) (r.1 i)) (agree_joined (encoding_of ds t v) (encoding_of ds t w) (elements ds t vs) (elements ds t ws) (length-inline ds sound.laid_out t v h.0 ∙ sym (length-inline ds sound.laid_out t w k.0)) (only t v g h.0 w k.0) (only_elements t vs g h.1 ws k.1 (omega (arith, e))))
    only_elements t _ g h _ k e = absurd (omega (arith, e))

    only_members : (fs : Fields) (size from : ℕ) (vs : Values) → AreFieldsBounded fs → EachTyped ds fs vs → (ws : Values) → EachTyped ds fs ws → Agree (members ds size from fs vs) (members ds size from fs ws) (vs ≡ ws)
    only_members no_fields size from none g h none k = agree_inline _ _ (λ _. refl)
    only_members (field name t fs) size from (value v vs) g h (value w ws) k =
        let f = figure_of ds.figures t in
        let at = next_multiple_of from f.align in
        let t' = resolve ds.terms t in
        agree_map _ _ (λ r i. value (r.1.0 i) (r.1.1 i))
        (agree_joined (inline_only (zeros (at - from))) (inline_only (zeros (at - from))) (joined (encoding_of ds t' v) (members ds size (at + f.size) fs vs)) (joined (encoding_of ds t' w) (members ds size (at + f.size) fs ws)) refl (agree_inline {S = Unit {0}} _ _ (λ _. tt))
        (agree_joined (encoding_of ds t' v) (encoding_of ds t' w) (members ds size (at + f.size) fs vs) (members ds size (at + f.size) fs ws) (length-inline ds sound.laid_out t' v h.0 ∙ sym (length-inline ds sound.laid_out t' w k.0))
        (only t' v (bounded-resolve ds.terms t sound.bounded g.0) h.0 w k.0) (only_members fs size (at + f.size) vs g.1 h.1 ws k.1)))
    only_members no_fields size from none g h (value w ws) k = absurd k
    only_members (field name t fs) size from (value v vs) g h none k = absurd k
    only_members _ size from _ g h ws k = absurd h

    only_member : (strict : Bool) (o : Option Term) (m : Member) → MayBeBounded o → IsTypedMember ds strict o m → (n : Member) → IsTypedMember ds strict o n → Agree (enveloped ds o m) (enveloped ds o n) (m ≡ n)
    only_member strict (Some t) (known v) g h (known w) k =
        let t' = resolve ds.terms t in
        let size = size_of-resolve ds sound.laid_out t in
        agree_map _ _ (λ e. ap known e) (agree_envelope (size_of ds t) (encoding_of ds t' v) (encoding_of ds t' w) (length-inline ds sound.laid_out t' v h ∙ size) (length-inline ds sound.laid_out t' w k ∙ size)
        (λ s. no_out ds sound.laid_out t' v h (rw size s)) (λ s. no_out ds sound.laid_out t' w k (rw size s)) (only t' v (bounded-resolve ds.terms t sound.bounded g) h w k))
    only_member strict None (unknown inline bytes handles) g h n k = agree_unknown strict ds (unknown inline bytes handles) h n k
    only_member strict (Some t) (known v) g h (unknown _ _ _) k = absurd k
    only_member strict _ _ g h n k = absurd h

    only_envelopes : (rows : Rows) (last n : ℕ) (ms : Members) → AreRowsBounded rows → RiseTyped ds rows last n ms → (ns : Members) → RiseTyped ds rows last n ns → Agree (envelopes ds rows (suc last) n ms) (envelopes ds rows (suc last) n ns) (ms ≡ ns)
    only_envelopes rows last n empty g h empty k = agree_inline _ _ (λ _. refl)
    only_envelopes rows last n empty g h (member o m ns) k = λ x y p q inline out handles small few.
        absurd (clash ds sound.laid_out (find rows o) m k.2 (envelopes ds rows (suc o) n ns) (o - suc last) (suc n - suc last) [] y (omega (arith, k.0, k.1)) (subst (λ l. length l < 2 ^ 32) out small) (sym inline ∙ sym (append-nil (zeros (8 * (suc n - suc last))))))
    only_envelopes rows last n (member o m ms) g h empty k = λ x y p q inline out handles small few.
        absurd (clash ds sound.laid_out (find rows o) m h.2 (envelopes ds rows (suc o) n ms) (o - suc last) (suc n - suc last) [] x (omega (arith, h.0, h.1)) small (inline ∙ sym (append-nil (zeros (8 * (suc n - suc last))))))
    only_envelopes rows last n (member o m ms) g h (member o' m' ns) k = go (tri o o') (only_member false (find rows o) m (bounded-find rows o g) h.2) (only_envelopes rows o n ms g h.3)
      where
        go : (o < o') ⊎ ((o ≡ o') ⊎ (o' < o))
            → ((m' : Member) → IsTypedMember ds false (find rows o) m' → Agree (enveloped ds (find rows o) m) (enveloped ds (find rows o) m') (m ≡ m'))
            → ((ns : Members) → RiseTyped ds rows o n ns → Agree (envelopes ds rows (suc o) n ms) (envelopes ds rows (suc o) n ns) (ms ≡ ns))
            → Agree (envelopes ds rows (suc last) n (member o m ms)) (envelopes ds rows (suc last) n (member o' m' ns)) (member o m ms ≡ member o' m' ns)
        go (inl lt) f fs = λ x y p q inline out handles small few.
            absurd (clash ds sound.laid_out (find rows o) m h.2 (envelopes ds rows (suc o) n ms) (o - suc last) (o' - suc last) _ x (omega (arith, lt, h.0)) small inline)
        go (inr (inr lt)) f fs = λ x y p q inline out handles small few.
            absurd (clash ds sound.laid_out (find rows o') m' k.2 (envelopes ds rows (suc o') n ns) (o' - suc last) (o - suc last) _ y (omega (arith, lt, k.0)) (subst (λ l. length l < 2 ^ 32) out small) (sym inline))
        go (inr (inl e)) f fs = subst (λ o'. (m' : Member) (ns : Members) → IsTypedMember ds false (find rows o') m' → RiseTyped ds rows o' n ns
            → Agree (envelopes ds rows (suc last) n (member o m ms)) (envelopes ds rows (suc last) n (member o' m' ns)) (member o m ms ≡ member o' m' ns)) e
            (λ m' ns k ks. agree_map _ _ (λ r i. member o (r.1.0 i) (r.1.1 i))
            (agree_joined (inline_only (zeros (8 * (o - suc last)))) (inline_only (zeros (8 * (o - suc last)))) (joined (enveloped ds (find rows o) m) (envelopes ds rows (suc o) n ms)) (joined (enveloped ds (find rows o) m') (envelopes ds rows (suc o) n ns)) refl (agree_inline {S = Unit {0}} _ _ (λ _. tt))
            (agree_joined (enveloped ds (find rows o) m) (enveloped ds (find rows o) m') (envelopes ds rows (suc o) n ms) (envelopes ds rows (suc o) n ns) (length-enveloped ds sound.laid_out false (find rows o) m h.2 ∙ sym (length-enveloped ds sound.laid_out false (find rows o) m' k)) (f m' k) (fs ns ks))))
            m' ns k.2 k.3

  -- values of one term that have one message are one, if its lengths fit the fields of an envelope
  pub unique : (t : Term) → IsBounded t → (v w : Value) → Typed ds t v → Typed ds t w → length (Message ds t v).0 < 2 ^ 32 → length (Message ds t v).1 < 2 ^ 16 → Message ds t v ≡ Message ds t w → v ≡ w
  unique t g v w h k small few e =
      let t' = resolve ds.terms t in
      let a = encoding_of ds t' v in
      let b = encoding_of ds t' w in
      let same = length-inline ds sound.laid_out t' v h ∙ sym (length-inline ds sound.laid_out t' w k) in
      (agree_pointing {S = v ≡ w} [] [] a b same (only t' v (bounded-resolve ds.terms t sound.bounded g) h w k) [] [] [] [] refl
      (ap (λ m. m.0 ++ []) e) (ap (λ m. m.1 ++ []) e)
      (subst (λ l. length l < 2 ^ 32) (sym (append-nil (object a))) small) (subst (λ l. length l < 2 ^ 16) (sym (append-nil a.handles)) few)).0

pub one_value : (ds : Declarations) → IsSound ds → (t : Term) → IsBounded t → (v w : Value) (bytes : List ℕ) (handles : List HandleInfo) → Encodes ds t v bytes handles → Encodes ds t w bytes handles → v ≡ w
one_value ds sound t g v w bytes handles h k =
    unique ds sound t g v w h.typed k.typed (rw (ap (λ m. m.0) h.message) (omega (arith, h.short))) (rw (ap (λ m. m.1) h.message) (omega (arith, h.few))) (h.message ∙ sym k.message)
