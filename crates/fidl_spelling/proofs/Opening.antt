-- The words of a value open few brackets at once.
use Rattle.std.proofs.Common.{◌≡◌, ◌≤◌, ◌==◌, ℕ, zero, suc, ◌+◌, ◌-◌, ◌*◌, Bool, true, false, List, [], ◌∷◌, ◌++◌, cond, refl, sym, ap, subst, ◌∙◌, arith, take, inl, inr, ℤ, pos, Option, Some, None, mul-suc, get_or}
use Rattle.std.proofs.lemmas.List.{append-nil}
use Rattle.std.specs.Prelude.{codes, count_by, nat_le, if◌then◌else◌}
use Rattle.std.specs.List.{AllByRecursion}
use Rattle.std.specs.Int.{next_multiple_of}
use Rattle.std.proofs.Math.ListN.{get_or-map}
use Rattle.std.proofs.lemmas.Bool.Decides.{nat_tests}
use Rattle.fidl_wire.specs.declared.handle.HandleInfo.{HandleInfo}
use Rattle.fidl_wire.specs.Encoding.{term_or}
use Rattle.fidl_wire.specs.Value.{Value, absent, bool, number, text, list, fields, handle, table, union, Values, none, value, Member, known, unknown, Members, empty, member, count}
use Rattle.fidl_wire.specs.Term.{Term, Fields, no_fields, field, Rows, no_rows, row, resolve, fields_of, find, nothing}
use Rattle.fidl_wire.specs.Term as ty
use Rattle.fidl_wire.specs.Figure.{Figure, Declarations, IsLaidOut, figure, figure_of, nest_of, end_of, size_of}
use Rattle.fidl_wire.specs.Typed.{Typed, IsTyped, AllTyped, EachTyped, IsTypedMember, RiseTyped}
use Rattle.fidl_wire.specs.Depth.{Depth, depth_of, elements_depth, fields_depth, member_depth, members_depth}
use Rattle.fidl_wire.proofs.Sizes.{size_of-resolve, end_of-le, le-next_multiple_of, le_of_test}
use Rattle.fidl_limits.specs.declared.limits.TheConstants.{MAX_DEPTH, MAX_TEXT_BRACKETS}
use Rattle.fidl_spelling.specs.Words.{Words, IsWithinLimit, IsRun, is_word_byte, opens, closes, IsQuoted, is_opening, is_closing}
use Rattle.fidl_spelling.specs.Spells.{One, ◌⨾◌, CommaIf, IsNumber, AreHex, AHandle, Handles, Bears, SpellsBy, Spelled, Elements, Named, AMember, Rising}
use Rattle.fidl_spelling.specs.Readable.{FieldsHaveNames, RowsHaveNames, AnyNames, IsNamed, AreNamed}
use Rattle.fidl_spelling.specs.Nested.{HasParts, FieldsHaveNests, RowsHaveNests, IsNested, AreNested}
use Rattle.fidl_spelling.proofs.Leaves.{numeral_run}
use Rattle.fidl_spelling.proofs.WordLaws.{and_left}
use Rattle.fidl_spelling.proofs.Readable.{readable_resolve, readable_fields, readable_member}
use Rattle.fidl_spelling.proofs.OpenWords.{IsPlainWord, AreBrackets, Opens, nothing_opens, more, both, plain, bracketed}

-- words that are no brackets
byte_plain : (b : ℕ) → is_word_byte b ≡ true → (is_opening b ≡ false) × (is_closing b ≡ false)
byte_plain b h = (grind (arith, nat_tests), grind (arith, nat_tests))

run_plain : (w : List ℕ) → IsRun w → IsPlainWord w
run_plain [] h = record { no_opening = refl; no_closing = refl }
run_plain (b ∷ []) h = let p = byte_plain b (and_left (is_word_byte b) true h.1) in record { no_opening = p.0; no_closing = p.1 }
run_plain (b ∷ c ∷ w) h = record { no_opening = refl; no_closing = refl }

number_plain : (z : ℤ) (w : List ℕ) → IsNumber z w → IsPlainWord w
number_plain z w (inl h) = run_plain w (numeral_run w h.0)
number_plain z w (inr h) = subst IsPlainWord (sym h.1) (dashed h.0)
  where
    dashed : (ds : List ℕ) → IsPlainWord (45 ∷ ds)
    dashed [] = record { no_opening = refl; no_closing = refl }
    dashed (d ∷ ds) = record { no_opening = refl; no_closing = refl }

quoted_plain : (bytes w : List ℕ) → IsQuoted w bytes → IsPlainWord w
quoted_plain bytes w h = subst IsPlainWord (sym h.2) (quotes h.0)
  where
    quotes : (inner : List ℕ) → IsPlainWord (34 ∷ (inner ++ 34 ∷ []))
    quotes [] = record { no_opening = refl; no_closing = refl }
    quotes (b ∷ inner) = record { no_opening = refl; no_closing = refl }

hex_plain : (bytes w : List ℕ) → AreHex bytes w → IsPlainWord w
hex_plain [] w h = absurd (omega (arith, h.0))
hex_plain (x ∷ bytes) [] h = absurd h.1
hex_plain (x ∷ bytes) (a ∷ []) h = absurd h.1
hex_plain (x ∷ bytes) (a ∷ b ∷ w) h = record { no_opening = refl; no_closing = refl }

bears_plain : (rows : Rows) (name : List ℕ) (i : ℕ) → RowsHaveNames AnyNames rows → Bears rows name i → IsPlainWord name
bears_plain no_rows name i h b = absurd b
bears_plain (row key n t rows) name i h (inl e) = subst IsPlainWord (sym e.1) (run_plain n h.0)
bears_plain (row key n t rows) name i h (inr b) = bears_plain rows name i h.2 b

-- what spells these words opens at most so many
abbrev Brief : ℕ → (Words → Words → Type 0) → Type 0
Brief k P = (ws rest : Words) → P ws rest → Opens k ws rest

the_brief : (k : ℕ) (w : List ℕ) → IsPlainWord w → Brief k (λ ws rest. ws ≡ w ∷ rest)
the_brief k w is ws rest e = plain k w ws rest rest is e (nothing_opens k rest rest refl)

one_brief : (k : ℕ) (P : List ℕ → Type 0) → ((w : List ℕ) → P w → IsPlainWord w) → Brief k (One P)
one_brief k P is ws rest h = plain k h.0 ws rest rest (is h.0 h.1) h.2 (nothing_opens k rest rest refl)

comma_brief : (k : ℕ) (later : Bool) → Brief k (CommaIf later)
comma_brief k true = the_brief k (codes ",") (record { no_opening = refl; no_closing = refl })
comma_brief k false = nothing_opens k

square : AreBrackets (codes "[") (codes "]")
square = record { opening = refl; no_closing = refl; closing = refl; no_opening = refl }

curly : AreBrackets (codes "{") (codes "}")
curly = record { opening = refl; no_closing = refl; closing = refl; no_opening = refl }

round : AreBrackets (codes "(") (codes ")")
round = record { opening = refl; no_closing = refl; closing = refl; no_opening = refl }

enclosed : (k : ℕ) (o c : List ℕ) (P : Words → Words → Type 0) → AreBrackets o c → Brief k P → Brief (suc k) ((λ ws rest. ws ≡ o ∷ rest) ⨾ P ⨾ (λ ws rest. ws ≡ c ∷ rest))
enclosed k o c P are p ws rest h = bracketed k o c ws h.0 h.2.0 rest are h.1 (p h.0 h.2.0 h.2.1) h.2.2

no_bracket : (w : List ℕ) → opens w ≡ false → closes w ≡ false → IsPlainWord w
no_bracket w h k = record { no_opening = h; no_closing = k }

handle_brief : (i : HandleInfo) → Brief 1 (AHandle i)
handle_brief i ws rest s =
    let a = s.2.2 in
    let b = a.2 in
    let c = b.2 in
    let d = c.2 in
    let e = d.2 in
    let comma = no_bracket (codes ",") refl refl in
    plain 1 (codes "handle") ws s.0 rest (no_bracket (codes "handle") refl refl) s.1
    (bracketed 0 (codes "(") (codes ")") s.0 s.2.0 e.0 rest round s.2.1
    (plain 0 a.1.0 s.2.0 a.0 e.0 (number_plain (pos i.id) a.1.0 a.1.1.1) a.1.2
    (plain 0 (codes ",") a.0 b.0 e.0 comma b.1
    (plain 0 c.1.0 b.0 c.0 e.0 (number_plain (pos i.object_type) c.1.0 c.1.1.1) c.1.2
    (plain 0 (codes ",") c.0 d.0 e.0 comma d.1
    (plain 0 e.1.0 d.0 e.0 e.0 (number_plain (pos i.rights) e.1.0 e.1.1.1) e.1.2 (nothing_opens 0 e.0 e.0 refl)))))) e.2)

handles_brief : (later : Bool) (hs : List HandleInfo) → Brief 1 (Handles later hs)
handles_brief later [] ws rest s = nothing_opens 1 ws rest s
handles_brief later (i ∷ hs) ws rest s =
    both 1 ws s.0 rest (comma_brief 1 later ws s.0 s.1) (both 1 s.0 s.2.0 rest (handle_brief i s.0 s.2.0 s.2.1) (handles_brief true hs s.2.0 rest s.2.2))

side_plain : (inline : Bool) → IsPlainWord (codes (if inline then "in" else "out"))
side_plain true = no_bracket (codes "in") refl refl
side_plain false = no_bracket (codes "out") refl refl

-- the nests of what a term holds
nested_at : (figures : List Figure) (terms : List Term) (i : ℕ) → AllByRecursion (IsNested figures) terms → HasParts figures (get_or terms i nothing)
nested_at figures [] i h = tt
nested_at figures (t ∷ terms) zero h = h.0.1
nested_at figures (t ∷ terms) (suc i) h = nested_at figures terms i h.1

parts_resolve : (figures : List Figure) (terms : List Term) (t : Term) → AllByRecursion (IsNested figures) terms → HasParts figures t → HasParts figures (resolve terms t)
parts_resolve figures terms (ty.named i) h p = nested_at figures terms i h
parts_resolve figures terms ty.bool h p = p
parts_resolve figures terms _ h p = p

nest_fields : (figures : List Figure) (u : Term) (n : ℕ) → (figure_of figures u).nest ≤ n → nest_of figures (fields_of u) ≤ n
nest_fields figures (ty.struct fs) n h = omega (arith, h)
nest_fields figures _ n h = omega arith

parts_fields : (figures : List Figure) (u : Term) → HasParts figures u → FieldsHaveNests figures (fields_of u)
parts_fields figures (ty.struct fs) h = h
parts_fields figures _ h = tt

nested_member : (figures : List Figure) (rows : Rows) (ordinal : ℕ) → RowsHaveNests figures rows → IsNested figures (term_or (find rows ordinal))
nested_member figures no_rows ordinal g = (omega arith, tt)
nested_member figures (row key name t rows) ordinal g = go (key == ordinal) (nested_member figures rows ordinal g.2)
  where
    go : (b : Bool) → IsNested figures (term_or (find rows ordinal)) → IsNested figures (term_or (cond b (Some t) (find rows ordinal)))
    go true h = (g.0, g.1)
    go false h = h

module _ (ds : Declarations) (laid : IsLaidOut ds) (named : AreNamed ds) (nested : AreNested ds) where
  abbrev nest : Term → ℕ
  nest t = (figure_of ds.figures t).nest

  nest_resolve : (t : Term) → nest (resolve ds.terms t) ≡ nest t
  nest_resolve (ty.named i) = ap (λ f. f.nest) (sym (get_or-map (figure_of ds.figures) ds.terms i nothing) ∙ ap (λ fs. get_or fs i (figure 1 1 0)) laid)
  nest_resolve ty.bool = refl
  nest_resolve _ = refl

  named_resolve : (t : Term) → IsNamed t → IsNamed (resolve ds.terms t)
  named_resolve t g = readable_resolve AnyNames ds.terms t named g

  ends_behind : (fs : Fields) (from : ℕ) → from ≤ end_of ds.figures from fs
  ends_behind no_fields from = omega arith
  ends_behind (field name t fs) from = let f = figure_of ds.figures t in omega (arith, le-next_multiple_of from f.align, ends_behind fs (next_multiple_of from f.align + f.size))

  absence_brief : (k : ℕ) (t : Term) → IsTyped ds t absent → Brief k (Spelled ds t absent)
  absence_brief k (ty.handle optional subtype rights) h = the_brief k (codes "absent") (no_bracket (codes "absent") refl refl)
  absence_brief k (ty.string optional bound) h = the_brief k (codes "absent") (no_bracket (codes "absent") refl refl)
  absence_brief k (ty.vector optional bound t) h = the_brief k (codes "absent") (no_bracket (codes "absent") refl refl)
  absence_brief k (ty.box t) h = the_brief k (codes "absent") (no_bracket (codes "absent") refl refl)
  absence_brief k (ty.union optional strict rows) h = the_brief k (codes "absent") (no_bracket (codes "absent") refl refl)
  absence_brief k ty.bool h = absurd h
  absence_brief k _ h = absurd h

  -- a value of at most four bytes holds structs and arrays, and no other brackets but those of a handle
  mutual
    small_value : (n : ℕ) (t : Term) (v : Value) → IsNamed t → IsTyped ds t v → size_of ds t ≤ 4 → nest t ≤ n → Brief (suc n) (Spelled ds t v)
    small_value n t absent g h s le ws rest p = absence_brief (suc n) t h ws rest p
    small_value n ty.bool (bool true) g h s le ws rest p = the_brief (suc n) (codes "true") (no_bracket (codes "true") refl refl) ws rest p
    small_value n ty.bool (bool false) g h s le ws rest p = the_brief (suc n) (codes "false") (no_bracket (codes "false") refl refl) ws rest p
    small_value n (ty.number kind) (number z) g h s le ws rest p = one_brief (suc n) _ (λ w q. number_plain z w q.1) ws rest p
    small_value n (ty.bits kind mask) (number z) g h s le ws rest p = one_brief (suc n) _ (λ w q. number_plain z w q.1) ws rest p
    small_value n (ty.enum kind values) (number z) g h s le ws rest p = one_brief (suc n) _ (λ w q. number_plain z w q.1) ws rest p
    small_value n (ty.handle optional subtype rights) (handle i) g h s le ws rest p = more 1 (suc n) ws rest (omega arith) (handle_brief i ws rest p)
    small_value n (ty.string optional bound) (text bytes) g h s le ws rest p = absurd (omega (arith, s))
    small_value n (ty.vector optional bound t) (list vs) g h s le ws rest p = absurd (omega (arith, s))
    small_value n (ty.array t count) (list vs) g h s le ws rest p =
        more (suc (suc (n - 1))) (suc n) ws rest (omega (arith, le))
        (enclosed (suc (n - 1)) (codes "[") (codes "]") (Elements ds (resolve ds.terms t) false vs) square
        (λ a b q. small_elements (n - 1) (resolve ds.terms t) false vs (named_resolve t g) h.1 (rw (size_of-resolve ds laid t, h.0) s) (omega (arith, le, nest_resolve t)) a b q) ws rest p)
    small_value n (ty.struct fs) (fields vs) g h s le ws rest p =
        more (suc (suc (n - 1))) (suc n) ws rest (omega (arith, le))
        (enclosed (suc (n - 1)) (codes "{") (codes "}") (Named ds fs false vs) curly
        (λ a b q. small_fields (n - 1) fs 0 false vs g h (omega (arith, s, end_of-le ds fs)) (omega (arith, le)) a b q) ws rest p)
    small_value n (ty.box t) (fields vs) g h s le ws rest p = absurd (omega (arith, s))
    small_value n (ty.table rows) (table count ms) g h s le ws rest p = absurd (omega (arith, s))
    small_value n (ty.union optional strict rows) (union ordinal m) g h s le ws rest p = absurd (omega (arith, s))
    small_value n _ _ g h s le ws rest p = absurd h

    small_elements : (n : ℕ) (t : Term) (later : Bool) (vs : Values) → IsNamed t → AllTyped ds t vs → size_of ds t * count vs ≤ 4 → nest t ≤ n → Brief (suc n) (Elements ds t later vs)
    small_elements n t later none g h s le ws rest p = nothing_opens (suc n) ws rest p
    small_elements n t later (value v vs) g h s le ws rest p =
        let s2 : size_of ds t * count vs + size_of ds t ≤ 4 = subst (λ k. k ≤ 4) (mul-suc (size_of ds t) (count vs)) s in
        both (suc n) ws p.0 rest (comma_brief (suc n) later ws p.0 p.1)
        (both (suc n) p.0 p.2.0 rest (small_value n t v g h.0 (omega (arith, s2)) le p.0 p.2.0 p.2.1) (small_elements n t true vs g h.1 (omega (arith, s2)) le p.2.0 rest p.2.2))

    small_fields : (n : ℕ) (fs : Fields) (from : ℕ) (later : Bool) (vs : Values) → FieldsHaveNames AnyNames fs → EachTyped ds fs vs → end_of ds.figures from fs ≤ 4 → nest_of ds.figures fs ≤ n → Brief (suc n) (Named ds fs later vs)
    small_fields n no_fields from later none g h s le ws rest p = nothing_opens (suc n) ws rest p
    small_fields n (field name t fs) from later (value v vs) g h s le ws rest p =
        let f = figure_of ds.figures t in
        let at = next_multiple_of from f.align in
        let a = p.2 in
        let b = a.2 in
        let c = b.2 in
        both (suc n) ws p.0 rest (comma_brief (suc n) later ws p.0 p.1)
        (plain (suc n) a.1.0 p.0 a.0 rest (subst IsPlainWord (sym a.1.1) (run_plain name g.0)) a.1.2
        (plain (suc n) (codes ":") a.0 b.0 rest (no_bracket (codes ":") refl refl) b.1
        (both (suc n) b.0 c.0 rest
        (small_value n (resolve ds.terms t) v (named_resolve t g.1) h.0 (rw (size_of-resolve ds laid t) (omega (arith, s, ends_behind fs (at + f.size)))) (omega (arith, le, nest_resolve t)) b.0 c.0 c.1)
        (small_fields n fs (at + f.size) true vs g.2 h.1 s (omega (arith, le)) c.0 rest c.2))))
    small_fields n _ from later _ g h s le ws rest p = absurd h

  -- a member that the layout has, by its size
  known_brief : (d : ℕ) (strict : Bool) (o : Option Term) (v : Value) → IsNamed (term_or o) → IsNested ds.figures (term_or o) → IsTypedMember ds strict o (known v) → member_depth ds o (known v) ≤ d
      → ((e : ℕ) (t : Term) → IsNamed t → HasParts ds.figures t → IsTyped ds t v → depth_of ds t v ≤ e → nest t ≤ 32 → Brief (32 + 64 * suc e) (Spelled ds t v))
      → Brief (33 + 64 * d) (Spelled ds (resolve ds.terms (term_or o)) v)
  known_brief d strict None v g k h deep large ws rest p = absurd h
  known_brief d strict (Some t) v g k h deep large ws rest p = go (nat_le (size_of ds t) 4) refl deep
    where
      go : (b : Bool) → nat_le (size_of ds t) 4 ≡ b → cond b 0 (suc (depth_of ds (resolve ds.terms t) v)) ≤ d → Opens (33 + 64 * d) ws rest
      go true e le = more 33 (33 + 64 * d) ws rest (omega arith)
          (small_value 32 (resolve ds.terms t) v (named_resolve t g) h (rw (size_of-resolve ds laid t) (le_of_test (size_of ds t) e)) (omega (arith, k.0, nest_resolve t)) ws rest p)
      go false e le = more (32 + 64 * suc (d - 1)) (33 + 64 * d) ws rest (omega (arith, le))
          (large (d - 1) (resolve ds.terms t) (named_resolve t g) (parts_resolve ds.figures ds.terms t nested k.1) h (omega (arith, le)) (omega (arith, k.0, nest_resolve t)) ws rest p)

  unknown_brief : (ordinal : ℕ) (inline : Bool) (bytes : List ℕ) (hs : List HandleInfo) (rows : Rows) → Brief 2 (AMember ds rows ordinal (unknown inline bytes hs))
  unknown_brief ordinal inline bytes hs rows ws rest p =
      let b = p.2 in
      let c = b.2 in
      let e = c.2 in
      let f = e.2 in
      let g = f.2 in
      plain 2 p.1.0 ws p.0 rest (number_plain (pos ordinal) p.1.0 p.1.1.1) p.1.2
      (plain 2 (codes ":") p.0 b.0 rest (no_bracket (codes ":") refl refl) b.1
      (plain 2 (codes "unknown") b.0 c.0 rest (no_bracket (codes "unknown") refl refl) c.1
      (plain 2 (codes (if inline then "in" else "out")) c.0 e.0 rest (side_plain inline) e.1
      (plain 2 f.1.0 e.0 f.0 rest (hex_plain bytes f.1.0 f.1.1) f.1.2
      (enclosed 1 (codes "[") (codes "]") (Handles false hs) square (handles_brief false hs) f.0 rest g)))))

  -- any other value: its depth tells how many objects stand behind one another, and each object nests within the limit
  mutual
    value_brief : (d n : ℕ) (t : Term) (v : Value) → IsNamed t → HasParts ds.figures t → IsTyped ds t v → depth_of ds t v ≤ d → nest t ≤ n → Brief (n + 64 * suc d) (Spelled ds t v)
    value_brief d n t absent g k h deep le ws rest p = absence_brief (n + 64 * suc d) t h ws rest p
    value_brief d n ty.bool (bool true) g k h deep le ws rest p = the_brief (n + 64 * suc d) (codes "true") (no_bracket (codes "true") refl refl) ws rest p
    value_brief d n ty.bool (bool false) g k h deep le ws rest p = the_brief (n + 64 * suc d) (codes "false") (no_bracket (codes "false") refl refl) ws rest p
    value_brief d n (ty.number kind) (number z) g k h deep le ws rest p = one_brief (n + 64 * suc d) _ (λ w q. number_plain z w q.1) ws rest p
    value_brief d n (ty.bits kind mask) (number z) g k h deep le ws rest p = one_brief (n + 64 * suc d) _ (λ w q. number_plain z w q.1) ws rest p
    value_brief d n (ty.enum kind values) (number z) g k h deep le ws rest p = one_brief (n + 64 * suc d) _ (λ w q. number_plain z w q.1) ws rest p
    value_brief d n (ty.handle optional subtype rights) (handle i) g k h deep le ws rest p = more 1 (n + 64 * suc d) ws rest (omega arith) (handle_brief i ws rest p)
    value_brief d n (ty.string optional bound) (text bytes) g k h deep le ws rest p = one_brief (n + 64 * suc d) _ (λ w q. quoted_plain bytes w q) ws rest p
    value_brief d n (ty.vector optional bound t) (list vs) g k h deep le ws rest p =
        let u = resolve ds.terms t in
        more (suc (32 + 64 * suc (d - 1))) (n + 64 * suc d) ws rest (omega (arith, deep))
        (enclosed (32 + 64 * suc (d - 1)) (codes "[") (codes "]") (Elements ds u false vs) square
        (λ a b q. elements_brief (d - 1) 32 u false vs (named_resolve t g) (parts_resolve ds.figures ds.terms t nested k.1) h.1 (omega (arith, deep)) (omega (arith, k.0, nest_resolve t)) a b q) ws rest p)
    value_brief d n (ty.array t count) (list vs) g k h deep le ws rest p =
        let u = resolve ds.terms t in
        more (suc (n - 1 + 64 * suc d)) (n + 64 * suc d) ws rest (omega (arith, le))
        (enclosed (n - 1 + 64 * suc d) (codes "[") (codes "]") (Elements ds u false vs) square
        (λ a b q. elements_brief d (n - 1) u false vs (named_resolve t g) (parts_resolve ds.figures ds.terms t nested k.1) h.1 deep (omega (arith, le, nest_resolve t)) a b q) ws rest p)
    value_brief d n (ty.struct fs) (fields vs) g k h deep le ws rest p =
        more (suc (n - 1 + 64 * suc d)) (n + 64 * suc d) ws rest (omega (arith, le))
        (enclosed (n - 1 + 64 * suc d) (codes "{") (codes "}") (Named ds fs false vs) curly
        (λ a b q. fields_brief d (n - 1) fs false vs g k h deep (omega (arith, le)) a b q) ws rest p)
    value_brief d n (ty.box t) (fields vs) g k h deep le ws rest p =
        let u = resolve ds.terms t in
        more (suc (32 + 64 * suc (d - 1))) (n + 64 * suc d) ws rest (omega (arith, deep))
        (enclosed (32 + 64 * suc (d - 1)) (codes "{") (codes "}") (Named ds (fields_of u) false vs) curly
        (λ a b q. fields_brief (d - 1) 32 (fields_of u) false vs (readable_fields AnyNames u (named_resolve t g)) (parts_fields ds.figures u (parts_resolve ds.figures ds.terms t nested k.1)) h.1 (omega (arith, deep))
        (nest_fields ds.figures u 32 (omega (arith, k.0, nest_resolve t))) a b q) ws rest p)
    value_brief d n (ty.table rows) (table count ms) g k h deep le ws rest p =
        let a = p.2 in
        let b = a.2 in
        let c = b.2 in
        let e = c.2 in
        let f = e.2 in
        plain (n + 64 * suc d) (codes "table") ws p.0 rest (no_bracket (codes "table") refl refl) p.1
        (both (n + 64 * suc d) p.0 c.0 rest
        (more 1 (n + 64 * suc d) p.0 c.0 (omega arith) (bracketed 0 (codes "(") (codes ")") p.0 a.0 b.0 c.0 round a.1 (plain 0 b.1.0 a.0 b.0 b.0 (number_plain (pos count) b.1.0 b.1.1.1) b.1.2 (nothing_opens 0 b.0 b.0 refl)) c.1))
        (more (suc (33 + 64 * (d - 1))) (n + 64 * suc d) c.0 rest (omega (arith, deep))
        (bracketed (33 + 64 * (d - 1)) (codes "{") (codes "}") c.0 e.0 f.0 rest curly e.1 (members_brief (d - 1) rows false 0 0 count ms g.1 k h.1 (omega (arith, deep)) e.0 f.0 f.1) f.2)))
    value_brief d n (ty.union optional strict rows) (union ordinal m) g k h deep le ws rest p =
        plain (n + 64 * suc d) (codes "union") ws p.0 rest (no_bracket (codes "union") refl refl) p.1
        (more (suc (33 + 64 * d)) (n + 64 * suc d) p.0 rest (omega arith)
        (enclosed (33 + 64 * d) (codes "(") (codes ")") (AMember ds rows ordinal m) round (λ a b q. member_brief d strict rows ordinal m g.1 k h.2 deep a b q) p.0 rest p.2))
    value_brief d n _ _ g k h deep le ws rest p = absurd h

    elements_brief : (d n : ℕ) (t : Term) (later : Bool) (vs : Values) → IsNamed t → HasParts ds.figures t → AllTyped ds t vs → elements_depth ds t vs ≤ d → nest t ≤ n → Brief (n + 64 * suc d) (Elements ds t later vs)
    elements_brief d n t later none g k h deep le ws rest p = nothing_opens (n + 64 * suc d) ws rest p
    elements_brief d n t later (value v vs) g k h deep le ws rest p =
        both (n + 64 * suc d) ws p.0 rest (comma_brief (n + 64 * suc d) later ws p.0 p.1)
        (both (n + 64 * suc d) p.0 p.2.0 rest (value_brief d n t v g k h.0 (omega (arith, deep)) le p.0 p.2.0 p.2.1) (elements_brief d n t true vs g k h.1 (omega (arith, deep)) le p.2.0 rest p.2.2))

    fields_brief : (d n : ℕ) (fs : Fields) (later : Bool) (vs : Values) → FieldsHaveNames AnyNames fs → FieldsHaveNests ds.figures fs → EachTyped ds fs vs → fields_depth ds fs vs ≤ d → nest_of ds.figures fs ≤ n → Brief (n + 64 * suc d) (Named ds fs later vs)
    fields_brief d n no_fields later none g k h deep le ws rest p = nothing_opens (n + 64 * suc d) ws rest p
    fields_brief d n (field name t fs) later (value v vs) g k h deep le ws rest p =
        let a = p.2 in
        let b = a.2 in
        let c = b.2 in
        both (n + 64 * suc d) ws p.0 rest (comma_brief (n + 64 * suc d) later ws p.0 p.1)
        (plain (n + 64 * suc d) a.1.0 p.0 a.0 rest (subst IsPlainWord (sym a.1.1) (run_plain name g.0)) a.1.2
        (plain (n + 64 * suc d) (codes ":") a.0 b.0 rest (no_bracket (codes ":") refl refl) b.1
        (both (n + 64 * suc d) b.0 c.0 rest
        (value_brief d n (resolve ds.terms t) v (named_resolve t g.1) (parts_resolve ds.figures ds.terms t nested k.1) h.0 (omega (arith, deep)) (omega (arith, le, nest_resolve t)) b.0 c.0 c.1)
        (fields_brief d n fs true vs g.2 k.2 h.1 (omega (arith, deep)) (omega (arith, le)) c.0 rest c.2))))
    fields_brief d n _ later _ g k h deep le ws rest p = absurd h

    member_brief : (d : ℕ) (strict : Bool) (rows : Rows) (ordinal : ℕ) (m : Member) → RowsHaveNames AnyNames rows → RowsHaveNests ds.figures rows → IsTypedMember ds strict (find rows ordinal) m → member_depth ds (find rows ordinal) m ≤ d
        → Brief (33 + 64 * d) (AMember ds rows ordinal m)
    member_brief d strict rows ordinal (known v) g k h deep ws rest p =
        let b = p.2 in
        plain (33 + 64 * d) p.1.0 ws p.0 rest (bears_plain rows p.1.0 ordinal g p.1.1.bears) p.1.2
        (plain (33 + 64 * d) (codes ":") p.0 b.0 rest (no_bracket (codes ":") refl refl) b.1
        (known_brief d strict (find rows ordinal) v (readable_member AnyNames rows ordinal g) (nested_member ds.figures rows ordinal k) h deep (λ e t i j typed le small x y q. value_brief e 32 t v i j typed le small x y q) b.0 rest b.2))
    member_brief d strict rows ordinal (unknown inline bytes hs) g k h deep ws rest p = more 2 (33 + 64 * d) ws rest (omega arith) (unknown_brief ordinal inline bytes hs rows ws rest p)

    members_brief : (d : ℕ) (rows : Rows) (later : Bool) (least last n : ℕ) (ms : Members) → RowsHaveNames AnyNames rows → RowsHaveNests ds.figures rows → RiseTyped ds rows last n ms → members_depth ds rows ms ≤ d → Brief (33 + 64 * d) (Rising ds rows later least ms)
    members_brief d rows later least last n empty g k h deep ws rest p = nothing_opens (33 + 64 * d) ws rest p
    members_brief d rows later least last n (member ordinal m ms) g k h deep ws rest p =
        let a = p.1 in
        both (33 + 64 * d) ws a.0 rest (comma_brief (33 + 64 * d) later ws a.0 a.1)
        (both (33 + 64 * d) a.0 a.2.0 rest (member_brief d false rows ordinal m g k h.2 (omega (arith, deep)) a.0 a.2.0 a.2.1) (members_brief d rows true (suc ordinal) ordinal n ms g k h.3 (omega (arith, deep)) a.2.0 rest a.2.2))

  pub few_in_value : (t : Term) → IsNamed t → IsNested ds.figures t → (v : Value) → Typed ds t v → Depth ds t v ≤ MAX_DEPTH → (ws : Words) → SpellsBy ds t ws v → IsWithinLimit ws
  few_in_value t g n v h deep ws p k =
      let u = resolve ds.terms t in
      let o = value_brief 32 32 u v (named_resolve t g) (parts_resolve ds.figures ds.terms t nested n.1) h deep (omega (arith, n.0, nest_resolve t)) ws [] p in
      let same : ws ≡ o.front = o.whole ∙ append-nil o.front in
      subst (λ (l : Words). count_by opens (take k l) ≤ count_by closes (take k l) + MAX_TEXT_BRACKETS) (sym same) (omega (arith, o.few k))
