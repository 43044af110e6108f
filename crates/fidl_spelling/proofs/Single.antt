-- Words spell at most one value of a type.
use Rattle.std.proofs.Common.{◌≡◌, ℕ, suc, ◌^◌, List, [], ◌∷◌, ◌++◌, refl, sym, ap, subst, ◌∙◌, Bool, true, false, arith}
use Rattle.std.specs.Prelude.{codes, if◌then◌else◌}
use Rattle.std.specs.List.{AllByRecursion}
use Rattle.fidl_wire.specs.declared.handle.HandleInfo.{HandleInfo}
use Rattle.fidl_wire.specs.Value.{Value, absent, bool, number, text, list, fields, handle, table, union, Values, none, value, Member, known, unknown, Members, empty, member}
use Rattle.fidl_wire.specs.Term.{Term, Kind, Fields, no_fields, field, Rows, no_rows, row, resolve, fields_of, find}
use Rattle.fidl_wire.specs.Term as ty
use Rattle.fidl_wire.specs.Figure.{Declarations}
use Rattle.fidl_wire.specs.Encoding.{term_or}
use Rattle.fidl_spelling.specs.Words.{IsQuoted}
use Rattle.fidl_spelling.specs.Spells.{The, One, ◌⨾◌, IsNumberOf, IsNumberBelow, AreHex, AHandle, Handles, Absence, Means, Spelled, Elements, Named, AMember, Rising}
use Rattle.fidl_spelling.specs.Readable.{HasNames, FieldsHaveNames, RowsHaveNames}
use Rattle.fidl_spelling.proofs.Readable.{readable_resolve, readable_fields, readable_member}
use Rattle.fidl_spelling.proofs.Det.{Det, word_head, word_tail, clash, det_the, det_one, det_then, det_comma, number_one, natural_one, hex_one, quoted_one, det_handle}
use Rattle.fidl_spelling.proofs.First.{value_first, member_no_brace}

-- what is absent is nothing else
absent_only : (ds : Declarations) (t : Term) (w : Value) → Det (Absence t) (Spelled ds t w) (absent ≡ w)
absent_only ds (ty.handle optional subtype rights) absent ws r s p q = (refl, word_tail _ _ r s (sym p ∙ q))
absent_only ds (ty.handle optional subtype rights) (handle h) ws r s p q = let e = clash 97 104 _ _ ws r q.0 p q.1 in absurd (omega (arith, e))
absent_only ds (ty.string optional bound) absent ws r s p q = (refl, word_tail _ _ r s (sym p ∙ q))
absent_only ds (ty.string optional bound) (text bytes) ws r s p q = let e = clash 97 34 _ (q.1.0 ++ 34 ∷ []) ws r s p (q.2 ∙ ap (λ w. w ∷ s) q.1.2) in absurd (omega (arith, e))
absent_only ds (ty.vector optional bound t) absent ws r s p q = (refl, word_tail _ _ r s (sym p ∙ q))
absent_only ds (ty.vector optional bound t) (list vs) ws r s p q = let e = clash 97 91 _ [] ws r q.0 p q.1 in absurd (omega (arith, e))
absent_only ds (ty.box t) absent ws r s p q = (refl, word_tail _ _ r s (sym p ∙ q))
absent_only ds (ty.box t) (fields vs) ws r s p q = let e = clash 97 123 _ [] ws r q.0 p q.1 in absurd (omega (arith, e))
absent_only ds (ty.union optional strict rows) absent ws r s p q = (refl, word_tail _ _ r s (sym p ∙ q))
absent_only ds (ty.union optional strict rows) (union ordinal m) ws r s p q = let e = clash 97 117 _ _ ws r q.0 p q.1 in absurd (omega (arith, e))
absent_only ds (ty.handle optional subtype rights) _ ws r s p q = absurd q
absent_only ds (ty.string optional bound) _ ws r s p q = absurd q
absent_only ds (ty.vector optional bound t) _ ws r s p q = absurd q
absent_only ds (ty.box t) _ ws r s p q = absurd q
absent_only ds (ty.union optional strict rows) _ ws r s p q = absurd q
absent_only ds _ _ ws r s p q = absurd p

-- handles up to the bracket that closes them
handles_only : (later : Bool) (hs ks : List HandleInfo) → Det (Handles later hs ⨾ The "]") (Handles later ks ⨾ The "]") (hs ≡ ks)
handles_only later [] [] ws r s p q = (refl, word_tail (codes "]") (codes "]") r s (sym (p.1 ∙ p.2) ∙ q.1 ∙ q.2))
handles_only true [] (k ∷ ks) ws r s p q = let e = clash 93 44 [] [] ws r q.1.0 (p.1 ∙ p.2) q.1.1 in absurd (omega (arith, e))
handles_only false [] (k ∷ ks) ws r s p q = let e = clash 93 104 [] _ ws r q.1.2.1.0 (p.1 ∙ p.2) (q.1.1 ∙ q.1.2.1.1) in absurd (omega (arith, e))
handles_only true (h ∷ hs) [] ws r s p q = let e = clash 93 44 [] [] ws s p.1.0 (q.1 ∙ q.2) p.1.1 in absurd (omega (arith, e))
handles_only false (h ∷ hs) [] ws r s p q = let e = clash 93 104 [] _ ws s p.1.2.1.0 (q.1 ∙ q.2) (p.1.1 ∙ p.1.2.1.1) in absurd (omega (arith, e))
handles_only later (h ∷ hs) (k ∷ ks) ws r s p q =
    let c = det_comma later ws p.1.0 q.1.0 p.1.1 q.1.1 in
    let x = det_handle h k p.1.0 p.1.2.0 q.1.2.0 p.1.2.1 (subst (λ m. AHandle k m q.1.2.0) (sym c.1) q.1.2.1) in
    let y = handles_only true hs ks p.1.2.0 r s (p.0, p.1.2.2, p.2) (q.0, subst (λ m. Handles true ks m q.0) (sym x.1) q.1.2.2, q.2) in
    ((λ i. x.0 i ∷ y.0 i), y.1)

in_or_out : (a b : Bool) → Det (The (if a then "in" else "out")) (The (if b then "in" else "out")) (a ≡ b)
in_or_out true true ws r s p q = (refl, word_tail _ _ r s (sym p ∙ q))
in_or_out false false ws r s p q = (refl, word_tail _ _ r s (sym p ∙ q))
in_or_out true false ws r s p q = let e = clash 105 111 _ _ ws r s p q in absurd (omega (arith, e))
in_or_out false true ws r s p q = let e = clash 111 105 _ _ ws r s p q in absurd (omega (arith, e))

-- a name means one ordinal
means_one : (rows : Rows) (i j : ℕ) (name : List ℕ) → Means rows i name → Means rows j name → i ≡ j
means_one rows i j name h k = let a = h.lowest j k.bears in let b = k.lowest i h.bears in omega (arith, a, b)

module _ (rule : Rows → Type 0) (ds : Declarations) (ready : AllByRecursion (HasNames rule) ds.terms) where
  -- a member that is known, and one that is not
  known_only : (rows : Rows) (i j : ℕ) (v : Value) (y : Member)
      → ((w : Value) → Det (Spelled ds (resolve ds.terms (term_or (find rows i))) v) (Spelled ds (resolve ds.terms (term_or (find rows i))) w) (v ≡ w))
      → Det (AMember ds rows i (known v)) (AMember ds rows j y) ((i ≡ j) × (known v ≡ y))
  known_only rows i j v (known w) h ws r s p q =
      let n = det_one (Means rows i) (Means rows j) (i ≡ j) (means_one rows i j) ws p.0 q.0 p.1 q.1 in
      let c = det_the (codes ":") p.0 p.2.0 q.2.0 p.2.1 (subst (λ m. The ":" m q.2.0) (sym n.1) q.2.1) in
      let there : Spelled ds (resolve ds.terms (term_or (find rows i))) w p.2.0 s =
      subst (λ k. Spelled ds (resolve ds.terms (term_or (find rows k))) w p.2.0 s) (sym n.0) (subst (λ m. Spelled ds (resolve ds.terms (term_or (find rows j))) w m s) (sym c.1) q.2.2) in
      let x = h w p.2.0 r s p.2.2 there in
      ((n.0, ap (λ k. known k) x.0), x.1)
  known_only rows i j v (unknown b ys ks) h ws r s p q =
      let a = det_one (Means rows i) (IsNumberBelow (2 ^ 64) j) (Unit {0}) (λ w f g. tt) ws p.0 q.0 p.1 q.1 in
      let c = det_the (codes ":") p.0 p.2.0 q.2.0 p.2.1 (subst (λ m. The ":" m q.2.0) (sym a.1) q.2.1) in
      let f = value_first ds (resolve ds.terms (term_or (find rows i))) v p.2.0 r p.2.2 in
      absurd (f.no_unknown (word_head f.word (codes "unknown") f.rest q.2.2.0 (sym f.is ∙ c.1 ∙ q.2.2.1)))

  unknown_only : (rows : Rows) (i j : ℕ) (a : Bool) (xs : List ℕ) (hs : List HandleInfo) (y : Member) → Det (AMember ds rows i (unknown a xs hs)) (AMember ds rows j y) ((i ≡ j) × (unknown a xs hs ≡ y))
  unknown_only rows i j a xs hs (known w) ws r s p q =
      let n = det_one (IsNumberBelow (2 ^ 64) i) (Means rows j) (Unit {0}) (λ w f g. tt) ws p.0 q.0 p.1 q.1 in
      let c = det_the (codes ":") p.0 p.2.0 q.2.0 p.2.1 (subst (λ m. The ":" m q.2.0) (sym n.1) q.2.1) in
      let f = value_first ds (resolve ds.terms (term_or (find rows j))) w q.2.0 s q.2.2 in
      absurd (f.no_unknown (word_head f.word (codes "unknown") f.rest p.2.2.0 (sym f.is ∙ sym c.1 ∙ p.2.2.1)))
  unknown_only rows i j a xs hs (unknown b ys ks) ws r s p q =
      let all = det_then _ _ _ _ _ _ (det_one (IsNumberBelow (2 ^ 64) i) (IsNumberBelow (2 ^ 64) j) (i ≡ j) (natural_one (2 ^ 64) i j))
      (det_then _ _ _ _ _ _ (det_the (codes ":"))
      (det_then _ _ _ _ _ _ (det_the (codes "unknown"))
      (det_then _ _ _ _ _ _ (in_or_out a b)
      (det_then _ _ _ _ _ _ (det_one (AreHex xs) (AreHex ys) (xs ≡ ys) (λ w f g. hex_one xs ys w f.1 g.1))
      (det_then _ _ _ _ _ _ (det_the (codes "[")) (handles_only false hs ks)))))) in
      let x = all ws r s p q in
      ((x.0.0, (λ k. unknown (x.0.1.1.1.0 k) (x.0.1.1.1.1.0 k) (x.0.1.1.1.1.1.1 k))), x.1)

  mutual
    pub only : (t : Term) (v w : Value) → HasNames rule t → Det (Spelled ds t v) (Spelled ds t w) (v ≡ w)
    only t absent w g = absent_only ds t w
    only ty.bool (bool true) w g = go w
      where
        go : (w : Value) → Det (The "true") (Spelled ds ty.bool w) (bool true ≡ w)
        go (bool true) ws r s p q = (refl, word_tail _ _ r s (sym p ∙ q))
        go (bool false) ws r s p q = let e = clash 116 102 _ _ ws r s p q in absurd (omega (arith, e))
        go _ ws r s p q = absurd q
    only ty.bool (bool false) w g = go w
      where
        go : (w : Value) → Det (The "false") (Spelled ds ty.bool w) (bool false ≡ w)
        go (bool true) ws r s p q = let e = clash 102 116 _ _ ws r s p q in absurd (omega (arith, e))
        go (bool false) ws r s p q = (refl, word_tail _ _ r s (sym p ∙ q))
        go _ ws r s p q = absurd q
    only (ty.number kind) (number z) w g = go w
      where
        go : (w : Value) → Det (One (IsNumberOf kind z)) (Spelled ds (ty.number kind) w) (number z ≡ w)
        go (number y) ws r s p q = det_one (IsNumberOf kind z) (IsNumberOf kind y) (number z ≡ number y) (λ w f g. ap (λ k. number k) (number_one z y w f.1 g.1)) ws r s p q
        go _ ws r s p q = absurd q
    only (ty.bits kind mask) (number z) w g = go w
      where
        go : (w : Value) → Det (One (IsNumberOf kind z)) (Spelled ds (ty.bits kind mask) w) (number z ≡ w)
        go (number y) ws r s p q = det_one (IsNumberOf kind z) (IsNumberOf kind y) (number z ≡ number y) (λ w f g. ap (λ k. number k) (number_one z y w f.1 g.1)) ws r s p q
        go _ ws r s p q = absurd q
    only (ty.enum kind values) (number z) w g = go w
      where
        go : (w : Value) → Det (One (IsNumberOf kind z)) (Spelled ds (ty.enum kind values) w) (number z ≡ w)
        go (number y) ws r s p q = det_one (IsNumberOf kind z) (IsNumberOf kind y) (number z ≡ number y) (λ w f g. ap (λ k. number k) (number_one z y w f.1 g.1)) ws r s p q
        go _ ws r s p q = absurd q
    only (ty.handle optional subtype rights) (handle h) w g = go w
      where
        go : (w : Value) → Det (AHandle h) (Spelled ds (ty.handle optional subtype rights) w) (handle h ≡ w)
        go (handle k) ws r s p q = let x = det_handle h k ws r s p q in (ap (λ i. handle i) x.0, x.1)
        go absent ws r s p q = let e = clash 104 97 _ _ ws p.0 s p.1 q in absurd (omega (arith, e))
        go _ ws r s p q = absurd q
    only (ty.string optional bound) (text bytes) w g = go w
      where
        go : (w : Value) → Det (One (λ l. IsQuoted l bytes)) (Spelled ds (ty.string optional bound) w) (text bytes ≡ w)
        go (text ys) ws r s p q = det_one (λ l. IsQuoted l bytes) (λ l. IsQuoted l ys) (text bytes ≡ text ys) (λ w f g. ap (λ l. text l) (quoted_one bytes ys w f g)) ws r s p q
        go absent ws r s p q = let e = clash 34 97 (p.1.0 ++ 34 ∷ []) _ ws r s (p.2 ∙ ap (λ w. w ∷ r) p.1.2) q in absurd (omega (arith, e))
        go _ ws r s p q = absurd q
    only (ty.vector optional bound t) (list vs) w g = go w (λ us. only_elements (resolve ds.terms t) false vs us (readable_resolve rule ds.terms t ready g))
      where
        go : (w : Value) → ((us : Values) → Det (Elements ds (resolve ds.terms t) false vs ⨾ The "]") (Elements ds (resolve ds.terms t) false us ⨾ The "]") (vs ≡ us)) → Det (Spelled ds (ty.vector optional bound t) (list vs)) (Spelled ds (ty.vector optional bound t) w) (list vs ≡ w)
        go (list us) h ws r s p q = let x = det_then _ _ _ _ _ _ (det_the (codes "[")) (h us) ws r s p q in (ap (λ l. list l) x.0.1, x.1)
        go absent h ws r s p q = let e = clash 91 97 [] _ ws p.0 s p.1 q in absurd (omega (arith, e))
        go _ h ws r s p q = absurd q
    only (ty.array t n) (list vs) w g = go w (λ us. only_elements (resolve ds.terms t) false vs us (readable_resolve rule ds.terms t ready g))
      where
        go : (w : Value) → ((us : Values) → Det (Elements ds (resolve ds.terms t) false vs ⨾ The "]") (Elements ds (resolve ds.terms t) false us ⨾ The "]") (vs ≡ us)) → Det (Spelled ds (ty.array t n) (list vs)) (Spelled ds (ty.array t n) w) (list vs ≡ w)
        go (list us) h ws r s p q = let x = det_then _ _ _ _ _ _ (det_the (codes "[")) (h us) ws r s p q in (ap (λ l. list l) x.0.1, x.1)
        go _ h ws r s p q = absurd q
    only (ty.struct fs) (fields vs) w g = go w (λ us. only_fields fs false vs us g)
      where
        go : (w : Value) → ((us : Values) → Det (Named ds fs false vs) (Named ds fs false us) (vs ≡ us)) → Det (Spelled ds (ty.struct fs) (fields vs)) (Spelled ds (ty.struct fs) w) (fields vs ≡ w)
        go (fields us) h ws r s p q = let x = det_then _ _ _ _ _ _ (det_the (codes "{")) (det_then _ _ _ _ _ _ (h us) (det_the (codes "}"))) ws r s p q in (ap (λ l. fields l) x.0.1.0, x.1)
        go _ h ws r s p q = absurd q
    only (ty.box t) (fields vs) w g = go w (λ us. only_fields (fields_of (resolve ds.terms t)) false vs us (readable_fields rule (resolve ds.terms t) (readable_resolve rule ds.terms t ready g)))
      where
        go : (w : Value) → ((us : Values) → Det (Named ds (fields_of (resolve ds.terms t)) false vs) (Named ds (fields_of (resolve ds.terms t)) false us) (vs ≡ us)) → Det (Spelled ds (ty.box t) (fields vs)) (Spelled ds (ty.box t) w) (fields vs ≡ w)
        go (fields us) h ws r s p q = let x = det_then _ _ _ _ _ _ (det_the (codes "{")) (det_then _ _ _ _ _ _ (h us) (det_the (codes "}"))) ws r s p q in (ap (λ l. fields l) x.0.1.0, x.1)
        go absent h ws r s p q = let e = clash 123 97 [] _ ws p.0 s p.1 q in absurd (omega (arith, e))
        go _ h ws r s p q = absurd q
    only (ty.table rows) (table n ms) w g = go w (λ us. only_members rows false 0 0 ms us g.1)
      where
        go : (w : Value) → ((us : Members) → Det (Rising ds rows false 0 ms ⨾ The "}") (Rising ds rows false 0 us ⨾ The "}") (ms ≡ us)) → Det (Spelled ds (ty.table rows) (table n ms)) (Spelled ds (ty.table rows) w) (table n ms ≡ w)
        go (table k us) h ws r s p q =
            let x = det_then _ _ _ _ _ _ (det_the (codes "table")) (det_then _ _ _ _ _ _ (det_the (codes "(")) (det_then _ _ _ _ _ _ (det_one (IsNumberBelow (2 ^ 64) n) (IsNumberBelow (2 ^ 64) k) (n ≡ k) (natural_one (2 ^ 64) n k))
            (det_then _ _ _ _ _ _ (det_the (codes ")")) (det_then _ _ _ _ _ _ (det_the (codes "{")) (h us))))) ws r s p q in
            ((λ i. table (x.0.1.1.0 i) (x.0.1.1.1.1.1 i)), x.1)
        go _ h ws r s p q = absurd q
    only (ty.union optional strict rows) (union ordinal m) w g = go w (λ j y. only_member rows ordinal j m y g.1)
      where
        go : (w : Value) → ((j : ℕ) (y : Member) → Det (AMember ds rows ordinal m) (AMember ds rows j y) ((ordinal ≡ j) × (m ≡ y))) → Det (Spelled ds (ty.union optional strict rows) (union ordinal m)) (Spelled ds (ty.union optional strict rows) w) (union ordinal m ≡ w)
        go (union j y) h ws r s p q =
            let x = det_then _ _ _ _ _ _ (det_the (codes "union")) (det_then _ _ _ _ _ _ (det_the (codes "(")) (det_then _ _ _ _ _ _ (h j y) (det_the (codes ")")))) ws r s p q in
            ((λ i. union (x.0.1.1.0.0 i) (x.0.1.1.0.1 i)), x.1)
        go absent h ws r s p q = let e = clash 117 97 _ _ ws p.0 s p.1 q in absurd (omega (arith, e))
        go _ h ws r s p q = absurd q
    only _ _ w g = λ ws r s p q. absurd p

    only_elements : (t : Term) (later : Bool) (vs us : Values) → HasNames rule t → Det (Elements ds t later vs ⨾ The "]") (Elements ds t later us ⨾ The "]") (vs ≡ us)
    only_elements t later none none g ws r s p q = (refl, word_tail (codes "]") (codes "]") r s (sym (p.1 ∙ p.2) ∙ q.1 ∙ q.2))
    only_elements t true none (value u us) g ws r s p q = let e = clash 93 44 [] [] ws r q.1.0 (p.1 ∙ p.2) q.1.1 in absurd (omega (arith, e))
    only_elements t false none (value u us) g ws r s p q =
        let f = value_first ds t u q.1.0 q.1.2.0 q.1.2.1 in
        absurd (f.no_close (word_head f.word (codes "]") f.rest r (sym f.is ∙ sym q.1.1 ∙ p.1 ∙ p.2)))
    only_elements t true (value v vs) none g ws r s p q = let e = clash 93 44 [] [] ws s p.1.0 (q.1 ∙ q.2) p.1.1 in absurd (omega (arith, e))
    only_elements t false (value v vs) none g ws r s p q =
        let f = value_first ds t v p.1.0 p.1.2.0 p.1.2.1 in
        absurd (f.no_close (word_head f.word (codes "]") f.rest s (sym f.is ∙ sym p.1.1 ∙ q.1 ∙ q.2)))
    only_elements t later (value v vs) (value u us) g ws r s p q =
        let c = det_comma later ws p.1.0 q.1.0 p.1.1 q.1.1 in
        let x = only t v u g p.1.0 p.1.2.0 q.1.2.0 p.1.2.1 (subst (λ m. Spelled ds t u m q.1.2.0) (sym c.1) q.1.2.1) in
        let y = only_elements t true vs us g p.1.2.0 r s (p.0, p.1.2.2, p.2) (q.0, subst (λ m. Elements ds t true us m q.0) (sym x.1) q.1.2.2, q.2) in
        ((λ i. value (x.0 i) (y.0 i)), y.1)

    only_fields : (fs : Fields) (later : Bool) (vs us : Values) → FieldsHaveNames rule fs → Det (Named ds fs later vs) (Named ds fs later us) (vs ≡ us)
    only_fields no_fields later none none g ws r s p q = (refl, sym p ∙ q)
    only_fields (field name t fs) later (value v vs) (value u us) g ws r s p q =
        let c = det_comma later ws p.0 q.0 p.1 q.1 in
        let n = det_one (λ w. w ≡ name) (λ w. w ≡ name) (Unit {0}) (λ w f g. tt) p.0 p.2.0 q.2.0 p.2.1 (subst (λ m. One (λ w. w ≡ name) m q.2.0) (sym c.1) q.2.1) in
        let d = det_the (codes ":") p.2.0 p.2.2.0 q.2.2.0 p.2.2.1 (subst (λ m. The ":" m q.2.2.0) (sym n.1) q.2.2.1) in
        let x = only (resolve ds.terms t) v u (readable_resolve rule ds.terms t ready g.1) p.2.2.0 p.2.2.2.0 q.2.2.2.0 p.2.2.2.1 (subst (λ m. Spelled ds (resolve ds.terms t) u m q.2.2.2.0) (sym d.1) q.2.2.2.1) in
        let y = only_fields fs true vs us g.2 p.2.2.2.0 r s p.2.2.2.2 (subst (λ m. Named ds fs true us m s) (sym x.1) q.2.2.2.2) in
        ((λ i. value (x.0 i) (y.0 i)), y.1)
    only_fields no_fields later none (value u us) g ws r s p q = absurd q
    only_fields (field name t fs) later (value v vs) none g ws r s p q = absurd q
    only_fields _ later _ us g ws r s p q = absurd p

    pub only_member : (rows : Rows) (i j : ℕ) (x y : Member) → RowsHaveNames rule rows → Det (AMember ds rows i x) (AMember ds rows j y) ((i ≡ j) × (x ≡ y))
    only_member rows i j (known v) y g = known_only rows i j v y (λ w. only (resolve ds.terms (term_or (find rows i))) v w (readable_resolve rule ds.terms (term_or (find rows i)) ready (readable_member rule rows i g)))
    only_member rows i j (unknown a xs hs) y g = unknown_only rows i j a xs hs y

    only_members : (rows : Rows) (later : Bool) (l k : ℕ) (ms us : Members) → RowsHaveNames rule rows → Det (Rising ds rows later l ms ⨾ The "}") (Rising ds rows later k us ⨾ The "}") (ms ≡ us)
    only_members rows later l k empty empty g ws r s p q = (refl, word_tail (codes "}") (codes "}") r s (sym (p.1 ∙ p.2) ∙ q.1 ∙ q.2))
    only_members rows true l k empty (member j y us) g ws r s p q = let e = clash 125 44 [] [] ws r q.1.1.0 (p.1 ∙ p.2) q.1.1.1 in absurd (omega (arith, e))
    only_members rows false l k empty (member j y us) g ws r s p q = absurd (member_no_brace rule ds rows j y q.1.1.0 q.1.1.2.0 r g q.1.1.2.1 (sym q.1.1.1 ∙ p.1 ∙ p.2))
    only_members rows true l k (member i x ms) empty g ws r s p q = let e = clash 125 44 [] [] ws s p.1.1.0 (q.1 ∙ q.2) p.1.1.1 in absurd (omega (arith, e))
    only_members rows false l k (member i x ms) empty g ws r s p q = absurd (member_no_brace rule ds rows i x p.1.1.0 p.1.1.2.0 s g p.1.1.2.1 (sym p.1.1.1 ∙ q.1 ∙ q.2))
    only_members rows later l k (member i x ms) (member j y us) g ws r s p q =
        let c = det_comma later ws p.1.1.0 q.1.1.0 p.1.1.1 q.1.1.1 in
        let h = only_member rows i j x y g p.1.1.0 p.1.1.2.0 q.1.1.2.0 p.1.1.2.1 (subst (λ m. AMember ds rows j y m q.1.1.2.0) (sym c.1) q.1.1.2.1) in
        let t = only_members rows true (suc i) (suc j) ms us g p.1.1.2.0 r s (p.0, p.1.1.2.2, p.2) (q.0, subst (λ m. Rising ds rows true (suc j) us m q.0) (sym h.1) q.1.1.2.2, q.2) in
        ((λ e. member (h.0.0 e) (h.0.1 e) (t.0 e)), t.1)
