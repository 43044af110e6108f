-- The first words of what is spelled.
use Rattle.std.proofs.Common.{◌≡◌, ◌≢◌, ℕ, List, [], ◌∷◌, ◌++◌, sym, ap, subst, ◌∙◌, true, false, arith, inl, inr, ℤ, get_or}
use Rattle.std.specs.Prelude.{codes}
use Rattle.std.specs.List.{list_all}
use Rattle.fidl_wire.specs.Value.{Value, absent, bool, number, text, list, fields, handle, table, union, Member, known, unknown}
use Rattle.fidl_wire.specs.Term.{Term, Fields, Rows, no_rows, row}
use Rattle.fidl_wire.specs.Term as ty
use Rattle.fidl_wire.specs.Figure.{Declarations}
use Rattle.fidl_spelling.specs.Words.{Words, IsRun, is_word_byte}
use Rattle.fidl_spelling.specs.Spells.{IsNumber, Bears, Spelled, AMember}
use Rattle.fidl_spelling.specs.Readable.{RowsHaveNames}
use Rattle.fidl_spelling.proofs.Det.{number_first, word_head}
use Rattle.fidl_spelling.proofs.WordLaws.{head}

-- a word, which neither closes a list nor begins an unknown member
pub record First (ws : Words) : Type 0 where
  pub word : List ℕ
  pub rest : Words
  pub is : ws ≡ word ∷ rest
  pub no_close : word ≢ codes "]"
  pub no_unknown : word ≢ codes "unknown"

-- a word that begins with another byte
first_byte : (a : ℕ) (x : List ℕ) (ws r : Words) → ws ≡ (a ∷ x) ∷ r → a ≢ 93 → a ≢ 117 → First ws
first_byte a x ws r e n m = record { word = a ∷ x; rest = r; is = e; no_close = λ k. n (head a 93 x [] k); no_unknown = λ k. m (head a 117 x _ k) }

first_number : (z : ℤ) (w : List ℕ) (ws r : Words) → IsNumber z w → ws ≡ w ∷ r → First ws
first_number z w ws r h e = record {
  word = w;
  rest = r;
  is = e;
  no_close = λ k. let c = number_first z 93 [] (subst (λ l. IsNumber z l) k h) (omega arith) in absurd (omega (arith, c));
  no_unknown = λ k. let c = number_first z 117 (codes "nknown") (subst (λ l. IsNumber z l) k h) (omega arith) in absurd (omega (arith, c));
}

pub value_first : (ds : Declarations) (t : Term) (v : Value) (ws r : Words) → Spelled ds t v ws r → First ws
value_first ds ty.bool (bool true) ws r p = first_byte 116 (codes "rue") ws r p (λ k. absurd (omega (arith, k))) (λ k. absurd (omega (arith, k)))
value_first ds ty.bool (bool false) ws r p = first_byte 102 (codes "alse") ws r p (λ k. absurd (omega (arith, k))) (λ k. absurd (omega (arith, k)))
value_first ds (ty.number kind) (number z) ws r p = first_number z p.0 ws r p.1.1 p.2
value_first ds (ty.bits kind mask) (number z) ws r p = first_number z p.0 ws r p.1.1 p.2
value_first ds (ty.enum kind values) (number z) ws r p = first_number z p.0 ws r p.1.1 p.2
value_first ds (ty.handle optional subtype rights) (handle h) ws r p = first_byte 104 (codes "andle") ws p.0 p.1 (λ k. absurd (omega (arith, k))) (λ k. absurd (omega (arith, k)))
value_first ds (ty.string optional bound) (text bytes) ws r p = first_byte 34 (p.1.0 ++ 34 ∷ []) ws r (p.2 ∙ ap (λ w. w ∷ r) p.1.2) (λ k. absurd (omega (arith, k))) (λ k. absurd (omega (arith, k)))
value_first ds (ty.vector optional bound t) (list vs) ws r p = first_byte 91 [] ws p.0 p.1 (λ k. absurd (omega (arith, k))) (λ k. absurd (omega (arith, k)))
value_first ds (ty.array t n) (list vs) ws r p = first_byte 91 [] ws p.0 p.1 (λ k. absurd (omega (arith, k))) (λ k. absurd (omega (arith, k)))
value_first ds (ty.struct fs) (fields vs) ws r p = first_byte 123 [] ws p.0 p.1 (λ k. absurd (omega (arith, k))) (λ k. absurd (omega (arith, k)))
value_first ds (ty.box t) (fields vs) ws r p = first_byte 123 [] ws p.0 p.1 (λ k. absurd (omega (arith, k))) (λ k. absurd (omega (arith, k)))
value_first ds (ty.table rows) (table n ms) ws r p = first_byte 116 (codes "able") ws p.0 p.1 (λ k. absurd (omega (arith, k))) (λ k. absurd (omega (arith, k)))
value_first ds (ty.union optional strict rows) (union ordinal m) ws r p = record {
  word = codes "union";
  rest = p.0;
  is = p.1;
  no_close = λ k. let e = head 117 93 _ [] k in absurd (omega (arith, e));
  no_unknown = λ k. let e : 105 ≡ 107 = ap (λ l. get_or l 2 0) k in absurd (omega (arith, e));
}
value_first ds (ty.handle optional subtype rights) absent ws r p = first_byte 97 (codes "bsent") ws r p (λ k. absurd (omega (arith, k))) (λ k. absurd (omega (arith, k)))
value_first ds (ty.string optional bound) absent ws r p = first_byte 97 (codes "bsent") ws r p (λ k. absurd (omega (arith, k))) (λ k. absurd (omega (arith, k)))
value_first ds (ty.vector optional bound t) absent ws r p = first_byte 97 (codes "bsent") ws r p (λ k. absurd (omega (arith, k))) (λ k. absurd (omega (arith, k)))
value_first ds (ty.box t) absent ws r p = first_byte 97 (codes "bsent") ws r p (λ k. absurd (omega (arith, k))) (λ k. absurd (omega (arith, k)))
value_first ds (ty.union optional strict rows) absent ws r p = first_byte 97 (codes "bsent") ws r p (λ k. absurd (omega (arith, k))) (λ k. absurd (omega (arith, k)))
value_first ds (ty.named i) absent ws r p = absurd p
value_first ds _ _ ws r p = absurd p

-- a name of a member is a run of word bytes
name_run : (rule : Rows → Type 0) (rows : Rows) (name : List ℕ) (ordinal : ℕ) → RowsHaveNames rule rows → Bears rows name ordinal → IsRun name
name_run rule no_rows name ordinal g h = absurd h
name_run rule (row key n t rows) name ordinal g (inl h) = subst IsRun (sym h.1) g.0
name_run rule (row key n t rows) name ordinal g (inr h) = name_run rule rows name ordinal g.2 h

no_brace_run : (w : List ℕ) → IsRun w → w ≡ codes "}" → ⊥
no_brace_run w h e = let b : false ≡ true = subst (λ l. list_all is_word_byte l ≡ true) e h.1 in absurd (cc b)

-- no member begins with a closing brace
pub member_no_brace : (rule : Rows → Type 0) (ds : Declarations) (rows : Rows) (ordinal : ℕ) (m : Member) (ws r z : Words) → RowsHaveNames rule rows → AMember ds rows ordinal m ws r → ws ≡ codes "}" ∷ z → ⊥
member_no_brace rule ds rows ordinal (known v) ws r z g p e =
    let n = p.1 in
    no_brace_run n.0 (name_run rule rows n.0 ordinal g n.1.bears) (word_head n.0 (codes "}") p.0 z (sym n.2 ∙ e))
member_no_brace rule ds rows ordinal (unknown inline bytes hs) ws r z g p e =
    let n = p.1 in
    let c = number_first _ 125 [] (subst (λ l. IsNumber _ l) (word_head n.0 (codes "}") p.0 z (sym n.2 ∙ e)) n.1.1) (omega arith) in
    absurd (omega (arith, c))
