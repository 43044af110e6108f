-- A text begins with at most one word, and a text between quotes stands for one list of bytes.
use Rattle.std.proofs.Common.{rules, ◌≡◌, ℕ, List, [], ◌∷◌, ◌++◌, get_or, drop, refl, sym, ap, subst, ◌∙◌, Bool, true, false, arith}
use Rattle.std.proofs.lemmas.List.{append_assoc}
use Rattle.std.specs.Prelude.{◌&&◌, ◌==◌, Option, Some, None, if◌then◌else◌}
use Rattle.std.specs.Char.{is_ascii_hexdigit, encode_utf8}
use Rattle.std.specs.List.{list_all}
use Rattle.std.specs.Str.Parse.{digits_value}
use Rattle.fidl_spelling.specs.Words.{is_blank, is_word_byte, is_symbol, escaped, Piece, plain, letter, character, Pieces, no_pieces, piece, BeginsNo, IsWord, symbol, run, negative, quoted, AreWords, no_words, blank, word, Words}

pub head : (a b : ℕ) (x y : List ℕ) → a ∷ x ≡ b ∷ y → a ≡ b
head a b x y e = ap (λ l. get_or l 0 0) e

pub tail : (a b : ℕ) (x y : List ℕ) → a ∷ x ≡ b ∷ y → x ≡ y
tail a b x y e = ap (λ l. drop 1 l) e

pub no_both : (b : Bool) → b ≡ true → b ≡ false → ⊥
no_both b h k = let e : true ≡ false = sym h ∙ k in absurd (cc e)

pub and_left : (x y : Bool) → (x && y) ≡ true → x ≡ true
and_left true y e = refl
and_left false y e = e

pub and_right : (x y : Bool) → (x && y) ≡ true → y ≡ true
and_right true y e = e
and_right false y e = absurd (cc e)

-- two runs of bytes of which p is true, each as long as it can be
pub runs_same : (p : ℕ → Bool) (w v r s : List ℕ) → list_all p w ≡ true → list_all p v ≡ true → BeginsNo p r → BeginsNo p s → w ++ r ≡ v ++ s → (w ≡ v) × (r ≡ s)
runs_same p [] [] r s hw hv er es e = (refl, e)
runs_same p [] (c ∷ v) r s hw hv er es e = absurd (no_both (p c) (and_left (p c) (list_all p v) hv) (subst (λ l. BeginsNo p l) e er))
runs_same p (b ∷ w) [] r s hw hv er es e = absurd (no_both (p b) (and_left (p b) (list_all p w) hw) (subst (λ l. BeginsNo p l) (sym e) es))
runs_same p (b ∷ w) (c ∷ v) r s hw hv er es e =
    let k = runs_same p w v r s (and_right (p b) (list_all p w) hw) (and_right (p c) (list_all p v) hv) er es (tail b c (w ++ r) (v ++ s) e) in
    let h = head b c (w ++ r) (v ++ s) e in
    (ap (λ x. x ∷ w) h ∙ ap (λ l. c ∷ l) k.0, k.1)

abbrev some_or : Option ℕ → ℕ → ℕ
some_or None n = n
some_or (Some m) n = m

-- two pieces at the front of one text
pub pieces_same_one : (a x b y r s : List ℕ) → Piece a x → Piece b y → a ++ r ≡ b ++ s → (a ≡ b) × (x ≡ y) × (r ≡ s)
pieces_same_one _ _ _ _ r s (plain {b = b} p) (plain {b = c} q) e = let h = head b c r s e in (ap (λ n. n ∷ []) h, ap (λ n. n ∷ []) h, tail b c r s e)
pieces_same_one _ _ _ _ r s (plain {b = b} p) (letter {c = c} q) e = absurd (p.no_backslash (head b 92 r (c ∷ s) e))
pieces_same_one _ _ _ _ r s (plain {b = b} p) (character q) e = absurd (p.no_backslash (head b 92 r _ e))
pieces_same_one _ _ _ _ r s (letter {c = c} p) (plain {b = b} q) e = absurd (q.no_backslash (sym (head 92 b (c ∷ r) s e)))
pieces_same_one _ _ _ _ r s (character p) (plain {b = b} q) e = absurd (q.no_backslash (sym (head 92 b _ s e)))
pieces_same_one _ _ _ _ r s (letter {c = c} {b = b} p) (letter {c = d} {b = a} q) e =
    let t = tail 92 92 (c ∷ r) (d ∷ s) e in
    let h = head c d r s t in
    let same : b ≡ a = ap (λ o. some_or o b) (sym p ∙ ap escaped h ∙ q) in
    (ap (λ n. 92 ∷ n ∷ []) h, ap (λ n. n ∷ []) same, tail c d r s t)
pieces_same_one _ _ _ _ r s (letter {c = c} {b = b} p) (character q) e =
    let h : c ≡ 117 = head c 117 r _ (tail 92 92 (c ∷ r) _ e) in
    let n : None ≡ Some b = ap escaped (sym h) ∙ p in absurd (cc n)
pieces_same_one _ _ _ _ r s (character p) (letter {c = c} {b = b} q) e =
    let h : 117 ≡ c = head 117 c _ s (tail 92 92 _ (c ∷ s) e) in
    let n : None ≡ Some b = ap escaped h ∙ q in absurd (cc n)
pieces_same_one _ _ _ _ r s (character {digits = d} p) (character {digits = f} q) e =
    let t : (d ++ 125 ∷ []) ++ r ≡ (f ++ 125 ∷ []) ++ s = ap (λ l. drop 3 l) e in
    let k = runs_same is_ascii_hexdigit d f (125 ∷ r) (125 ∷ s) p.hex q.hex refl refl (sym (append_assoc d (125 ∷ []) r) ∙ t ∙ append_assoc f (125 ∷ []) s) in
    (ap (λ l. 92 ∷ 117 ∷ 123 ∷ (l ++ 125 ∷ [])) k.0, ap (λ l. encode_utf8 (digits_value 16 l)) k.0, tail 125 125 r s k.1)

pub no_quote_first : (a x z r : List ℕ) → Piece a x → a ++ z ≡ 34 ∷ r → ⊥
no_quote_first _ _ z r (plain {b = b} p) e = p.no_quote (head b 34 z r e)
no_quote_first _ _ z r (letter {c = c} p) e = let h = head 92 34 (c ∷ z) r e in absurd (omega (arith, h))
no_quote_first _ _ z r (character p) e = let h = head 92 34 _ r e in absurd (omega (arith, h))

-- two texts between quotes at the front of one text
pub pieces_same : (a x b y r s : List ℕ) → Pieces a x → Pieces b y → a ++ 34 ∷ r ≡ b ++ 34 ∷ s → (a ≡ b) × (x ≡ y) × (r ≡ s)
pieces_same _ _ _ _ r s no_pieces no_pieces e = (refl, refl, tail 34 34 r s e)
pieces_same _ _ _ _ r s no_pieces (piece {a = a} {x = x} {b = b} p q) e = absurd (no_quote_first a x (b ++ 34 ∷ s) r p (sym (append_assoc a b (34 ∷ s)) ∙ sym e))
pieces_same _ _ _ _ r s (piece {a = a} {x = x} {b = b} p q) no_pieces e = absurd (no_quote_first a x (b ++ 34 ∷ r) s p (sym (append_assoc a b (34 ∷ r)) ∙ e))
pieces_same _ _ _ _ r s (piece {a = a} {x = x} {b = b} {y = y} p q) (piece {a = c} {x = u} {b = d} {y = v} k l) e =
    let h = pieces_same_one a x c u (b ++ 34 ∷ r) (d ++ 34 ∷ s) p k (sym (append_assoc a b (34 ∷ r)) ∙ e ∙ append_assoc c d (34 ∷ s)) in
    let t = pieces_same b y d v r s q l h.2 in
    ((λ i. h.0 i ++ t.0 i), (λ i. h.1 i ++ t.1 i), t.2)

symbol_no_word : (b : ℕ) → is_symbol b ≡ true → is_word_byte b ≡ false
symbol_no_word b h = search (rules, h)

symbol_no_blank : (b : ℕ) → is_symbol b ≡ true → is_blank b ≡ false
symbol_no_blank b h = search (rules, h)

word_no_blank : (b : ℕ) → is_word_byte b ≡ true → is_blank b ≡ false
word_no_blank b h = search (rules, h)

word_no_symbol : (b : ℕ) → is_word_byte b ≡ true → is_symbol b ≡ false
word_no_symbol b h = search (rules, h)

-- what a word that begins with the byte is
abbrev class : ℕ → ℕ
class b = if is_blank b then 4 else if is_symbol b then 0 else if is_word_byte b then 1 else if b == 45 then 2 else 3

abbrev tag : (w r : List ℕ) → IsWord w r → ℕ
tag _ _ (symbol h) = 0
tag _ _ (run h f) = 1
tag _ _ (negative h f) = 2
tag _ _ (quoted h) = 3

record Begins (w : List ℕ) (n : ℕ) : Type 0 where
  first : ℕ
  rest : List ℕ
  is : w ≡ first ∷ rest
  of : class first ≡ n

begins : (w r : List ℕ) (h : IsWord w r) → Begins w (tag w r h)
begins _ _ (symbol {b = b} h) = record { first = b; rest = []; is = refl; of = rw (symbol_no_blank b h, h) refl }
begins _ _ (run {w = []} h f) = absurd (omega (arith, h.0))
begins _ _ (run {w = b ∷ w} h f) = let k = and_left (is_word_byte b) (list_all is_word_byte w) h.1 in record { first = b; rest = w; is = refl; of = rw (word_no_blank b k, word_no_symbol b k, k) refl }
begins _ _ (negative {w = w} h f) = record { first = 45; rest = w; is = refl; of = refl }
begins _ _ (quoted h) = record { first = 34; rest = h.0 ++ 34 ∷ []; is = h.2; of = refl }

same_class : (w v r s : List ℕ) (m n : ℕ) → Begins w m → Begins v n → w ++ r ≡ v ++ s → m ≡ n
same_class w v r s m n h k e =
    let all : h.first ∷ (h.rest ++ r) ≡ k.first ∷ (k.rest ++ s) = ap (λ l. l ++ r) (sym h.is) ∙ e ∙ ap (λ l. l ++ s) k.is in
    sym h.of ∙ ap class (head h.first k.first (h.rest ++ r) (k.rest ++ s) all) ∙ k.of

-- two words at the front of one text
pub one_word : (w v r s : List ℕ) → IsWord w r → IsWord v s → w ++ r ≡ v ++ s → (w ≡ v) × (r ≡ s)
one_word w v r s h k e = go w v r s h k e (same_class w v r s (tag w r h) (tag v s k) (begins w r h) (begins v s k) e)
  where
    go : (w v r s : List ℕ) (h : IsWord w r) (k : IsWord v s) → w ++ r ≡ v ++ s → tag w r h ≡ tag v s k → (w ≡ v) × (r ≡ s)
    go _ _ r s (symbol {b = b} h) (symbol {b = c} k) e t = (ap (λ n. n ∷ []) (head b c r s e), tail b c r s e)
    go w v r s (run h f) (run k g) e t = runs_same is_word_byte w v r s h.1 k.1 f g e
    go _ _ r s (negative {w = w} h f) (negative {w = v} k g) e t =
        let x = runs_same is_word_byte w v r s h.1 k.1 f g (tail 45 45 (w ++ r) (v ++ s) e) in (ap (λ l. 45 ∷ l) x.0, x.1)
    go w v r s (quoted h) (quoted k) e t =
        let all : 34 ∷ (h.0 ++ 34 ∷ [] ++ r) ≡ 34 ∷ (k.0 ++ 34 ∷ [] ++ s) = ap (λ l. l ++ r) (sym h.2) ∙ e ∙ ap (λ l. l ++ s) k.2 in
        let x = pieces_same h.0 _ k.0 _ r s h.1 k.1 (sym (append_assoc h.0 (34 ∷ []) r) ∙ tail 34 34 _ _ all ∙ append_assoc k.0 (34 ∷ []) s) in
        (h.2 ∙ ap (λ l. 34 ∷ (l ++ 34 ∷ [])) x.0 ∙ sym k.2, x.2)
    go _ _ r s (symbol h) (run k g) e t = absurd (omega (arith, t))
    go _ _ r s (symbol h) (negative k g) e t = absurd (omega (arith, t))
    go _ _ r s (symbol h) (quoted k) e t = absurd (omega (arith, t))
    go _ _ r s (run h f) (symbol k) e t = absurd (omega (arith, t))
    go _ _ r s (run h f) (negative k g) e t = absurd (omega (arith, t))
    go _ _ r s (run h f) (quoted k) e t = absurd (omega (arith, t))
    go _ _ r s (negative h f) (symbol k) e t = absurd (omega (arith, t))
    go _ _ r s (negative h f) (run k g) e t = absurd (omega (arith, t))
    go _ _ r s (negative h f) (quoted k) e t = absurd (omega (arith, t))
    go _ _ r s (quoted h) (symbol k) e t = absurd (omega (arith, t))
    go _ _ r s (quoted h) (run k g) e t = absurd (omega (arith, t))
    go _ _ r s (quoted h) (negative k g) e t = absurd (omega (arith, t))

-- no word stands at a blank, and none at the end
pub blank_no_word : (b : ℕ) (w r t : List ℕ) → is_blank b ≡ true → IsWord w r → b ∷ t ≡ w ++ r → ⊥
blank_no_word b w r t h k e =
    let g = begins w r k in
    let same : b ≡ g.first = head b g.first t (g.rest ++ r) (e ∙ ap (λ l. l ++ r) g.is) in
    let four : class b ≡ 4 = rw h refl in
    let of : 4 ≡ tag w r k = sym four ∙ ap class same ∙ g.of in
    few w r k of
  where
    few : (w r : List ℕ) (k : IsWord w r) → 4 ≡ tag w r k → ⊥
    few _ _ (symbol h) e = absurd (omega (arith, e))
    few _ _ (run h f) e = absurd (omega (arith, e))
    few _ _ (negative h f) e = absurd (omega (arith, e))
    few _ _ (quoted h) e = absurd (omega (arith, e))

pub end_no_word : (w r : List ℕ) → IsWord w r → [] ≡ w ++ r → ⊥
end_no_word w r k e = let g = begins w r k in let n : [] ≡ g.first ∷ (g.rest ++ r) = e ∙ ap (λ l. l ++ r) g.is in absurd (cc n)

-- the words of one text
pub words_same : (t u : List ℕ) (ws vs : Words) → t ≡ u → AreWords t ws → AreWords u vs → ws ≡ vs
words_same _ _ _ _ e no_words no_words = refl
words_same _ _ _ _ e no_words (blank k l) = absurd (cc e)
words_same _ _ _ _ e no_words (word {w = w} {rest = r} k l) = absurd (end_no_word w r k e)
words_same _ _ _ _ e (blank k l) no_words = absurd (cc e)
words_same _ _ _ _ e (word {w = w} {rest = r} k l) no_words = absurd (end_no_word w r k (sym e))
words_same _ _ _ _ e (blank {b = b} {text = t} h k) (blank {b = c} {text = u} l m) = words_same t u _ _ (tail b c t u e) k m
words_same _ _ _ _ e (blank {b = b} {text = t} h k) (word {w = w} {rest = r} l m) = absurd (blank_no_word b w r t h l e)
words_same _ _ _ _ e (word {w = w} {rest = r} l m) (blank {b = b} {text = t} h k) = absurd (blank_no_word b w r t h l (sym e))
words_same _ _ _ _ e (word {w = w} {rest = r} {ws = ws} h k) (word {w = v} {rest = s} {ws = vs} l m) =
    let x = one_word w v r s h l e in
    let y = words_same r s ws vs x.1 k m in
    λ i. x.0 i ∷ y i
