-- Words that are cut off the front of a text, one by one.
use Rattle.std.proofs.Common.{◌≡◌, ◌≢◌, ℕ, ◌+◌, ◌<◌, ◌≤◌, List, [], ◌∷◌, ◌++◌, length, drop, get_or, slice_range, refl, sym, ap, subst, ◌∙◌, arith, append_assoc, append-nil, true, false, inl, inr, ◌⊎◌}
use Rattle.std.specs.List.{list_all}
use Rattle.std.proofs.lemmas.List.{drop_more, drop_all}
use Rattle.fidl_reading.proofs.Slices.{cut, length-slice_range, one_byte, join}
use Rattle.fidl_spelling.specs.Words.{Words, is_blank, is_word_byte, is_symbol, IsRun, BeginsNoRun, IsQuoted, IsWord, symbol, run, negative, quoted, AreWords, no_words, blank, word}
use Rattle.fidl_reading.specs.Cuts.{IsFront, BeginsNoWord}
use Rattle.fidl_spelling.proofs.WordLaws.{head, tail, and_left, one_word, blank_no_word, end_no_word, no_both}

blank_back : (b : ℕ) (t u : List ℕ) (ws : Words) → is_blank b ≡ true → u ≡ b ∷ t → AreWords u ws → AreWords t ws
blank_back b t _ _ h e no_words = absurd (cc e)
blank_back b t _ _ h e (blank {b = c} {text = u} {ws = ws} k l) = subst (λ x. AreWords x ws) (tail c b u t e) l
blank_back b t _ _ h e (word {w = w} {rest = r} k l) = absurd (blank_no_word b w r t h k (sym e))

word_back : (w r u : List ℕ) (ws : Words) → IsWord w r → u ≡ w ++ r → AreWords u ws → (more : Words) × (ws ≡ w ∷ more) × AreWords r more
word_back w r _ _ h e no_words = absurd (end_no_word w r h e)
word_back w r _ _ h e (blank {b = b} {text = t} k l) = absurd (blank_no_word b w r t k h e)
word_back w r _ _ h e (word {w = v} {rest = s} {ws = ws} k l) = let x = one_word v w s r k h e in (ws, ap (λ y. y ∷ ws) x.0, subst (λ y. AreWords y ws) x.1 l)

pub front_none : (text : List ℕ) → IsFront text [] 0
front_none text = record { sound = λ ws h. h; only = λ ws h. (ws, refl, h) }

pub front_blank : (text : List ℕ) (words : Words) (at : ℕ) → at < length text → is_blank (get_or text at 0) ≡ true → IsFront text words at → IsFront text words (at + 1)
front_blank text words at lt h front =
    let b = get_or text at 0 in
    let e : drop at text ≡ b ∷ drop (at + 1) text = drop_more text at 0 lt in
    record {
      sound = λ ws k. front.sound ws (subst (λ l. AreWords l ws) (sym e) (blank h k));
      only = λ ws k. let r = front.only ws k in (r.0, r.1, blank_back b (drop (at + 1) text) (drop at text) r.0 h e r.2);
    }

pub front_word : (text : List ℕ) (words : Words) (at to : ℕ) → at ≤ to → IsWord (slice_range text at to) (drop to text) → IsFront text words at → IsFront text (words ++ slice_range text at to ∷ []) to
front_word text words at to le h front =
    let w = slice_range text at to in
    let e : drop at text ≡ w ++ drop to text = cut text at to le in
    record {
      sound = λ ws k. subst (λ l. AreWords text l) (sym (append_assoc words (w ∷ []) ws)) (front.sound (w ∷ ws) (subst (λ l. AreWords l (w ∷ ws)) (sym e) (word h k)));
      only = λ ws k.
          let r = front.only ws k in
          let m = word_back w (drop to text) (drop at text) r.0 h e r.2 in
          (m.0, r.1 ∙ ap (λ l. words ++ l) m.1 ∙ sym (append_assoc words (w ∷ []) m.0), m.2);
    }

pub symbol_word : (text : List ℕ) (at : ℕ) → at < length text → is_symbol (get_or text at 0) ≡ true → IsWord (slice_range text at (at + 1)) (drop (at + 1) text)
symbol_word text at lt h = subst (λ w. IsWord w (drop (at + 1) text)) (sym (one_byte text at lt)) (symbol h)

is_run : (text : List ℕ) (from to : ℕ) → from < to → to ≤ length text → list_all is_word_byte (slice_range text from to) ≡ true → IsRun (slice_range text from to)
is_run text from to lt le h = let n = length-slice_range text from to (omega (arith, lt)) le in (omega (arith, n, lt), h)

pub run_word : (text : List ℕ) (from to : ℕ) → from < to → to ≤ length text → list_all is_word_byte (slice_range text from to) ≡ true → BeginsNoRun (drop to text) → IsWord (slice_range text from to) (drop to text)
run_word text from to lt le h k = run (is_run text from to lt le h) k

pub negative_word : (text : List ℕ) (at to : ℕ) → get_or text at 0 ≡ 45 → at + 1 < to → to ≤ length text → list_all is_word_byte (slice_range text (at + 1) to) ≡ true → BeginsNoRun (drop to text) → IsWord (slice_range text at to) (drop to text)
negative_word text at to is lt le h k =
    let e : 45 ∷ slice_range text (at + 1) to ≡ slice_range text at to =
    ap (λ b. b ∷ slice_range text (at + 1) to) (sym is) ∙ ap (λ l. l ++ slice_range text (at + 1) to) (sym (one_byte text at (omega (arith, lt, le)))) ∙ join text at (at + 1) to (omega arith) (omega (arith, lt)) in
    subst (λ w. IsWord w (drop to text)) e (negative (is_run text (at + 1) to lt le h) k)

-- a run does not stand where no word byte does
no_run_front : (t w r : List ℕ) → IsRun w → t ≡ w ++ r → BeginsNoRun t → ⊥
no_run_front t [] r h e k = absurd (omega (arith, h.0))
no_run_front t (b ∷ w) r h e k =
    let yes = and_left (is_word_byte b) (list_all is_word_byte w) h.1 in
    let no : is_word_byte b ≡ false = subst BeginsNoRun e k in
    no_both (is_word_byte b) yes no

-- no word stands where neither a symbol nor a quote stands, and no run, also behind a `-`
pub no_word : (text : List ℕ) (at from : ℕ) → at < length text → is_symbol (get_or text at 0) ≡ false → BeginsNoRun (drop from text)
    → ((get_or text at 0 ≡ 45) × (from ≡ at + 1)) ⊎ ((get_or text at 0 ≢ 45) × (from ≡ at))
    → get_or text at 0 ≢ 34 → BeginsNoWord (drop at text)
no_word text at from lt symbols stops which quote w r h e = go w r h (sym (drop_more text at 0 lt) ∙ e)
  where
    b : ℕ
    b = get_or text at 0

    t : List ℕ
    t = drop (at + 1) text

    go : (w r : List ℕ) → IsWord w r → b ∷ t ≡ w ++ r → ⊥
    go _ _ (symbol {b = c} {rest = r} k) e = let n : true ≡ false = sym k ∙ ap is_symbol (sym (head b c t r e)) ∙ symbols in absurd (cc n)
    go w r (run k f) e = elim which [
      | inl x ↦ no_run_front (b ∷ t) w r k e (subst (λ c. is_word_byte c ≡ false) (sym x.0) refl)
      | inr x ↦ no_run_front (drop at text) w r k (drop_more text at 0 lt ∙ e) (subst (λ n. BeginsNoRun (drop n text)) x.1 stops)
    ]
    go _ r (negative {w = w} k f) e = elim which [
      | inl x ↦ no_run_front t w r k (tail b 45 t (w ++ r) e) (subst (λ n. BeginsNoRun (drop n text)) x.1 stops)
      | inr x ↦ absurd (x.0 (head b 45 t (w ++ r) e))
    ]
    go w r (quoted k) e = absurd (quote (head b 34 t ((k.0 ++ 34 ∷ []) ++ r) (e ∙ ap (λ l. l ++ r) k.2)))

-- where a quote stands, only a text between quotes can
pub no_word_at_quote : (text : List ℕ) (at : ℕ) → at < length text → get_or text at 0 ≡ 34 → ((w rest bytes : List ℕ) → IsQuoted w bytes → drop at text ≡ w ++ rest → ⊥) → BeginsNoWord (drop at text)
no_word_at_quote text at lt is none w r h e = go w r h (ap (λ b. b ∷ drop (at + 1) text) (sym is) ∙ sym (drop_more text at 0 lt) ∙ e)
  where
    t : List ℕ
    t = drop (at + 1) text

    go : (w r : List ℕ) → IsWord w r → 34 ∷ t ≡ w ++ r → ⊥
    go _ _ (symbol {b = c} {rest = r} k) f = no_both (is_symbol c) k (ap is_symbol (sym (head 34 c t r f)))
    go w r (run k g) f = no_run_front (34 ∷ t) w r k f refl
    go _ r (negative {w = w} k g) f = let n = head 34 45 t (w ++ r) f in absurd (omega (arith, n))
    go w r (quoted {bytes = bytes} k) f = none w r bytes k (drop_more text at 0 lt ∙ ap (λ b. b ∷ t) is ∙ f)

-- words up to the end are all words
pub all_cut : (text : List ℕ) (words : Words) (at : ℕ) → at ≡ length text → IsFront text words at → AreWords text words
all_cut text words at end front =
    subst (λ ws. AreWords text ws) (append-nil words)
    (front.sound [] (subst (λ l. AreWords l []) (sym (drop_all at text (omega (arith, end)))) no_words))

-- where no blank and no word stands before the end, the text has no words
pub none_cut : (text : List ℕ) (words : Words) (at : ℕ) → at < length text → IsFront text words at → is_blank (get_or text at 0) ≡ false → BeginsNoWord (drop at text) → (ws : Words) → AreWords text ws → ⊥
none_cut text words at lt front no_blank stuck ws h = let r = front.only ws h in go (drop at text) r.0 refl r.2
  where
    go : (t : List ℕ) (ws : Words) → drop at text ≡ t → AreWords t ws → ⊥
    go _ _ e no_words = absurd (cc (sym e ∙ drop_more text at 0 lt))
    go _ _ e (blank {b = b} {text = t} k l) = no_both (is_blank b) k (ap is_blank (head b (get_or text at 0) t (drop (at + 1) text) (sym e ∙ drop_more text at 0 lt)) ∙ no_blank)
    go _ _ e (word {w = w} {rest = r} k l) = stuck w r k e

pub stands_at : (text : List ℕ) (at to : ℕ) → at ≤ to → to ≤ length text → slice_range text at (at + length (slice_range text at to)) ≡ slice_range text at to
stands_at text at to ordered within = ap (λ n. slice_range text at n) (let n = length-slice_range text at to ordered within in omega (arith, n, ordered))
