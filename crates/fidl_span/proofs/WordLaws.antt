-- A source is cut into words in at most one way, up to where no gap and no word stands.
use Rattle.std.proofs.Common.{◌≡◌, ℕ, ◌≤◌, ◌<◌, List, [], ◌∷◌, ◌++◌, length, drop, slice_range, Some, sym, refl, subst, ap, ◌∙◌, ⊎_elim, arith, length-drop}
use Rattle.std.proofs.lemmas.List.{drop_all}
use Rattle.fidl_span.specs.declared.words.Word.{Word}
use Rattle.fidl_span.specs.declared.words.WordKind.{WordKind}
use Rattle.fidl_span.specs.declared.words.WordKind.TheVariants.{Identifier, Number, String, Minus}
use Rattle.fidl_span.specs.Bytes.{is_word_byte}
use Rattle.fidl_span.specs.Gaps.{BeginsNoGap}
use Rattle.fidl_span.specs.Words.{IsWord, StandsAt, IsGapBetween, AreWordsBetween, Words, text_at, rest_behind}
use Rattle.std.proofs.lemmas.Bool.{cases_lt}
use Rattle.fidl_span.proofs.Slices.{cut, length-slice_range, slice_range-nil}
use Rattle.fidl_span.proofs.RunLaws.{IsRun-unique}
use Rattle.fidl_span.proofs.GapLaws.{gap_join, gap_ends_agree}
use Rattle.fidl_span.proofs.PieceLaws.{strings_agree}
use Rattle.fidl_span.proofs.KindLaws.{kind_at, word_kind, word_not_empty, kind_begins_no_gap}

-- no word stands at the front of this
abbrev pub BeginsNoWord : List ℕ → Type 0
BeginsNoWord xs = (k : WordKind) (text rest : List ℕ) → xs ≡ text ++ rest → ¬ IsWord k text rest

-- neither a gap nor a word stands here
pub record IsStuck (xs : List ℕ) : Type 0 where
  pub no_gap : BeginsNoGap xs
  pub no_word : BeginsNoWord xs

-- two words of one kind at one place have one text
texts_agree : (k : WordKind) (s t q r : List ℕ) → IsWord k s q → IsWord k t r → s ++ q ≡ t ++ r → s ≡ t
texts_agree Identifier s t q r hs ht e = (IsRun-unique is_word_byte s t q r hs.0 ht.0 e).0
texts_agree Number s t q r hs ht e = (IsRun-unique is_word_byte s t q r hs.0 ht.0 e).0
texts_agree String s t q r hs ht e = strings_agree s t q r hs ht e
texts_agree Minus s t q r hs ht e = hs.0 ∙ sym ht.0
texts_agree k s t q r hs ht e = hs ∙ sym ht

-- two words at one place are of one kind
kinds_agree : (k l : WordKind) (s t q r : List ℕ) → IsWord k s q → IsWord l t r → s ++ q ≡ t ++ r → k ≡ l
kinds_agree k l s t q r hs ht e =
    let shows : Some k ≡ Some l = sym (word_kind k s q hs) ∙ ap kind_at e ∙ word_kind l t r ht in
    cc

pub forms_agree : (k l : WordKind) (s t q r : List ℕ) → IsWord k s q → IsWord l t r → s ++ q ≡ t ++ r → (k ≡ l) × (s ≡ t)
forms_agree k l s t q r hs ht e =
    let same = kinds_agree k l s t q r hs ht e in
    let P : WordKind → Type 0 = λ m. IsWord m s q in
    (same, texts_agree l s t q r (subst P same hs) ht e)

-- two words of a source that begin at one place are one
word_same : (v w : Word) → v.kind ≡ w.kind → v.span.from ≡ w.span.from → v.span.to ≡ w.span.to → v ≡ w
word_same v w k f t = λ i. record { kind = k i; span = record { from = f i; to = t i } }

stands_cut : (src : List ℕ) (w : Word) → StandsAt src w → drop w.span.from src ≡ text_at src w.span ++ rest_behind src w.span
stands_cut src w h = cut src w.span.from w.span.to h.span.ordered

words_at_agree : (src : List ℕ) (v w : Word) → StandsAt src v → StandsAt src w → v.span.from ≡ w.span.from → v ≡ w
words_at_agree src v w hv hw e =
    let same = forms_agree v.kind w.kind _ _ _ _ hv.reads hw.reads (sym (stands_cut src v hv) ∙ ap (λ n. drop n src) e ∙ stands_cut src w hw) in
    let sizes = sym (length-slice_range src v.span.from v.span.to hv.span.ordered hv.span.within) ∙ ap length same.1 ∙ length-slice_range src w.span.from w.span.to hw.span.ordered hw.span.within in
    word_same v w same.0 e (omega (arith, hv.span.ordered, hw.span.ordered))

-- where a word stands, no gap begins
pub word_begins_no_gap : (src : List ℕ) (w : Word) → StandsAt src w → BeginsNoGap (drop w.span.from src)
word_begins_no_gap src w h =
    kind_begins_no_gap (drop w.span.from src) w.kind (ap kind_at (stands_cut src w h) ∙ word_kind w.kind _ _ h.reads)

-- at the end of a source nothing stands
pub end_is_stuck : (src : List ℕ) → IsStuck (drop (length src) src)
end_is_stuck src =
    let none = drop_all (length src) src (omega arith) in
    subst IsStuck (sym none) (record { no_gap = tt; no_word = nil_begins_no_word })
  where
    nil_begins_no_word : BeginsNoWord []
    nil_begins_no_word k [] rest e h = word_not_empty k rest h
    nil_begins_no_word k (b ∷ text) rest e h = cc

same_place : (src : List ℕ) (a b : ℕ) → a ≤ length src → b ≤ length src → drop a src ≡ drop b src → a ≡ b
same_place src a b ha hb e =
    let sizes = sym (length-drop a src) ∙ ap length e ∙ length-drop b src in
    omega arith

pub words_agree : (src : List ℕ) (from to end : ℕ) (ws vs : List Word) → AreWordsBetween src from ws to → IsStuck (drop to src) → AreWordsBetween src from vs end → IsStuck (drop end src) → (ws ≡ vs) × (drop to src ≡ drop end src)
words_agree src from to end [] [] hw sw hv sv = (refl, gap_ends_agree src from to end hw sw.no_gap hv sv.no_gap)
words_agree src from to end [] (v ∷ vs) hw sw hv sv =
    let ends = gap_ends_agree src from to v.span.from hw sw.no_gap hv.0 (word_begins_no_gap src v hv.1) in
    absurd (sw.no_word v.kind _ _ (ends ∙ stands_cut src v hv.1) hv.1.reads)
words_agree src from to end (w ∷ ws) [] hw sw hv sv =
    let ends = gap_ends_agree src from end w.span.from hv sv.no_gap hw.0 (word_begins_no_gap src w hw.1) in
    absurd (sv.no_word w.kind _ _ (ends ∙ stands_cut src w hw.1) hw.1.reads)
words_agree src from to end (w ∷ ws) (v ∷ vs) hw sw hv sv =
    let ends = gap_ends_agree src from w.span.from v.span.from hw.0 (word_begins_no_gap src w hw.1) hv.0 (word_begins_no_gap src v hv.1) in
    let same = words_at_agree src w v hw.1 hv.1 (same_place src w.span.from v.span.from hw.0.within hv.0.within ends) in
    let P : Word → Type 0 = λ u. AreWordsBetween src u.span.to vs end in
    let others = words_agree src w.span.to to end ws vs hw.2 sw (subst P (sym same) hv.2) sv in
    let tails : ws ≡ vs = others.0 in
    (cc, others.1)

pub words_unique : (src : List ℕ) (ws vs : List Word) → Words src ws → Words src vs → ws ≡ vs
words_unique src ws vs hw hv = (words_agree src 0 (length src) (length src) ws vs hw.1 (end_is_stuck src) hv.1 (end_is_stuck src)).0

-- behind some words a gap
pub words_then_gap : (src : List ℕ) (from to end : ℕ) (ws : List Word) → AreWordsBetween src from ws to → IsGapBetween src to end → AreWordsBetween src from ws end
words_then_gap src from to end [] hw gap = gap_join src from to end hw gap
words_then_gap src from to end (w ∷ ws) hw gap = (hw.0, hw.1, words_then_gap src w.span.to to end ws hw.2 gap)

-- behind some words one more word, and a gap
pub words_then_word : (src : List ℕ) (from to end : ℕ) (ws : List Word) (w : Word) → AreWordsBetween src from ws to → w.span.from ≡ to → StandsAt src w → IsGapBetween src w.span.to end → AreWordsBetween src from (ws ++ w ∷ []) end
words_then_word src from to end [] w hw e h gap =
    let P : ℕ → Type 0 = λ n. IsGapBetween src from n in
    (subst P (sym e) hw, h, gap)
words_then_word src from to end (v ∷ ws) w hw e h gap = (hw.0, hw.1, words_then_word src v.span.to to end ws w hw.2 e h gap)

-- a word takes a byte
pub word_takes : (src : List ℕ) (w : Word) → StandsAt src w → w.span.from < w.span.to
word_takes src w h =
    ⊎_elim
    (λ lt. lt)
    (λ le.
    let same : w.span.to ≡ w.span.from = omega (arith, h.span.ordered) in
    let none : text_at src w.span ≡ [] = ap (λ n. slice_range src w.span.from n) same ∙ slice_range-nil src w.span.from in
    let P : List ℕ → Type 0 = λ t. IsWord w.kind t (rest_behind src w.span) in
    absurd (word_not_empty w.kind (rest_behind src w.span) (subst P none h.reads)))
    (cases_lt w.span.from w.span.to)
