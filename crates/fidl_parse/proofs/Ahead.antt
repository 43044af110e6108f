-- The words that stand ahead.
use Rattle.std.proofs.Common.{◌≡◌, ℕ, zero, suc, ◌+◌, Bool, true, false, List, [], ◌∷◌, ◌++◌, drop, slice_get, Option, None, Some, sym, ap, append_assoc, refl, subst, ◌∙◌, add-one}
use Rattle.fidl_span.specs.declared.words.Word.{Word}
use Rattle.fidl_span.specs.declared.words.WordKind.{WordKind}
use Rattle.fidl_span.specs.declared.words.WordKind.TheVariants as kind
use Rattle.fidl_tree.specs.Leaf.{Leaf, words, text_at}
use Rattle.fidl_parse.specs.declared.parser.Parser.{Parser}
use Rattle.fidl_parse.specs.Reading.{IsKindAt, IsTextAt}
use Rattle.fidl_parse.specs.Completeness.{Ahead}
use Rattle.fidl_parse.specs.FollowSets.{Begins, Not}

pub look_front : (ws : List Word) (at : ℕ) (w : Word) (l : List Word) → drop at ws ≡ w ∷ l → slice_get ws at ≡ Some w
look_front [] zero w l e = cc
look_front [] (suc n) w l e = cc
look_front (x ∷ xs) zero w l e = cc
look_front (x ∷ xs) (suc n) w l e = look_front xs n w l e

pub look_end : (ws : List Word) (at : ℕ) → drop at ws ≡ [] → slice_get ws at ≡ None
look_end [] at e = refl
look_end (x ∷ xs) zero e = cc
look_end (x ∷ xs) (suc n) e = look_end xs n e

drop_next : (ws : List Word) (at : ℕ) (w : Word) (l : List Word) → drop at ws ≡ w ∷ l → drop (suc at) ws ≡ l
drop_next [] zero w l e = cc
drop_next [] (suc n) w l e = cc
drop_next (x ∷ xs) zero w l e = cc
drop_next (x ∷ xs) (suc n) w l e = drop_next xs n w l e

pub word_at : (p : Parser) (at : ℕ) (l : Leaf) (ls : List Leaf) → Ahead p at (l ∷ ls) → slice_get p.words.now at ≡ Some l.word
word_at p at l ls a = look_front p.words.now at l.word (words ls) a.stand

pub step : (p : Parser) (at : ℕ) (l : Leaf) (ls : List Leaf) → Ahead p at (l ∷ ls) → Ahead p (at + 1) ls
step p at l ls a = record {
  stand = subst (λ n. drop n p.words.now ≡ words ls) (sym (add-one at)) (drop_next p.words.now at l.word (words ls) a.stand);
  texts = a.texts.1;
}

pub kind_at : (p : Parser) (at : ℕ) (l : Leaf) (ls : List Leaf) → Ahead p at (l ∷ ls) → IsKindAt p at l.word.kind
kind_at p at l ls a = (l.word, word_at p at l ls a, refl)

-- at the end there is no word
pub none_ahead : (p : Parser) (at : ℕ) (k : WordKind) → IsKindAt p at k → Ahead p at [] → ⊥
none_ahead p at k i a = let e = look_end p.words.now at a.stand in let f = i.1 in cc

pub same_word : (v w : Word) (o : Option Word) → o ≡ Some v → o ≡ Some w → v ≡ w
same_word v w o e f = cc

pub kind_same : (p : Parser) (at : ℕ) (k : WordKind) (l : Leaf) (ls : List Leaf) → IsKindAt p at k → Ahead p at (l ∷ ls) → l.word.kind ≡ k
kind_same p at k l ls i a = ap (λ w. w.kind) (same_word l.word i.0 _ (word_at p at l ls a) i.1) ∙ i.2

-- what stands ahead begins with the next word
pub begins : (p : Parser) (at : ℕ) (k : WordKind) (ls : List Leaf) → IsKindAt p at k → Ahead p at ls → Begins k ls
begins p at k [] i a = none_ahead p at k i a
begins p at k (l ∷ ls) i a = kind_same p at k l ls i a

pub next : (p : Parser) (at : ℕ) (k : WordKind) (ls : List Leaf) → Begins k ls → Ahead p at ls → IsKindAt p at k
next p at k [] b a = absurd b
next p at k (l ∷ ls) b a = (l.word, word_at p at l ls a, b)

-- text of the next word
pub text_same : (p : Parser) (at : ℕ) (t : List ℕ) (l : Leaf) (ls : List Leaf) → IsTextAt p at t → Ahead p at (l ∷ ls)
    → (l.word.kind ≡ kind.Identifier) × (text_at p.src.now l.word.span ≡ t)
text_same p at t l ls i a =
    let e = same_word l.word i.0 _ (word_at p at l ls a) i.1 in
    (ap (λ w. w.kind) e ∙ i.2, ap (λ w. text_at p.src.now w.span) e ∙ i.3)

-- a word that is picked out does not stand where none is
pub not_begins : (picks : WordKind → Bool) (k : WordKind) (ls : List Leaf) → picks k ≡ true → Not picks ls → Begins k ls → ⊥
not_begins picks k [] e n b = b
not_begins picks k (l ∷ ls) e n b = let f = ap picks b in cc

pub begins_not : (picks : WordKind → Bool) (k : WordKind) (ls : List Leaf) → picks k ≡ false → Begins k ls → Not picks ls
begins_not picks k [] e b = tt
begins_not picks k (l ∷ ls) e b = ap picks b ∙ e

-- the first of two parts apart from what is behind it
pub group : (p : Parser) (at : ℕ) (xs ys zs : List Leaf) → Ahead p at ((xs ++ ys) ++ zs) → Ahead p at (xs ++ (ys ++ zs))
group p at xs ys zs a = subst (λ l. Ahead p at l) (append_assoc xs ys zs) a
