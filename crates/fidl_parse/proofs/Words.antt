-- Words of the grammar with different texts.
use Rattle.std.proofs.Common.{◌≡◌, ℕ, true, false, eqb, ◌&&◌, List, [], ◌∷◌, ◌++◌, ap, sym, refl, ◌∙◌, arith, Bool, ◌≢◌, not, ◌||◌, ◌⊎◌, inl, subst, inr}
use Rattle.std.proofs.lemmas.Bool.Decides.{nat_tests}
use Rattle.std.specs.List.{AllByRecursion, list_any}
use Rattle.std.proofs.lemmas.Bool.{false≢true}
use Rattle.fidl_span.specs.declared.words.Span.{Span}
use Rattle.fidl_span.specs.declared.words.WordKind.{WordKind}
use Rattle.fidl_span.specs.declared.words.WordKind.TheVariants as kind
use Rattle.fidl_tree.specs.Leaf.{Leaf, Text, any, is, none_of, Meets, keyword, text_at}
use Rattle.fidl_parse.specs.declared.parser.Parser.{Parser}
use Rattle.fidl_parse.specs.Reading.{IsTextAt}
use Rattle.fidl_parse.specs.Completeness.{Ahead}
use Rattle.fidl_parse.specs.FollowSets.{Begins, NotWord, same_text, excludes, is_identifier}
use Rattle.fidl_parse.proofs.Ahead.{word_at, text_same, none_ahead}

eqb_same : (n : ℕ) → eqb n n ≡ true
eqb_same n = grind (arith, nat_tests)

text_itself : (t : List ℕ) → same_text t t ≡ true
text_itself [] = refl
text_itself (a ∷ as') = ap (λ b. b && same_text as' as') (eqb_same a) ∙ text_itself as'

pub texts_differ : (t u : List ℕ) → same_text t u ≡ false → t ≡ u → ⊥
texts_differ t u e q = false≢true (sym e ∙ (ap (same_text t) (sym q) ∙ text_itself t))

-- two words of the grammar don't stand at one place
pub differ : (p : Parser) (at : ℕ) (t u : List ℕ) (s : Span) (ls : List Leaf) → same_text t u ≡ false → IsTextAt p at t → Ahead p at (keyword u s ++ ls) → ⊥
differ p at t u s ls e i a = texts_differ t u e (sym (text_same p at t _ ls i a).1 ∙ a.texts.0)

-- the next word has the text that is asked of it
pub text_ahead : (p : Parser) (at : ℕ) (t : List ℕ) (s : Span) (ls : List Leaf) → Ahead p at (keyword t s ++ ls) → IsTextAt p at t
text_ahead p at t s ls a = (record { kind = kind.Identifier; span = s }, word_at p at _ ls a, refl, a.texts.0)

-- no word of the grammar stands where another kind of word is next
pub no_text : (p : Parser) (at : ℕ) (t : List ℕ) (k : WordKind) (ls : List Leaf) → Begins k ls → is_identifier k ≡ false → IsTextAt p at t → Ahead p at ls → ⊥
no_text p at t k [] b n i a = b
no_text p at t k (l ∷ ls) b n i a = false≢true (sym n ∙ (ap is_identifier (sym b) ∙ ap is_identifier (text_same p at t l ls i a).0))

bool_or : (a b : Bool) → (a || b) ≡ true → (a ≡ true) ⊎ (b ≡ true)
bool_or true b e = inl refl
bool_or false b e = inr e

eqb_is : (a b : ℕ) → eqb a b ≡ true → a ≡ b
eqb_is a b e = grind (arith, nat_tests)

bool_and : (a b : Bool) → (a && b) ≡ true → (a ≡ true) × (b ≡ true)
bool_and true b e = (refl, e)
bool_and false b e = absurd (false≢true e)

text_is : (t u : List ℕ) → same_text t u ≡ true → t ≡ u
text_is [] [] e = refl
text_is [] (b ∷ bs) e = absurd (false≢true e)
text_is (a ∷ as') [] e = absurd (false≢true e)
text_is (a ∷ as') (b ∷ bs) e = let h = bool_and (eqb a b) (same_text as' bs) e in ap (λ n. n ∷ as') (eqb_is a b h.0) ∙ ap (λ l. b ∷ l) (text_is as' bs h.1)

one_of : (t o : List ℕ) (os : List (List ℕ)) → (t ≢ o) → (list_any (same_text t) os ≡ true → ⊥) → (same_text t o ≡ true) ⊎ (list_any (same_text t) os ≡ true) → ⊥
one_of t o os n m (inl e) = n (text_is t o e)
one_of t o os n m (inr e) = m e

-- a text that is one of these is not none of them
pub none_among : (t : List ℕ) (others : List (List ℕ)) → list_any (same_text t) others ≡ true → AllByRecursion (λ other. t ≢ other) others → ⊥
none_among t [] e h = false≢true e
none_among t (o ∷ os) e h = one_of t o os h.0 (λ f. none_among t os f h.1) (bool_or (same_text t o) (list_any (same_text t) os) e)

excluded : (text : Text) (w t : List ℕ) (others : List (List ℕ)) → excludes others text ≡ true → Meets text w → w ≡ t → list_any (same_text t) others ≡ true → ⊥
excluded any w t others e h q l = false≢true e
excluded (is u) w t others e h q l =
    let f : list_any (same_text u) others ≡ true = subst (λ v. list_any (same_text v) others ≡ true) (sym q ∙ h) l in
    false≢true (sym (ap not f) ∙ e)
excluded (none_of us) w t others e h q l = false≢true e

unless : (k : WordKind) (b : Bool) → k ≡ kind.Identifier → (not (is_identifier k) || b) ≡ true → b ≡ true
unless k b q e = subst (λ j. (not (is_identifier j) || b) ≡ true) q e

-- no such word stands where none may follow
pub not_word : (p : Parser) (at : ℕ) (t : List ℕ) (others : List (List ℕ)) (ls : List Leaf) → list_any (same_text t) others ≡ true → NotWord others ls → IsTextAt p at t → Ahead p at ls → ⊥
not_word p at t others [] l n i a = none_ahead p at kind.Identifier (i.0, i.1, i.2) a
not_word p at t others (x ∷ ls) l n i a =
    let s = text_same p at t x ls i a in
    excluded x.text (text_at p.src.now x.word.span) t others (unless x.word.kind (excludes others x.text) s.0 n) a.texts.0 s.1 l

fewer : (t : List ℕ) (others : List (List ℕ)) (text : Text) → excludes (t ∷ others) text ≡ true → excludes others text ≡ true
fewer t others any e = e
fewer t others (is u) e = less (same_text u t) (list_any (same_text u) others) e where
  less : (a b : Bool) → not (a || b) ≡ true → not b ≡ true
  less true b e = absurd (false≢true e)
  less false b e = e
fewer t others (none_of us) e = e

either : (a b c : Bool) → (b ≡ true → c ≡ true) → (a || b) ≡ true → (a || c) ≡ true
either true b c h e = refl
either false b c h e = h e

-- none of more words is none of fewer
pub not_word_of : (t : List ℕ) (others : List (List ℕ)) (ls : List Leaf) → NotWord (t ∷ others) ls → NotWord others ls
not_word_of t others [] n = tt
not_word_of t others (l ∷ ls) n = either (not (is_identifier l.word.kind)) (excludes (t ∷ others) l.text) (excludes others l.text) (fewer t others l.text) n

only : (t : List ℕ) (others : List (List ℕ)) (text : Text) → excludes (t ∷ others) text ≡ true → excludes (t ∷ []) text ≡ true
only t others any e = e
only t others (is u) e = first (same_text u t) (list_any (same_text u) others) e where
  first : (a b : Bool) → not (a || b) ≡ true → not (a || false) ≡ true
  first true b e = absurd (false≢true e)
  first false b e = refl
only t others (none_of us) e = e

-- none of more words is not the first of them
pub not_first_word : (t : List ℕ) (others : List (List ℕ)) (ls : List Leaf) → NotWord (t ∷ others) ls → NotWord (t ∷ []) ls
not_first_word t others [] n = tt
not_first_word t others (l ∷ ls) n = either (not (is_identifier l.word.kind)) (excludes (t ∷ others) l.text) (excludes (t ∷ []) l.text) (only t others l.text) n
