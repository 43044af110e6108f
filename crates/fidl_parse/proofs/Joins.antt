-- How the parts of a production are read one after another.
use Rattle.std.proofs.Common.{◌≡◌, ℕ, List, [], ◌∷◌, ◌++◌, map, take, sym, ap, arith, append_assoc, append-nil, length-append, refl, subst, ◌∙◌}
use Rattle.std.specs.List.{AllByRecursion}
use Rattle.fidl_tree.specs.Leaf.{Leaf, words, joined}
use Rattle.fidl_parse.specs.declared.parser.Parser.{Parser}
use Rattle.fidl_parse.specs.Reading.{Reads}

pub all_join : {X : Type 0} (P : X → Type 0) (xs ys : List X) → AllByRecursion P xs → AllByRecursion P ys → AllByRecursion P (xs ++ ys)
all_join P [] ys a b = b
all_join P (x ∷ xs) ys a b = (a.0, all_join P xs ys a.1 b)

pub words_join : (xs ys : List Leaf) → words (xs ++ ys) ≡ words xs ++ words ys
words_join [] ys = refl
words_join (x ∷ xs) ys = ap (λ l. x.word ∷ l) (words_join xs ys)

pub joined_push : {T : Type 0} (f : T → List Leaf) (xs : List T) (x : T) → joined (map f (xs ++ x ∷ [])) ≡ joined (map f xs) ++ f x
joined_push f [] x = append-nil (f x)
joined_push f (y ∷ xs) x = ap (λ l. f y ++ l) (joined_push f xs x) ∙ sym (append_assoc (f y) (joined (map f xs)) (f x))

-- nothing is read where the place stays
pub reads_none : (p : Parser) (a : ℕ) → Reads p a a []
reads_none p a = record { places = omega arith; stand = sym (append-nil _); texts = tt }

-- two parts in a row
pub reads_join : (p : Parser) (a b c : ℕ) (xs ys : List Leaf) → Reads p a b xs → Reads p b c ys → Reads p a c (xs ++ ys)
reads_join p a b c xs ys r s = record {
  places = omega (arith, length-append xs ys, r.places, s.places);
  stand = s.stand ∙ (ap (λ l. l ++ words ys) r.stand ∙ (append_assoc (take a p.words.now) (words xs) (words ys) ∙ ap (λ l. take a p.words.now ++ l) (sym (words_join xs ys))));
  texts = all_join _ xs ys r.texts s.texts;
}

-- one word and what is behind it
pub reads_more : (p : Parser) (a b c : ℕ) (x : Leaf) (ys : List Leaf) → Reads p a b (x ∷ []) → Reads p b c ys → Reads p a c (x ∷ ys)
reads_more p a b c x ys = reads_join p a b c (x ∷ []) ys

-- one part more
pub reads_push : {T : Type 0} (f : T → List Leaf) (p : Parser) (a b c : ℕ) (xs : List T) (x : T) → Reads p a b (joined (map f xs)) → Reads p b c (f x) → Reads p a c (joined (map f (xs ++ x ∷ [])))
reads_push f p a b c xs x r s = subst (λ l. Reads p a c l) (sym (joined_push f xs x)) (reads_join p a b c _ _ r s)
