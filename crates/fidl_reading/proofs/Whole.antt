-- From the words of a text to what the text spells.
use Rattle.std.proofs.Common.{◌≡◌, ◌≤◌, ◌<◌, List, [], ◌∷◌, ◌⊎◌, inl, inr, ℕ, suc, true, false, ◌==◌, length, refl, subst, arith}
use Rattle.std.specs.Prelude.{IsUtf8}
use Rattle.std.proofs.Math.Nat.{eq-or-lt_of_le}
use Rattle.std.proofs.lemmas.Bool.{eqb-true}
use Rattle.fidl_wire.specs.Value.{Value}
use Rattle.fidl_wire.specs.Term.{Term, resolve}
use Rattle.fidl_wire.specs.Figure.{Declarations}
use Rattle.fidl_spelling.specs.Words.{Words, IsWithinLimit}
use Rattle.fidl_spelling.specs.Spells.{Spelled, SpellsWithin}
use Rattle.fidl_spelling.proofs.Det.{Det}
use Rattle.fidl_spelling.proofs.WordLaws.{words_same}
use Rattle.fidl_reading.specs.declared.fault.NotationFault.{NotationFault}
use Rattle.fidl_reading.specs.declared.fault.NotationFault.TheVariants.{Syntax, UnknownName, OutOfRange, Repeated, Memory}
use Rattle.fidl_reading.specs.declared.word.Cut.{Cut}
use Rattle.fidl_reading.specs.declared.word.Word.{Word}
use Rattle.fidl_reading.specs.Cuts.{IsCut, HasNoWords, texts_of}
use Rattle.fidl_reading.specs.Reads.{StandsNot, IfJudged}

-- words are left, or none
pub some_left : (words : List Word) → (length words == 0) ≡ false → texts_of words ≡ [] → ⊥
some_left [] some e = absurd (let never : true ≡ false = some in cc never)
some_left (w ∷ words) some e = absurd (cc e)

pub none_left : (words : List Word) → (length words == 0) ≡ true → texts_of words ≡ []
none_left [] e = refl
none_left (w ∷ words) e = let no : suc (length words) ≡ 0 = eqb-true (length (w ∷ words)) 0 e in absurd (omega (arith, no))

module _ (ds : Declarations) (t : Term) (text : List ℕ) where
  -- a text without words
  pub no_words : (f : NotationFault) → HasNoWords text f → IfJudged ((v : Value) → ¬ (SpellsWithin ds t text v)) f
  no_words (Syntax at) h = λ v s. h s.0 s.1.0 s.1.1 s.1.2
  no_words (UnknownName at) h = λ v s. h s.0 s.1.0 s.1.1 s.1.2
  no_words (OutOfRange at) h = λ v s. h s.0 s.1.0 s.1.1 s.1.2
  no_words (Repeated at) h = λ v s. h s.0 s.1.0 s.1.1 s.1.2
  no_words Memory h = tt

  module _ (cut : Cut) (is : IsCut text cut) where
    -- one that is cut short
    pub cut_short : cut.end < length text → (v : Value) → ¬ (SpellsWithin ds t text v)
    cut_short less v s = is.none less s.1.0 s.1.1

    -- the words of a text that spells a value are those that were cut
    words_are : (v : Value) → SpellsWithin ds t text v → Spelled ds (resolve ds.terms t) v (texts_of cut.words.items) []
    words_are v s = go (eq-or-lt_of_le is.within)
      where
        go : (cut.end ≡ length text) ⊎ (cut.end < length text) → Spelled ds (resolve ds.terms t) v (texts_of cut.words.items) []
        go (inl e) = subst (λ ws. Spelled ds (resolve ds.terms t) v ws []) (words_same text text s.1.0 (texts_of cut.words.items) refl s.1.1 (is.whole e)) s.1.3
        go (inr less) = absurd (cut_short less v s)

    -- no value stands at their front
    pub no_value : ((v : Value) → StandsNot (Spelled ds (resolve ds.terms t) v) (texts_of cut.words.items)) → (v : Value) → ¬ (SpellsWithin ds t text v)
    no_value h v s = h v [] (words_are v s)

    -- some words are left
    pub words_left : ((v u : Value) → Det (Spelled ds (resolve ds.terms t) v) (Spelled ds (resolve ds.terms t) u) (v ≡ u)) → (v : Value) (rest : Words) → Spelled ds (resolve ds.terms t) v (texts_of cut.words.items) rest → (rest ≡ [] → ⊥)
        → (u : Value) → ¬ (SpellsWithin ds t text u)
    words_left single v rest p some u s = some (single v u (texts_of cut.words.items) rest [] p (words_are u s)).1

    -- all words were read
    pub spelled : length text ≤ cut.end → IsUtf8 text → IsWithinLimit (texts_of cut.words.items) → (v : Value) (rest : Words) → rest ≡ [] → Spelled ds (resolve ds.terms t) v (texts_of cut.words.items) rest → SpellsWithin ds t text v
    spelled le utf8 few v rest e p =
        let whole : cut.end ≡ length text = omega (arith, le, is.within) in
        (utf8, (texts_of cut.words.items, is.whole whole, few, subst (Spelled ds (resolve ds.terms t) v (texts_of cut.words.items)) e p))
