-- Words that are cut off the front of a text.
use Rattle.std.specs.Prelude.{◌≡◌, ◌≢◌, ℕ, ◌+◌, ◌≤◌, ◌<◌, List, ◌++◌, length, drop, map}
use Rattle.std.specs.Prelude.{slice_range, IsUtf8}
use Rattle.fidl_reading.specs.declared.word.Word.{Word}
use Rattle.fidl_reading.specs.declared.word.Cut.{Cut}
use Rattle.fidl_reading.specs.declared.fault.NotationFault.{NotationFault}
use Rattle.fidl_reading.specs.declared.fault.NotationFault.TheVariants.{Memory}
use Rattle.fidl_spelling.specs.Words.{Words, IsWord, AreWords, IsWithinLimit}

-- the words by their bytes
abbrev pub texts_of : List Word → Words
texts_of words = map (λ w. w.text.now) words

-- what stands in the text where the words are said to be
abbrev pub standing : (text : List ℕ) → List Word → Words
standing text words = map (λ w. slice_range text w.at (w.at + length w.text.now)) words

-- no word stands here
abbrev pub BeginsNoWord : List ℕ → Type 0
BeginsNoWord here = (w rest : List ℕ) → IsWord w rest → here ≢ w ++ rest

-- these words stand at the front of the text up to a place: with the words of the rest they are the
-- text's, and the text has no others
pub record IsFront (text : List ℕ) (words : Words) (at : ℕ) : Type 0 where
  pub sound : (ws : Words) → AreWords (drop at text) ws → AreWords text (words ++ ws)
  pub only : (ws : Words) → AreWords text ws
      → (rest : Words) × (ws ≡ words ++ rest) × AreWords (drop at text) rest

-- and no word stands behind them: they are all words of the text, or it has none
pub record IsCut (text : List ℕ) (cut : Cut) : Type 0 where
  pub within : cut.end ≤ length text
  pub places : standing text cut.words.items ≡ texts_of cut.words.items
  pub front : IsFront text (texts_of cut.words.items) cut.end
  pub whole : cut.end ≡ length text → AreWords text (texts_of cut.words.items)
  pub none : cut.end < length text → (ws : Words) → ¬ (AreWords text ws)

-- the text is no UTF-8, or its words open too many brackets at once; where memory ran out, nothing is
-- said of the text
abbrev pub HasNoWords : (text : List ℕ) → NotationFault → Type 0
HasNoWords text Memory = Unit {0}
HasNoWords text _ = IsUtf8 text → (ws : Words) → AreWords text ws → ¬ (IsWithinLimit ws)
