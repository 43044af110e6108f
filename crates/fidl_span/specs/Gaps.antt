-- What stands between words: blanks and comments.
use Rattle.std.specs.Prelude.{◌≡◌, ◌≢◌, ◌⊎◌, ℕ, ◌==◌, List, [], ◌∷◌, IsTrue, IsFalse}
use Rattle.fidl_span.specs.Bytes.{slash, line_feed, is_blank, begins, EndsLine}

abbrev mutual
  -- gap: only blanks and comments, where rest follows
  pub IsGap : List ℕ → List ℕ → Type 0
  IsGap [] rest = Unit {0}
  IsGap (b ∷ gap) rest = (IsTrue (is_blank b) × IsGap gap rest) ⊎ ((b ≡ slash) × IsComment gap rest)

  -- comment: behind its first `/`, a second one and the rest of the line; and then a gap
  pub IsComment : List ℕ → List ℕ → Type 0
  IsComment [] rest = ⊥
  IsComment (b ∷ gap) rest = (b ≡ slash) × IsLine gap rest

  -- the rest of a comment's line, up to a line feed or the end of the source; and then a gap
  pub IsLine : List ℕ → List ℕ → Type 0
  IsLine [] rest = EndsLine rest
  IsLine (b ∷ gap) rest = ((b ≢ line_feed) × IsLine gap rest) ⊎ ((b ≡ line_feed) × IsGap gap rest)

-- neither a blank nor a comment begins here
abbrev pub BeginsNoGap : List ℕ → Type 0
BeginsNoGap [] = Unit {0}
BeginsNoGap (b ∷ rest) = IsFalse (is_blank b)
    × (b ≡ slash → IsFalse (begins (λ c. c == slash) rest))
