-- The lines of a script's text that say something (docs/service.md, "Scripts").
use Rattle.std.specs.Prelude.{ℕ, suc, ◌==◌, Bool, true, not, List, [], ◌∷◌, if◌then◌else◌}
use Rattle.std.specs.List.{filter}

-- a byte put in front of the first line, or into a line of its own where there is none
abbrev pub onto_first : ℕ → List (List ℕ) → List (List ℕ)
onto_first b [] = (b ∷ []) ∷ []
onto_first b (line ∷ lines) = (b ∷ line) ∷ lines

-- the lines of a text, each ended by a line feed, the last perhaps by the end of the text
abbrev pub lines_of : (text : List ℕ) → List (List ℕ)
lines_of [] = []
lines_of (b ∷ bs) = if b == 10 then [] ∷ lines_of bs else onto_first b (lines_of bs)

-- a line, and which line of the text it is, from 1
pub record Line : Type 0 where
  pub number : ℕ
  pub bytes : List ℕ

-- lines with their numbers
abbrev pub numbered : (number : ℕ) → List (List ℕ) → List Line
numbered n [] = []
numbered n (line ∷ lines) = record { number = n; bytes = line } ∷ numbered (suc n) lines

-- an empty line, and one that begins with `#`
abbrev pub is_skipped : (line : List ℕ) → Bool
is_skipped [] = true
is_skipped (b ∷ bs) = b == 35

-- the lines of a text that are not skipped; the first line of the text has this number
abbrev pub said_from : (number : ℕ) → (text : List ℕ) → List Line
said_from n text = filter (λ (l : Line). not (is_skipped l.bytes)) (numbered n (lines_of text))

-- the lines that are not skipped, with their numbers from 1
abbrev pub said_lines : (text : List ℕ) → List Line
said_lines text = said_from 1 text
