-- What is written of a line, one part after another, is the line.
use Rattle.std.proofs.Common.{◌≡◌, ℕ, List, [], ◌∷◌, ◌++◌, append_assoc, append-nil}
use Rattle.std.specs.Prelude.{codes}
use Rattle.fidl_text.specs.Words.{words_line}

-- the same for a text s before each word, and a text e at the end
module _ (s e d w : List ℕ) where
  two : (n : List ℕ) → (d ++ s ++ w ++ s ++ n) ++ e ≡ d ++ ((s ++ w) ++ ((s ++ n) ++ [])) ++ e
  two n = simp (append_assoc, append-nil)

  two_last : (n : List ℕ) → (d ++ s ++ w) ++ (s ++ n ++ e) ≡ d ++ ((s ++ w) ++ ((s ++ n) ++ [])) ++ e
  two_last n = simp (append_assoc, append-nil)

  three : (n t : List ℕ) → ((d ++ s ++ w ++ s ++ n) ++ s) ++ (t ++ e) ≡ d ++ ((s ++ w) ++ ((s ++ n) ++ ((s ++ t) ++ []))) ++ e
  three n t = simp (append_assoc, append-nil)

pub unknown_is : (d w : List ℕ) → (d ++ codes " " ++ w) ++ codes " unknown\n" ≡ words_line d (w ∷ codes "unknown" ∷ [])
unknown_is d w = two_last (codes " ") (codes "\n") d w (codes "unknown")

pub bare_is : (d w n : List ℕ) → (d ++ codes " " ++ w ++ codes " " ++ n) ++ codes "\n" ≡ words_line d (w ∷ n ∷ [])
bare_is d w n = two (codes " ") (codes "\n") d w n

pub value_is : (d w n t : List ℕ) → ((d ++ codes " " ++ w ++ codes " " ++ n) ++ codes " ") ++ (t ++ codes "\n") ≡ words_line d (w ∷ n ∷ t ∷ [])
value_is d w n t = three (codes " ") (codes "\n") d w n t
