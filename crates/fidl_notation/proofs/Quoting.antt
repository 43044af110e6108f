-- The bytes of a text between quotes, written one after another.
use Rattle.std.proofs.Common.{◌≡◌, ℕ, ◌+◌, ◌<◌, ◌≤◌, List, ◌++◌, length, drop, get_or, ap, ◌∙◌}
use Rattle.std.specs.Prelude.{flat_map, codes}
use Rattle.std.proofs.lemmas.List.{drop_more, drop_all}
use Rattle.fidl_wire.specs.Text.{quoted_byte}
use mathlib.Core.List.{append_assoc}

-- a text between quotes
abbrev pub quoted : List ℕ → List ℕ
quoted text = codes "\"" ++ flat_map quoted_byte text ++ codes "\""

-- what is left of it behind a number of its bytes
abbrev pub quoted_left : List ℕ → ℕ → List ℕ
quoted_left text i = flat_map quoted_byte (drop i text) ++ codes "\""

pub quoted_more : (text : List ℕ) (i : ℕ) (d : ℕ) → i < length text → quoted_left text i ≡ quoted_byte (get_or text i d) ++ quoted_left text (i + 1)
quoted_more text i d lt =
    ap (λ (l : List ℕ). flat_map quoted_byte l ++ codes "\"") (drop_more text i d lt)
    ∙ append_assoc (quoted_byte (get_or text i d)) (flat_map quoted_byte (drop (i + 1) text)) (codes "\"")

pub quoted_end : (text : List ℕ) (i : ℕ) → length text ≤ i → quoted_left text i ≡ codes "\""
quoted_end text i le = ap (λ (l : List ℕ). flat_map quoted_byte l ++ codes "\"") (drop_all i text le)
