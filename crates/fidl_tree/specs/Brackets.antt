-- How many brackets may be open at once (docs/language.md, "Limit of open brackets").
use Rattle.std.specs.Prelude.{ℕ, ◌+◌, ◌≤◌, Bool, true, false, List, take, count_by}
use Rattle.fidl_limits.specs.declared.limits.TheConstants.{MAX_SOURCE_BRACKETS}
use Rattle.fidl_span.specs.declared.words.Word.{Word}
use Rattle.fidl_span.specs.declared.words.WordKind.{WordKind}
use Rattle.fidl_span.specs.declared.words.WordKind.TheVariants as kind

-- `(`, `{` and `<` open a bracket
abbrev pub opens : WordKind → Bool
opens kind.LeftParenthesis = true
opens kind.LeftBrace = true
opens kind.Less = true
opens _ = false

-- `)`, `}` and `>` close one
abbrev pub closes : WordKind → Bool
closes kind.RightParenthesis = true
closes kind.RightBrace = true
closes kind.Greater = true
closes _ = false

-- in no beginning of the words are more brackets left open than the limit
abbrev pub IsWithinLimit : List Word → Type 0
IsWithinLimit ws = (n : ℕ) →
    count_by (λ w. opens w.kind) (take n ws)
    ≤ count_by (λ w. closes w.kind) (take n ws) + MAX_SOURCE_BRACKETS

-- a parenthesis that opens
abbrev pub parenthesis : Word
parenthesis = record { kind = kind.LeftParenthesis; span = record { from = 0; to = 0 } }
