-- Where too many brackets are open (docs/language.md, "Limit of open brackets").
use Rattle.std.specs.Prelude.{◌≡◌, ℕ, ◌+◌, List, take, count_by}
use Rattle.fidl_span.specs.declared.words.Word.{Word}
use Rattle.fidl_limits.specs.declared.limits.TheConstants.{MAX_SOURCE_BRACKETS}
use Rattle.fidl_tree.specs.Brackets.{opens, closes}

-- up to and with the word number n, counted from 0, one bracket more than the limit is open
abbrev pub IsTooDeepAt : List Word → ℕ → Type 0
IsTooDeepAt ws n =
    count_by (λ w. opens w.kind) (take (n + 1) ws)
    ≡ count_by (λ w. closes w.kind) (take (n + 1) ws) + (MAX_SOURCE_BRACKETS + 1)
