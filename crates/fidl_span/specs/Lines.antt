-- Lines and columns, both from 1. A place past the end counts as the end.
use Rattle.std.specs.Prelude.{ℕ, ◌+◌, ◌==◌, List, length, take, count_by}
use Rattle.std.specs.List.{after_last}
use Rattle.fidl_span.specs.Bytes.{line_feed}

-- line: one more than the line feeds before the place
abbrev pub line_of : List ℕ → ℕ → ℕ
line_of src place = count_by (λ b. b == line_feed) (take place src) + 1

-- column, in bytes: one more than the bytes between the last line feed before the place, or the
-- source's start, and the place
abbrev pub column_of : List ℕ → ℕ → ℕ
column_of src place = length (after_last (λ b. b == line_feed) (take place src)) + 1
