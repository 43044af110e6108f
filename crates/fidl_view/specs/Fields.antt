-- The members of a struct, one by one (docs/views.md, "Members one by one").
use Rattle.std.specs.Prelude.{ℕ, zero, suc, ◌+◌, List, [], ◌∷◌}
use Rattle.fidl_table_format.specs.Section.{header_of, row_at}
use Rattle.fidl_decode_model.specs.Model.{Shown}
use Rattle.fidl_view.specs.Elements.{Part, part}

-- the members that so many rows declare, from this one on, of a struct at a place: each is of its
-- row's entry, and stands as far behind the struct's start as the row says
abbrev pub parts_of_rows : Shown → (first place count : ℕ) → List Part
parts_of_rows d first place zero = []
parts_of_rows d first place (suc n) = let r = row_at d.table (header_of d.table) first in
    part d r.entry (place + r.key) ∷ parts_of_rows d (suc first) place n
