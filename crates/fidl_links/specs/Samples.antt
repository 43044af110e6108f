-- The messages of the worked facts.
use Rattle.std.specs.Prelude.{ℕ, ◌+◌, ◌*◌, List, [], ◌∷◌}
use Rattle.fidl_links.specs.Links.{Written}
use Rattle.fidl_links.specs.Marks.{Marks}

-- a first word with these links: a marker's, an envelope's, and handles', 1 of them in the lower half
-- and 2 in the upper
abbrev pub marks : (marker envelope handles : ℕ) → Marks
marks m e h = (m + 2 * e + 4 * h) ∷ []

-- a message that came, and its cells
abbrev pub seen : (came objects records : List ℕ) → Written
seen c o r = record { came = c; objects = o; records = r }
