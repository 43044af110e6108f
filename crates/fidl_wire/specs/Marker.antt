-- What markers say (docs/wire.md, "Encoding").
use Rattle.std.specs.Prelude.{ℕ, List, replicate}
use Rattle.fidl_wire.specs.declared.marker.Presence.{Presence}
use Rattle.fidl_wire.specs.declared.marker.Presence.TheVariants.{Absent, Present, Neither}
use Rattle.fidl_wire.specs.Encoding.{zeros}
use Rattle.fidl_wire.specs.Standing.{Stands}

-- a marker of this size at a place: all zeros where nothing is there, all ones where something is,
-- and other bytes say neither
abbrev pub Says : List ℕ → (place size : ℕ) → Presence → Type 0
Says bytes place size Absent = Stands bytes place (zeros size)
Says bytes place size Present = Stands bytes place (replicate size 255)
Says bytes place size Neither = ¬ (Stands bytes place (zeros size))
    × ¬ (Stands bytes place (replicate size 255))
