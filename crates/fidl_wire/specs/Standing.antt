-- Parts that stand in a message at a place (docs/wire.md, "Messages").
use Rattle.std.specs.Prelude.{◌≡◌, ℕ, ◌+◌, ◌<◌, List, [], ◌∷◌, length, Some, slice_index, slice_get}
use Rattle.fidl_wire.specs.declared.handle.HandleInfo.{HandleInfo}

-- these bytes stand in the message from this place on
abbrev pub Stands : List ℕ → (place : ℕ) → List ℕ → Type 0
Stands message place [] = Unit {0}
Stands message place (b ∷ bytes) = (place < length message) × (slice_index message place ≡ b)
    × Stands message (place + 1) bytes

-- these handles stand beside the message from this index on
abbrev pub Carries : List HandleInfo → (index : ℕ) → List HandleInfo → Type 0
Carries beside index [] = Unit {0}
Carries beside index (h ∷ handles) = (slice_get beside index ≡ Some h)
    × Carries beside (index + 1) handles
