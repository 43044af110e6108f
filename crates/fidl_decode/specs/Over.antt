-- Frames of which nothing is left to read, and frames of which leaves are.
use Rattle.std.specs.Prelude.{◌≡◌, ℕ, List}
use Rattle.fidl_decode_model.specs.Invariants.{AreLeaves}
use Rattle.fidl_decode_model.specs.declared.frame.Frame.{Frame}
use Rattle.fidl_decode_model.specs.declared.frame.Remaining.{Remaining}
use Rattle.fidl_decode_model.specs.declared.frame.Remaining.TheVariants.{Rows, Elements, Envelopes}
use Rattle.fidl_decode_model.specs.declared.frame.Remaining.TheVariants.{Content}

-- there are rows alone, and none is left
abbrev pub NoRows : Remaining → Type 0
NoRows (Rows first count) = count ≡ 0
NoRows (Elements entry size count) = count ≡ 0
NoRows (Envelopes entry read count) = ⊥
NoRows (Content entry size count until) = ⊥

-- all of a frame is read, up to its end
abbrev pub IsOver : Frame → Type 0
IsOver f = NoRows f.left × (f.done ≡ f.size)

-- there are rows alone, and their members are leaves
abbrev pub AreRowsOfLeaves : List ℕ → Remaining → Type 0
AreRowsOfLeaves t (Rows first count) = AreLeaves t first count
AreRowsOfLeaves t left = ⊥
