-- States and frames for worked examples of what is still to be read.
use Rattle.std.specs.Prelude.{ℕ, List, [], ◌∷◌}
use Rattle.fidl_wire.specs.Term.{uint64}
use Rattle.fidl_wire.specs.Term as ty
use Rattle.fidl_wire.specs.Figure.{Declarations, figure}
use Rattle.fidl_decode_model.specs.declared.frame.Frame.{Frame}
use Rattle.fidl_decode_model.specs.declared.frame.Remaining.TheVariants.{Envelopes}
use Rattle.fidl_decode_model.specs.Rows.{Row}
use Rattle.fidl_decode_model.specs.State.{Position}
use Rattle.fidl_decode_model.specs.Links.{Linked}

-- nothing is linked, and the next object begins here
abbrev pub unlinked : (next : ℕ) → Position
unlinked next = record { next = next; handle = 0; objects = []; records = [] }

-- the same, but the object of the marker at 8 begins at 16
abbrev pub linked_at_8 : (next : ℕ) → Position
linked_at_8 next = record { next = next; handle = 0; objects = 0 ∷ 16 ∷ []; records = [] }

-- the frame of one envelope at a base, of which so many bytes are read
abbrev pub envelope_at : (base done : ℕ) → Frame
envelope_at base done =
    record {
      left = Envelopes 0 0 1;
      base = base;
      done = done;
      size = 8;
      nest = 1;
      depth = 0;
      in_envelope = 0;
    }

-- the declaration of uint64, and a row of it
abbrev pub numbers : Declarations
numbers = record { terms = ty.number uint64 ∷ []; figures = figure 8 8 0 ∷ [] }

abbrev pub number_at : (offset : ℕ) → Row
number_at offset = record { offset = offset; entry = 0 }

-- links by their cells
abbrev pub links : (objects records : List ℕ) → Linked
links objects records = record { objects = objects; records = records }
