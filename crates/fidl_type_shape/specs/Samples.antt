-- Terms for worked facts.
use Rattle.std.specs.Prelude.{ℕ, zero, suc, codes, [], ◌∷◌}
use Rattle.fidl_wire.specs.Term.{Term, Fields, no_fields, field}
use Rattle.fidl_wire.specs.Term as ty
use Rattle.fidl_wire.specs.Figure.{Figure, Declarations}

-- a struct with this one member
abbrev pub holding : Term → Term
holding t = ty.struct (field (codes "a") t no_fields)

-- bytes, as many
abbrev pub bytes : ℕ → Term
bytes n = ty.array (ty.number ty.uint8) n

-- as many arrays of one element in one another
abbrev pub arrays : ℕ → Term
arrays zero = ty.bool
arrays (suc n) = ty.array (arrays n) 1

-- a struct in as many others
abbrev pub struct_in : ℕ → Term
struct_in zero = ty.struct no_fields
struct_in (suc n) = holding (struct_in n)

-- as many bools as members
abbrev pub bools : ℕ → Fields
bools zero = no_fields
bools (suc n) = field (codes "a") ty.bool (bools n)

-- one definition with its figure
abbrev pub alone : Term → Figure → Declarations
alone t f = record { terms = t ∷ []; figures = f ∷ [] }
