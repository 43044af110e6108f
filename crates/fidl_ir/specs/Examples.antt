-- Small types for worked facts, of the boxes that hold their elements.
use Rattle.std.specs.Prelude.{ℕ, Bool}
use Rattle.std.specs.Global.{Box}
use Rattle.fidl_ir.specs.declared.term.NumberKind.{NumberKind}
use Rattle.fidl_ir.specs.declared.term.«Type».{«Type»}
use Rattle.fidl_ir.specs.declared.term.«Type».TheVariants as Types

-- a bool
abbrev pub a_bool : «Type»
a_bool = Types.Bool

-- a whole number
abbrev pub a_number : NumberKind → «Type»
a_number kind = (Types.Number kind)

-- a handle
abbrev pub a_handle : (optional : Bool) (subtype rights : ℕ) → «Type»
a_handle optional subtype rights = (Types.Handle optional subtype rights)

-- a string
abbrev pub a_text : (optional : Bool) (bound : ℕ) → «Type»
a_text optional bound = (Types.Text optional bound)

-- a vector
abbrev pub a_vector : (optional : Bool) (bound : ℕ) → Box «Type» → «Type»
a_vector optional bound element = (Types.Vector optional bound element)

-- an array
abbrev pub an_array : Box «Type» → (count : ℕ) → «Type»
an_array element count = (Types.Array element count)

-- a box of the definition of a number
abbrev pub a_box : ℕ → «Type»
a_box number = (Types.Box number)

-- the definition of a number
abbrev pub a_name : ℕ → «Type»
a_name number = (Types.Named number)
