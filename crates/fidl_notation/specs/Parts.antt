-- What the printer writes: the text of the value that a view shows.
use Rattle.std.specs.Prelude.{ℕ, List, Result}
use Rattle.fidl_wire.specs.Value.{Value, Values, list, fields}
use Rattle.fidl_wire.specs.Term.{Term, resolve}
use Rattle.fidl_wire.specs.Term as ty
use Rattle.fidl_wire.specs.Figure.{Declarations}
use Rattle.fidl_wire.specs.Text.{text_of}
use Rattle.fidl_table_format.specs.Terms.{declarations_of}
use Rattle.fidl_view.specs.declared.view.View.{View}
use Rattle.fidl_streams.specs.Written.{Taken, Writes}
use Rattle.fidl_view.specs.Within.{IsPart, IsElements, IsMembers}

-- the text of the value that the view shows is written
abbrev pub Prints : {T E : Type 0} → Declarations → Term → View → (old new : Taken)
    → Result T E → Type 0
Prints ds t view old new result = (v : Value) → IsPart ds t view v
    → Writes old new (text_of ds t v) result

-- its text is written
abbrev pub PrintsValue : {T E : Type 0} → (table : List ℕ) (index : ℕ) → View
    → (old new : Taken) → Result T E → Type 0
PrintsValue table index view old new result = let ds = declarations_of table in
    Prints ds (resolve ds.terms (ty.named index)) view old new result

-- the text of the elements that the view shows is written
abbrev pub PrintsElements : {T E : Type 0} → (table : List ℕ) (element : ℕ) → View
    → (old new : Taken) → Result T E → Type 0
PrintsElements table element view old new result =
    (t : Term) (vs : Values) → IsElements table element view t vs
    → Writes old new (text_of (declarations_of table) t (list vs)) result

-- the text of the members that the view shows is written
abbrev pub PrintsMembers : {T E : Type 0} → (table : List ℕ) (index : ℕ) → View
    → (old new : Taken) → Result T E → Type 0
PrintsMembers table index view old new result =
    (t : Term) (vs : Values) → IsMembers table index view t vs
    → Writes old new (text_of (declarations_of table) t (fields vs)) result
