-- Types in which structs and arrays stand in one another within the limit.
use Rattle.std.specs.Prelude.{◌≤◌, List}
use Rattle.std.specs.List.{AllByRecursion}
use Rattle.fidl_limits.specs.declared.limits.TheConstants.{MAX_NEST}
use Rattle.fidl_wire.specs.Term.{Term, Fields, no_fields, field, Rows, no_rows, row}
use Rattle.fidl_wire.specs.Term as ty
use Rattle.fidl_wire.specs.Figure.{Figure, Declarations, figure_of}

-- the nest of a term is within the limit
abbrev pub HasNest : List Figure → Term → Type 0
HasNest figures t = (figure_of figures t).nest ≤ MAX_NEST

-- so is the nest of each part of it
abbrev mutual
  pub HasParts : List Figure → Term → Type 0
  HasParts figures (ty.vector optional bound t) = HasNest figures t × HasParts figures t
  HasParts figures (ty.array t n) = HasNest figures t × HasParts figures t
  HasParts figures (ty.box t) = HasNest figures t × HasParts figures t
  HasParts figures (ty.struct fs) = FieldsHaveNests figures fs
  HasParts figures (ty.table rows) = RowsHaveNests figures rows
  HasParts figures (ty.union optional strict rows) = RowsHaveNests figures rows
  HasParts figures _ = Unit {0}

  pub FieldsHaveNests : List Figure → Fields → Type 0
  FieldsHaveNests figures no_fields = Unit {0}
  FieldsHaveNests figures (field name t fs) = HasNest figures t × HasParts figures t
      × FieldsHaveNests figures fs

  pub RowsHaveNests : List Figure → Rows → Type 0
  RowsHaveNests figures no_rows = Unit {0}
  RowsHaveNests figures (row ordinal name t rows) = HasNest figures t × HasParts figures t
      × RowsHaveNests figures rows

-- the nests of a term and of its parts are within the limit
abbrev pub IsNested : List Figure → Term → Type 0
IsNested figures t = HasNest figures t × HasParts figures t

-- and so are those of all declarations
abbrev pub AreNested : Declarations → Type 0
AreNested ds = AllByRecursion (IsNested ds.figures) ds.terms
