-- Types whose members can be told by their names.
use Rattle.std.specs.Prelude.{◌≡◌, ℕ, List}
use Rattle.std.specs.List.{AllByRecursion}
use Rattle.fidl_wire.specs.Term.{Term, Fields, no_fields, field, Rows, no_rows, row}
use Rattle.fidl_wire.specs.Term as ty
use Rattle.fidl_wire.specs.Figure.{Declarations}
use Rattle.fidl_spelling.specs.Words.{IsRun}
use Rattle.fidl_spelling.specs.Spells.{Bears}

-- no two members have one name
abbrev pub AreNamesDistinct : Rows → Type 0
AreNamesDistinct rows = (name : List ℕ) (i j : ℕ) → Bears rows name i → Bears rows name j → i ≡ j

-- no rule for the members of a layout
abbrev pub AnyNames : Rows → Type 0
AnyNames rows = Unit {0}

abbrev mutual
  -- each name is a word of letters, digits and `_`, and the members of each table and union keep a
  -- rule
  pub HasNames : (rule : Rows → Type 0) → Term → Type 0
  HasNames rule (ty.vector optional bound t) = HasNames rule t
  HasNames rule (ty.array t n) = HasNames rule t
  HasNames rule (ty.box t) = HasNames rule t
  HasNames rule (ty.struct fs) = FieldsHaveNames rule fs
  HasNames rule (ty.table rows) = rule rows × RowsHaveNames rule rows
  HasNames rule (ty.union optional strict rows) = rule rows × RowsHaveNames rule rows
  HasNames rule _ = Unit {0}

  pub FieldsHaveNames : (rule : Rows → Type 0) → Fields → Type 0
  FieldsHaveNames rule no_fields = Unit {0}
  FieldsHaveNames rule (field name t fs) = IsRun name × HasNames rule t × FieldsHaveNames rule fs

  pub RowsHaveNames : (rule : Rows → Type 0) → Rows → Type 0
  RowsHaveNames rule no_rows = Unit {0}
  RowsHaveNames rule (row ordinal name t rows) = IsRun name × HasNames rule t
      × RowsHaveNames rule rows

-- names are words
abbrev pub IsNamed : Term → Type 0
IsNamed = HasNames AnyNames

-- and so are those of all declarations
abbrev pub AreNamed : Declarations → Type 0
AreNamed ds = AllByRecursion IsNamed ds.terms

-- names are words, and no table or union has two members of one name
abbrev pub IsReadable : Term → Type 0
IsReadable = HasNames AreNamesDistinct

-- and so are all declarations
abbrev pub AreReadable : Declarations → Type 0
AreReadable ds = AllByRecursion IsReadable ds.terms
