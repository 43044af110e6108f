-- What the code's `Measure` and `Parts` stand for.
use Rattle.std.specs.Prelude.{◌≡◌, ◌≤◌, ℕ, List}
use Rattle.fidl_wire.specs.Figure.{Figure, figure}
use Rattle.fidl_table_format.specs.declared.record.Header.{Header}
use Rattle.fidl_table_format.specs.Entry.{rows_before, values_before}
use Rattle.fidl_verify.specs.declared.figure.Measure.{Measure}
use Rattle.fidl_verify.specs.declared.entry.Parts.{Parts}

-- size, alignment and nest
abbrev pub measured : Measure → Figure
measured m = figure m.size m.alignment m.nest

-- the numbers of rows and values of the entries before this one
pub record AreBefore (bytes : List ℕ) (index : ℕ) (parts : Parts) : Type 0 where
  pub rows : parts.rows ≡ rows_before bytes index
  pub values : parts.values ≡ values_before bytes index

-- they are not more than the sections have
pub record HasRoom (h : Header) (parts : Parts) : Type 0 where
  pub rows : parts.rows ≤ h.rows
  pub values : parts.values ≤ h.values
