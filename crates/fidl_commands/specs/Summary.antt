-- The line that says what a table holds (docs/program.md, "compile", "migrate").
use Rattle.std.specs.Prelude.{⊤, ℕ, List, [], ◌∷◌, ◌++◌, length, codes, decimal}
use Rattle.fidl_table_format.specs.declared.record.Header.{Header}
use Rattle.fidl_table_format.specs.Section.{header_of}
use Rattle.fidl_text.specs.Words.{words_line}
use Rattle.fidl_commands.specs.declared.outcome.Outcome.{Outcome}
use Rattle.fidl_commands.specs.declared.outcome.Outcome.TheVariants.{Done, Unwritten}

-- the line that says what a table holds: how many records of each kind, and how many bytes
abbrev pub summary_text : Header → (size : ℕ) → List ℕ
summary_text h size =
    words_line (codes "entries")
    ((decimal h.entries ++ codes ",") ∷ codes "roots" ∷ (decimal h.roots ++ codes ",")
    ∷ codes "protocols" ∷ (decimal h.protocols ++ codes ",")
    ∷ codes "methods" ∷ (decimal h.methods ++ codes ",")
    ∷ codes "bytes" ∷ decimal size ∷ [])

abbrev pub summary_line : (table : List ℕ) → List ℕ
summary_line table = summary_text (header_of table) (length table)

-- what can happen where a line is printed
abbrev pub CanEndPrinting : Outcome → Type 0
CanEndPrinting Done = ⊤
CanEndPrinting Unwritten = ⊤
CanEndPrinting _ = ⊥
