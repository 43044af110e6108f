-- What the command `table` answers (docs/program.md, "table").
use Rattle.std.specs.Prelude.{⊤, ℕ, List}
use Rattle.fidl_table_format.specs.WellFormed.{WellFormed}
use Rattle.fidl_verify.specs.Faults.{Breaks}
use Rattle.fidl_verify.specs.declared.fault.TableFault.{TableFault}
use Rattle.fidl_text.specs.Listing.{table_text}
use Rattle.fidl_command_line.specs.declared.arguments.Listing.{Listing}
use Rattle.fidl_command_line.specs.declared.arguments.Listing.TheVariants.{Records, Roots, Protocols}
use Rattle.fidl_commands.specs.Naming.{names_text}
use Rattle.fidl_commands.specs.declared.naming.Named.TheVariants as named
use Rattle.fidl_commands.specs.declared.outcome.Outcome.{Outcome}
use Rattle.fidl_commands.specs.declared.outcome.Outcome.TheVariants.{Done, Refused, Unwritten}
use Rattle.fidl_commands.specs.Decoding.{table_line}

-- what can happen to `table`
abbrev pub CanEndTable : Outcome → Type 0
CanEndTable Done = ⊤
CanEndTable Refused = ⊤
CanEndTable Unwritten = ⊤
CanEndTable _ = ⊥

-- what can happen where a table is not accepted
abbrev pub CanEndVerified : Outcome → Type 0
CanEndVerified Refused = ⊤
CanEndVerified Unwritten = ⊤
CanEndVerified _ = ⊥

-- what is printed of a table
abbrev pub listed : Listing → (table : List ℕ) → List ℕ
listed Records table = table_text table
listed Roots table = names_text named.Roots table
listed Protocols table = names_text named.Protocols table

-- the text of the records of a table that is accepted, or of names of it
pub data IsListing (printed : Listing) (table : List ℕ) : List ℕ → Type 0 where
  listing : WellFormed table → IsListing printed table (listed printed table)

-- the lines that are true refusals of a table, which is told by a rule that it breaks
pub data IsTableRefusal (table : List ℕ) : List ℕ → Type 0 where
  of_fault : (fault : TableFault) → ¬ WellFormed table → Breaks table fault
      → IsTableRefusal table (table_line fault)
