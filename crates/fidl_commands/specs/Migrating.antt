-- What the command `migrate` answers (docs/program.md, "migrate").
use Rattle.std.specs.Prelude.{◌≡◌, ◌⊎◌, ⊤, ℕ, List, Option, Bool, false}
use Rattle.std.specs.Io.KnownBytes.{Appends}
use Rattle.fidl_table_format.specs.Section.{header_of}
use Rattle.fidl_table_format.specs.WellFormed.{WellFormed}
use Rattle.fidl_migrate.specs.Migrated.{IsMigrated}
use Rattle.fidl_text.specs.Outputs.{AppendsFront}
use Rattle.fidl_command_line.specs.declared.arguments.MigrateArguments.{MigrateArguments}
use Rattle.fidl_commands.specs.Files.{IsWritten, NamesFile, IsMissing}
use Rattle.fidl_commands.specs.Running.{OfTable}
use Rattle.fidl_commands.specs.Summary.{summary_line}
use Rattle.fidl_commands.specs.declared.outcome.Outcome.{Outcome}
use Rattle.fidl_commands.specs.declared.outcome.Outcome.TheVariants.{Done, Refused, NoFile}
use Rattle.fidl_commands.specs.declared.outcome.Outcome.TheVariants.{Unwritten, NoMemory}

-- the names and the bytes of the files that were written, where they are known
abbrev pub Written : Type 0
Written = Option (List (List ℕ × List ℕ))

-- this is an accepted table, and that is its version 2: itself, where it is of that version
pub record IsVersion2Of (table bytes : List ℕ) : Type 0 where
  pub accepted : WellFormed table
  pub migrated : IsMigrated table bytes
  pub same : (header_of table).version ≡ 2 → bytes ≡ table

-- the version 2 of a table is written to the file of this name, and what it holds is printed
pub record IsMigratedTo (name table : List ℕ) (old new : Option (List ℕ)) (before after : Written)
    : Type 0 where
  pub bytes : List ℕ
  pub version : IsVersion2Of table bytes
  pub written : IsWritten before after name bytes
  pub printed : Appends old new (summary_line bytes)

-- it is written, and a front of the line of what it holds is printed
pub record IsMigratedInPart (name table : List ℕ) (old new : Option (List ℕ))
    (before after : Written) : Type 0 where
  pub bytes : List ℕ
  pub version : IsVersion2Of table bytes
  pub written : IsWritten before after name bytes
  pub front : AppendsFront old new (summary_line bytes)

-- the table has a version 2, which is not written: the line for the file to write is printed, and
-- this is none that is known to be written
pub record LacksOut (bytes_of : List ℕ → Option (List ℕ)) (can_write : List ℕ → Bool)
    (given : MigrateArguments) (old new : Option (List ℕ)) : Type 0 where
  pub migrated : OfTable bytes_of given.table.now
      (λ table. (bytes : List ℕ) × IsVersion2Of table bytes)
  pub unwritten : can_write given.out.now ≡ false
  pub named : NamesFile given.out.now old new

-- `migrate` lacks the table's file, or the file to write
abbrev pub LacksTableOrOut : (bytes_of : List ℕ → Option (List ℕ)) → (can_write : List ℕ → Bool)
    → MigrateArguments → (old new : Option (List ℕ)) → Type 0
LacksTableOrOut bytes_of can_write given old new = IsMissing bytes_of given.table.now old new
    ⊎ LacksOut bytes_of can_write given old new

-- what can happen where bytes give no table of version 2
abbrev pub CanEndMigrated : Outcome → Type 0
CanEndMigrated Refused = ⊤
CanEndMigrated Unwritten = ⊤
CanEndMigrated NoMemory = ⊤
CanEndMigrated _ = ⊥

-- what can happen to `migrate` with its arguments read, and its files to be read and written
abbrev pub CanEndMigrateRun : Outcome → Type 0
CanEndMigrateRun Done = ⊤
CanEndMigrateRun Refused = ⊤
CanEndMigrateRun NoFile = ⊤
CanEndMigrateRun Unwritten = ⊤
CanEndMigrateRun NoMemory = ⊤
CanEndMigrateRun _ = ⊥
