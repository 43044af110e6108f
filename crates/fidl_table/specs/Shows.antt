-- What a written table shows (docs/table.md, "What is written").
use Rattle.std.specs.Prelude.{ℕ, List}
use Rattle.fidl_tree.specs.declared.file.File.{File}
use Rattle.fidl_wire.specs.Figure.{Declarations}
use Rattle.fidl_layout.specs.Laid.{AreLaidOut}
use Rattle.fidl_table.specs.Entries.{ShowsEntries}
use Rattle.fidl_table.specs.Roots.{ShowsRoots}
use Rattle.fidl_table.specs.Protocols.{ShowsProtocols}

-- a table shows the library of these files: its declared types and its protocols, each with the
-- values that the library's definitions say, by entries in the order of the format
pub record Shows (files : List File) (bytes : List ℕ) : Type 0 where
  pub declarations : Declarations
  pub laid_out : AreLaidOut files declarations
  pub roots : ShowsRoots files declarations bytes
  pub protocols : ShowsProtocols files declarations bytes
  pub entries : ShowsEntries files declarations protocols.protocols bytes
