-- The entries of a written table, in the order of the format (docs/table.md, "What is written").
use Rattle.std.specs.Prelude.{ℕ, ◌≡◌, ◌++◌, List, Some, length, slice_get, flat_map}
use Rattle.std.specs.List.{Contains}
use Rattle.fidl_tree.specs.declared.file.File.{File}
use Rattle.fidl_wire.specs.Term.{Term}
use Rattle.fidl_wire.specs.Figure.{Declarations}
use Rattle.fidl_reachable_types.specs.Reached.{AreReached}
use Rattle.fidl_protocol.specs.declared.method.Protocol.{Protocol}
use Rattle.fidl_protocol.specs.Gathered.{protocol_payloads}
use Rattle.fidl_table_format.specs.Section.{header_of}
use Rattle.fidl_table_check.specs.Numbered.{AreEntries}
use Rattle.fidl_table.specs.Roots.{IsRootOf}
use Rattle.fidl_table.specs.Protocols.{ShowsProtocol}

-- the definitions of the table's roots, in the order of the roots
pub record AreRootsOf (files : List File) (ds : Declarations) (bytes : List ℕ)
    (definitions : List ℕ) : Type 0 where
  pub count : (header_of bytes).roots ≡ length definitions
  pub each : (root definition : ℕ) → slice_get definitions root ≡ Some definition
      → IsRootOf files ds bytes definition root

-- the protocols of the table, which are some of these, in the order of the table
pub record AreProtocolsOf (files : List File) (ds : Declarations) (library : List Protocol)
    (bytes : List ℕ) (protocols : List Protocol) : Type 0 where
  pub count : (header_of bytes).protocols ≡ length protocols
  pub each : (number : ℕ) (p : Protocol) → slice_get protocols number ≡ Some p
      → Contains library p × ShowsProtocol files ds bytes p number

-- each entry is a type: first the roots, then the payloads of the protocols, method by method and
-- the request before the response, and then what the type of each entry holds; each type once
pub record ShowsEntries (files : List File) (ds : Declarations) (library : List Protocol)
    (bytes : List ℕ) : Type 0 where
  pub roots : List ℕ
  pub roots_are : AreRootsOf files ds bytes roots
  pub protocols : List Protocol
  pub protocols_are : AreProtocolsOf files ds library bytes protocols
  pub types : List Term
  pub reached : AreReached ds.terms (roots ++ flat_map protocol_payloads protocols) types
  pub entries : AreEntries ds types bytes
