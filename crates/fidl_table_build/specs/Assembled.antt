-- The whole of a table that is assembled (docs/table.md, "Assembling").
use Rattle.std.specs.Prelude.{ℕ, List, map}
use Rattle.fidl_wire.specs.Term.{Term}
use Rattle.fidl_wire.specs.Figure.{Figure}
use Rattle.fidl_ir.specs.Terms.{definitions_view}
use Rattle.fidl_reachable_types.specs.Reached.{AreReached}
use Rattle.fidl_table_check.specs.Numbered.{AreEntries, HaveNames}
use Rattle.fidl_table_build.specs.declared.listing.Listing.{Listing}
use Rattle.fidl_table_build.specs.Starts.{starts_of}
use Rattle.fidl_table_build.specs.Roots.{ShowsRoots}
use Rattle.fidl_table_build.specs.Methods.{ShowsProtocols}

-- the names of the definitions of a listing
abbrev pub names_of : Listing → List (List ℕ)
names_of l = map (λ v. v.items) l.names.now

-- the entries are the types that the roots and the payloads reach, in the order of the format: one
-- level deep, each with its definition's name; roots and protocols are those of the listing, by the
-- numbers of that list
pub record IsAssembled (l : Listing) (bytes : List ℕ) : Type 0 where
  pub types : List Term
  pub reached : AreReached (definitions_view l.definitions.now) (starts_of l) types
  pub entries : (figures : List Figure) → AreEntries
      (record { terms = definitions_view l.definitions.now; figures = figures }) types bytes
  pub names : HaveNames (names_of l) types bytes
  pub roots : ShowsRoots (names_of l) types l.roots.now bytes
  pub protocols : ShowsProtocols types l.protocols.now bytes
