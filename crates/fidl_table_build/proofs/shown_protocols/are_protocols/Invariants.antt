use Rattle.std.proofs.Common.{◌≡◌, ℕ, ◌<◌, map, slice_get, Some}
use Rattle.fidl_reachable_types.specs.Growing.{reference_view}
use Rattle.fidl_table_format.specs.Section.{header_of}
use Rattle.fidl_table_format.specs.Protocol.{methods_before}
use Rattle.fidl_table_build.specs.declared.listing.ProtocolEntry.{ProtocolEntry}
use Rattle.fidl_table_build.specs.Methods.{ShowsProtocol}
use Rattle.fidl_table_build.proofs.shown_protocols.are_protocols.Given as goal

-- the protocols so far are as the listing has them, and `first` is the number of their methods
abbrev pub invariant-loop-index : goal.invariant-loop-index
invariant-loop-index l = (l.first ≡ methods_before l.records (header_of l.records) l.index)
    × ((k : ℕ) (p : ProtocolEntry) → k < l.index → slice_get l.protocols k ≡ Some p → ShowsProtocol (map reference_view l.types) l.records p k)
