-- The definitions from which the types of a table are reached (docs/table.md, "Assembling").
use Rattle.std.specs.Prelude.{ℕ, List, [], ◌∷◌, ◌++◌, flat_map}
use Rattle.fidl_table_build.specs.declared.listing.Carried.{Carried}
use Rattle.fidl_table_build.specs.declared.listing.Carried.TheVariants.{Missing, Empty, Definition}
use Rattle.fidl_table_build.specs.declared.listing.MethodEntry.{MethodEntry}
use Rattle.fidl_table_build.specs.declared.listing.ProtocolEntry.{ProtocolEntry}
use Rattle.fidl_table_build.specs.declared.listing.Listing.{Listing}

-- the number of the definition that a message carries
abbrev pub carried_number : Carried → List ℕ
carried_number Missing = []
carried_number Empty = []
carried_number (Definition i) = i ∷ []

-- those of a method: the request's, then the response's
abbrev pub method_numbers : MethodEntry → List ℕ
method_numbers m = carried_number m.request ++ carried_number m.response

-- those of a protocol, in the order of its methods
abbrev pub protocol_numbers : ProtocolEntry → List ℕ
protocol_numbers p = flat_map method_numbers p.methods.items

-- the roots, then what the messages of each protocol carry
abbrev pub starts_of : Listing → List ℕ
starts_of l = l.roots.now ++ flat_map protocol_numbers l.protocols.now
