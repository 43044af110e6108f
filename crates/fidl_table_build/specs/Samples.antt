-- Tables, methods and protocols for worked facts.
use Rattle.std.specs.Prelude.{ℕ, List, [], ◌∷◌, ◌++◌, replicate, codes, true}
use Rattle.std.specs.Global.{Vec}
use Rattle.fidl_verify.specs.declared.protocol.Openness.TheVariants.{Ajar}
use Rattle.fidl_table_build.specs.declared.listing.Carried.TheVariants.{Empty, Definition}
use Rattle.fidl_table_build.specs.declared.listing.MethodEntry.{MethodEntry}
use Rattle.fidl_table_build.specs.declared.listing.ProtocolEntry.{ProtocolEntry}

-- a number below 256 in four bytes
abbrev pub four_bytes : ℕ → List ℕ
four_bytes n = n ∷ 0 ∷ 0 ∷ 0 ∷ []

-- the header of a table without rows and values; what its readers don't ask is zero
abbrev pub header_bytes : (entries roots protocols methods : ℕ) → List ℕ
header_bytes entries roots protocols methods =
    replicate 8 0 ++ four_bytes entries ++ replicate 8 0 ++ four_bytes roots
    ++ four_bytes protocols ++ four_bytes methods ++ replicate 8 0

-- a root and a protocol whose name is one byte of the names, at this place
abbrev pub root_bytes : (place entry : ℕ) → List ℕ
root_bytes place entry = four_bytes place ++ four_bytes 1 ++ four_bytes entry

abbrev pub protocol_bytes : (place openness methods : ℕ) → List ℕ
protocol_bytes place openness methods =
    four_bytes place ++ four_bytes 1 ++ four_bytes openness ++ four_bytes methods

-- a method whose name is one byte of the names, at this place; its response has no payload
abbrev pub method_bytes : (place ordinal flags request : ℕ) → List ℕ
method_bytes place ordinal flags request =
    ordinal ∷ replicate 7 0 ++ four_bytes place ++ four_bytes 1 ++ four_bytes flags
    ++ four_bytes request ++ replicate 4 255 ++ four_bytes 0

-- a table of two roots: "a" has the entry 1, "b" this one
abbrev pub two_roots : (entry : ℕ) → List ℕ
two_roots entry = header_bytes 0 2 0 0 ++ root_bytes 0 1 ++ root_bytes 1 entry ++ codes "ab"

-- a table of two methods: a strict one-way method "l", and "m" with this ordinal, flags and request
abbrev pub two_methods : (ordinal flags request : ℕ) → List ℕ
two_methods ordinal flags request =
    header_bytes 0 0 0 2 ++ method_bytes 0 5 3 1 ++ method_bytes 1 ordinal flags request
    ++ codes "lm"

-- a table of a closed protocol "p" with two methods, and of "q" with this openness and so many; the
-- third method, "m", is strict and has this ordinal
abbrev pub two_protocols : (openness methods ordinal : ℕ) → List ℕ
two_protocols openness methods ordinal =
    header_bytes 0 0 2 3 ++ protocol_bytes 0 0 2 ++ protocol_bytes 1 openness methods
    ++ method_bytes 2 5 7 0 ++ method_bytes 2 6 7 0 ++ method_bytes 2 ordinal 7 1 ++ codes "pqm"

-- a table of one struct without members and one root with its entry; the names are these bytes
abbrev pub one_struct : (of_entry of_root : ℕ) → List ℕ
one_struct of_entry of_root =
    header_bytes 1 1 0 0 ++ (16 ∷ 0 ∷ 1 ∷ 1 ∷ []) ++ four_bytes 1 ++ replicate 28 0 ++ four_bytes 1
    ++ root_bytes 1 0 ++ of_entry ∷ of_root ∷ []

-- a strict method of this name: its request carries the definition 2, and its response nothing
abbrev pub a_method : Vec ℕ → MethodEntry
a_method name = record {
  ordinal = 7;
  name = name;
  strict = true;
  request = Definition 2;
  response = Empty;
}

-- a strict method of this name: its request carries the definition 4, and its response 3
abbrev pub two_payloads : Vec ℕ → MethodEntry
two_payloads name = record {
  ordinal = 8;
  name = name;
  strict = true;
  request = Definition 4;
  response = Definition 3;
}

-- an ajar protocol with this name and these methods
abbrev pub a_protocol : Vec ℕ → Vec MethodEntry → ProtocolEntry
a_protocol name methods = record { name = name; openness = Ajar; methods = methods }
