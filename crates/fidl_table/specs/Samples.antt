-- Tables, methods and protocols for worked facts.
use Rattle.std.specs.Prelude.{◌≡◌, ℕ, suc, List, [], ◌∷◌, ◌++◌, replicate, codes, None, true}
use Rattle.std.specs.Global.{Vec}
use Rattle.fidl_span.specs.declared.words.Span.{Span}
use Rattle.fidl_tree.specs.Views.{file_view}
use Rattle.fidl_tree.specs.declared.file.File.{File}
use Rattle.fidl_named.specs.declared.place.DeclarationId.{DeclarationId}
use Rattle.fidl_wire.specs.Term.{uint8}
use Rattle.fidl_wire.specs.Term as ty
use Rattle.fidl_wire.specs.Figure.{Declarations, figure}
use Rattle.fidl_payloads.specs.declared.payload.Payload.TheVariants as carried
use Rattle.fidl_protocol.specs.declared.method.Method.{Method}
use Rattle.fidl_protocol.specs.declared.method.Protocol.{Protocol}
use Rattle.fidl_table_build.specs.Samples.{four_bytes, header_bytes}

-- the declarations of a flexible enum, of a table and of a struct, the last two without members
abbrev pub three_types : Declarations
three_types = record {
  terms = ty.enum uint8 None ∷ ty.table ty.no_rows ∷ ty.struct ty.no_fields ∷ [];
  figures = figure 1 1 0 ∷ figure 16 8 0 ∷ figure 1 1 1 ∷ [];
}

-- their full names
abbrev pub three_names : List (List ℕ)
three_names = codes "l/b" ∷ codes "l/c" ∷ codes "l/a" ∷ []

-- one byte of a source
abbrev pub piece : (place : ℕ) → Span
piece place = record { from = place; to = suc place }

-- the source is "lpm", and its first byte is the name of the library
pub record IsSmall (f : File) : Type 0 where
  pub source : (file_view f).source ≡ codes "lpm"
  pub library : (file_view f).library ≡ piece 0 ∷ []

-- the first declaration of the first file
abbrev pub first : DeclarationId
first = record { file = 0; index = 0 }

-- a strict method of this declaration, whose name is the last byte of the source: its request
-- carries the definition 2, and its response nothing
abbrev pub a_method : Method
a_method = record {
  protocol = first;
  own = record { member = 0; name = piece 2; is_strict = true; ordinal = 7 };
  payloads = record { request = carried.«Type» 2; response = carried.Empty };
}

-- this declaration, with these methods
abbrev pub a_protocol : Vec Method → Protocol
a_protocol methods = record { id = first; methods = methods }

-- an entry of one byte; its name stands at this place of the names
abbrev pub entry_bytes : (kind nest subtype place name_length : ℕ) → List ℕ
entry_bytes kind nest subtype place name_length =
    kind ∷ 0 ∷ 1 ∷ nest ∷ four_bytes 1 ++ replicate 16 0 ++ four_bytes subtype ++ four_bytes 0
    ++ four_bytes place ++ four_bytes name_length

-- the entries of a uint8, of this kind with the name "l/a", and of a flexible enum "l/b"
abbrev pub three_entries : (kind : ℕ) → List ℕ
three_entries kind =
    entry_bytes 6 0 0 0 0 ++ entry_bytes kind 1 0 0 3 ++ entry_bytes 11 0 6 3 3

-- a root whose name has three bytes
abbrev pub root_bytes : (place entry : ℕ) → List ℕ
root_bytes place entry = four_bytes place ++ four_bytes 3 ++ four_bytes entry

-- a table of such entries and two roots: the first has its name at this place, and this entry; the
-- second is "l/b"
abbrev pub two_roots : (kind place entry : ℕ) → List ℕ
two_roots kind place entry =
    header_bytes 3 2 0 0 ++ three_entries kind ++ root_bytes place entry ++ root_bytes 3 2
    ++ codes "l/al/b"

-- a protocol whose name has three bytes
abbrev pub protocol_bytes : (place openness methods : ℕ) → List ℕ
protocol_bytes place openness methods =
    four_bytes place ++ four_bytes 3 ++ four_bytes openness ++ four_bytes methods

-- a method whose name has five bytes: its request has the entry 1, and its response no payload
abbrev pub method_bytes : (place ordinal flags : ℕ) → List ℕ
method_bytes place ordinal flags =
    ordinal ∷ replicate 7 0 ++ four_bytes place ++ four_bytes 5 ++ four_bytes flags
    ++ four_bytes 1 ++ replicate 4 255 ++ four_bytes 0

-- a table of an open protocol "l/p" without methods
abbrev pub one_protocol : List ℕ
one_protocol = header_bytes 0 0 1 0 ++ protocol_bytes 0 2 0 ++ codes "l/p"

-- a table of an open protocol "l/o" with two methods, and of "l/p" with this openness and so many;
-- the third method, "l/p.m", has this ordinal and these flags
abbrev pub two_protocols : (openness methods ordinal flags : ℕ) → List ℕ
two_protocols openness methods ordinal flags =
    header_bytes 3 0 2 3 ++ three_entries 16 ++ protocol_bytes 11 2 2
    ++ protocol_bytes 6 openness methods ++ method_bytes 11 5 7 ++ method_bytes 11 6 7
    ++ method_bytes 6 ordinal flags ++ codes "l/al/bl/p.ml/o.n"
