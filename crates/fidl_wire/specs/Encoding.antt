-- How a value is encoded: inline, out of line, and its handles (docs/wire.md, "Encoding").
use Rattle.std.specs.Prelude.{ℕ, suc, ◌+◌, ◌-◌, ◌*◌, true, false, if◌then◌else◌, nat_le, ℤ, List}
use Rattle.std.specs.Prelude.{[], ◌∷◌, ◌++◌, length, replicate, Option, Some, None}
use Rattle.std.specs.Int.{w16, w32, w64, to_le_bytes, cast_unsigned, from_bool, next_multiple_of}
use Rattle.fidl_wire.specs.declared.handle.HandleInfo.{HandleInfo}
use Rattle.fidl_wire.specs.Value.{Value, absent, bool, number, text, list, fields, handle, table}
use Rattle.fidl_wire.specs.Value.{union, Values, none, value, Member, known, unknown, Members}
use Rattle.fidl_wire.specs.Value.{empty, member, count}
use Rattle.fidl_wire.specs.Term.{Term, Kind, Fields, no_fields, field, Rows, resolve, fields_of}
use Rattle.fidl_wire.specs.Term.{rows_of, find, width, uint8, nothing}
use Rattle.fidl_wire.specs.Term as ty
use Rattle.fidl_wire.specs.Figure.{Declarations, figure_of, size_of}

-- the bytes in the holder's place, the bytes of what lies below, and the handles of both
pub record Encoding : Type 0 where
  pub inline : List ℕ
  pub out : List ℕ
  pub handles : List HandleInfo

-- n zeros
abbrev pub zeros : ℕ → List ℕ
zeros n = replicate n 0

-- with zeros behind, up to this length
abbrev pub padded : ℕ → List ℕ → List ℕ
padded n bytes = bytes ++ zeros (n - length bytes)

-- with the fewest zeros behind that make the length a multiple of 8
abbrev pub pad8 : List ℕ → List ℕ
pad8 bytes = padded (next_multiple_of (length bytes) 8) bytes

-- the marker of what is present: all ones
abbrev pub present : List ℕ
present = replicate 8 255

-- bytes alone
abbrev pub inline_only : List ℕ → Encoding
inline_only bytes = record { inline = bytes; out = []; handles = [] }

-- one behind the other, in all three parts
abbrev pub joined : Encoding → Encoding → Encoding
joined a b =
    record { inline = a.inline ++ b.inline; out = a.out ++ b.out; handles = a.handles ++ b.handles }

-- the bytes of an out-of-line object, padded, and of all below it: depth first
abbrev pub object : Encoding → List ℕ
object e = pad8 e.inline ++ e.out

-- what points to an object, and the object
abbrev pub pointing : List ℕ → Encoding → Encoding
pointing bytes e = record { inline = bytes; out = object e; handles = e.handles }

-- a count and the marker, and the object
abbrev pub counted : ℕ → Encoding → Encoding
counted n e = pointing (to_le_bytes w64 n ++ present) e

-- what an envelope has behind its first four bytes: the number of handles and the flags
abbrev pub envelope_end : (flags : ℕ) → List HandleInfo → List ℕ
envelope_end flags handles = to_le_bytes w16 (length handles) ++ to_le_bytes w16 flags

-- an envelope with the four bytes in it: flags 1
abbrev pub inline_envelope : List ℕ → List HandleInfo → Encoding
inline_envelope bytes handles =
    record { inline = bytes ++ envelope_end 1 handles; out = []; handles = handles }

-- an envelope that counts the bytes out of line: flags 0
abbrev pub out_envelope : List ℕ → List HandleInfo → Encoding
out_envelope bytes handles =
    record {
      inline = to_le_bytes w32 (length bytes) ++ envelope_end 0 handles;
      out =
          bytes;
      handles = handles;
    }

-- the envelope of a member of this inline size
abbrev pub envelope : (size : ℕ) → Encoding → Encoding
envelope size e =
    if nat_le size 4 then inline_envelope (padded 4 e.inline) e.handles else out_envelope (object e)
    e.handles

-- the number type of a number, bits or enum
abbrev pub kind_of : Term → Kind
kind_of (ty.number kind) = kind
kind_of (ty.bits kind mask) = kind
kind_of (ty.enum kind values) = kind
kind_of _ = uint8

-- a number in its little-endian bytes, a negative one in two's complement
abbrev pub number_bytes : Kind → ℤ → List ℕ
number_bytes kind z = to_le_bytes (width kind) (cast_unsigned (width kind) z)

-- the type of a member, where the layout has it
abbrev pub term_or : Option Term → Term
term_or None = nothing
term_or (Some t) = t

-- elements and members stand in the place of their array or struct, and out of line behind a vector
-- or box
abbrev pub behind : Term → (n : ℕ) → Encoding → Encoding
behind (ty.vector optional bound t) n e = counted n e
behind (ty.box t) n e = pointing present e
behind _ n e = e

-- the type of the elements of a vector or array
abbrev pub element_of : Declarations → Term → Term
element_of ds (ty.vector optional bound t) = resolve ds.terms t
element_of ds (ty.array t n) = resolve ds.terms t
element_of ds _ = nothing

-- the members of a struct, or of the struct in a box
abbrev pub content_of : Declarations → Term → Fields
content_of ds (ty.box t) = fields_of (resolve ds.terms t)
content_of ds t = fields_of t

abbrev mutual
  -- the encoding of a value of a term that is no name
  pub encoding_of : Declarations → Term → Value → Encoding
  encoding_of ds t absent = inline_only (zeros (size_of ds t))
  encoding_of ds t (bool b) = inline_only (from_bool b ∷ [])
  encoding_of ds t (number z) = inline_only (number_bytes (kind_of t) z)
  encoding_of ds t (handle h) = record { inline = replicate 4 255; out = []; handles = h ∷ [] }
  encoding_of ds t (text bytes) = counted (length bytes) (inline_only bytes)
  encoding_of ds t (list vs) = behind t (count vs) (elements ds (element_of ds t) vs)
  encoding_of ds t (fields vs) = let fs = content_of ds t in
      behind t (count vs) (members ds (size_of ds (ty.struct fs)) 0 fs vs)
  encoding_of ds t (table n ms) = counted n (envelopes ds (rows_of t) 1 n ms)
  encoding_of ds t (union ordinal m) =
      joined (inline_only (to_le_bytes w64 ordinal)) (enveloped ds (find (rows_of t) ordinal) m)

  -- elements, one behind the other
  pub elements : Declarations → Term → Values → Encoding
  elements ds t none = inline_only []
  elements ds t (value v vs) = joined (encoding_of ds t v) (elements ds t vs)

  -- a struct's members from this offset on, each behind zeros up to its own, and zeros up to the
  -- struct's size
  pub members : Declarations → (size from : ℕ) → Fields → Values → Encoding
  members ds size from fs none = inline_only (zeros (size - from))
  members ds size from no_fields (value v vs) = inline_only (zeros (size - from))
  members ds size from (field name t fs) (value v vs) =
      let f = figure_of ds.figures t in
      let at = next_multiple_of from f.align in
      joined (inline_only (zeros (at - from)))
      (joined (encoding_of ds (resolve ds.terms t) v) (members ds size (at + f.size) fs vs))

  -- the envelope of a member of a table or union
  pub enveloped : Declarations → Option Term → Member → Encoding
  enveloped ds t (known v) =
      envelope (size_of ds (term_or t)) (encoding_of ds (resolve ds.terms (term_or t)) v)
  enveloped ds t (unknown true bytes handles) = inline_envelope bytes handles
  enveloped ds t (unknown false bytes handles) = out_envelope bytes handles

  -- the envelopes from ordinal `next` up to the count, zeros where there is no member
  pub envelopes : Declarations → Rows → (next n : ℕ) → Members → Encoding
  envelopes ds rows next n empty = inline_only (zeros (8 * (suc n - next)))
  envelopes ds rows next n (member ordinal m ms) =
      joined (inline_only (zeros (8 * (ordinal - next))))
      (joined (enveloped ds (find rows ordinal) m) (envelopes ds rows (suc ordinal) n ms))

-- inline part, out-of-line part and handles of a value of the term
abbrev pub Enc : Declarations → Term → Value → Encoding
Enc ds t v = encoding_of ds (resolve ds.terms t) v
