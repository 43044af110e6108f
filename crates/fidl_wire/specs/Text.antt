-- A value as it is written (docs/wire.md, "The written text of a value").
use Rattle.std.specs.Prelude.{ℕ, ◌+◌, ◌/◌, ◌%◌, ◌==◌, ◌||◌, nat_lt, Bool, true, false}
use Rattle.std.specs.Prelude.{if◌then◌else◌, List, [], ◌∷◌, ◌++◌, flat_map, codes, decimal}
use Rattle.std.specs.Fmt.{signed_decimal}
use Rattle.fidl_wire.specs.declared.handle.HandleInfo.{HandleInfo}
use Rattle.fidl_wire.specs.Value.{Value, absent, bool, number, text, list, fields, handle, table}
use Rattle.fidl_wire.specs.Value.{union, Values, none, value, Member, known, unknown, Members}
use Rattle.fidl_wire.specs.Value.{empty, member}
use Rattle.fidl_wire.specs.Term.{Term, Fields, field, Rows, no_rows, row, resolve, rows_of, find}
use Rattle.fidl_wire.specs.Figure.{Declarations}
use Rattle.fidl_wire.specs.Encoding.{element_of, content_of, term_or}

-- a hex digit in lower case
abbrev pub hex_digit : ℕ → ℕ
hex_digit d = if nat_lt d 10 then 48 + d else 87 + d

-- a byte in two hex digits
abbrev pub hex_byte : ℕ → List ℕ
hex_byte b = hex_digit (b / 16) ∷ hex_digit (b % 16) ∷ []

-- a byte of a text between quotes: `\"`, `\\`, `\n`, `\r`, `\t`, other control characters as
-- `\u{h}`, all else as it is
abbrev pub quoted_byte : ℕ → List ℕ
quoted_byte b =
    if b == 34 then codes "\\\""
    else if b == 92 then codes "\\\\"
    else if b == 10 then codes "\\n"
    else if b == 13 then codes "\\r"
    else if b == 9 then codes "\\t"
    else if nat_lt b 16 then codes "\\u{" ++ hex_digit b ∷ codes "}"
    else if nat_lt b 32 || (b == 127) then codes "\\u{" ++ hex_byte b ++ codes "}"
    else b ∷ []

-- a handle, by its three numbers
abbrev pub handle_text : HandleInfo → List ℕ
handle_text h = codes "handle(" ++ decimal h.id ++ codes ", " ++ decimal h.object_type ++ codes ", "
    ++ decimal h.rights ++ codes ")"

-- a comma and a blank, where something stands before
abbrev pub comma_if : (later : Bool) → List ℕ
comma_if later = if later then codes ", " else []

-- handles with commas between
abbrev pub handles_text : (later : Bool) → List HandleInfo → List ℕ
handles_text later [] = []
handles_text later (h ∷ hs) = comma_if later ++ handle_text h ++ handles_text true hs

-- the name of the member of this ordinal
abbrev pub name_at : Rows → (ordinal : ℕ) → List ℕ
name_at no_rows ordinal = []
name_at (row key name t rows) ordinal = if key == ordinal then name else name_at rows ordinal

abbrev mutual
  -- the text of a value of a term that is no name
  pub text_of : Declarations → Term → Value → List ℕ
  text_of ds t absent = codes "absent"
  text_of ds t (bool true) = codes "true"
  text_of ds t (bool false) = codes "false"
  text_of ds t (number z) = signed_decimal z
  text_of ds t (text bytes) = codes "\"" ++ flat_map quoted_byte bytes ++ codes "\""
  text_of ds t (list vs) = codes "[" ++ elements_text ds (element_of ds t) false vs ++ codes "]"
  text_of ds t (fields vs) = codes "{" ++ fields_text ds (content_of ds t) false vs ++ codes "}"
  text_of ds t (handle h) = handle_text h
  text_of ds t (table n ms) = codes "table(" ++ decimal n ++ codes ") {"
      ++ members_text ds (rows_of t) false ms ++ codes "}"
  text_of ds t (union ordinal m) = codes "union(" ++ member_text ds (rows_of t) ordinal m
      ++ codes ")"

  -- elements with commas between
  pub elements_text : Declarations → Term → (later : Bool) → Values → List ℕ
  elements_text ds t later none = []
  elements_text ds t later (value v vs) = comma_if later ++ text_of ds t v
      ++ elements_text ds t true vs

  -- a struct's members, each behind its name
  pub fields_text : Declarations → Fields → (later : Bool) → Values → List ℕ
  fields_text ds (field name t fs) later (value v vs) = comma_if later ++ name ++ codes ": "
      ++ text_of ds (resolve ds.terms t) v ++ fields_text ds fs true vs
  fields_text ds _ later _ = []

  -- a member behind its name, an unknown one behind its ordinal
  pub member_text : Declarations → Rows → (ordinal : ℕ) → Member → List ℕ
  member_text ds rows ordinal (known v) = name_at rows ordinal ++ codes ": "
      ++ text_of ds (resolve ds.terms (term_or (find rows ordinal))) v
  member_text ds rows ordinal (unknown inline bytes handles) = decimal ordinal ++ codes ": unknown "
      ++ (if inline then codes "in " else codes "out ") ++ flat_map hex_byte bytes ++ codes " ["
      ++ handles_text false handles ++ codes "]"

  -- a table's members with commas between
  pub members_text : Declarations → Rows → (later : Bool) → Members → List ℕ
  members_text ds rows later empty = []
  members_text ds rows later (member ordinal m ms) = comma_if later ++ member_text ds rows ordinal m
      ++ members_text ds rows true ms

-- the text of a value of the term
abbrev pub Text : Declarations → Term → Value → List ℕ
Text ds t v = text_of ds (resolve ds.terms t) v
