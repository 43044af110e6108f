-- Which texts spell a value of a type. `P ws rest` says that P is spelled by the words from `ws` on,
-- up to `rest`.
use Rattle.std.specs.Prelude.{◌≡◌, ◌⊎◌, ℕ, suc, ◌+◌, ◌*◌, ◌^◌, ◌<◌, ◌≤◌, ℤ, pos, neg_ℤ, Bool}
use Rattle.std.specs.Prelude.{true, false, if◌then◌else◌, List, [], ◌∷◌, length, IsTrue, IsUtf8}
use Rattle.std.specs.Prelude.{codes}
use Prim.Native.String.{String}
use Rattle.std.specs.Char.{is_ascii_hexdigit, digit_value}
use Rattle.std.specs.Str.Parse.{IsNumeral, digits_value}
use Rattle.fidl_wire.specs.declared.handle.HandleInfo.{HandleInfo}
use Rattle.fidl_wire.specs.Value.{Value, absent, bool, number, text, list, fields, handle, table}
use Rattle.fidl_wire.specs.Value.{union, Values, none, value, Member, known, unknown, Members}
use Rattle.fidl_wire.specs.Value.{empty, member}
use Rattle.fidl_wire.specs.Term.{Term, Kind, Fields, no_fields, field, Rows, no_rows, row, resolve}
use Rattle.fidl_wire.specs.Term.{fields_of, find}
use Rattle.fidl_wire.specs.Term as ty
use Rattle.fidl_wire.specs.Figure.{Declarations}
use Rattle.fidl_wire.specs.Typed.{InRange}
use Rattle.fidl_wire.specs.Encoding.{term_or}
use Rattle.fidl_spelling.specs.Words.{Words, IsQuoted, AreWords, IsWithinLimit}

-- nothing
abbrev pub Nothing : Words → Words → Type 0
Nothing ws rest = ws ≡ rest

-- this word
abbrev pub The : String → Words → Words → Type 0
The w ws rest = ws ≡ codes w ∷ rest

-- a word of which P holds
abbrev pub One : (List ℕ → Type 0) → Words → Words → Type 0
One P ws rest = (w : List ℕ) × P w × (ws ≡ w ∷ rest)

infixr 20 ◌⨾◌
-- first P, and then Q
abbrev pub ◌⨾◌ : (Words → Words → Type 0) → (Words → Words → Type 0) → Words → Words → Type 0
(P ⨾ Q) ws rest = (mid : Words) × P ws mid × Q mid rest

-- a comma, where something stands before
abbrev pub CommaIf : (later : Bool) → Words → Words → Type 0
CommaIf true = The ","
CommaIf false = Nothing

-- a number: decimal digits, leading zeros too, or `-` and such digits
abbrev pub IsNumber : ℤ → List ℕ → Type 0
IsNumber z w = (IsNumeral 10 w × (z ≡ pos (digits_value 10 w)))
    ⊎ ((ds : List ℕ) × (w ≡ 45 ∷ ds) × IsNumeral 10 ds × (z ≡ neg_ℤ (pos (digits_value 10 ds))))

-- a number from 0 up to the limit
abbrev pub IsNumberBelow : (limit n : ℕ) → List ℕ → Type 0
IsNumberBelow limit n w = (n < limit) × IsNumber (pos n) w

-- a number of its type
abbrev pub IsNumberOf : Kind → ℤ → List ℕ → Type 0
IsNumberOf kind z w = InRange kind z × IsNumber z w

-- bytes by two hex digits each
abbrev pub IsHex : List ℕ → List ℕ → Type 0
IsHex [] [] = Unit {0}
IsHex (x ∷ bytes) (a ∷ b ∷ w) = IsTrue (is_ascii_hexdigit a) × IsTrue (is_ascii_hexdigit b)
    × (x ≡ digit_value a * 16 + digit_value b) × IsHex bytes w
IsHex _ _ = ⊥

-- one byte or more
abbrev pub AreHex : List ℕ → List ℕ → Type 0
AreHex bytes w = (0 < length bytes) × IsHex bytes w

-- a handle, by its three numbers
abbrev pub AHandle : HandleInfo → Words → Words → Type 0
AHandle h = The "handle" ⨾ The "(" ⨾ One (IsNumberBelow (2 ^ 32) h.id) ⨾ The ","
    ⨾ One (IsNumberBelow (2 ^ 32) h.object_type) ⨾ The "," ⨾ One (IsNumberBelow (2 ^ 32) h.rights)
    ⨾ The ")"

-- handles with commas between
abbrev pub Handles : (later : Bool) → List HandleInfo → Words → Words → Type 0
Handles later [] = Nothing
Handles later (h ∷ hs) = CommaIf later ⨾ AHandle h ⨾ Handles true hs

-- what can be absent: strings, vectors, boxes, unions and handles, also where they are required
abbrev pub Absence : Term → Words → Words → Type 0
Absence (ty.handle optional subtype rights) = The "absent"
Absence (ty.string optional bound) = The "absent"
Absence (ty.vector optional bound t) = The "absent"
Absence (ty.box t) = The "absent"
Absence (ty.union optional strict rows) = The "absent"
Absence _ = λ ws rest. ⊥

-- a member of this ordinal bears the name
abbrev pub Bears : Rows → (name : List ℕ) → (ordinal : ℕ) → Type 0
Bears no_rows name ordinal = ⊥
Bears (row key n t rows) name ordinal = ((ordinal ≡ key) × (name ≡ n)) ⊎ Bears rows name ordinal

-- a name means the member of the lowest ordinal of those that bear it
pub record Means (rows : Rows) (ordinal : ℕ) (name : List ℕ) : Type 0 where
  pub bears : Bears rows name ordinal
  pub lowest : (k : ℕ) → Bears rows name k → ordinal ≤ k

abbrev mutual
  -- a value of a term that is no name
  pub Spelled : Declarations → Term → Value → Words → Words → Type 0
  Spelled ds ty.bool (bool true) = The "true"
  Spelled ds ty.bool (bool false) = The "false"
  Spelled ds (ty.number kind) (number z) = One (IsNumberOf kind z)
  Spelled ds (ty.bits kind mask) (number z) = One (IsNumberOf kind z)
  Spelled ds (ty.enum kind values) (number z) = One (IsNumberOf kind z)
  Spelled ds (ty.handle optional subtype rights) (handle h) = AHandle h
  Spelled ds (ty.string optional bound) (text bytes) = One (λ w. IsQuoted w bytes)
  Spelled ds (ty.vector optional bound t) (list vs) = The "[" ⨾ Elements ds (resolve ds.terms t)
      false vs ⨾ The "]"
  Spelled ds (ty.array t n) (list vs) = The "[" ⨾ Elements ds (resolve ds.terms t) false vs ⨾ The "]"
  Spelled ds (ty.struct fs) (fields vs) = The "{" ⨾ Named ds fs false vs ⨾ The "}"
  Spelled ds (ty.box t) (fields vs) = The "{" ⨾ Named ds (fields_of (resolve ds.terms t)) false vs
      ⨾ The "}"
  Spelled ds (ty.table rows) (table n ms) = The "table" ⨾ The "(" ⨾ One (IsNumberBelow (2 ^ 64) n)
      ⨾ The ")" ⨾ The "{" ⨾ Rising ds rows false 0 ms ⨾ The "}"
  Spelled ds (ty.union optional strict rows) (union ordinal m) = The "union" ⨾ The "("
      ⨾ AMember ds rows ordinal m ⨾ The ")"
  Spelled ds t absent = Absence t
  Spelled ds _ _ = λ ws rest. ⊥

  -- elements with commas between
  pub Elements : Declarations → Term → (later : Bool) → Values → Words → Words → Type 0
  Elements ds t later none = Nothing
  Elements ds t later (value v vs) = CommaIf later ⨾ Spelled ds t v ⨾ Elements ds t true vs

  -- a struct's members, all and in order, each behind its name
  pub Named : Declarations → Fields → (later : Bool) → Values → Words → Words → Type 0
  Named ds no_fields later none = Nothing
  Named ds (field name t fs) later (value v vs) = CommaIf later ⨾ One (λ w. w ≡ name) ⨾ The ":"
      ⨾ Spelled ds (resolve ds.terms t) v ⨾ Named ds fs true vs
  Named ds _ later _ = λ ws rest. ⊥

  -- a member of a table or union: a known one behind its name, an unknown one behind its ordinal
  pub AMember : Declarations → Rows → (ordinal : ℕ) → Member → Words → Words → Type 0
  AMember ds rows ordinal (known v) = One (Means rows ordinal) ⨾ The ":"
      ⨾ Spelled ds (resolve ds.terms (term_or (find rows ordinal))) v
  AMember ds rows ordinal (unknown inline bytes hs) = One (IsNumberBelow (2 ^ 64) ordinal) ⨾ The ":"
      ⨾ The "unknown" ⨾ The (if inline then "in" else "out") ⨾ One (AreHex bytes)
      ⨾ The "[" ⨾ Handles false hs ⨾ The "]"

  -- a table's members by rising ordinals from `least` on, with commas between
  pub Rising : Declarations → Rows → (later : Bool) → (least : ℕ) → Members → Words → Words → Type 0
  Rising ds rows later least empty = Nothing
  Rising ds rows later least (member ordinal m ms) = λ ws rest. (least ≤ ordinal)
      × (CommaIf later ⨾ AMember ds rows ordinal m ⨾ Rising ds rows true (suc ordinal) ms) ws rest

-- these words spell the value
abbrev pub SpellsBy : Declarations → Term → Words → Value → Type 0
SpellsBy ds t ws v = Spelled ds (resolve ds.terms t) v ws []

-- the text is UTF-8, and its words spell the value of the term
abbrev pub Spells : Declarations → Term → (text : List ℕ) → Value → Type 0
Spells ds t source v = IsUtf8 source × ((ws : Words) × AreWords source ws × SpellsBy ds t ws v)

-- and at most as many brackets as the limit are open at once
abbrev pub SpellsWithin : Declarations → Term → (text : List ℕ) → Value → Type 0
SpellsWithin ds t source v = IsUtf8 source × ((ws : Words) × AreWords source ws × IsWithinLimit ws
    × SpellsBy ds t ws v)
