-- Where a value breaks a rule of its type that a refusal names (docs/encoding.md, "Refusals").
use Rattle.std.specs.Prelude.{◌<◌, ◌⊎◌, length, IfSome, IsUtf8, Contains, Option}
use Rattle.fidl_wire.specs.Value.{Value, absent, bool, number, text, list, fields, handle, table}
use Rattle.fidl_wire.specs.Value.{union, Values, none, value, Member, known, unknown, Members}
use Rattle.fidl_wire.specs.Value.{empty, member, count}
use Rattle.fidl_wire.specs.Term.{Term, Fields, no_fields, field, Rows, resolve, rows_of, find}
use Rattle.fidl_wire.specs.Term as ty
use Rattle.fidl_wire.specs.Figure.{Declarations}
use Rattle.fidl_wire.specs.Typed.{InRange, InMask, IsAllowed}
use Rattle.fidl_wire.specs.Encoding.{element_of, content_of, term_or}
use Rattle.fidl_encode.specs.declared.fault.EncodeFault.{EncodeFault}
use Rattle.fidl_encode.specs.declared.fault.EncodeFault.TheVariants.{OverBound, NotUtf8}
use Rattle.fidl_encode.specs.declared.fault.EncodeFault.TheVariants.{UnknownValue, WrongHandle}

-- a string or vector is longer than its bound
abbrev pub IsOverBound : Term → Value → Type 0
IsOverBound (ty.string optional bound) (text bytes) = bound < length bytes
IsOverBound (ty.vector optional bound t) (list vs) = bound < count vs
IsOverBound _ _ = ⊥

-- a string is not UTF-8
abbrev pub IsNotUtf8 : Term → Value → Type 0
IsNotUtf8 (ty.string optional bound) (text bytes) = ¬ (IsUtf8 bytes)
IsNotUtf8 _ _ = ⊥

-- a number of the underlying type is no value of its strict enum, or has a bit outside the mask of
-- its strict bits
abbrev pub IsUnknownValue : Term → Value → Type 0
IsUnknownValue (ty.bits kind mask) (number z) = InRange kind z × ¬ (IfSome mask (λ m. InMask m z))
IsUnknownValue (ty.enum kind values) (number z) = InRange kind z
    × ¬ (IfSome values (λ zs. Contains zs z))
IsUnknownValue _ _ = ⊥

-- a handle has another object type, or too few rights
abbrev pub IsWrongHandle : Term → Value → Type 0
IsWrongHandle (ty.handle optional subtype rights) (handle h) = ¬ (IsAllowed subtype rights h)
IsWrongHandle _ _ = ⊥

-- the value itself breaks the rule that the refusal names
abbrev pub BreaksRule : Term → Value → EncodeFault → Type 0
BreaksRule t v OverBound = IsOverBound t v
BreaksRule t v NotUtf8 = IsNotUtf8 t v
BreaksRule t v UnknownValue = IsUnknownValue t v
BreaksRule t v WrongHandle = IsWrongHandle t v
BreaksRule t v _ = ⊥

abbrev mutual
  -- the value, or one in it, does
  pub Breaks : Declarations → Term → Value → EncodeFault → Type 0
  Breaks ds t absent fault = ⊥
  Breaks ds t (bool b) fault = ⊥
  Breaks ds t (number z) fault = BreaksRule t (number z) fault
  Breaks ds t (text bytes) fault = BreaksRule t (text bytes) fault
  Breaks ds t (handle h) fault = BreaksRule t (handle h) fault
  Breaks ds t (list vs) fault = BreaksRule t (list vs) fault
      ⊎ ElementBreaks ds (element_of ds t) vs fault
  Breaks ds t (fields vs) fault = FieldBreaks ds (content_of ds t) vs fault
  Breaks ds t (table n ms) fault = EntryBreaks ds (rows_of t) ms fault
  Breaks ds t (union ordinal m) fault = MemberBreaks ds (find (rows_of t) ordinal) m fault

  -- an element does
  pub ElementBreaks : Declarations → Term → Values → EncodeFault → Type 0
  ElementBreaks ds t none fault = ⊥
  ElementBreaks ds t (value v vs) fault = Breaks ds t v fault ⊎ ElementBreaks ds t vs fault

  -- a struct's member does
  pub FieldBreaks : Declarations → Fields → Values → EncodeFault → Type 0
  FieldBreaks ds fs none fault = ⊥
  FieldBreaks ds no_fields (value v vs) fault = ⊥
  FieldBreaks ds (field name t fs) (value v vs) fault = Breaks ds (resolve ds.terms t) v fault
      ⊎ FieldBreaks ds fs vs fault

  -- a known member does
  pub MemberBreaks : Declarations → Option Term → Member → EncodeFault → Type 0
  MemberBreaks ds t (known v) fault = Breaks ds (resolve ds.terms (term_or t)) v fault
  MemberBreaks ds t (unknown inline bytes handles) fault = ⊥

  -- a member of a table does
  pub EntryBreaks : Declarations → Rows → Members → EncodeFault → Type 0
  EntryBreaks ds rows empty fault = ⊥
  EntryBreaks ds rows (member ordinal m ms) fault = MemberBreaks ds (find rows ordinal) m fault
      ⊎ EntryBreaks ds rows ms fault
