-- What breaks a rule of its type is not of the type.
use Rattle.std.proofs.Common.{ℕ, Bool, Option, Some, None, false, inl, inr, arith}
use Rattle.fidl_wire.specs.Value.{Value, absent, bool, number, text, list, fields, handle, table, union, Values, none, value, Member, known, unknown, Members, empty, member}
use Rattle.fidl_wire.specs.Term.{Term, Fields, no_fields, field, Rows, resolve, find}
use Rattle.fidl_wire.specs.Term as ty
use Rattle.fidl_wire.specs.Figure.{Declarations}
use Rattle.fidl_wire.specs.Typed.{IsTyped, AllTyped, EachTyped, IsTypedMember, RiseTyped}
use Rattle.fidl_encode.specs.declared.fault.EncodeFault.{EncodeFault}
use Rattle.fidl_encode.specs.declared.fault.EncodeFault.TheVariants.{OverBound, NotUtf8, UnknownValue, WrongHandle}
use Rattle.fidl_encode.specs.Broken.{IsOverBound, IsNotUtf8, IsUnknownValue, IsWrongHandle, BreaksRule, Breaks, ElementBreaks, FieldBreaks, MemberBreaks, EntryBreaks}

module _ (ds : Declarations) (f : EncodeFault) where
  over_bound : (t : Term) (v : Value) → IsOverBound t v → IsTyped ds t v → ⊥
  over_bound (ty.string optional bound) (text bytes) x h = omega (arith, x, h.1)
  over_bound (ty.vector optional bound t) (list vs) x h = omega (arith, x, h.0)
  over_bound _ _ x h = x

  not_utf8 : (t : Term) (v : Value) → IsNotUtf8 t v → IsTyped ds t v → ⊥
  not_utf8 (ty.string optional bound) (text bytes) x h = x h.0
  not_utf8 _ _ x h = x

  unknown_value : (t : Term) (v : Value) → IsUnknownValue t v → IsTyped ds t v → ⊥
  unknown_value (ty.bits kind mask) (number z) x h = x.1 h.1
  unknown_value (ty.enum kind values) (number z) x h = x.1 h.1
  unknown_value _ _ x h = x

  wrong_handle : (t : Term) (v : Value) → IsWrongHandle t v → IsTyped ds t v → ⊥
  wrong_handle (ty.handle optional subtype rights) (handle i) x h = x h.1
  wrong_handle _ _ x h = x

  own : (t : Term) (v : Value) (f : EncodeFault) → BreaksRule t v f → IsTyped ds t v → ⊥
  own t v OverBound x h = over_bound t v x h
  own t v NotUtf8 x h = not_utf8 t v x h
  own t v UnknownValue x h = unknown_value t v x h
  own t v WrongHandle x h = wrong_handle t v x h
  own t v _ x h = x

  mutual
    pub excluded : (t : Term) (v : Value) → Breaks ds t v f → IsTyped ds t v → ⊥
    excluded t absent x h = x
    excluded t (bool b) x h = x
    excluded t (number z) x h = own t (number z) f x h
    excluded t (text bytes) x h = own t (text bytes) f x h
    excluded t (handle i) x h = own t (handle i) f x h
    excluded (ty.vector optional bound t) (list vs) (inl x) h = own (ty.vector optional bound t) (list vs) f x h
    excluded (ty.vector optional bound t) (list vs) (inr x) h = excluded_elements (resolve ds.terms t) vs x h.1
    excluded (ty.array t n) (list vs) (inl x) h = own (ty.array t n) (list vs) f x h
    excluded (ty.array t n) (list vs) (inr x) h = excluded_elements (resolve ds.terms t) vs x h.1
    excluded (ty.struct fs) (fields vs) x h = excluded_fields fs vs x h
    excluded (ty.box t) (fields vs) x h = excluded_fields (ty.fields_of (resolve ds.terms t)) vs x h.1
    excluded (ty.table rows) (table n ms) x h = excluded_entries rows 0 n ms x h.1
    excluded (ty.union optional strict rows) (union ordinal m) x h = excluded_member strict (find rows ordinal) m x h.2
    excluded _ _ x h = h

    excluded_elements : (t : Term) (vs : Values) → ElementBreaks ds t vs f → AllTyped ds t vs → ⊥
    excluded_elements t none x h = x
    excluded_elements t (value v vs) (inl x) h = excluded t v x h.0
    excluded_elements t (value v vs) (inr x) h = excluded_elements t vs x h.1

    excluded_fields : (fs : Fields) (vs : Values) → FieldBreaks ds fs vs f → EachTyped ds fs vs → ⊥
    excluded_fields fs none x h = x
    excluded_fields no_fields (value v vs) x h = x
    excluded_fields (field name t fs) (value v vs) (inl x) h = excluded (resolve ds.terms t) v x h.0
    excluded_fields (field name t fs) (value v vs) (inr x) h = excluded_fields fs vs x h.1

    excluded_member : (strict : Bool) (t : Option Term) (m : Member) → MemberBreaks ds t m f → IsTypedMember ds strict t m → ⊥
    excluded_member strict (Some t) (known v) x h = excluded (resolve ds.terms t) v x h
    excluded_member strict None (known v) x h = h
    excluded_member strict t (unknown inline bytes handles) x h = x

    excluded_entries : (rows : Rows) (last n : ℕ) (ms : Members) → EntryBreaks ds rows ms f → RiseTyped ds rows last n ms → ⊥
    excluded_entries rows last n empty x h = x
    excluded_entries rows last n (member ordinal m ms) (inl x) h = excluded_member false (find rows ordinal) m x h.2
    excluded_entries rows last n (member ordinal m ms) (inr x) h = excluded_entries rows ordinal n ms x h.3
