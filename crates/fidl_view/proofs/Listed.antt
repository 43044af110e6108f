-- The values of a list, and the parts that show them.
use Rattle.std.proofs.Common.{◌≡◌, ℕ, zero, suc, ◌+◌, ◌<◌, ◌≤◌, List, refl, sym, ap, subst, ◌∙◌, inl, inr, arith}
use Rattle.std.specs.Prelude.{Option, Some, None, Bool, pos, negsuc, ℤ, ◌⊎◌, true, false, IsSome, IfSome, MatchOption}
use Rattle.fidl_wire.specs.Value.{Value, Values, absent, bool, number, list, fields, none, value, count}
use Rattle.fidl_wire.specs.Term.{Term, Kind, Fields, fields_of, resolve, int8, int16, int32, int64, uint8, uint16, uint32, uint64}
use Rattle.fidl_wire.specs.Term as ty
use Rattle.fidl_wire.specs.Figure.{Declarations}
use Rattle.fidl_wire.specs.Typed.{IsTyped, AllTyped, EachTyped, InRange}
use Rattle.fidl_wire.specs.Encoding as encoding
use Rattle.fidl_wire.specs.Depth.{depth_of, elements_depth}
use Rattle.fidl_table_format.specs.declared.record.Header.{Header}
use Rattle.fidl_table_format.specs.declared.record.Entry.{Entry}
use Rattle.fidl_table_format.specs.declared.kind.EntryKind.{EntryKind}
use Rattle.fidl_table_format.specs.declared.kind.EntryKind.TheVariants.{Bool as Boolean, Int8, Int16, Int32, Int64, Uint8, Uint16, Uint32, Uint64, Bits, Enum, String, Vector, Array, Box, Struct, Table, Union, Handle}
use Rattle.fidl_table_format.specs.Section.{row_at}
use Rattle.fidl_table_format.specs.Terms.{declarations_of, fields_from, term_as}
use Rattle.fidl_decode_model.specs.Model.{Shown}
use Rattle.fidl_view.specs.Shows.{Shows}
use Rattle.fidl_view.specs.declared.view.View.{View}
use Rattle.fidl_decode_model.proofs.Scalars.{numeric_number, numeric_bits, numeric_enum}
use Rattle.fidl_view.specs.Numbers.{unsigned_in, signed_in}
use Rattle.fidl_view.specs.Parts.{absence_of, bool_of, nth, numbers_of, unsigned_of, signed_of}
use Rattle.fidl_view.specs.Within.{IsPart, IsElements}

-- the values from a place on
abbrev pub values_after : ℕ → Values → Values
values_after zero vs = vs
values_after (suc i) none = none
values_after (suc i) (value v vs) = values_after i vs

pub values_at : (vs : Values) (i : ℕ) (x : Value) → nth vs i ≡ Some x → values_after i vs ≡ value x (values_after (suc i) vs)
values_at none i x e = cc
values_at (value v vs) zero x e = ap (λ (y : Value). value y vs) cc
values_at (value v vs) (suc i) x e = values_at vs i x e

pub values_end : (vs : Values) → values_after (count vs) vs ≡ none
values_end none = refl
values_end (value v vs) = values_end vs

pub nth_there : (vs : Values) (i : ℕ) → i < count vs → (x : Value) × (nth vs i ≡ Some x)
nth_there none i less = absurd (omega arith)
nth_there (value v vs) zero less = (v, refl)
nth_there (value v vs) (suc i) less = nth_there vs i (omega arith)

pub typed_nth : (ds : Declarations) (t : Term) (vs : Values) (i : ℕ) (x : Value) → AllTyped ds t vs → nth vs i ≡ Some x → IsTyped ds t x
typed_nth ds t none i x h e = cc
typed_nth ds t (value v vs) zero x h e = subst (λ (y : Value). IsTyped ds t y) (same_value v x e) h.0
  where
    same_value : (a b : Value) → Some a ≡ Some b → a ≡ b
    same_value a b e = cc
typed_nth ds t (value v vs) (suc i) x h e = typed_nth ds t vs i x h.1 e

module _ (ds : Declarations) (b : List ℕ) (h : Header) where
  abbrev pub type_of : (row : ℕ) → Term
  type_of row = resolve ds.terms (ty.named (row_at b h row).entry)

  -- a struct has a value for each member
  pub each_nth : (first n : ℕ) (vs : Values) (i : ℕ) → EachTyped ds (fields_from b h first n) vs → i < n → (x : Value) × (nth vs i ≡ Some x) × IsTyped ds (type_of (first + i)) x
  each_nth first zero vs i typed less = absurd (omega arith)
  each_nth first (suc n) none i typed less = absurd typed
  each_nth first (suc n) (value v vs) zero typed less =
      let here : first ≡ first + 0 = omega arith in
      (v, refl, subst (λ k. IsTyped ds (type_of k) v) here typed.0)
  each_nth first (suc n) (value v vs) (suc i) typed less =
      let next : suc first + i ≡ first + suc i = omega arith in
      let r = each_nth (suc first) n vs i typed.1 (omega arith) in
      (r.0, r.1, subst (λ k. IsTyped ds (type_of k) r.0) next r.2)

module _ (d : Shown) where
  -- a part that is there is the value at its place
  pub part_some : (o : Option Value) (x : Value) (r : Option View) → o ≡ Some x
      → MatchOption r (o ≡ None) (λ part. (y : Value) × (o ≡ Some y) × Shows part.decoded.now part.index part.place y) → IsSome r
  part_some o x None e h = let bad : Some x ≡ None = sym e ∙ h in cc
  part_some o x (Some part) e h = refl

  pub part_shown : (o : Option Value) (r : Option View) (part : View) → r ≡ Some part
      → MatchOption r (o ≡ None) (λ part. (y : Value) × (o ≡ Some y) × Shows part.decoded.now part.index part.place y) → (y : Value) × (o ≡ Some y) × Shows part.decoded.now part.index part.place y
  part_shown o r part e h = subst (λ (r : Option View). MatchOption r (o ≡ None) (λ part. (y : Value) × (o ≡ Some y) × Shows part.decoded.now part.index part.place y)) e h

  pub same_message : (r : Option View) (part : View) → r ≡ Some part → IfSome r (λ part. part.decoded.now ≡ d) → part.decoded.now ≡ d
  same_message r part e h = subst (λ (r : Option View). IfSome r (λ part. part.decoded.now ≡ d)) e h

unknown : {P : Type 0} → false ≡ true → P
unknown e = cc

-- elements and members are of their types
pub all_typed : (ds : Declarations) (t : Term) (vs : Values) → IsTyped ds t (list vs) → AllTyped ds (encoding.element_of ds t) vs
all_typed ds (ty.array t n) vs h = h.1
all_typed ds (ty.vector optional bound t) vs h = h.1
all_typed ds _ vs h = absurd h

pub each_typed : (ds : Declarations) (t : Term) (vs : Values) → IsTyped ds t (fields vs) → EachTyped ds (encoding.content_of ds t) vs
each_typed ds (ty.struct fs) vs h = h
each_typed ds (ty.box t) vs h = h.1
each_typed ds _ vs h = absurd h

-- and lie no deeper than all of them
pub nth_depth : (ds : Declarations) (t : Term) (vs : Values) (i : ℕ) (x : Value) → nth vs i ≡ Some x → depth_of ds t x ≤ elements_depth ds t vs
nth_depth ds t none i x e = cc
nth_depth ds t (value v vs) zero x e = let same : v ≡ x = cc in subst (λ (y : Value). depth_of ds t y ≤ elements_depth ds t (value v vs)) same (omega arith)
nth_depth ds t (value v vs) (suc i) x e = omega (arith, nth_depth ds t vs i x e)

pub some_same : (a b : ℕ) → Some a ≡ Some b → a ≡ b
some_same a b e = cc

-- elements, as their view answers them
module _ (b : List ℕ) (element : ℕ) (view : View) (t : Term) (vs : Values) (p : IsElements b element view t vs) where
  abbrev pub own_element : Term
  own_element = resolve (declarations_of b).terms (ty.named element)

  pub list_count : (len : Option ℕ) (size : ℕ) → len ≡ Some (count vs) → len ≡ Some size → size ≡ count vs
  list_count len size e s = some_same size (count vs) (sym s ∙ e)

  pub list_nth : (i : ℕ) (x : Value) → nth vs i ≡ Some x → IsTyped (declarations_of b) own_element x
  list_nth i x e = typed_nth (declarations_of b) own_element vs i x (subst (λ (u : Term). AllTyped (declarations_of b) u vs) p.each (all_typed (declarations_of b) t vs p.part.typed)) e

-- an array is a list, and so is a vector that is not absent; a struct is its members, and so is a box that is not absent
pub array_is : (ds : Declarations) (t : Term) (n : ℕ) (v : Value) → IsTyped ds (ty.array t n) v → (vs : Values) × (v ≡ list vs)
array_is ds t n (list vs) h = (vs, refl)
array_is ds t n _ h = absurd h

pub vector_is : (ds : Declarations) (optional : Bool) (bound : ℕ) (t : Term) (v : Value) → IsTyped ds (ty.vector optional bound t) v → false ≡ absence_of v → (vs : Values) × (v ≡ list vs)
vector_is ds optional bound t (list vs) h e = (vs, refl)
vector_is ds optional bound t absent h e = unknown e
vector_is ds optional bound t _ h e = absurd h

pub struct_is : (ds : Declarations) (fs : Fields) (v : Value) → IsTyped ds (ty.struct fs) v → (vs : Values) × (v ≡ fields vs)
struct_is ds fs (fields vs) h = (vs, refl)
struct_is ds fs _ h = absurd h

pub box_is : (ds : Declarations) (t : Term) (v : Value) → IsTyped ds (ty.box t) v → false ≡ absence_of v → (vs : Values) × (v ≡ fields vs)
box_is ds t (fields vs) h e = (vs, refl)
box_is ds t absent h e = unknown e
box_is ds t _ h e = absurd h

-- a part of an equal type is the same part
pub part_as : (ds : Declarations) (s t : Term) (view : View) (v : Value) → s ≡ t → IsPart ds s view v → IsPart ds t view v
part_as ds s t view v e p = record { shown = p.shown; typed = subst (λ (u : Term). IsTyped ds u v) e p.typed }

-- a number of a type of numbers answers one of the two calls
by_kind : (kind : Kind) (z : ℤ) → InRange kind z → ((n : ℕ) × (z ≡ pos n) × (unsigned_in kind z ≡ Some n)) ⊎ ((unsigned_in kind z ≡ None) × (signed_in kind z ≡ Some z))
by_kind int8 z h = inr (refl, refl)
by_kind int16 z h = inr (refl, refl)
by_kind int32 z h = inr (refl, refl)
by_kind int64 z h = inr (refl, refl)
by_kind uint8 (pos n) h = inl (n, refl, refl)
by_kind uint16 (pos n) h = inl (n, refl, refl)
by_kind uint32 (pos n) h = inl (n, refl, refl)
by_kind uint64 (pos n) h = inl (n, refl, refl)
by_kind uint8 (negsuc n) h = absurd h
by_kind uint16 (negsuc n) h = absurd h
by_kind uint32 (negsuc n) h = absurd h
by_kind uint64 (negsuc n) h = absurd h

-- and so does one of bits or an enum
pub by_term : (ds : Declarations) (t : Term) → IsSome (numbers_of t) → (z : ℤ) → IsTyped ds t (number z) → ((n : ℕ) × (z ≡ pos n) × (unsigned_of t (number z) ≡ Some n)) ⊎ ((unsigned_of t (number z) ≡ None) × (signed_of t (number z) ≡ Some z))
by_term ds (ty.number kind) is z h = by_kind kind z h
by_term ds (ty.bits kind mask) is z h = by_kind kind z h.0
by_term ds (ty.enum kind values) is z h = by_kind kind z h.0
by_term ds t is z h = unknown is

-- the values of numbers, bits and enums are numbers
pub only_number : (ds : Declarations) (t : Term) → IsSome (numbers_of t) → (v : Value) → IsTyped ds t v → (z : ℤ) × (v ≡ number z)
only_number ds (ty.number kind) is v h = let r = (numeric_number ds kind).only v h in (r.0, r.1)
only_number ds (ty.bits kind mask) is v h = let r = (numeric_bits ds kind mask).only v h in (r.0, r.1)
only_number ds (ty.enum kind values) is v h = let r = (numeric_enum ds kind values).only v h in (r.0, r.1)
only_number ds t is v h = unknown is

-- a bool is answered
pub only_bool : (ds : Declarations) (v : Value) → IsTyped ds ty.bool v → (o : Option Bool) → o ≡ bool_of v → IsSome o
only_bool ds (bool b) h o e = subst (λ (p : Option Bool). IsSome p) (sym e) refl
only_bool ds _ h o e = absurd h

-- the kinds besides bool, string, vector, array, box, struct, table, union and handle are those of numbers, bits and enums
pub number_kind : (b : List ℕ) (h : Header) (e : Entry) (k : EntryKind) → (k ≡ Boolean → ⊥) → (k ≡ Array → ⊥) → (k ≡ Struct → ⊥) → (k ≡ String → ⊥) → (k ≡ Handle → ⊥) → (k ≡ Vector → ⊥) → (k ≡ Box → ⊥) → (k ≡ Table → ⊥) → (k ≡ Union → ⊥) → IsSome (numbers_of (term_as k b h e))
number_kind b h e Int8 nb na ns nt nh nv nx nm nu = refl
number_kind b h e Int16 nb na ns nt nh nv nx nm nu = refl
number_kind b h e Int32 nb na ns nt nh nv nx nm nu = refl
number_kind b h e Int64 nb na ns nt nh nv nx nm nu = refl
number_kind b h e Uint8 nb na ns nt nh nv nx nm nu = refl
number_kind b h e Uint16 nb na ns nt nh nv nx nm nu = refl
number_kind b h e Uint32 nb na ns nt nh nv nx nm nu = refl
number_kind b h e Uint64 nb na ns nt nh nv nx nm nu = refl
number_kind b h e Bits nb na ns nt nh nv nx nm nu = refl
number_kind b h e Enum nb na ns nt nh nv nx nm nu = refl
number_kind b h e Boolean nb na ns nt nh nv nx nm nu = absurd (nb refl)
number_kind b h e Array nb na ns nt nh nv nx nm nu = absurd (na refl)
number_kind b h e Struct nb na ns nt nh nv nx nm nu = absurd (ns refl)
number_kind b h e String nb na ns nt nh nv nx nm nu = absurd (nt refl)
number_kind b h e Vector nb na ns nt nh nv nx nm nu = absurd (nv refl)
number_kind b h e Box nb na ns nt nh nv nx nm nu = absurd (nx refl)
number_kind b h e Table nb na ns nt nh nv nx nm nu = absurd (nm refl)
number_kind b h e Union nb na ns nt nh nv nx nm nu = absurd (nu refl)
number_kind b h e Handle nb na ns nt nh nv nx nm nu = absurd (nh refl)

-- the elements of an array that is shown, and of a vector that is not absent
pub elements_of_array : (b : List ℕ) (f n : ℕ) (own : Term) (view : View) (v : Value) → own ≡ ty.array (ty.named f) n → IsPart (declarations_of b) own view v
    → (vs : Values) × (v ≡ list vs) × IsElements b f view (ty.array (ty.named f) n) vs
    × (depth_of (declarations_of b) own v ≡ elements_depth (declarations_of b) (resolve (declarations_of b).terms (ty.named f)) vs)
elements_of_array b f n own view v e p =
    let q = part_as (declarations_of b) own (ty.array (ty.named f) n) view v e p in
    let x = array_is (declarations_of b) (ty.named f) n v q.typed in (
      x.0,
      x.1,
      record { part = subst (λ (u : Value). IsPart (declarations_of b) (ty.array (ty.named f) n) view u) x.1 q; each = refl },
      ap (λ (t : Term). depth_of (declarations_of b) t v) e ∙ ap (λ (u : Value). depth_of (declarations_of b) (ty.array (ty.named f) n) u) x.1,
    )

pub elements_of_vector : (b : List ℕ) (f : ℕ) (optional : Bool) (bound : ℕ) (view : View) (v : Value) → IsPart (declarations_of b) (ty.vector optional bound (ty.named f)) view v → false ≡ absence_of v
    → (vs : Values) × (v ≡ list vs) × IsElements b f view (ty.vector optional bound (ty.named f)) vs
    × (depth_of (declarations_of b) (ty.vector optional bound (ty.named f)) v ≡ suc (elements_depth (declarations_of b) (resolve (declarations_of b).terms (ty.named f)) vs))
elements_of_vector b f optional bound view v p there =
    let t = ty.vector optional bound (ty.named f) in
    let x = vector_is (declarations_of b) optional bound (ty.named f) v p.typed there in (
      x.0,
      x.1,
      record { part = subst (λ (u : Value). IsPart (declarations_of b) t view u) x.1 p; each = refl },
      ap (λ (u : Value). depth_of (declarations_of b) t u) x.1,
    )
