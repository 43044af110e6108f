-- What a well-formed table says of an entry.
use Rattle.std.proofs.Common.{◌≡◌, ℕ, zero, suc, ◌+◌, ◌*◌, ◌<◌, ◌≤◌, List, refl, sym, ap, subst, ◌∙◌, arith, mul-suc, true, false}
use Rattle.std.proofs.lemmas.List.{get_or-map}
use Rattle.std.specs.Prelude.{Option, Some, None, IsTrue, IsSome, ◌^◌}
use Rattle.std.specs.Option.{option_map_or}
use Rattle.fidl_wire.specs.Term.{Term, resolve, nothing, rows_of}
use Rattle.fidl_wire.specs.Term as ty
use Rattle.fidl_wire.specs.Figure.{Figure, figure, size_of}
use Rattle.fidl_wire.proofs.Sizes.{size_of-resolve}
use Rattle.fidl_limits.specs.declared.limits.TheConstants.{MAX_INLINE_SIZE, MAX_NEST}
use Rattle.fidl_table_format.specs.declared.record.Entry.{Entry}
use Rattle.fidl_table_format.specs.declared.kind.EntryKind.{EntryKind}
use Rattle.fidl_table_format.specs.declared.kind.EntryKind.TheVariants.{Bool as Boolean, Int8, Int16, Int32, Int64, Uint8, Uint16, Uint32, Uint64, Bits, Enum, String, Vector, Array, Box, Struct, Table, Union, Handle}
use Rattle.fidl_table_format.specs.declared.record.Header.{Header}
use Rattle.fidl_table_format.specs.Kind.{kind_of}
use Rattle.fidl_table_format.specs.Section.{header_of, entry_at, row_at}
use Rattle.fidl_table_format.specs.Terms.{declarations_of, below, term_of, term_as, members_of, as_number, is_optional, is_strict}
use Rattle.fidl_table_format.specs.Uses.{uses_entry, uses_rows, is_known, is_unsigned}
use Rattle.fidl_table_format.specs.Entry.{IsOf, subtype_is}
use Rattle.fidl_table_format.specs.WellFormed.{WellFormed}
use Rattle.fidl_verify.proofs.Known.{test_of}
use Rattle.fidl_verify.proofs.Stated.{length-below, get_or-below, stated_at}
use Rattle.fidl_verify.proofs.Standing.{members_stand}
use Rattle.fidl_verify.proofs.Declared.{laid_out, element_nests, member_nests}
use Rattle.fidl_encode.specs.Parts.{type_at}

le_product : (a n own whole : ℕ) → own ≡ a → 0 < n → a * n ≡ whole → own ≤ whole
le_product a (suc n) own whole e some is = let more : a * n + a ≡ whole = sym (mul-suc a n) ∙ is in omega (arith, e, more)
le_product a zero own whole e some is = absurd (omega (arith, some))

some_kind : (o : Option EntryKind) → IsTrue (option_map_or is_known o false) → (k : EntryKind) × (o ≡ Some k)
some_kind None h = absurd (let never : false ≡ true = h in cc)
some_kind (Some k) h = (k, refl)

module _ (b : List ℕ) (w : WellFormed b) (i : ℕ) (lt : i < (header_of b).entries) where
  -- the entry's kind
  pub kind_at : (k : EntryKind) × IsOf k (entry_at b i)
  kind_at = some_kind (kind_of (entry_at b i).kind) (w.entries i lt).shape.known

  -- the type of the entry, by its kind
  pub term_at : (k : EntryKind) → IsOf k (entry_at b i) → type_at b i ≡ term_as k b (header_of b) (entry_at b i)
  term_at k is =
      get_or-map (λ j. term_of b (header_of b) (entry_at b j)) (below (header_of b).entries) i 0 nothing (omega (arith, length-below (header_of b).entries, lt))
      ∙ ap (λ j. term_of b (header_of b) (entry_at b j)) (get_or-below (header_of b).entries i lt)
      ∙ ap (λ (o : Option EntryKind). option_map_or (λ (j : EntryKind). term_as j b (header_of b) (entry_at b i)) o nothing) is

  -- its size
  pub named_size : size_of (declarations_of b) (ty.named i) ≡ (entry_at b i).size
  named_size = ap (λ (f : Figure). f.size) (stated_at b (header_of b) i (figure 1 1 0) lt)

  pub size_at : size_of (declarations_of b) (type_at b i) ≡ (entry_at b i).size
  size_at = size_of-resolve (declarations_of b) (laid_out b w) (ty.named i) ∙ named_size

  pub size_as : (k : EntryKind) → IsOf k (entry_at b i) → size_of (declarations_of b) (term_as k b (header_of b) (entry_at b i)) ≡ (entry_at b i).size
  size_as k is = ap (λ (t : Term). size_of (declarations_of b) t) (sym (term_at k is)) ∙ size_at

  pub element_lt : (k : EntryKind) → uses_entry k ≡ true → IsOf k (entry_at b i) → (entry_at b i).first < (header_of b).entries
  element_lt k uses is = (w.entries i lt).children.elements (test_of uses_entry k (entry_at b i) is ∙ uses)

  pub element_less : IsOf Array (entry_at b i) → (entry_at b (entry_at b i).first).nest < (entry_at b i).nest
  element_less is = element_nests b (header_of b) (entry_at b i) is (element_lt Array refl is) (w.entries i lt).nest.nest

  pub box_struct : IsOf Box (entry_at b i) → IsOf Struct (entry_at b (entry_at b i).first)
  box_struct is = (w.entries i lt).children.content is

  -- a struct's member has an entry of less nest, which lies within the struct
  pub row_lt : IsOf Struct (entry_at b i) → (k : ℕ) → k < (entry_at b i).count → (entry_at b i).first + k < (header_of b).rows
  row_lt is k less = let all = (w.entries i lt).children.within (test_of uses_rows Struct (entry_at b i) is) in omega (arith, all, less)

  pub member_lt : IsOf Struct (entry_at b i) → (k : ℕ) → k < (entry_at b i).count → (row_at b (header_of b) ((entry_at b i).first + k)).entry < (header_of b).entries
  member_lt is k less = (w.entries i lt).children.members (test_of uses_rows Struct (entry_at b i) is) k less

  pub member_less : IsOf Struct (entry_at b i) → (k : ℕ) → k < (entry_at b i).count → (entry_at b (row_at b (header_of b) ((entry_at b i).first + k)).entry).nest < (entry_at b i).nest
  member_less is k less = member_nests b (header_of b) (entry_at b i) is (w.entries i lt).nest.nest k less (member_lt is k less)

  pub member_fits : IsOf Struct (entry_at b i) → (k : ℕ) → k < (entry_at b i).count
      → let r = row_at b (header_of b) ((entry_at b i).first + k) in r.key + (entry_at b r.entry).size ≤ (entry_at b i).size
  member_fits is k less = (members_stand b w i lt is k less).within

  pub size_few : (entry_at b i).size ≤ MAX_INLINE_SIZE
  size_few = (w.entries i lt).size.limit

  pub nest_few : (entry_at b i).nest ≤ MAX_NEST
  nest_few = (w.entries i lt).nest.limit

-- an array is as large as its elements together, none of which is larger
module _ (b : List ℕ) (w : WellFormed b) (i : ℕ) (lt : i < (header_of b).entries) (is : IsOf Array (entry_at b i)) where
  pub array_size : (entry_at b (entry_at b i).first).size * (entry_at b i).count ≡ (entry_at b i).size
  array_size = ap (λ n. n * (entry_at b i).count) (sym (named_size b w (entry_at b i).first (element_lt b w i lt Array refl is))) ∙ size_as b w i lt Array is

  pub element_fits : (entry_at b (entry_at b i).first).size ≤ (entry_at b i).size
  element_fits = le_product (entry_at b (entry_at b i).first).size (entry_at b i).count (entry_at b (entry_at b i).first).size (entry_at b i).size refl ((w.entries i lt).size.elements is) array_size

-- the same, of the entry as it was read
module _ (b : List ℕ) (w : WellFormed b) (i : ℕ) (lt : i < (header_of b).entries) (e : Entry) (same : e ≡ entry_at b i) where
  pub kind_there : (o : Option EntryKind) → o ≡ kind_of e.kind → IsSome o
  kind_there o is = subst (λ (o : Option EntryKind). IsSome o) (sym (is ∙ ap (λ (e : Entry). kind_of e.kind) same ∙ (kind_at b w i lt).1)) refl

  module _ (k : EntryKind) (is : IsOf k e) where
    pub is_there : IsOf k (entry_at b i)
    is_there = subst (λ (e : Entry). IsOf k e) same is

    pub term_from : type_at b i ≡ term_as k b (header_of b) e
    term_from = term_at b w i lt k is_there ∙ ap (λ (e : Entry). term_as k b (header_of b) e) (sym same)

    pub size_from : size_of (declarations_of b) (term_as k b (header_of b) e) ≡ (entry_at b i).size
    size_from = ap (λ (t : Term). size_of (declarations_of b) t) (sym term_from) ∙ size_at b w i lt

    pub first_from : uses_entry k ≡ true → e.first < (header_of b).entries
    first_from uses = subst (λ (e : Entry). e.first < (header_of b).entries) (sym same) (element_lt b w i lt k uses is_there)

  pub bound_from : IsOf Vector e → e.bound < 2 ^ 32
  bound_from is = subst (λ (e : Entry). e.bound < 2 ^ 32) (sym same) ((w.entries i lt).shape.count_bound (is_there Vector is))

  pub unsigned_from : IsOf Bits e → IsTrue (subtype_is is_unsigned e)
  unsigned_from is = subst (λ (e : Entry). IsTrue (subtype_is is_unsigned e)) (sym same) ((w.entries i lt).shape.bits (is_there Bits is)).subtype

  pub struct_from : IsOf Box e → IsOf Struct (entry_at b e.first)
  struct_from is = subst (λ (e : Entry). IsOf Struct (entry_at b e.first)) (sym same) (box_struct b w i lt (is_there Box is))

  pub array_from : IsOf Array e → (entry_at b e.first).size * e.count ≡ (entry_at b i).size
  array_from is = subst (λ (e : Entry). (entry_at b e.first).size * e.count ≡ (entry_at b i).size) (sym same) (array_size b w i lt (is_there Array is))

  pub fits_from : IsOf Array e → (entry_at b e.first).size ≤ (entry_at b i).size
  fits_from is = subst (λ (e : Entry). (entry_at b e.first).size ≤ (entry_at b i).size) (sym same) (element_fits b w i lt (is_there Array is))

  pub less_from : IsOf Array e → (entry_at b e.first).nest < (entry_at b i).nest
  less_from is = subst (λ (e : Entry). (entry_at b e.first).nest < (entry_at b i).nest) (sym same) (element_less b w i lt (is_there Array is))

-- a table and a union by the members of their layout
module _ (b : List ℕ) (w : WellFormed b) (i : ℕ) (lt : i < (header_of b).entries) where
  rows_is : (k : EntryKind) → IsOf k (entry_at b i) → members_of b i ≡ rows_of (term_as k b (header_of b) (entry_at b i))
  rows_is k is = ap (λ (o : Option EntryKind). rows_of (option_map_or (λ (j : EntryKind). term_as j b (header_of b) (entry_at b i)) o nothing)) is

  pub table_is : IsOf Table (entry_at b i) → type_at b i ≡ ty.table (members_of b i)
  table_is is = term_at b w i lt Table is ∙ ap ty.table (sym (rows_is Table is))

  pub union_is : IsOf Union (entry_at b i) → type_at b i ≡ ty.union (is_optional (entry_at b i)) (is_strict (entry_at b i)) (members_of b i)
  union_is is = term_at b w i lt Union is ∙ ap (ty.union (is_optional (entry_at b i)) (is_strict (entry_at b i))) (sym (rows_is Union is))

-- a kind that is none of the others is one of numbers
pub number_term : (b : List ℕ) (h : Header) (e : Entry) (k : EntryKind) → (k ≡ Boolean → ⊥) → (k ≡ Bits → ⊥) → (k ≡ Enum → ⊥) → (k ≡ String → ⊥) → (k ≡ Vector → ⊥) → (k ≡ Array → ⊥) → (k ≡ Box → ⊥) → (k ≡ Struct → ⊥) → (k ≡ Table → ⊥)
    → (k ≡ Union → ⊥) → (k ≡ Handle → ⊥) → term_as k b h e ≡ ty.number (as_number k)
number_term b h e Boolean o p q r s t u v x y z = absurd (o refl)
number_term b h e Bits o p q r s t u v x y z = absurd (p refl)
number_term b h e Enum o p q r s t u v x y z = absurd (q refl)
number_term b h e String o p q r s t u v x y z = absurd (r refl)
number_term b h e Vector o p q r s t u v x y z = absurd (s refl)
number_term b h e Array o p q r s t u v x y z = absurd (t refl)
number_term b h e Box o p q r s t u v x y z = absurd (u refl)
number_term b h e Struct o p q r s t u v x y z = absurd (v refl)
number_term b h e Table o p q r s t u v x y z = absurd (x refl)
number_term b h e Union o p q r s t u v x y z = absurd (y refl)
number_term b h e Handle o p q r s t u v x y z = absurd (z refl)
number_term b h e Int8 o p q r s t u v x y z = refl
number_term b h e Int16 o p q r s t u v x y z = refl
number_term b h e Int32 o p q r s t u v x y z = refl
number_term b h e Int64 o p q r s t u v x y z = refl
number_term b h e Uint8 o p q r s t u v x y z = refl
number_term b h e Uint16 o p q r s t u v x y z = refl
number_term b h e Uint32 o p q r s t u v x y z = refl
number_term b h e Uint64 o p q r s t u v x y z = refl
