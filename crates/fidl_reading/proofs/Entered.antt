-- What a well-formed table says of an entry.
use Rattle.std.proofs.Common.{◌≡◌, ℕ, ◌+◌, ◌<◌, List, refl, sym, ap, subst, ◌∙◌, arith, true, false}
use Rattle.std.proofs.lemmas.List.{get_or-map}
use Rattle.std.specs.Prelude.{Option, Some, None, IsTrue, IsSome}
use Rattle.std.specs.Option.{option_map_or}
use Rattle.fidl_wire.specs.Term.{Term, nothing, rows_of}
use Rattle.fidl_wire.specs.Term as ty
use Rattle.fidl_table_format.specs.declared.record.Entry.{Entry}
use Rattle.fidl_table_format.specs.declared.kind.EntryKind.{EntryKind}
use Rattle.fidl_table_format.specs.declared.kind.EntryKind.TheVariants.{Box, Struct, Table, Union}
use Rattle.fidl_table_format.specs.Kind.{kind_of}
use Rattle.fidl_table_format.specs.Section.{header_of, entry_at}
use Rattle.fidl_table_format.specs.Terms.{below, term_of, term_as, members_of, fields_from, is_optional, is_strict}
use Rattle.fidl_table_format.specs.Uses.{uses_entry, uses_rows, uses_ordinals, is_known}
use Rattle.fidl_table_format.specs.Entry.{IsOf, kind_is}
use Rattle.fidl_table_format.specs.WellFormed.{WellFormed}
use Rattle.fidl_verify.proofs.Known.{test_of}
use Rattle.fidl_verify.proofs.Stated.{length-below, get_or-below}
use Rattle.fidl_reading.specs.Reads.{type_at}

some_kind : (o : Option EntryKind) → IsTrue (option_map_or is_known o false) → (k : EntryKind) × (o ≡ Some k)
some_kind None h = absurd (let never : false ≡ true = h in cc)
some_kind (Some k) h = (k, refl)

module _ (b : List ℕ) (w : WellFormed b) (i : ℕ) (lt : i < (header_of b).entries) where
  -- the entry has a kind
  pub kind_at : (k : EntryKind) × IsOf k (entry_at b i)
  kind_at = some_kind (kind_of (entry_at b i).kind) (w.entries i lt).shape.known

  -- the type of the entry, by its kind
  pub term_at : (k : EntryKind) → IsOf k (entry_at b i) → type_at b i ≡ term_as k b (header_of b) (entry_at b i)
  term_at k is =
      get_or-map (λ j. term_of b (header_of b) (entry_at b j)) (below (header_of b).entries) i 0 nothing (omega (arith, length-below (header_of b).entries, lt))
      ∙ ap (λ j. term_of b (header_of b) (entry_at b j)) (get_or-below (header_of b).entries i lt)
      ∙ ap (λ (o : Option EntryKind). option_map_or (λ (j : EntryKind). term_as j b (header_of b) (entry_at b i)) o nothing) is

  pub row_lt : IsOf Struct (entry_at b i) → (k : ℕ) → k < (entry_at b i).count → (entry_at b i).first + k < (header_of b).rows
  row_lt is k less = let all = (w.entries i lt).children.within (test_of uses_rows Struct (entry_at b i) is) in omega (arith, all, less)

  rows_is : (k : EntryKind) → IsOf k (entry_at b i) → members_of b i ≡ rows_of (term_as k b (header_of b) (entry_at b i))
  rows_is k is = ap (λ (o : Option EntryKind). rows_of (option_map_or (λ (j : EntryKind). term_as j b (header_of b) (entry_at b i)) o nothing)) is

  pub struct_is : IsOf Struct (entry_at b i) → type_at b i ≡ ty.struct (fields_from b (header_of b) (entry_at b i).first (entry_at b i).count)
  struct_is is = term_at Struct is

  pub table_is : IsOf Table (entry_at b i) → type_at b i ≡ ty.table (members_of b i)
  table_is is = term_at Table is ∙ ap ty.table (sym (rows_is Table is))

  pub union_is : IsOf Union (entry_at b i) → type_at b i ≡ ty.union (is_optional (entry_at b i)) (is_strict (entry_at b i)) (members_of b i)
  union_is is = term_at Union is ∙ ap (ty.union (is_optional (entry_at b i)) (is_strict (entry_at b i))) (sym (rows_is Union is))

  pub has_ordinals : (k : EntryKind) → uses_ordinals k ≡ true → IsOf k (entry_at b i) → IsTrue (kind_is uses_ordinals (entry_at b i))
  has_ordinals k uses is = test_of uses_ordinals k (entry_at b i) is ∙ uses

  -- the same, of the entry as it was read
  module _ (e : Entry) (same : e ≡ entry_at b i) where
    pub kind_there : (o : Option EntryKind) → o ≡ kind_of e.kind → IsSome o
    kind_there o is = subst (λ (o : Option EntryKind). IsSome o) (sym (is ∙ ap (λ (e : Entry). kind_of e.kind) same ∙ kind_at.1)) refl

    module _ (k : EntryKind) (is : IsOf k e) where
      pub is_there : IsOf k (entry_at b i)
      is_there = subst (λ (e : Entry). IsOf k e) same is

      pub term_from : type_at b i ≡ term_as k b (header_of b) e
      term_from = term_at k is_there ∙ ap (λ (e : Entry). term_as k b (header_of b) e) (sym same)

      pub first_from : uses_entry k ≡ true → e.first < (header_of b).entries
      first_from uses = subst (λ (e : Entry). e.first < (header_of b).entries) (sym same) ((w.entries i lt).children.elements (test_of uses_entry k (entry_at b i) is_there ∙ uses))

    pub struct_from : IsOf Box e → IsOf Struct (entry_at b e.first)
    struct_from is = subst (λ (e : Entry). IsOf Struct (entry_at b e.first)) (sym same) ((w.entries i lt).children.content (is_there Box is))
