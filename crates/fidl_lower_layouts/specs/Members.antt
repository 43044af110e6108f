-- The members of structs, tables and unions (docs/language.md, "Definitions").
use Rattle.std.specs.Prelude.{ℕ, ◌<◌, ◌^◌, List, [], ◌∷◌, flat_map}
use Rattle.std.specs.List.{AllPairs}
use Rattle.std.specs.List.Sorted.{IsPermutation}
use Rattle.fidl_tree.specs.Leaf.{text_at}
use Rattle.fidl_tree.specs.Syntax.{Members, no_members, next_member}
use Rattle.fidl_tree.specs.Syntax.{Member, named_member, ordinal_member, reserved_member}
use Rattle.fidl_tree.specs.declared.file.File.{File}
use Rattle.fidl_consts.specs.Literals.{number_of}
use Rattle.fidl_wire.specs.Term.{Term, Fields, no_fields, field, Rows, no_rows, row}
use Rattle.fidl_lower_types.specs.Terms.{TermIs}

-- members as a list
abbrev pub members_in : Members → List Member
members_in no_members = []
members_in (next_member m ms) = m ∷ members_in ms

-- a member of a struct in the file of this number has this name and this term
pub data FieldIs (files : List File) (number : ℕ) (f : File) : Member → List ℕ → Term → Type 0 where
  named : (attributes : _) (name : _) (t : _) (e : Term) → TermIs files number t e
      → FieldIs files number f (named_member attributes name t) (text_at f.src.now name) e

-- the fields of a struct: one for each member, in written order
abbrev pub FieldsAre : List File → (number : ℕ) → File → List Member → Fields → Type 0
FieldsAre files number f [] no_fields = Unit {0}
FieldsAre files number f [] (field name e fs) = ⊥
FieldsAre files number f (m ∷ ms) no_fields = ⊥
FieldsAre files number f (m ∷ ms) (field name e fs) =
    FieldIs files number f m name e × FieldsAre files number f ms fs

-- a member of a table or a union has this ordinal, of 32 bits, this name and this term
pub data RowIs (files : List File) (number : ℕ) (f : File) : Member → ℕ → List ℕ → Term → Type 0
  where
    at : (attributes : _) (ordinal name : _) (t : _) (e : Term)
        → number_of (text_at f.src.now ordinal) < 2 ^ 32 → TermIs files number t e
        → RowIs files number f (ordinal_member attributes ordinal name t)
        (number_of (text_at f.src.now ordinal)) (text_at f.src.now name) e

-- the members that are a row: a reserved one is none
abbrev pub own_row : Member → List Member
own_row (named_member attributes name t) = []
own_row (ordinal_member attributes ordinal name t) = ordinal_member attributes ordinal name t ∷ []
own_row (reserved_member attributes ordinal) = []

-- each of these members is a row, in this order
abbrev pub EachRow : List File → (number : ℕ) → File → List Member → Rows → Type 0
EachRow files number f [] no_rows = Unit {0}
EachRow files number f [] (row ordinal name e rows) = ⊥
EachRow files number f (m ∷ ms) no_rows = ⊥
EachRow files number f (m ∷ ms) (row ordinal name e rows) =
    RowIs files number f m ordinal name e × EachRow files number f ms rows

-- the rows of members, in written order
abbrev pub WrittenRowsAre : List File → (number : ℕ) → File → List Member → Rows → Type 0
WrittenRowsAre files number f ms rows = EachRow files number f (flat_map own_row ms) rows

-- the ordinals of rows, in their order
abbrev pub row_ordinals : Rows → List ℕ
row_ordinals no_rows = []
row_ordinals (row ordinal name e rows) = ordinal ∷ row_ordinals rows

-- the rows of a table or a union: one for each member that is not reserved, by rising ordinal,
-- whatever the order in which the members are written
pub record RowsAre (files : List File) (number : ℕ) (f : File) (ms : List Member) (rows : Rows)
    : Type 0 where
  pub members : List Member
  pub same : IsPermutation (flat_map own_row ms) members
  pub each : EachRow files number f members rows
  pub rise : AllPairs (λ m n. m < n) (row_ordinals rows)
