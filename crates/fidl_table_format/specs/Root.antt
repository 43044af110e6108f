-- The rules of a root, and finding one by its name (docs/table.md, "Verification").
use Rattle.std.specs.Prelude.{◌≡◌, ◌≢◌, ℕ, suc, ◌<◌, List}
use Rattle.std.specs.Ordering.{nat_cmp}
use Rattle.std.specs.Cmp.Lexicographic.{slice_cmp}
use Rattle.std.specs.declared.cmp.Ordering.TheVariants.{Less}
use Rattle.fidl_table_format.specs.declared.record.Header.{Header}
use Rattle.fidl_table_format.specs.Section.{root_at, name_at}
use Rattle.fidl_table_format.specs.Name.{IsName}

-- the name of the root of this number
abbrev pub root_name : List ℕ → Header → (index : ℕ) → List ℕ
root_name bytes h index = let r = root_at bytes h index in
    name_at bytes h r.name_place r.name_length

-- the root has an entry
abbrev pub HasEntry : List ℕ → Header → (index : ℕ) → Type 0
HasEntry bytes h index = (root_at bytes h index).entry < h.entries

-- the root has a name that isn't empty
pub record HasRootName (bytes : List ℕ) (h : Header) (index : ℕ) : Type 0 where
  pub name : let r = root_at bytes h index in IsName bytes h r.name_place r.name_length
  pub some : 0 < (root_at bytes h index).name_length

-- one name stands before the other, by their bytes
abbrev pub IsBefore : List ℕ → List ℕ → Type 0
IsBefore a b = slice_cmp nat_cmp a b ≡ Less

-- the name stands behind that of the root before
abbrev pub Rises : List ℕ → Header → (index : ℕ) → Type 0
Rises bytes h index = (before : ℕ) → suc before ≡ index
    → IsBefore (root_name bytes h before) (root_name bytes h index)

-- all the rules of the root of this number
pub record IsRoot (bytes : List ℕ) (h : Header) (index : ℕ) : Type 0 where
  pub entry : HasEntry bytes h index
  pub name : HasRootName bytes h index
  pub rises : Rises bytes h index

-- the first root of this name
pub record IsFirstRoot (bytes : List ℕ) (h : Header) (name : List ℕ) (index : ℕ) : Type 0 where
  pub within : index < h.roots
  pub named : root_name bytes h index ≡ name
  pub first : (k : ℕ) → k < index → root_name bytes h k ≢ name

-- the entry of the first root of this name
abbrev pub IsRootEntry : List ℕ → Header → (name : List ℕ) → (entry : ℕ) → Type 0
IsRootEntry bytes h name entry = (index : ℕ) × IsFirstRoot bytes h name index
    × (entry ≡ (root_at bytes h index).entry)

-- no root has this name
abbrev pub HasNoRoot : List ℕ → Header → (name : List ℕ) → Type 0
HasNoRoot bytes h name = (index : ℕ) → index < h.roots → root_name bytes h index ≢ name
