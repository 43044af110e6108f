-- Types of uint32, and what the properties of a resource definition may be (docs/language.md,
-- "Resource definitions").
use Rattle.std.specs.Prelude.{ℕ, ◌≡◌, ◌⊎◌, List, codes}
use Rattle.fidl_tree.specs.Syntax.{TypeUse, Layout, values_layout, struct_layout, table_layout}
use Rattle.fidl_tree.specs.Syntax.{union_layout, ValuesKind, bits_kind, enum_kind}
use Rattle.fidl_tree.specs.Syntax.{Underlying, no_underlying, underlying_type}
use Rattle.fidl_tree.specs.declared.file.File.{File}
use Rattle.fidl_constraints.specs.Behind.{Core, layout_head, Behind}
use Rattle.fidl_wire.specs.Term as ty
use Rattle.fidl_lower_types.specs.Terms.{TermIs}

-- a type in the file of this number is uint32, aliases followed
abbrev pub IsUint32 : List File → (number : ℕ) → TypeUse → Type 0
IsUint32 files number t = TermIs files number t (ty.number ty.uint32)

-- so is the underlying type of bits or an enum: where none is written it is uint32
abbrev pub IsOfUint32 : List File → (number : ℕ) → Underlying → Type 0
IsOfUint32 files number no_underlying = Unit {0}
IsOfUint32 files number (underlying_type t) = IsUint32 files number t

-- a layout in the file of this number is bits of uint32, or an enum of uint32
abbrev pub LayoutSuits : List File → (number : ℕ) → ValuesKind → Layout → Type 0
LayoutSuits files number kind (values_layout values strict keyword u ms) =
    (values ≡ kind) × IsOfUint32 files number u
LayoutSuits files number kind (struct_layout is_resource keyword ms) = ⊥
LayoutSuits files number kind (table_layout is_resource keyword ms) = ⊥
LayoutSuits files number kind (union_layout strict is_resource keyword ms) = ⊥

-- a type in the file of this number is such a layout, aliases followed
pub record AreOfUint32 (files : List File) (number : ℕ) (kind : ValuesKind) (t : TypeUse) : Type 0
  where
    pub core : Core
    pub layout : Layout
    pub behind : Behind files number t core
    pub is : core.head ≡ layout_head layout
    pub suits : LayoutSuits files core.file kind layout

-- rights are bits of uint32, or uint32
abbrev pub RightsSuit : List File → (number : ℕ) → TypeUse → Type 0
RightsSuit files number t = AreOfUint32 files number bits_kind t ⊎ IsUint32 files number t

-- a property of this name may have this type: `subtype` an enum of uint32, `rights` what rights
-- are. No other name is that of a property
pub data TypeSuits (files : List File) (number : ℕ) (name : List ℕ) (t : TypeUse) : Type 0 where
  of_subtype : name ≡ codes "subtype" → AreOfUint32 files number enum_kind t
      → TypeSuits files number name t
  of_rights : name ≡ codes "rights" → RightsSuit files number t → TypeSuits files number name t
