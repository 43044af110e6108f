-- The constraints of lists as the code has them, and what it finds of each.
use Rattle.std.specs.Prelude.{ℕ, ◌≡◌, ◌<◌, pos, List, map, length}
use Rattle.std.specs.List.{AllByRecursion}
use Rattle.fidl_tree.specs.declared.file.File.{File}
use Rattle.fidl_tree.specs.Views.{value_view}
use Rattle.fidl_consts.specs.declared.const_type.NumberKind.TheVariants.{Uint32}
use Rattle.fidl_consts.specs.declared.const_type.ConstType.TheVariants as ty
use Rattle.fidl_consts.specs.PlainValues.{a_number}
use Rattle.fidl_consts.specs.Values.{ValueIs}
use Rattle.fidl_constraints.specs.declared.items.Item.{Item as CodeItem}
use Rattle.fidl_constraints.specs.Behind.{Given, Head}
use Rattle.fidl_constraints.specs.Items.{Item}
use Rattle.fidl_constraints.specs.Gives.{InFile, NamesProtocol, IsOfProperty}

abbrev pub item_view : CodeItem → Item
item_view x = record {
  file = x.file_index;
  value = value_view x.value.now;
  word = x.word;
  rank = x.rank;
  last = x.last;
}

abbrev pub items_view : List CodeItem → List Item
items_view xs = map item_view xs

-- each list stands in one of the files, and each constraint
abbrev pub AreInSet : List File → List Given → Type 0
AreInSet files lists = AllByRecursion (λ (g : Given). g.file < length files) lists

abbrev pub ItemsInSet : List File → List Item → Type 0
ItemsInSet files xs = AllByRecursion (λ (x : Item). x.file < length files) xs

-- a constraint is this bound, names a protocol (its number is 0), or has this number at the type of
-- the property of a resource definition that it is for
abbrev pub IsBoundOf : List File → CodeItem → ℕ → Type 0
IsBoundOf files x n = InFile files x.file_index
    (λ f. ValueIs files f (ty.Number Uint32) (value_view x.value.now) (a_number (pos n)))

abbrev pub IsProtocolOf : List File → CodeItem → ℕ → Type 0
IsProtocolOf files x n =
    InFile files x.file_index (NamesProtocol files (value_view x.value.now)) × (n ≡ 0)

abbrev pub IsHandleOf : List File → Head → CodeItem → ℕ → Type 0
IsHandleOf files head x n =
    InFile files x.file_index (IsOfProperty files head x.rank (value_view x.value.now) n)
