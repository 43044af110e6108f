-- What the contracts of the code say of a file whose values are checked: the definitions of the
-- other files at the set, the file and the number of a `FileScope`. Of the code alone.
use Rattle.std.specs.Prelude.{ℕ, ◌≡◌, false, List, map, flat_map, Option}
use Rattle.std.specs.Prelude.{option_copied}
use Rattle.std.specs.Borrow.{Bor}
use Rattle.std.specs.List.{AllByRecursion}
use Rattle.fidl_span.specs.declared.words.Span.{Span}
use Rattle.fidl_tree.specs.Syntax as plain
use Rattle.fidl_tree.specs.Views.{path_view, value_view}
use Rattle.fidl_tree.specs.Views.{constraints_view}
use Rattle.fidl_tree.specs.Views.{kind_view, value_member_view, declared_view}
use Rattle.fidl_tree.specs.declared.path.Path.{Path}
use Rattle.fidl_tree.specs.declared.keyword.ValuesKeyword.{ValuesKeyword}
use Rattle.fidl_tree.specs.declared.value.Value.{Value}
use Rattle.fidl_tree.specs.declared.value_member.ValueMember.{ValueMember}
use Rattle.fidl_tree.specs.declared.constraint.Constraints.{Constraints}
use Rattle.fidl_tree.specs.declared.declaration.DeclarationBody.{DeclarationBody}
use Rattle.fidl_tree.specs.declared.type_constructor.TypeConstructor.{TypeConstructor}
use Rattle.fidl_named.specs.declared.meaning.Meaning.{Meaning}
use Rattle.fidl_named.specs.Constraints.{is_optional, ordinary}
use Rattle.fidl_named.specs.Places.{NamePlace, a_type, a_number, a_members, value_paths}
use Rattle.fidl_consts.specs.declared.fault.ConstFault.{ConstFault}
use Rattle.fidl_consts.specs.declared.const_type.NumberKind.{NumberKind}
use Rattle.fidl_consts.specs.declared.const_type.NumberKind.TheVariants.{Uint32}
use Rattle.fidl_consts.specs.declared.const_type.ConstType.TheVariants as ty
use Rattle.fidl_consts.specs.declared.consts.Limits.{Limits}
use Rattle.fidl_consts.specs.declared.scope.FileScope.{FileScope}
use Rattle.fidl_consts.specs.Strings.{IsConstraintOf, IsInheritedConstraint, BoundFails}
use Rattle.fidl_consts.specs.Constraints.{ConstraintHolds, ConstraintFails, ConstraintsHold}
use Rattle.fidl_consts.specs.Constraints.{ConstraintsFail}
use Rattle.fidl_consts.specs.Places.{MemberHolds, MembersFail, PlaceHolds, PlaceFails}
use Rattle.fidl_consts.specs.Places.{DeclarationHolds, DeclarationFails}
use Rattle.fidl_consts.specs.Tables.{TypeSettled, AreLimits}
use Rattle.fidl_const.specs.Columns.{IsOwnConstraint}
use Rattle.fidl_consts.specs.Scopes.{Settled, RefusesValue, optional_path_view}

-- the same of the ordinary constraints of a type, and of all that a type depends on
abbrev pub BoundsSettled : FileScope → Option (Bor Constraints) → Type 0
BoundsSettled s cs = Settled s
    (flat_map value_paths (ordinary s.file.tree.now (constraints_view (option_copied cs))))

abbrev pub UsesOfTypeSettled : FileScope → TypeConstructor → Type 0
UsesOfTypeSettled s t = TypeSettled s.file.named.now s.file.tree.now s.consts.now t

-- Limits of strings.

-- under the own constraints of a type, those of what its name means, and all of them
abbrev pub OwnLimits : FileScope → List plain.Value → Limits → Type 0
OwnLimits s cs limits = AreLimits s.file.named.now
    (IsOwnConstraint s.file.file_index s.file.tree.now cs) limits

abbrev pub InheritedLimits : FileScope → TypeConstructor → Limits → Type 0
InheritedLimits s t limits = AreLimits s.file.named.now
    (IsInheritedConstraint s.file.named.now s.file.file_index s.file.tree.now t) limits

abbrev pub LimitsOf : FileScope → TypeConstructor → Limits → Type 0
LimitsOf s t limits = AreLimits s.file.named.now
    (IsConstraintOf s.file.named.now s.file.file_index s.file.tree.now t) limits

-- a constraint that isn't the word `optional` is refused as a bound
abbrev pub RefusesBound : FileScope → Value → ConstFault → Type 0
RefusesBound s v fault = (is_optional s.file.tree.now (value_view v) ≡ false)
    × RefusesValue s (ty.Number Uint32) v fault

-- one of a list of constraints is
abbrev pub RefusesBounds : FileScope → List plain.Value → ConstFault → Type 0
RefusesBounds s cs fault =
    BoundFails s.file.named.now s.file.tree.now s.file.file_index
    (ordinary s.file.tree.now cs) fault

-- Constraints.

abbrev pub HoldsConstraint : FileScope → Meaning → ℕ → Value → Type 0
HoldsConstraint s end rank v =
    ConstraintHolds s.file.named.now s.file.tree.now end rank (value_view v)

abbrev pub RefusesConstraint : FileScope → Meaning → ℕ → Value → ConstFault → Type 0
RefusesConstraint s end rank v fault = ConstraintFails s.file.named.now s.file.tree.now
    s.file.file_index end rank (value_view v) fault

abbrev pub HoldsConstraints : FileScope → Meaning → Option (Bor Constraints) → Type 0
HoldsConstraints s end cs =
    ConstraintsHold s.file.named.now s.file.tree.now end (constraints_view (option_copied cs))

abbrev pub RefusesConstraints : FileScope → Meaning → Option (Bor Constraints) → ConstFault
    → Type 0
RefusesConstraints s end cs fault =
    ConstraintsFail s.file.named.now s.file.tree.now s.file.file_index
    end (constraints_view (option_copied cs)) fault

-- Places: what has the values that it owes, and what is refused.

abbrev pub HoldsMembers : FileScope → NumberKind → List ValueMember → Type 0
HoldsMembers s kind members = AllByRecursion
    (MemberHolds s.file.named.now s.file.tree.now kind) (map value_member_view members)

abbrev pub RefusesMembers : FileScope → NumberKind → List ValueMember → ConstFault → Type 0
RefusesMembers s kind members fault = MembersFail s.file.named.now s.file.tree.now s.file.file_index
    kind (map value_member_view members) fault

-- the places of members, of a number as an argument and of a type's name
abbrev pub members_place : ValuesKeyword → Option (Bor Path) → List ValueMember → NamePlace
members_place keyword underlying members =
    a_members (kind_view keyword) (optional_path_view underlying) (map value_member_view members)

abbrev pub number_place : Option (Bor Path) → Span → NamePlace
number_place argument_of word = a_number (optional_path_view argument_of) word

abbrev pub type_place : Option (Bor Path) → Path → Option (Bor Constraints) → NamePlace
type_place argument_of path cs =
    a_type (optional_path_view argument_of) (path_view path) (constraints_view (option_copied cs))

abbrev pub HoldsPlace : FileScope → NamePlace → Type 0
HoldsPlace s place = PlaceHolds s.file.named.now s.file.tree.now place

abbrev pub RefusesPlace : FileScope → NamePlace → ConstFault → Type 0
RefusesPlace s place fault =
    PlaceFails s.file.named.now s.file.tree.now s.file.file_index fault place

abbrev pub HoldsDeclaration : FileScope → DeclarationBody → Type 0
HoldsDeclaration s body =
    DeclarationHolds s.file.named.now s.file.tree.now (declared_view body)

abbrev pub RefusesDeclaration : FileScope → DeclarationBody → ConstFault → Type 0
RefusesDeclaration s body fault =
    DeclarationFails s.file.named.now s.file.tree.now s.file.file_index (declared_view body) fault
