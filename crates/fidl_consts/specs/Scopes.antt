-- What the contracts of the code say of a file in which values are read: the definitions of the
-- other files at the set, the file and the number of a `FileScope`. Of the code alone.
use Rattle.std.specs.Prelude.{ℕ, List, map, Option, option_map}
use Rattle.std.specs.Prelude.{option_copied}
use Rattle.std.specs.Borrow.{Bor}
use Rattle.fidl_tree.specs.Syntax as plain
use Rattle.fidl_tree.specs.Syntax.{operands_of}
use Rattle.fidl_tree.specs.Views.{path_view, value_view, operand_view, or_operand_view}
use Rattle.fidl_tree.specs.Views.{kind_view}
use Rattle.fidl_tree.specs.declared.path.Path.{Path}
use Rattle.fidl_tree.specs.declared.keyword.ValuesKeyword.{ValuesKeyword}
use Rattle.fidl_tree.specs.declared.value.Value.{Value}
use Rattle.fidl_tree.specs.declared.value.Operand.{Operand}
use Rattle.fidl_tree.specs.declared.value.OrOperand.{OrOperand}
use Rattle.fidl_tree.specs.declared.type_constructor.TypeConstructor.{TypeConstructor}
use Rattle.fidl_named.specs.declared.meaning.Meaning.{Meaning}
use Rattle.fidl_named.specs.Places.{value_paths}
use Rattle.fidl_named.specs.Places.{operands_paths, operand_paths}
use Rattle.fidl_consts.specs.declared.fault.ConstFault.{ConstFault}
use Rattle.fidl_consts.specs.declared.const_type.NumberKind.{NumberKind}
use Rattle.fidl_consts.specs.declared.const_type.ConstType.{ConstType}
use Rattle.fidl_consts.specs.declared.const_value.ConstValue.{ConstValue}
use Rattle.fidl_consts.specs.declared.scope.NamedFile.{NamedFile}
use Rattle.fidl_consts.specs.declared.scope.FileScope.{FileScope}
use Rattle.fidl_consts.specs.PlainValues.{seen}
use Rattle.fidl_consts.specs.Types.{IsStringType, UnderlyingIs}
use Rattle.fidl_consts.specs.Values.{NameGives, ValueIs, OrOperandsAre, OperandIs}
use Rattle.fidl_consts.specs.Refusals.{NameFails, ValueFails, OrOperandsFail, OperandFails}
use Rattle.fidl_consts.specs.Constraints.{UnderlyingFails, ItemNameGives, ItemNameFails, ItemIs}
use Rattle.fidl_consts.specs.Constraints.{ItemFails, HandleValueIs, HandleValueFails}
use Rattle.fidl_consts.specs.Tables.{AreTrue, AreConsts, PathsSettled}

-- What is known.

-- the values that are known are true
abbrev pub KnowsTrue : FileScope → Type 0
KnowsTrue s = AreTrue s.file.named.now s.consts.now

-- they are all values of the set, and true
abbrev pub KnowsAll : FileScope → Type 0
KnowsAll s = AreConsts s.file.named.now s.consts.now

-- what these names mean is known
abbrev pub Settled : FileScope → List plain.Path → Type 0
Settled s paths = PathsSettled s.file.named.now s.file.tree.now s.consts.now paths

abbrev pub ValueSettled : FileScope → Value → Type 0
ValueSettled s v = Settled s (value_paths (value_view v))

abbrev pub OperandSettled : FileScope → Operand → Type 0
OperandSettled s e = Settled s (operand_paths (operand_view e))

abbrev pub OrOperandsSettled : FileScope → List OrOperand → Type 0
OrOperandsSettled s os = Settled s (operands_paths (operands_of (map or_operand_view os)))

-- Types.

abbrev pub IsString : NamedFile → TypeConstructor → Type 0
IsString f t = IsStringType f.named.now f.tree.now t

-- a name as the code has it
abbrev pub optional_path_view : Option (Bor Path) → Option plain.Path
optional_path_view path = option_map path_view (option_copied path)

-- the numbers of the members of bits or an enum are of this kind, by the keyword and the name of
-- the underlying type
abbrev pub HasKind : NamedFile → ValuesKeyword → Option plain.Path → Option NumberKind → Type 0
HasKind f keyword path kind = UnderlyingIs f.named.now f.tree.now (kind_view keyword) path kind

abbrev pub RefusesKind : NamedFile → ValuesKeyword → Option plain.Path → ConstFault → Type 0
RefusesKind f keyword path fault =
    UnderlyingFails f.named.now f.tree.now f.file_index (kind_view keyword) path fault

-- Values: what is read as this value, and what is refused.

abbrev pub ReadsName : FileScope → ConstType → Path → ConstValue → Type 0
ReadsName s t path k = NameGives s.file.named.now s.file.tree.now (path_view path) t (seen k)

abbrev pub RefusesName : FileScope → ConstType → Path → ConstFault → Type 0
RefusesName s t path fault =
    NameFails s.file.named.now s.file.tree.now s.file.file_index t (path_view path) fault

abbrev pub ReadsOperand : FileScope → ConstType → Operand → ConstValue → Type 0
ReadsOperand s t e k = OperandIs s.file.named.now s.file.tree.now t (operand_view e) (seen k)

abbrev pub RefusesOperand : FileScope → ConstType → Operand → ConstFault → Type 0
RefusesOperand s t e fault =
    OperandFails s.file.named.now s.file.tree.now s.file.file_index t fault (operand_view e)

abbrev pub ReadsOrOperands : FileScope → ConstType → ConstValue → List OrOperand → ConstValue
    → Type 0
ReadsOrOperands s t before os k = OrOperandsAre s.file.named.now s.file.tree.now t (seen before)
    (map or_operand_view os) (seen k)

abbrev pub RefusesOrOperands : FileScope → ConstType → List OrOperand → ConstFault → Type 0
RefusesOrOperands s t os fault =
    OrOperandsFail s.file.named.now s.file.tree.now s.file.file_index t (map or_operand_view os)
    fault

abbrev pub ReadsValue : FileScope → ConstType → Value → ConstValue → Type 0
ReadsValue s t v k = ValueIs s.file.named.now s.file.tree.now t (value_view v) (seen k)

abbrev pub RefusesValue : FileScope → ConstType → Value → ConstFault → Type 0
RefusesValue s t v fault =
    ValueFails s.file.named.now s.file.tree.now s.file.file_index t fault (value_view v)

-- Constraints, by what their type resolves to and their rank.

abbrev pub ReadsItemName : FileScope → Meaning → ℕ → ConstType → Path → ConstValue → Type 0
ReadsItemName s end rank t path k =
    ItemNameGives s.file.named.now s.file.tree.now end rank t (path_view path) (seen k)

abbrev pub RefusesItemName : FileScope → Meaning → ℕ → ConstType → Path → ConstFault → Type 0
RefusesItemName s end rank t path fault = ItemNameFails s.file.named.now s.file.tree.now
    s.file.file_index end rank t (path_view path) fault

abbrev pub ReadsItem : FileScope → Meaning → ℕ → ConstType → Value → ConstValue → Type 0
ReadsItem s end rank t v k =
    ItemIs s.file.named.now s.file.tree.now end rank t (value_view v) (seen k)

abbrev pub RefusesItem : FileScope → Meaning → ℕ → ConstType → Value → ConstFault → Type 0
RefusesItem s end rank t v fault =
    ItemFails s.file.named.now s.file.tree.now s.file.file_index end rank
    t (value_view v) fault

abbrev pub ReadsHandle : FileScope → Meaning → ℕ → Value → ConstValue → Type 0
ReadsHandle s end rank v k =
    HandleValueIs s.file.named.now s.file.tree.now end rank (value_view v) (seen k)

abbrev pub RefusesHandle : FileScope → Meaning → ℕ → Value → ConstFault → Type 0
RefusesHandle s end rank v fault =
    HandleValueFails s.file.named.now s.file.tree.now s.file.file_index
    end rank (value_view v) fault
