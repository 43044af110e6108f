-- When the types of files keep all rules (docs/language.md, "Checking types").
use Rattle.std.specs.Prelude.{◌≡◌, List, map}
use Rattle.fidl_tree.specs.Views.{file_view}
use Rattle.fidl_tree.specs.declared.file.File.{File}
use Rattle.fidl_consts.specs.declared.consts.Consts.{Consts}
use Rattle.fidl_consts.specs.Tables.{AreConsts}
use Rattle.fidl_declarations.specs.Forms.{Form}
use Rattle.fidl_member_rules.specs.Rules.{RulesHold as LayoutsHold}
use Rattle.fidl_member_rules.specs.ValueRules.{ValuesHold}
use Rattle.fidl_resource_rules.specs.Resources.{ResourcesHold}
use Rattle.fidl_type_rules.specs.Uses.{UsesHold}
use Rattle.fidl_wire.specs.Term.{Term}
use Rattle.fidl_lower_types.specs.declared.numbers.LayoutNumbers.{LayoutNumbers}
use Rattle.fidl_lower_types.specs.Numbers.{all_forms}
use Rattle.fidl_lower_types.specs.NumberViews.{AreNumbers}
use Rattle.fidl_lower_layouts.specs.Definitions.{DefinitionsAre}
use Rattle.fidl_ir_rules.specs.Faults.{RulesHold as DefinitionsHold}
use Rattle.fidl_types.specs.Marks.{marks_of}

-- files keep all rules of types, and these are the definitions of their forms
pub record TypesAre (files : List File) (ts : List Term) : Type 0 where
  -- ordinals, members and attributes
  pub layouts : LayoutsHold (map file_view files)
  -- the numbers of bits and enums
  pub numbers : ValuesHold files
  -- resource definitions
  pub resources : ResourcesHold files
  -- each written type, where it stands
  pub uses : UsesHold files
  pub definitions : DefinitionsAre files ts
  -- only resources hold resources, and no struct stands in itself
  pub kept : DefinitionsHold ts (marks_of (all_forms files))

-- what is held of checked files: the values of their constants, their forms, the numbers of their
-- layouts and their definitions
pub record AreHeld (files : List File) (consts : Consts) (forms : List Form)
    (numbers : LayoutNumbers) (ts : List Term) : Type 0 where
  pub evaluated : AreConsts files consts
  pub numbered : forms ≡ all_forms files
  pub known : AreNumbers forms numbers
  pub checked : TypesAre files ts
