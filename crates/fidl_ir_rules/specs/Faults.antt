-- The rules, and what each refusal says (docs/language.md, "Rules of definitions").
use Rattle.std.specs.Prelude.{ℕ, List}
use Rattle.fidl_wire.specs.Term.{Term}
use Rattle.fidl_ir_rules.specs.declared.mark.Mark.{Mark}
use Rattle.fidl_ir_rules.specs.declared.fault.DefinitionFault.{DefinitionFault}
use Rattle.fidl_ir_rules.specs.declared.fault.DefinitionFault.TheVariants.{NotResource}
use Rattle.fidl_ir_rules.specs.declared.fault.DefinitionFault.TheVariants.{InlineCycle, Memory}
use Rattle.fidl_ir_rules.specs.Resources.{is_resource, HoldsResource, AllResourcesMarked}
use Rattle.fidl_ir_rules.specs.Inline.{StandsInItself, IsFirstInItself}

-- both rules hold: what isn't marked holds no resource, and no definition stands in itself
pub record RulesHold (terms : List Term) (marks : List Mark) : Type 0 where
  pub marked : AllResourcesMarked terms marks
  pub apart : (i : ℕ) → StandsInItself terms i → ⊥

-- a refusal is true of definitions with these marks; that memory ran out says nothing of them
abbrev pub IsTrueOf : (terms : List Term) → (marks : List Mark) → DefinitionFault → Type 0
IsTrueOf terms marks (NotResource i m) =
    HoldsResource terms marks (is_resource terms marks) i m
IsTrueOf terms marks (InlineCycle i) = IsFirstInItself terms i
IsTrueOf terms marks Memory = Unit {0}
