use Rattle.std.proofs.Common.{length}
use Rattle.std.specs.Prelude.{◌↔◌}
use Rattle.fidl_method_rules.specs.Texts.{AreDotted, dot, parts}
use Rattle.fidl_method_rules.proofs.texts.are_dotted.Given as goal

-- what is left is dotted where the whole is
abbrev pub invariant-loop-first : goal.invariant-loop-first
invariant-loop-first l = AreDotted l.left ↔ AreDotted l.fn.text

-- the parts that are left
abbrev pub decreases-loop-first : goal.decreases-loop-first
decreases-loop-first l = length (parts dot l.left)
