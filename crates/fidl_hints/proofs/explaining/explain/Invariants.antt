use Rattle.std.proofs.Common.{◌≡◌, take}
use Rattle.std.specs.Prelude.{string_bytes}
use Rattle.fidl_hints.specs.Explanations.{answer}
use Rattle.fidl_hints.proofs.explaining.explain.Given as goal

-- the explanations so far
abbrev pub invariant-loop-explanation : goal.invariant-loop-explanation
invariant-loop-explanation l = string_bytes l.text ≡ answer (take l.explanation-index l.guide) l.asked
