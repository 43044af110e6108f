use Rattle.std.proofs.Common.{take}
use Rattle.fidl_lower_layouts.specs.Values.{IsMaskOf}
use Rattle.fidl_lower_layouts.proofs.values.mask_of.Given as goal

-- the mask so far is that of the numbers so far
abbrev pub invariant-loop-number : goal.invariant-loop-number
invariant-loop-number l = IsMaskOf (take l.number-index l.numbers) l.mask
