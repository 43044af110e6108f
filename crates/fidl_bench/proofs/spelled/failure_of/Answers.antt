use Rattle.std.proofs.Common.{subst}
use Rattle.fidl_wire.specs.Value.{Value}
use Rattle.fidl_reading.specs.Reads.{IfJudged}
use Rattle.fidl_reading.specs.declared.fault.NotationFault.{NotationFault}
use Rattle.fidl_spelling.specs.Spells.{SpellsWithin}
use Rattle.fidl_bench.proofs.spelled.failure_of.Goals as goal

pub returns-in-Syntax : goal.returns-in-Syntax
returns-in-Syntax c ds t text h some =
    subst (λ (f : NotationFault). IfJudged ((v : Value) → ¬ (SpellsWithin ds t text v)) f) c.in-Syntax.is h some.0 some.1

pub returns-in-UnknownName : goal.returns-in-UnknownName
returns-in-UnknownName c ds t text h some =
    subst (λ (f : NotationFault). IfJudged ((v : Value) → ¬ (SpellsWithin ds t text v)) f) c.in-UnknownName.is h some.0 some.1

pub returns-in-OutOfRange : goal.returns-in-OutOfRange
returns-in-OutOfRange c ds t text h some =
    subst (λ (f : NotationFault). IfJudged ((v : Value) → ¬ (SpellsWithin ds t text v)) f) c.in-OutOfRange.is h some.0 some.1

pub returns-in-Repeated : goal.returns-in-Repeated
returns-in-Repeated c ds t text h some =
    subst (λ (f : NotationFault). IfJudged ((v : Value) → ¬ (SpellsWithin ds t text v)) f) c.in-Repeated.is h some.0 some.1
