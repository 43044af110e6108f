-- What printing came to, under other words for the line and the refusal.
use Rattle.std.proofs.Common.{ℕ, List}
use Rattle.std.specs.Prelude.{Option, Result, Ok, Err}
use Rattle.fidl_dump.specs.declared.fault.FrameFault.{FrameFault}
use Rattle.fidl_dump.specs.declared.frame.Unprinted.{Unprinted}
use Rattle.fidl_dump.specs.declared.frame.Unprinted.TheVariants.{Refused, Write}
use Rattle.fidl_dump.specs.Printed.{Prints}

pub prints_as : {T : Type 0} (Line Other : List ℕ → Type 0) (Fault Refusal : FrameFault → Type 0) (old new : Option (List ℕ)) (r : Result T Unprinted) → ((line : List ℕ) → Line line → Other line) → ((fault : FrameFault) → Fault fault → Refusal fault)
    → Prints Line Fault old new r → Prints Other Refusal old new r
prints_as Line Other Fault Refusal old new (Ok x) f g p = (p.0, f p.0 p.1, p.2)
prints_as Line Other Fault Refusal old new (Err (Refused fault)) f g p = (g fault p.0, p.1)
prints_as Line Other Fault Refusal old new (Err Write) f g p = (p.0, f p.0 p.1, p.2)
