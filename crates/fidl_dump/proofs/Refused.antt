-- A frame of which a refusal is true has no line.
use Rattle.std.proofs.Common.{List, ℕ}
use Rattle.fidl_verify.specs.Lookups.{TableProtocol, IsProtocolOfTable}
use Rattle.fidl_verify.proofs.Declared.{sound}
use Rattle.fidl_decode_model.proofs.Bridge.{fine_of}
use Rattle.fidl_decode_model.proofs.Excluding.{told_excluded}
use Rattle.fidl_dump.specs.declared.direction.Direction.{Direction}
use Rattle.fidl_dump.specs.declared.fault.FrameFault.{FrameFault}
use Rattle.fidl_dump.specs.Lines.{IsLine}
use Rattle.fidl_dump.specs.Faults.{IsFrameFault}
use Rattle.fidl_dump.proofs.One.{no_line}

pub refused_has_none : (p : TableProtocol) → IsProtocolOfTable p → (direction : Direction) (frame line : List ℕ) (fault : FrameFault) → IsFrameFault p direction frame fault → IsLine p direction frame line → ⊥
refused_has_none p is direction frame line fault f l =
    no_line p is direction frame
    (λ entry lt bytes handles told t y. told_excluded p.table (fine_of p.table is.well_formed) (sound p.table is.well_formed) entry lt bytes handles y told t)
    line fault f l
