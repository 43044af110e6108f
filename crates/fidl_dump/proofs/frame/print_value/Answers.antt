use Rattle.std.proofs.Common.{List, ℕ, refl}
use Rattle.std.specs.Io.KnownBytes.{Appends}
use Rattle.fidl_text.specs.Outputs.{AppendsFront}
use Rattle.fidl_dump.proofs.Values.{told_of, line_of}
use Rattle.fidl_dump.proofs.frame.print_value.Goals as goal

pub returns-in-Err-clause-prints : goal.returns-in-Err-clause-prints
returns-in-Err-clause-prints g c = (
  (c.in-Err.fault, refl, told_of c.args.table.now c.args.entry c.args.named.frame _ _ c.body_of-body.ensures c.handles-handles.ensures c.in-Err.fault c.in-Err.ensures.fault_is_true),
  refl,
)

pub returns-in-Ok-write_value-clause-prints : goal.returns-in-Ok-write_value-clause-prints
returns-in-Ok-write_value-clause-prints g c =
    line_of c.args.table.now c.args.entry c.args.named.frame _ _ c.body_of-body.ensures c.handles-handles.ensures
    c.in-Ok.decoded c.in-Ok.ensures.table c.in-Ok.ensures.entry c.in-Ok.ensures.bytes c.in-Ok.ensures.handles
    (λ (line : List ℕ). Appends (g.W.Write.contents c.args.out.now.writer) (g.W.Write.contents c.write_value.new.out.writer) line)
    c.args.named.header c.args.named.name.now c.in-Ok.ensures.ok c.in-Ok-write_value.ensures.text

pub returns-in-Err-write_value-clause-prints : goal.returns-in-Err-write_value-clause-prints
returns-in-Err-write_value-clause-prints g c =
    line_of c.args.table.now c.args.entry c.args.named.frame _ _ c.body_of-body.ensures c.handles-handles.ensures
    c.in-Ok.decoded c.in-Ok.ensures.table c.in-Ok.ensures.entry c.in-Ok.ensures.bytes c.in-Ok.ensures.handles
    (λ (line : List ℕ). AppendsFront (g.W.Write.contents c.args.out.now.writer) (g.W.Write.contents c.write_value.new.out.writer) line)
    c.args.named.header c.args.named.name.now c.in-Ok.ensures.ok c.in-Err-write_value.ensures.text
