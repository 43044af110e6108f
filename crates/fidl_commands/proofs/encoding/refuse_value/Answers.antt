use Rattle.std.proofs.Common.{ℕ, List, ap, ◌∙◌}
use Rattle.std.specs.Prelude.{codes}
use Rattle.fidl_encode.specs.Faults as value_faults
use Rattle.fidl_commands.specs.declared.outcome.Outcome.TheVariants as outcome
use Rattle.fidl_commands.specs.Decoding.{placeless_line}
use Rattle.fidl_commands.specs.Encoding.{value_line, of_fault}
use Rattle.fidl_text.proofs.Written.{appends_as}
use Rattle.fidl_commands.proofs.Told.{told_written}
use Rattle.fidl_commands.proofs.encoding.refuse_value.Goals as goal

pub returns-in_default-clause-refused : goal.returns-in_default-clause-refused
returns-in_default-clause-refused g c q =
    let f = c.args.fault in
    let same = ap (λ n. placeless_line (codes "encode") n c.name.result.now) c.number.ensures
    ∙ ap (λ (l : List ℕ). placeless_line (codes "encode") (value_faults.number_of f) l) c.name.ensures in
    let written = told_written c.write_placeless_refusal-written.result outcome.Refused c.where_written-in_default.result c.where_written-in_default.ensures q (λ e. cc) c.write_placeless_refusal-written.ensures.line in
    (value_line f, of_fault c.in_default.not-Memory, appends_as (g.E.Write.contents c.args.errors.now.writer) (g.E.Write.contents c.write_placeless_refusal-written.new.errors.writer) _ (value_line f) same written)
