use Rattle.std.proofs.Common.{ℕ, List, sym, ap, ◌∙◌}
use Rattle.std.specs.Prelude.{codes}
use Rattle.fidl_reading.specs.Faults as text_faults
use Rattle.fidl_commands.specs.declared.outcome.Outcome.TheVariants as outcome
use Rattle.fidl_commands.specs.Decoding.{refusal_line}
use Rattle.fidl_commands.specs.Encoding.{text_line, at_place}
use Rattle.fidl_text.proofs.Written.{appends_as}
use Rattle.fidl_commands.proofs.Told.{told_written}
use Rattle.fidl_commands.proofs.encoding.refuse_text.Goals as goal

pub returns-in-Some-clause-refused : goal.returns-in-Some-clause-refused
returns-in-Some-clause-refused g c q =
    let f = c.args.fault.now in
    let at = c.in-Some.at in
    let same = ap (λ n. refusal_line (codes "notation") n c.name.result.now at) c.number.ensures
    ∙ ap (λ (l : List ℕ). refusal_line (codes "notation") (text_faults.number_of f) l at) c.name.ensures in
    let written = told_written c.write_refusal-written.result outcome.Refused c.where_written.result c.where_written.ensures q (λ e. cc) c.write_refusal-written.ensures.line in
    (text_line f at, at_place at (sym c.in-Some.ensures), appends_as (g.E.Write.contents c.args.errors.now.writer) (g.E.Write.contents c.write_refusal-written.new.errors.writer) _ (text_line f at) same written)
