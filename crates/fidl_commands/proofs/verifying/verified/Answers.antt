use Rattle.std.proofs.Common.{◌≡◌, ℕ, List, ap, ◌∙◌}
use Rattle.std.specs.Prelude.{codes}
use Rattle.fidl_verify.specs.Faults as table_faults
use Rattle.fidl_commands.specs.declared.outcome.Outcome.TheVariants as outcome
use Rattle.fidl_commands.specs.Decoding.{refusal_line, table_line}
use Rattle.fidl_commands.specs.Listing.{of_fault}
use Rattle.fidl_text.proofs.Written.{appends_as}
use Rattle.fidl_commands.proofs.Told.{told_written}
use Rattle.fidl_commands.proofs.verifying.verified.Goals as goal

pub returns-in-Err-clause-refused : goal.returns-in-Err-clause-refused
returns-in-Err-clause-refused g c q =
    let f = c.in-Err.fault in
    let refused : c.where_written.result ≡ outcome.Refused = cc in
    let same = ap (λ n. refusal_line (codes "table") n c.name.result.now c.at-place.result) c.number.ensures
    ∙ ap (λ (l : List ℕ). refusal_line (codes "table") (table_faults.number_of f) l c.at-place.result) c.name.ensures
    ∙ ap (λ k. refusal_line (codes "table") (table_faults.number_of f) (table_faults.name_of f) k) c.at-place.ensures in
    let written = told_written c.write_refusal-written.result outcome.Refused c.where_written.result c.where_written.ensures refused (λ e. cc) c.write_refusal-written.ensures.line in
    (table_line f, of_fault f c.in-Err.ensures.none c.in-Err.ensures.fault_is_true, appends_as (g.E.Write.contents c.args.errors.now.writer) (g.E.Write.contents c.write_refusal-written.new.errors.writer) _ (table_line f) same written)
