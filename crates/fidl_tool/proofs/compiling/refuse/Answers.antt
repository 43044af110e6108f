use Rattle.std.proofs.Common.{sym, ap, subst, ◌++◌, List, ℕ}
use Rattle.fidl_compile.specs.Reports.{reported}
use Rattle.fidl_commands.specs.declared.outcome.Outcome.TheVariants as outcome
use Rattle.fidl_tool.specs.Compiling.{Located, named_of, located_at, report_line, IsShown, of_fault}
use Rattle.fidl_commands.proofs.Told.{told_written}
use Rattle.fidl_text.proofs.Written.{appends_as}
use Rattle.fidl_tool.proofs.compiling.refuse.Goals as goal

pub returns-in-Ok-clause-refused : goal.returns-in-Ok-clause-refused
returns-in-Ok-clause-refused g c q =
    let files = named_of c.args.files.now in
    let report = reported c.in-Some.refusal in
    let appended = told_written c.write_report.result outcome.Refused c.where_written-in-Some.result c.where_written-in-Some.ensures q (λ e. cc) c.write_report.ensures.line in
    let shown = subst (λ (l : List ℕ). IsShown c.args.snippet files report l) (sym c.deref.ensures.value) c.in-Ok.ensures in
    let same = ap (λ (at : Located). report_line at report ++ c.deref.result.now) c.line_place-place.ensures in (
      report_line (located_at files report.place) report ++ c.deref.result.now,
      of_fault c.args.fault.now report c.deref.result.now c.requires (sym c.in-Some.ensures) shown,
      appends_as _ _ _ _ same appended,
    )
