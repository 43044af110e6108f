use Rattle.std.proofs.Common.{subst, sym, inl}
use Rattle.fidl_commands.specs.declared.outcome.Outcome.TheVariants as outcome
use Rattle.fidl_commands.specs.Summary.{CanEndPrinting}
use Rattle.fidl_commands.proofs.Told.{told_never, only_unwritten}
use Rattle.fidl_commands.proofs.summary.summarize.Goals as goal

pub returns-in-Err-clause-ends : goal.returns-in-Err-clause-ends
returns-in-Err-clause-ends g c = subst CanEndPrinting (sym (only_unwritten c.write_no_output.result c.where_written.result c.where_written.ensures)) tt

pub returns-in-Err-clause-done : goal.returns-in-Err-clause-done
returns-in-Err-clause-done g c q = told_never c.write_no_output.result outcome.Unwritten outcome.Done c.where_written.result c.where_written.ensures q (λ e. cc) (λ e. cc)

pub returns-in-Err-clause-unwritten : goal.returns-in-Err-clause-unwritten
returns-in-Err-clause-unwritten g c o e = (λ q. inl c.in-Err.ensures.failed, λ f. only_unwritten c.write_no_output.result c.where_written.result c.where_written.ensures)

pub returns-in-Err-clause-errors : goal.returns-in-Err-clause-errors
returns-in-Err-clause-errors g c q = told_never c.write_no_output.result outcome.Unwritten outcome.Done c.where_written.result c.where_written.ensures q (λ e. cc) (λ e. cc)
