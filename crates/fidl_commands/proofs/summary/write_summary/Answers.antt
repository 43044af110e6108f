use Rattle.std.proofs.Common.{ap, length}
use Rattle.fidl_table_format.specs.declared.record.Header.{Header}
use Rattle.fidl_commands.specs.Summary.{summary_text, summary_line}
use Rattle.fidl_text.proofs.Written.{appends_kept, appends_as, writes_kept, front_as, failed_as}
use Rattle.fidl_commands.proofs.summary.write_summary.Goals as goal

pub returns-in_err-write_words-clause-text : goal.returns-in_err-write_words-clause-text
returns-in_err-write_words-clause-text g c =
    let size = length c.args.table.now in
    let same = ap (λ (h : Header). summary_text h size) c.read_header-header.ensures in
    failed_as _ _ (summary_line c.args.table.now) c.from_residual.result c.from_residual.ensures.0
    (front_as _ _ (summary_text c.read_header-header.result size) (summary_line c.args.table.now) same c.in_err-write_words.ensures.text)

pub returns-clause-text : goal.returns-clause-text
returns-clause-text g c =
    let size = length c.args.table.now in
    let same = ap (λ (h : Header). summary_text h size) c.read_header-header.ensures in
    writes_kept _ _ (summary_line c.args.table.now) c.flush.result
    (appends_kept _ _ _ (summary_line c.args.table.now) (appends_as _ _ (summary_text c.read_header-header.result size) (summary_line c.args.table.now) same c.in_ok-write_words.ensures.text) c.flush.ensures.bytes)
