use Rattle.std.proofs.Common.{sym, subst}
use Rattle.fidl_compile.specs.Stages.{SourceRefused}
use Rattle.fidl_compile.proofs.Refused.{parse_refused}
use Rattle.fidl_compile.proofs.sources.read_source.Goals as goal

pub returns-clause-fault_is_true : goal.returns-clause-fault_is_true
returns-clause-fault_is_true c =
    let found = c.in-Err-parse.ensures in
    subst (SourceRefused c.args.src.now c.args.file) (sym c.parse_fault.ensures)
    (parse_refused c.args.src.now c.args.file _ _ c.in-Ok.ensures.ok found.refusal found.no_tree)
