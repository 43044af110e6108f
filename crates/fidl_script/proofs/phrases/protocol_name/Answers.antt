use Rattle.std.proofs.Common.{sym, ◌∙◌}
use Rattle.fidl_script.proofs.Splitting.{no_protocol_front, no_name, blank_in_name, protocol_line}
use Rattle.fidl_script.proofs.Passing.{if_none}
use Rattle.fidl_script.proofs.phrases.protocol_name.Goals as goal

pub returns-in_err-name-clause-none : goal.returns-in_err-name-clause-none
returns-in_err-name-clause-none c = if_none _ _ c.from_residual.ensures (no_protocol_front c.args.line.now c.in_err-name.ensures.cases)

pub returns-then-is_empty-clause-none : goal.returns-then-is_empty-clause-none
returns-then-is_empty-clause-none c = no_name c.args.line.now c.in_ok-name.name.now c.in_ok-name.ensures.cases.1 (sym c.is_empty.ensures ∙ c.if-is_empty.true)

pub returns-then-end-name-clause-none : goal.returns-then-end-name-clause-none
returns-then-end-name-clause-none c =
    blank_in_name c.args.line.now c.in_ok-name.name.now c.in_ok-name.ensures.cases.1 c.place_of-end.result c.if-end-name.true (c.place_of-end.ensures.found c.if-end-name.true)

pub returns-clause-found : goal.returns-clause-found
returns-clause-found c =
    let cases = c.in_ok-name.ensures.cases in
    protocol_line c.args.line.now c.in_ok-name.name.now cases.1 c.place_of-end.result cases.0 (sym c.is_empty.ensures ∙ c.if-is_empty.false) c.if-end-name.false c.place_of-end.ensures.before
