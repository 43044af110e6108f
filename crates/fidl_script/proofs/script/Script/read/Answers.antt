use Rattle.std.proofs.Common.{List, ℕ, inl, inr, refl, sym, subst}
use Rattle.fidl_script.specs.declared.fault.ScriptFault.TheVariants.{Memory}
use Rattle.fidl_script.specs.Lines.{said_lines}
use Rattle.fidl_script.specs.Text.{Begins, IsScript}
use Rattle.fidl_script.specs.Held.{line_view, lines_view}
use Rattle.fidl_script.proofs.Passing.{handed_on}
use Rattle.fidl_script.proofs.Told.{says_nothing, says, of_table, told, script_made}
use Rattle.fidl_script.proofs.script.Script.read.Goals as goal

pub returns-then-not-is_utf8-clause-fault_is_true : goal.returns-then-not-is_utf8-clause-fault_is_true
returns-then-not-is_utf8-clause-fault_is_true c = inl (inl (refl, c.is_utf8.ensures.no c.if-not-is_utf8.true))

pub returns-in_err-lines-clause-fault_is_true : goal.returns-in_err-lines-clause-fault_is_true
returns-in_err-lines-clause-fault_is_true c = handed_on c.from_residual.result Memory _ c.from_residual.ensures.1 tt

pub returns-in_default-clause-fault_is_true : goal.returns-in_default-clause-fault_is_true
returns-in_default-clause-fault_is_true c =
    inl (inr (inl (refl, says_nothing (said_lines c.args.text.now) c.in_ok-lines.lines.items c.deref.result.now c.in_ok-lines.ensures c.deref.ensures.value c.in_default.ensures.cases)))

pub returns-in_default-protocol_name-clause-fault_is_true : goal.returns-in_default-protocol_name-clause-fault_is_true
returns-in_default-protocol_name-clause-fault_is_true c =
    let first = c.in-Some.first.now in
    let rest = c.in-Some.rest.now in
    inl (inr (inr (record {
      first = line_view first;
      rest = lines_view rest;
      lines = says (said_lines c.args.text.now) c.in_ok-lines.lines.items c.deref.result.now c.in_ok-lines.ensures c.deref.ensures.value first rest c.in-Some.ensures.cases.0;
      number_is = refl;
      none = c.in_default-protocol_name.ensures.none;
    })))

pub returns-in_default-protocol-clause-fault_is_true : goal.returns-in_default-protocol-clause-fault_is_true
returns-in_default-protocol-clause-fault_is_true c =
    let first = c.in-Some.first.now in
    let rest = c.in-Some.rest.now in
    let name = c.in-Some-protocol_name.name.now in
    let begins : Begins c.args.text.now name (lines_view rest) = record {
      utf8 = c.is_utf8.ensures.yes c.if-not-is_utf8.false;
      first = line_view first;
      lines = says (said_lines c.args.text.now) c.in_ok-lines.lines.items c.deref.result.now c.in_ok-lines.ensures c.deref.ensures.value first rest c.in-Some.ensures.cases.0;
      protocol_line = c.in-Some-protocol_name.ensures.found;
    } in
    record { name = name; rest = lines_view rest; begins = begins; none = c.in_default-protocol.ensures.none }

pub returns-in_err-methods-clause-fault_is_true : goal.returns-in_err-methods-clause-fault_is_true
returns-in_err-methods-clause-fault_is_true c =
    let first = c.in-Some.first.now in
    let rest = c.in-Some.rest.now in
    let name = c.in-Some-protocol_name.name.now in
    let begins : Begins c.args.text.now name (lines_view rest) = record {
      utf8 = c.is_utf8.ensures.yes c.if-not-is_utf8.false;
      first = line_view first;
      lines = says (said_lines c.args.text.now) c.in_ok-lines.lines.items c.deref.result.now c.in_ok-lines.ensures c.deref.ensures.value first rest c.in-Some.ensures.cases.0;
      protocol_line = c.in-Some-protocol_name.ensures.found;
    } in
    handed_on c.from_residual-in_err-methods.result c.in_err-methods.field-0.0 _ c.from_residual-in_err-methods.ensures.1
    (told c.args.table.now c.args.text.now c.in-Some-protocol.protocol c.in-Some-protocol.ensures.table name (lines_view rest) begins c.in-Some-protocol.ensures.found c.in_err-methods.field-0.0 c.in_err-methods.ensures.fault_is_true)

pub returns-in_err-protocol-clause-fault_is_true : goal.returns-in_err-protocol-clause-fault_is_true
returns-in_err-protocol-clause-fault_is_true c = handed_on c.from_residual-in_err-protocol.result Memory _ c.from_residual-in_err-protocol.ensures.1 tt

pub replies_of-requires : goal.replies_of-requires
replies_of-requires c = record {
  table = c.in-Some-protocol.ensures.table;
  protocol = of_table c.in-Some-protocol.protocol c.args.table.now c.in-Some-protocol.ensures.table c.entries-entries.ensures.well_formed c.in-Some-protocol.ensures.found.within;
}

pub returns-clause-ok : goal.returns-clause-ok
returns-clause-ok c =
    let first = c.in-Some.first.now in
    let rest = c.in-Some.rest.now in
    let name = c.in-Some-protocol_name.name.now in
    let p = c.in-Some-protocol.protocol in
    let begins : Begins c.args.text.now name (lines_view rest) = record {
      utf8 = c.is_utf8.ensures.yes c.if-not-is_utf8.false;
      first = line_view first;
      lines = says (said_lines c.args.text.now) c.in_ok-lines.lines.items c.deref.result.now c.in_ok-lines.ensures c.deref.ensures.value first rest c.in-Some.ensures.cases.0;
      protocol_line = c.in-Some-protocol_name.ensures.found;
    } in
    let methods = c.in_ok-methods.methods.items in
    let made = script_made c.args.table.now c.args.text.now p c.in-Some-protocol.ensures.table name (lines_view rest) begins c.in-Some-protocol.ensures.found methods c.in_ok-methods.ensures.ok in (
      p,
      c.in-Some-protocol.ensures.table,
      subst (λ (n : List ℕ). IsScript p c.args.text.now (record { protocol = n; methods = methods })) (sym c.in_ok-protocol.ensures.items) made,
    )
