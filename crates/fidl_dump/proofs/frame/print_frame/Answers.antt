use Rattle.std.proofs.Common.{refl}
use Rattle.fidl_dump.proofs.Printing.{prints_as}
use Rattle.fidl_dump.proofs.Named.{without_header, of_none, of_missing, of_bare, of_not_bare, of_value, of_no_value}
use Rattle.fidl_dump.proofs.frame.print_frame.Goals as goal

pub returns-in-Err-clause-prints : goal.returns-in-Err-clause-prints
returns-in-Err-clause-prints g c = (without_header _ _ _ c.message.result.now c.message.ensures.value c.in-Err.fault c.in-Err.ensures.fault_is_true, refl)

pub returns-in_default-clause-prints : goal.returns-in_default-clause-prints
returns-in_default-clause-prints g c =
    prints_as _ _ _ _ _ _ c.print_unknown.result
    (of_none _ _ _ c.message.result.now c.message.ensures.value c.in-Ok.header c.in-Ok.ensures.ok c.in-Ok.ensures.value c.in_default.ensures.none)
    (λ fault never. absurd never)
    c.print_unknown.ensures.prints

pub returns-in-Missing-clause-prints : goal.returns-in-Missing-clause-prints
returns-in-Missing-clause-prints g c =
    prints_as _ _ _ _ _ _ c.print_unknown-in-Missing.result
    (of_missing _ _ _ c.message.result.now c.message.ensures.value c.in-Ok.header c.in-Ok.ensures.ok c.in-Ok.ensures.value
    c.in-Some.method c.in-Some.ensures.table c.in-Some.ensures.found c.carried-payload.result c.carried-payload.ensures.value c.in-Missing.is)
    (λ fault never. absurd never)
    c.print_unknown-in-Missing.ensures.prints

pub returns-in-Empty-clause-prints : goal.returns-in-Empty-clause-prints
returns-in-Empty-clause-prints g c =
    prints_as _ _ _ _ _ _ c.print_bare.result
    (of_bare _ _ _ c.message.result.now c.message.ensures.value c.in-Ok.header c.in-Ok.ensures.ok c.in-Ok.ensures.value
    c.in-Some.method c.in-Some.ensures.table c.in-Some.ensures.found c.carried-payload.result c.carried-payload.ensures.value c.in-Empty.is
    c.name-name.result.now c.name-name.ensures)
    (of_not_bare _ _ _ c.message.result.now c.message.ensures.value c.in-Ok.header c.in-Ok.ensures.ok c.in-Ok.ensures.value
    c.in-Some.method c.in-Some.ensures.table c.in-Some.ensures.found c.carried-payload.result c.carried-payload.ensures.value c.in-Empty.is)
    c.print_bare.ensures.prints

pub returns-in-Entry-clause-prints : goal.returns-in-Entry-clause-prints
returns-in-Entry-clause-prints g c =
    prints_as _ _ _ _ _ _ c.print_value.result
    (of_value _ _ _ c.message.result.now c.message.ensures.value c.in-Ok.header c.in-Ok.ensures.ok c.in-Ok.ensures.value
    c.in-Some.method c.in-Some.ensures.table c.in-Some.ensures.found c.carried-payload.result c.carried-payload.ensures.value
    c.in-Entry.entry c.in-Entry.is c.args.stream.now.table.now c.args.stream.now.same_table c.name-name.result.now c.name-name.ensures)
    (of_no_value _ _ _ c.message.result.now c.message.ensures.value c.in-Ok.header c.in-Ok.ensures.ok c.in-Ok.ensures.value
    c.in-Some.method c.in-Some.ensures.table c.in-Some.ensures.found c.carried-payload.result c.carried-payload.ensures.value
    c.in-Entry.entry c.in-Entry.is c.args.stream.now.table.now c.args.stream.now.same_table)
    c.print_value.ensures.prints
