use Rattle.std.proofs.lemmas.Result.{err_from_is_err_and}
use Rattle.fidl_command_line.proofs.arguments.read_command.Goals as goal

pub returns-in_err-read_compile-in-Compile-clause-fault_is_true : goal.returns-in_err-read_compile-in-Compile-clause-fault_is_true
returns-in_err-read_compile-in-Compile-clause-fault_is_true c =
    let p = err_from_is_err_and c.from_residual.result c.from_residual.ensures.1 in
    rw (p.1, p.2, c.in-Compile.is) c.in_err-read_compile-in-Compile.ensures.fault_is_true

pub returns-in_err-read_migrate-in-Migrate-clause-fault_is_true : goal.returns-in_err-read_migrate-in-Migrate-clause-fault_is_true
returns-in_err-read_migrate-in-Migrate-clause-fault_is_true c =
    let p = err_from_is_err_and c.from_residual-in_err-read_migrate-in-Migrate.result c.from_residual-in_err-read_migrate-in-Migrate.ensures.1 in
    rw (p.1, p.2, c.in-Migrate.is) c.in_err-read_migrate-in-Migrate.ensures.fault_is_true

pub returns-in_err-read_decode-in-Decode-clause-fault_is_true : goal.returns-in_err-read_decode-in-Decode-clause-fault_is_true
returns-in_err-read_decode-in-Decode-clause-fault_is_true c =
    let p = err_from_is_err_and c.from_residual-in_err-read_decode-in-Decode.result c.from_residual-in_err-read_decode-in-Decode.ensures.1 in
    rw (p.1, p.2, c.in-Decode.is) c.in_err-read_decode-in-Decode.ensures.fault_is_true

pub returns-in_err-read_encode-in-Encode-clause-fault_is_true : goal.returns-in_err-read_encode-in-Encode-clause-fault_is_true
returns-in_err-read_encode-in-Encode-clause-fault_is_true c =
    let p = err_from_is_err_and c.from_residual-in_err-read_encode-in-Encode.result c.from_residual-in_err-read_encode-in-Encode.ensures.1 in
    rw (p.1, p.2, c.in-Encode.is) c.in_err-read_encode-in-Encode.ensures.fault_is_true

pub returns-in_err-read_table-in-Table-clause-fault_is_true : goal.returns-in_err-read_table-in-Table-clause-fault_is_true
returns-in_err-read_table-in-Table-clause-fault_is_true c =
    let p = err_from_is_err_and c.from_residual-in_err-read_table-in-Table.result c.from_residual-in_err-read_table-in-Table.ensures.1 in
    rw (p.1, p.2, c.in-Table.is) c.in_err-read_table-in-Table.ensures.fault_is_true

pub returns-in_err-read_dump-in-Dump-clause-fault_is_true : goal.returns-in_err-read_dump-in-Dump-clause-fault_is_true
returns-in_err-read_dump-in-Dump-clause-fault_is_true c =
    let p = err_from_is_err_and c.from_residual-in_err-read_dump-in-Dump.result c.from_residual-in_err-read_dump-in-Dump.ensures.1 in
    rw (p.1, p.2, c.in-Dump.is) c.in_err-read_dump-in-Dump.ensures.fault_is_true

pub returns-in_err-read_serve-in-Serve-clause-fault_is_true : goal.returns-in_err-read_serve-in-Serve-clause-fault_is_true
returns-in_err-read_serve-in-Serve-clause-fault_is_true c =
    let p = err_from_is_err_and c.from_residual-in_err-read_serve-in-Serve.result c.from_residual-in_err-read_serve-in-Serve.ensures.1 in
    rw (p.1, p.2, c.in-Serve.is) c.in_err-read_serve-in-Serve.ensures.fault_is_true

pub returns-in_err-read_explain-in-Explain-clause-fault_is_true : goal.returns-in_err-read_explain-in-Explain-clause-fault_is_true
returns-in_err-read_explain-in-Explain-clause-fault_is_true c =
    let p = err_from_is_err_and c.from_residual-in_err-read_explain-in-Explain.result c.from_residual-in_err-read_explain-in-Explain.ensures.1 in
    rw (p.1, p.2, c.in-Explain.is) c.in_err-read_explain-in-Explain.ensures.fault_is_true

pub returns-in_ok-read_compile-in-Compile-clause-ok : goal.returns-in_ok-read_compile-in-Compile-clause-ok
returns-in_ok-read_compile-in-Compile-clause-ok c = rw c.in-Compile.is c.in_ok-read_compile-in-Compile.ensures.ok

pub returns-in_ok-read_migrate-in-Migrate-clause-ok : goal.returns-in_ok-read_migrate-in-Migrate-clause-ok
returns-in_ok-read_migrate-in-Migrate-clause-ok c = rw c.in-Migrate.is c.in_ok-read_migrate-in-Migrate.ensures.ok

pub returns-in_ok-read_decode-in-Decode-clause-ok : goal.returns-in_ok-read_decode-in-Decode-clause-ok
returns-in_ok-read_decode-in-Decode-clause-ok c = rw c.in-Decode.is c.in_ok-read_decode-in-Decode.ensures.ok

pub returns-in_ok-read_encode-in-Encode-clause-ok : goal.returns-in_ok-read_encode-in-Encode-clause-ok
returns-in_ok-read_encode-in-Encode-clause-ok c = rw c.in-Encode.is c.in_ok-read_encode-in-Encode.ensures.ok

pub returns-in_ok-read_table-in-Table-clause-ok : goal.returns-in_ok-read_table-in-Table-clause-ok
returns-in_ok-read_table-in-Table-clause-ok c = rw c.in-Table.is c.in_ok-read_table-in-Table.ensures.ok

pub returns-in_ok-read_dump-in-Dump-clause-ok : goal.returns-in_ok-read_dump-in-Dump-clause-ok
returns-in_ok-read_dump-in-Dump-clause-ok c = rw c.in-Dump.is c.in_ok-read_dump-in-Dump.ensures.ok

pub returns-in_ok-read_serve-in-Serve-clause-ok : goal.returns-in_ok-read_serve-in-Serve-clause-ok
returns-in_ok-read_serve-in-Serve-clause-ok c = rw c.in-Serve.is c.in_ok-read_serve-in-Serve.ensures.ok

pub returns-in_ok-read_explain-in-Explain-clause-ok : goal.returns-in_ok-read_explain-in-Explain-clause-ok
returns-in_ok-read_explain-in-Explain-clause-ok c = rw c.in-Explain.is c.in_ok-read_explain-in-Explain.ensures.ok
