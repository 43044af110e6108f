use Rattle.std.proofs.Common.{◌+◌, ◌≤◌, arith}
use Rattle.fidl_verify.specs.declared.runs.Class.TheVariants.{Name}
use Rattle.fidl_verify.proofs.Classes.{name_of_class}
use Rattle.fidl_verify.proofs.name.is_name.Goals as goal

pub returns-then-from-clause-value : goal.returns-then-from-clause-value
returns-then-from-clause-value c =
    let fits : c.args.place + c.args.name_length ≤ c.args.table.now.header.names = omega arith in
    let is = name_of_class Name c.args.table.now.bytes.now c.args.table.now.header c.args.place c.args.name_length c.covers.result c.args.seen.now.names fits c.args.table.now.whole c.requires.names c.covers.ensures.value in
    (λ t. record { within = fits; only = is.0 t }, λ n. is.1 n.only)
