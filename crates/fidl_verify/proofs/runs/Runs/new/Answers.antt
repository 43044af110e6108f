use Rattle.std.proofs.Common.{refl, arith}
use Rattle.fidl_verify.proofs.Classes.{nothing_known}
use Rattle.fidl_verify.proofs.runs.Runs.new.Goals as goal

pub returns : goal.returns
returns c = nothing_known c.args.class c.args.names.now _ 1024 refl refl (omega arith) refl
