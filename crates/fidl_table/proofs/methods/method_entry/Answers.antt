use Rattle.std.proofs.Common.{refl}
use Rattle.fidl_table.proofs.Finding.{method_listed}
use Rattle.fidl_table.proofs.methods.method_entry.Goals as goal

pub returns : goal.returns
returns c = method_listed c.args.named.now c.args.method.now c.in-Some.found _ c.in-Some.ensures.found c.in_ok-name.ensures refl refl c.carried-request.ensures c.carried-response.ensures
