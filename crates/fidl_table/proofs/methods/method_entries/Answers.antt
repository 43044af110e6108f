use Rattle.std.proofs.Common.{◌+◌, List, take, sym, subst}
use Rattle.std.specs.List.{AllZip}
use Rattle.fidl_table_build.specs.declared.listing.MethodEntry.{MethodEntry}
use Rattle.fidl_protocol.proofs.Lists.{zip_further}
use Rattle.fidl_table.specs.Listed.{IsMethodEntry}
use Rattle.fidl_table.proofs.methods.method_entries.Goals as goal

pub loop-method-preserved : goal.loop-method-preserved
loop-method-preserved c =
    let methods = c.args.methods.now in
    let i = c.loop-method.method-index in
    let R = IsMethodEntry c.args.named.now in
    subst (λ l. AllZip R (take (i + 1) methods) l) (sym {A = List MethodEntry} c.in_ok-push.ensures.items) (zip_further R methods i _ c.loop-method.entries.items c.in_ok-method_entry.field-0 c.loop-method-test.true c.loop-method.invariant c.in_ok-method_entry.ensures)
