use Rattle.std.proofs.Common.{◌+◌, take, false, sym, subst}
use Rattle.std.specs.List.{AllZip}
use Rattle.fidl_protocol.specs.Gathered.{IsMade}
use Rattle.fidl_protocol.proofs.Lists.{zip_further}
use Rattle.fidl_protocol.proofs.declaring.all_with_payloads.Goals as goal

pub loop-own-preserved : goal.loop-own-preserved
loop-own-preserved c =
    let owns = c.args.owns.now in
    let i = c.loop-own.own-index in
    let R = IsMade c.args.types.now c.args.found.now in
    subst (λ l. AllZip R (take (i + 1) owns) l) (sym c.in_ok-push.ensures.items) (zip_further R owns i (record { member = 0; name = record { from = 0; to = 0 }; is_strict = false; ordinal = 0 }) c.loop-own.methods.items c.in_ok-with_payloads.field-0 c.loop-own-test.true c.loop-own.invariant c.in_ok-with_payloads.ensures.ok)
