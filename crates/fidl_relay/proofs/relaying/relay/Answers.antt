use Rattle.std.proofs.Common.{sym}
use Rattle.fidl_encode.proofs.Whole.{no_message}
use Rattle.fidl_relay.proofs.Again.{encoded_as, same_bytes, same_handles}
use Rattle.fidl_relay.proofs.relaying.relay.Goals as goal

pub returns-in-Ok-clause-bytes : goal.returns-in-Ok-clause-bytes
returns-in-Ok-clause-bytes c =
    let d = c.args.decoded.now in
    let x = c.entry.ensures.encoding in
    let tree = c.in_ok-value.ensures x.0 (c.view.ensures.shows x.0 x.1) in
    same_bytes d.table d.entry x.0 _ _ _ _ x.1 (encoded_as _ _ _ _ _ _ _ _ c.table.ensures c.entry.ensures.value tree c.in-Ok.ensures.ok)

pub returns-in-Ok-clause-handles : goal.returns-in-Ok-clause-handles
returns-in-Ok-clause-handles c =
    let d = c.args.decoded.now in
    let x = c.entry.ensures.encoding in
    let tree = c.in_ok-value.ensures x.0 (c.view.ensures.shows x.0 x.1) in
    same_handles d.table d.entry x.0 _ _ _ _ x.1 (encoded_as _ _ _ _ _ _ _ _ c.table.ensures c.entry.ensures.value tree c.in-Ok.ensures.ok)

pub unreachable-requires : goal.unreachable-requires
unreachable-requires c =
    let d = c.args.decoded.now in
    let x = c.entry.ensures.encoding in
    let tree = c.in_ok-value.ensures x.0 (c.view.ensures.shows x.0 x.1) in
    no_message _ _ _ c.in-Err.fault c.in-Err.ensures.fault_is_true c.in_default.not-Memory _ _ (encoded_as _ _ _ _ _ _ _ _ (sym c.table.ensures) (sym c.entry.ensures.value) (sym tree) x.1)
