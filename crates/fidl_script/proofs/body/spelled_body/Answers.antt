use Rattle.fidl_wire.specs.Views.{value_view}
use Rattle.fidl_script.specs.Held.{body_view}
use Rattle.fidl_script.proofs.Spelled.{judged_none, refused_body, body_so, none_read, none_spelled, one_spelled}
use Rattle.fidl_script.proofs.body.spelled_body.Goals as goal

pub returns-in-Ok : goal.returns-in-Ok
returns-in-Ok c =
    let b = c.args.table.now in
    let w = c.entries-entries.ensures.well_formed in
    let v = value_view c.in-Ok.value in
    body_so c.encoded_body.result _ _ _ _ (none_spelled b c.args.entry c.args.text.now w v c.in-Ok.ensures.ok) (λ m. one_spelled b c.args.entry c.args.text.now w v c.in-Ok.ensures.ok (body_view m)) c.encoded_body.ensures

pub returns-in-Err : goal.returns-in-Err
returns-in-Err c = refused_body c.unread_body.result _ _ _ c.unread_body.ensures.none c.unread_body.ensures.judged (λ other. none_read c.args.table.now c.args.entry c.args.text.now (judged_none _ c.in-Err.fault other c.in-Err.ensures.fault_is_true))
