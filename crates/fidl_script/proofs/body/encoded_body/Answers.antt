use Rattle.fidl_wire.specs.Views.{value_view}
use Rattle.fidl_script.proofs.Spelled.{refused_body, none_encoded, has_fitting}
use Rattle.fidl_script.proofs.body.encoded_body.Goals as goal

pub returns-in-Ok : goal.returns-in-Ok
returns-in-Ok c = has_fitting c.args.table.now c.args.entry (value_view c.args.value.now) c.in-Ok.message c.in-Ok.ensures.ok c.fitting.result c.fitting.ensures.fits c.fitting.ensures.none

pub returns-in-Err : goal.returns-in-Err
returns-in-Err c = refused_body c.unencoded_body.result _ _ _ c.unencoded_body.ensures.none c.unencoded_body.ensures.judged (λ other. none_encoded c.args.table.now c.args.entry (value_view c.args.value.now) c.in-Err.fault c.in-Err.ensures.fault_is_true other)
