use Rattle.std.proofs.Common.{◌-◌, subst}
use Rattle.std.specs.Prelude.{Some, None}
use Rattle.fidl_wire.specs.Term as ty
use Rattle.fidl_decode_model.specs.Machine.{Opens, at_of}
use Rattle.fidl_decode_values.specs.Reading.{message}
use Rattle.fidl_decode_values.proofs.decoder.Decoder.pass_struct.Goals as goal

pub returns-clause-passed : goal.returns-clause-passed
returns-clause-passed c =
    λ so.
    let t = c.args.self.now.table.now in
    let m = message c.args.self.now in
    let old = c.args.state.now in
    let new = c.pass_object.new.state in
    subst (λ e. Opens t m c.args.depth (Some (ty.named e)) c.args.envelope (at_of old) (at_of new) (new.steps - old.steps) None)
    c.in-Some.ensures.entry (c.pass_object.ensures.passed so)
