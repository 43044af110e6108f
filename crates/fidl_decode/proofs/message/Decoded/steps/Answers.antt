use Rattle.std.proofs.Common.{◌≤◌, ap, subst, arith}
use Rattle.fidl_wire.specs.Value.{Value}
use Rattle.fidl_wire.specs.Message.{Encodes}
use Rattle.fidl_wire.specs.Term as ty
use Rattle.fidl_table_format.specs.Terms.{declarations_of}
use Rattle.fidl_decode_model.specs.Model.{Shown}
use Rattle.fidl_decode_model.specs.Work.{Work}
use Rattle.fidl_decode.proofs.message.Decoded.steps.Goals as goal

pub returns-clause-least : goal.returns-clause-least
returns-clause-least c = λ v h.
    let least = subst (λ (d : Shown). (v : Value) → Encodes (declarations_of d.table) (ty.named d.entry) v d.bytes d.handles → Work v ≤ d.steps) c.self.view_is c.self.invariant.3 in
    let same = ap (λ (d : Shown). d.steps) c.self.view_is in
    omega (arith, least v h, same)
