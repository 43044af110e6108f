use Rattle.std.proofs.Common.{◌+◌, List, take, get_or, sym, subst}
use Rattle.std.specs.Global.{Vec}
use Rattle.std.proofs.lemmas.List.{get_or_default}
use Rattle.fidl_named.specs.declared.place.DeclarationId.{DeclarationId}
use Rattle.fidl_protocol.specs.declared.method.Method.{Method}
use Rattle.fidl_protocol.specs.Checked.{MembersHold}
use Rattle.fidl_protocol.specs.Gathered.{AreDeclaredBy, AreRows}
use Rattle.fidl_protocol.proofs.Lists.{zip_further}
use Rattle.fidl_protocol.proofs.Members.{each_more}
use Rattle.fidl_protocol.proofs.declaring.declared.Goals as goal

pub loop-id-preserved : goal.loop-id-preserved
loop-id-preserved c =
    let files = c.args.types.now in
    let ids = c.args.ids.now in
    let i = c.loop-id.id-index in
    let lt = c.loop-id-test.true in
    let none : DeclarationId = record { file = 0; index = 0 } in
    record {
      rows = subst (λ (l : List (Vec Method)). AreRows files (take (i + 1) ids) l) (sym c.in_ok-push.ensures.items) (zip_further (λ (id : DeclarationId) (row : Vec Method). AreDeclaredBy files id row.items) ids i none c.loop-id.rows.items c.in_ok-declared_by.field-0 lt c.loop-id.invariant.rows c.in_ok-declared_by.ensures.ok);
      hold = each_more (MembersHold files) ids i (get_or ids i none) lt (get_or_default ids i none (get_or ids i none) lt) c.loop-id.invariant.hold c.in_ok-declared_by.ensures.holds;
    }
