use Rattle.std.proofs.Common.{List, subst}
use Rattle.std.specs.Global.{Vec}
use Rattle.std.specs.List.{AllZip}
use Rattle.std.proofs.lemmas.Result.{IfOk-weaker}
use Rattle.fidl_tree.specs.declared.file.File.{File}
use Rattle.fidl_named.specs.declared.place.DeclarationId.{DeclarationId}
use Rattle.fidl_method_rules.specs.declared.methods.OwnMethod.{OwnMethod}
use Rattle.fidl_protocol.specs.declared.method.Method.{Method}
use Rattle.fidl_protocol.specs.Checked.{MembersHold}
use Rattle.fidl_protocol.specs.Gathered.{IsFound, IsMade, AreDeclaredBy}
use Rattle.fidl_protocol.proofs.Members.{declared_by, members_hold}
use Rattle.fidl_protocol.proofs.declaring.declared_by.Goals as goal

pub returns-clause-ok : goal.returns-clause-ok
returns-clause-ok c =
    let files = c.args.types.now in
    let x = c.find-found.result in
    let owns = c.in_ok-owns.owns.items in
    let found = subst (λ (fs : List File). IsFound fs x) c.named.ensures c.find-found.ensures.found in
    IfOk-weaker c.all_with_payloads.result (λ (v : Vec Method). AllZip (IsMade files x) c.deref.result.now v.items) (λ (v : Vec Method). AreDeclaredBy files c.args.id v.items)
    (λ v h. subst (λ (id : DeclarationId). AreDeclaredBy files id v.items) c.find-found.ensures.id (declared_by files x found owns v.items c.in_ok-owns.ensures.ok (subst (λ (l : List OwnMethod). AllZip (IsMade files x) l v.items) c.deref.ensures.value h)))
    c.all_with_payloads.ensures.ok

pub returns-clause-holds : goal.returns-clause-holds
returns-clause-holds c =
    let files = c.args.types.now in
    let x = c.find-found.result in
    let owns = c.in_ok-owns.owns.items in
    let found = subst (λ (fs : List File). IsFound fs x) c.named.ensures c.find-found.ensures.found in
    IfOk-weaker c.all_with_payloads.result (λ (v : Vec Method). AllZip (IsMade files x) c.deref.result.now v.items) (λ (v : Vec Method). MembersHold files c.args.id)
    (λ v h. subst (MembersHold files) c.find-found.ensures.id (members_hold files x found owns v.items c.in_ok-owns.ensures.ok (subst (λ (l : List OwnMethod). AllZip (IsMade files x) l v.items) c.deref.ensures.value h) c.in_ok-owns.ensures.holds))
    c.all_with_payloads.ensures.ok
