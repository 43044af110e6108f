use Rattle.std.proofs.Common.{◌≡◌, ◌<◌, ◌≤◌, List, Some, take, get_or, length, sym, subst}
use Rattle.std.specs.Prelude.{slice_get}
use Rattle.std.specs.Global.{Vec}
use Rattle.std.specs.List.{Contains}
use Rattle.std.proofs.lemmas.List.{get_or_default, take_all}
use Rattle.std.proofs.lemmas.Option.{slice_get-get_or}
use Rattle.fidl_named.specs.declared.place.DeclarationId.{DeclarationId}
use Rattle.fidl_protocol.specs.declared.method.Method.{Method}
use Rattle.fidl_protocol.specs.Gathered.{AreDeclaredBy}
use Rattle.fidl_protocol.proofs.Lists.{zip_length}
use Rattle.fidl_protocol.proofs.Listing.{one_so_far, all_differ}
use Rattle.fidl_protocol.proofs.protocol_list.protocols_of.Goals as goal

pub all_methods-requires-clause-long : goal.all_methods-requires-clause-long
all_methods-requires-clause-long c =
    sym (zip_length (λ (id : DeclarationId) (row : Vec Method). AreDeclaredBy c.args.types.now id row.items) c.args.compositions.now.0 c.args.rows.now c.requires.rows)

pub protocol-requires-clause-gathered : goal.protocol-requires-clause-gathered
protocol-requires-clause-gathered c =
    let items = c.protocols-id-items.result.now in
    let n = c.loop-number.number in
    let id = get_or items n (record { file = 0; index = 0 }) in
    let at = subst (λ (l : List DeclarationId). slice_get l n ≡ Some id) c.protocols-id-items.ensures (slice_get-get_or items n (record { file = 0; index = 0 }) c.loop-number-test.true) in
    c.in_ok-methods.ensures.ok c.args.types.now id c.requires.compositions c.requires.rows at

pub loop-number-preserved : goal.loop-number-preserved
loop-number-preserved c =
    let items = c.protocols-id-items.result.now in
    let ids = c.args.compositions.now.0 in
    let n = c.loop-number.number in
    let id = get_or items n (record { file = 0; index = 0 }) in
    let lt = subst (λ (l : List DeclarationId). n < length l) c.protocols-id-items.ensures c.loop-number-test.true in
    let is = subst (λ (l : List DeclarationId). id ≡ get_or l n id) c.protocols-id-items.ensures (get_or_default items n (record { file = 0; index = 0 }) id c.loop-number-test.true) in
    one_so_far c.args.types.now ids n id lt is c.loop-number.protocols.items c.in_ok-protocol.field-0 c.loop-number.invariant c.in_ok-protocol.ensures.id c.in_ok-protocol.ensures.methods c.in_ok-protocol.ensures.differ c.push.new.self.items c.in_ok-push.ensures.items

pub returns-clause-differ : goal.returns-clause-differ
returns-clause-differ c =
    let ids = c.args.compositions.now.0 in
    let n = c.loop-number.number in
    let whole : take n ids ≡ ids = take_all n ids (subst (λ (l : List DeclarationId). length l ≤ n) c.protocols-id-items.ensures c.loop-number-test.false) in
    all_differ c.args.types.now ids c.requires.compositions.protocols (λ p among. c.loop-number.invariant.differ p (subst (λ (l : List DeclarationId). Contains l p) (sym whole) among))
