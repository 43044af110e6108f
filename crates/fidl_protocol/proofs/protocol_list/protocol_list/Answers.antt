use Rattle.std.proofs.Common.{List, sym, subst}
use Rattle.std.specs.List.{Contains}
use Rattle.std.proofs.lemmas.Result.{on_ok_weaker}
use Rattle.fidl_named.specs.declared.place.DeclarationId.{DeclarationId}
use Rattle.fidl_protocol.proofs.Listing.{all_hold}
use Rattle.fidl_protocol.proofs.protocol_list.protocol_list.Goals as goal

pub declared-requires : goal.declared-requires
declared-requires c = λ id among. c.in_ok-compositions.ensures.ok.protocols.entries id (subst (λ (l : List DeclarationId). Contains l id) c.protocols.ensures among)

pub returns-clause-members : goal.returns-clause-members
returns-clause-members c =
    let each = λ (p : DeclarationId) (among : Contains c.in_ok-compositions.compositions.0 p). c.in_ok-rows.ensures.holds p (subst (λ (l : List DeclarationId). Contains l p) (sym c.protocols.ensures) among) in
    on_ok_weaker c.protocols_of.result (λ _. all_hold c.args.types.now c.in_ok-compositions.compositions.0 c.in_ok-compositions.ensures.ok.protocols each) c.protocols_of.ensures.differ
