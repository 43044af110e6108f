use Rattle.std.proofs.Common.{map}
use Rattle.fidl_tree.specs.Views.{protocol_member_view}
use Rattle.fidl_composition.proofs.Lists.{among}
use Rattle.fidl_protocol.proofs.Nodes.{member_of}
use Rattle.fidl_protocol.proofs.Members.{seen_member, made}
use Rattle.fidl_protocol.proofs.declaring.with_payloads.Goals as goal

pub payloads-requires-clause-stands : goal.payloads-requires-clause-stands
payloads-requires-clause-stands c =
    let x = c.args.found.now in
    let m = c.index-member.result.now in
    let entry = c.requires.entry in
    let at = seen_member x.protocol.now.members.items c.args.own.member m entry.member entry.stands c.index-member.ensures in
    member_of c.args.types.now x.id x.file.now _ x.protocol.now.name _ c.requires.found (protocol_member_view m) (among (map protocol_member_view x.protocol.now.members.items) c.args.own.member (protocol_member_view m) at)

pub returns-in-Ok-clause-ok : goal.returns-in-Ok-clause-ok
returns-in-Ok-clause-ok c =
    let x = c.args.found.now in
    let m = c.index-member.result.now in
    let entry = c.requires.entry in
    let at = seen_member x.protocol.now.members.items c.args.own.member m entry.member entry.stands c.index-member.ensures in
    made c.args.types.now x c.requires.found c.args.own entry (protocol_member_view m) at c.in-Ok.payloads c.in-Ok.ensures.request c.in-Ok.ensures.response c.in-Ok.ensures.holds

pub returns-in-Err-clause-fault_is_true : goal.returns-in-Err-clause-fault_is_true
returns-in-Err-clause-fault_is_true c =
    let x = c.args.found.now in
    let m = c.index-member.result.now in
    let entry = c.requires.entry in
    let at = seen_member x.protocol.now.members.items c.args.own.member m entry.member entry.stands c.index-member.ensures in
    c.of_payloads.ensures.holds c.args.types.now x.id x.file.now _ _ _ (protocol_member_view m) c.requires.found (among (map protocol_member_view x.protocol.now.members.items) c.args.own.member (protocol_member_view m) at) c.in-Err.ensures.fault_is_true
