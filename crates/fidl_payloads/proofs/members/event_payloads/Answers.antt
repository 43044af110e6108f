use Rattle.fidl_tree.specs.Views.{payload_view}
use Rattle.fidl_payloads.proofs.Owed.{part_holds}
use Rattle.fidl_payloads.proofs.members.event_payloads.Goals as goal

pub returns-clause-holds : goal.returns-clause-holds
returns-clause-holds c = part_holds c.args.sources.now.named.now c.args.file_index (payload_view c.args.event.now.payload) c.in_ok-response.response c.in_ok-response.ensures.ok
