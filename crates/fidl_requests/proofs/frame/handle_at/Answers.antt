use Rattle.std.proofs.Common.{rules}
use Rattle.fidl_requests.specs.Frame.{handle_of}
use Rattle.fidl_requests.proofs.frame.handle_at.Goals as goal

pub returns : goal.returns
unfolding handle_of
returns c = search rules
