use Rattle.std.proofs.Common.{◌∙◌}
use Rattle.fidl_named.proofs.PathViews.{place_seen}
use Rattle.fidl_consts.proofs.names.path_place.Goals as goal

pub returns : goal.returns
returns c = c.path_span.ensures ∙ place_seen c.args.path.now
