use Rattle.fidl_tree.specs.Views.{path_view}
use Rattle.fidl_consts.specs.Types.{UnderlyingIs}
use Rattle.fidl_consts.proofs.types.underlying_type.Goals as goal

pub returns : goal.returns
returns c = rw c.underlying_kind.ensures (UnderlyingIs.written (path_view c.args.path.now) c.in_ok-written.written c.in_ok-written.ensures)
