use Rattle.std.proofs.Math.Logic.{∥∥₁_elim}
use Rattle.fidl_view.proofs.Truncated.{is_some_prop}
use Rattle.fidl_view.proofs.Listed.{only_bool}
use Rattle.fidl_view.proofs.tree.bool_tree.Goals as goal

pub unwrap-requires : goal.unwrap-requires
unwrap-requires c = ∥∥₁_elim c.requires (is_some_prop _) (λ q. only_bool q.0 q.1.0 q.1.1.typed c.as_bool.result (c.as_bool.ensures q.1.0 q.1.1.shown))
