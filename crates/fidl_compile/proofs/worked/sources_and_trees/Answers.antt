use Rattle.std.proofs.Common.{refl}
use Rattle.fidl_compile.proofs.worked.sources_and_trees.Goals as goal

pub returns-clause-tree : goal.returns-clause-tree
returns-clause-tree c = λ src tree h. (tree, h.source, h.proper, refl, h.limit)
