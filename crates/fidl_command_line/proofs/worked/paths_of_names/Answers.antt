use Rattle.std.proofs.Common.{refl}
use Rattle.std.specs.Path.{path_join, path_sort_key_from}
use Rattle.fidl_command_line.proofs.worked.paths_of_names.Goals as goal

pub returns-clause-same : goal.returns-clause-same
unfolding path_join path_sort_key_from
returns-clause-same c = refl

pub returns-clause-other : goal.returns-clause-other
unfolding path_join path_sort_key_from
returns-clause-other c = refl

pub returns-clause-up : goal.returns-clause-up
unfolding path_join path_sort_key_from
returns-clause-up c = refl
