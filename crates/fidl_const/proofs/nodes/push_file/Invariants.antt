use Rattle.std.proofs.Common.{◌≡◌, ◌++◌, length, take}
use Rattle.fidl_const.specs.Columns.{nodes_in, starts_in}
use Rattle.fidl_const.proofs.nodes.push_file.Given as goal

-- those of the declarations so far
abbrev pub invariant-loop-index : goal.invariant-loop-index
invariant-loop-index l = record {
  nodes : l.nodes.items ≡ l.fn.nodes.items ++ nodes_in l.file_index 0 (take l.index l.declarations);
  starts : l.starts.items ≡ starts_in (length l.fn.nodes.items) (take l.index l.declarations);
}
