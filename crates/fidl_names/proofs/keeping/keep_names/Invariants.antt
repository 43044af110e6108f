use Rattle.std.proofs.Common.{◌≡◌, length}
use Rattle.fidl_named.specs.KeptNames.{AreKeptIn, kept_rows}
use Rattle.fidl_names.proofs.keeping.keep_names.Given as goal

-- the rows of the files so far
abbrev pub invariant-loop-file_index : goal.invariant-loop-file_index
invariant-loop-file_index l = record {
  long : length l.rows.items ≡ l.file_index;
  each : AreKeptIn l.names.set.now (kept_rows l.rows.items);
}
