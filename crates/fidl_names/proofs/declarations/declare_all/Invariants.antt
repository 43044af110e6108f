use Rattle.std.proofs.Common.{◌≡◌, ◌++◌, ◌≤◌, length, take}
use Rattle.fidl_named.specs.Names.{AreDistinct, entries_of}
use Rattle.fidl_named.specs.NameMaps.{seen, names_of}
use Rattle.fidl_names.proofs.declarations.declare_all.Given as goal

-- after what stood before stand the declarations so far, and all differ if those before did
abbrev pub invariant-loop-index : goal.invariant-loop-index
invariant-loop-index l = record {
  ok : seen l.names.entries ≡ seen l.fn.names.entries ++ take l.index (entries_of l.file l.file_index);
  kept : take (length l.fn.names.entries) l.names.entries ≡ l.fn.names.entries;
  long : length l.fn.names.entries ≤ length l.names.entries;
  distinct : AreDistinct (names_of (seen l.fn.names.entries)) → AreDistinct (names_of (seen l.names.entries));
}
