use Rattle.std.proofs.Common.{◌≡◌, map, take}
use Rattle.fidl_tree.specs.Leaf.{text_at}
use Rattle.fidl_named.specs.Names.{AreDistinct}
use Rattle.fidl_named.specs.NameMaps.{seen, names_of}
use Rattle.fidl_names.proofs.differ.check_names.Given as goal

-- the names so far, which differ
abbrev pub invariant-loop-index : goal.invariant-loop-index
invariant-loop-index l = record {
  so_far : names_of (seen l.names.entries) ≡ take l.index (map (text_at l.file.src.now) l.members);
  distinct : AreDistinct (take l.index (map (text_at l.file.src.now) l.members));
}
