use Rattle.std.proofs.Common.{◌≡◌, take}
use Rattle.fidl_named.specs.Names.{all_declared, AreDistinct}
use Rattle.fidl_compile.proofs.checking.add_files.Given as goal

-- the files so far are in the set, and no name of theirs is declared twice
abbrev pub invariant-loop-file : goal.invariant-loop-file
invariant-loop-file l = (l.set ≡ take l.file-index l.fn.files) × AreDistinct (all_declared (take l.file-index l.fn.files))
