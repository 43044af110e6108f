use Rattle.std.proofs.Common.{◌≡◌, ◌<◌, ℕ, Some}
use Rattle.std.specs.Prelude.{slice_get}
use Rattle.fidl_tree.specs.declared.file.File.{File}
use Rattle.fidl_type_shape.specs.Found.{figures_of}
use Rattle.fidl_layout.specs.Shallow.{FileFitsAtFirst}
use Rattle.fidl_layout.proofs.uses.check_uses.Given as goal

-- what is written in the files so far is within the limits
abbrev pub invariant-loop-file_index : goal.invariant-loop-file_index
invariant-loop-file_index l = (number : ℕ) (f : File) → number < l.file_index → slice_get l.types number ≡ Some f → FileFitsAtFirst l.types (figures_of l.figures) number f
