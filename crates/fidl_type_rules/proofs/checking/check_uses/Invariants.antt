use Rattle.std.proofs.Common.{◌≡◌, ◌<◌, ℕ, Some}
use Rattle.std.specs.Prelude.{slice_get}
use Rattle.fidl_tree.specs.declared.file.File.{File}
use Rattle.fidl_type_rules.specs.Known.{AreKnownAliases}
use Rattle.fidl_type_rules.specs.Uses.{FileHolds}
use Rattle.fidl_type_rules.proofs.checking.check_uses.Given as goal

-- what stands in the files so far keeps the rules
abbrev pub invariant-loop-file_index : goal.invariant-loop-file_index
invariant-loop-file_index l = record {
  kept : (number : ℕ) (f : File) → number < l.file_index → slice_get l.sources.named.now number ≡ Some f → FileHolds l.sources.named.now number f;
  known : AreKnownAliases l.sources.named.now l.known.keys;
}
