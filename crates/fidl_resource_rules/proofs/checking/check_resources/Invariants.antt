use Rattle.std.proofs.Common.{◌≡◌, ◌<◌, ℕ, Some}
use Rattle.std.specs.Prelude.{slice_get}
use Rattle.std.specs.List.{AllByRecursion}
use Rattle.fidl_tree.specs.declared.file.File.{File}
use Rattle.fidl_resource_rules.specs.Resources.{DeclarationHolds}
use Rattle.fidl_resource_rules.proofs.checking.check_resources.Given as goal

-- what the files so far declare is proper
abbrev pub invariant-loop-file_index : goal.invariant-loop-file_index
invariant-loop-file_index l = (number : ℕ) (f : File) → number < l.file_index → slice_get l.sources.named.now number ≡ Some f → AllByRecursion (DeclarationHolds l.sources.named.now number f) f.declarations.items
