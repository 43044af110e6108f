use Rattle.std.proofs.Common.{take}
use Rattle.fidl_names.specs.ImportRules.{libraries_of}
use Rattle.fidl_named.specs.NameMaps.{seen, names_of}
use Rattle.fidl_names.specs.TakenNames.{HaveSame}
use Rattle.fidl_names.specs.ImportCycles.{AreNumbered}
use Rattle.fidl_names.proofs.rules.libraries.Given as goal

-- the libraries of the files so far, each with its number
abbrev pub invariant-loop-file_index : goal.invariant-loop-file_index
invariant-loop-file_index l = record {
  same : HaveSame (names_of (seen l.libraries.entries)) (take l.file_index (libraries_of l.set));
  numbered : AreNumbered (seen l.libraries.entries);
}
