use Rattle.std.proofs.Common.{◌≡◌, map, take}
use Rattle.std.specs.List.{AllByRecursion}
use Rattle.fidl_named.specs.Imports.{visible, ImportsAreApart}
use Rattle.fidl_names.specs.ImportRules.{libraries_of, ImportsAreKnown}
use Rattle.fidl_named.specs.NameMaps.{texts_view}
use Rattle.fidl_names.proofs.rules.all_imports.Given as goal

-- the same of the files so far
abbrev pub invariant-loop-file_index : goal.invariant-loop-file_index
invariant-loop-file_index l = record {
  ok : map (λ visible_names. texts_view visible_names.entries) l.found.items ≡ map visible (take l.file_index l.set);
  apart : AllByRecursion ImportsAreApart (take l.file_index l.set);
  known : AllByRecursion (ImportsAreKnown (libraries_of l.set)) (take l.file_index l.set);
}
