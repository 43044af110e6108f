use Rattle.std.proofs.Common.{◌≡◌, ◌∷◌, take}
use Rattle.std.specs.Prelude.{flat_map}
use Rattle.std.specs.List.{AllByRecursion}
use Rattle.fidl_named.specs.Names.{IsOneOf, AreDistinct, path_text, library_of}
use Rattle.fidl_named.specs.Imports.{visible_by}
use Rattle.fidl_named.specs.NameMaps.{seen, texts_view, names_of}
use Rattle.fidl_names.proofs.imports.visible_libraries.Given as goal

-- what the own library and the imports so far make visible, under names that differ, of libraries that are known
abbrev pub invariant-loop-import : goal.invariant-loop-import
invariant-loop-import l = record {
  ok : texts_view l.visible.entries ≡ (library_of l.file, library_of l.file) ∷ flat_map (visible_by l.file.src.now) (take l.import-index l.file.imports.items);
  distinct : AreDistinct (names_of (texts_view l.visible.entries));
  known : AllByRecursion (λ i. IsOneOf (names_of (seen l.libraries.entries)) (path_text l.file.src.now i.path)) (take l.import-index l.file.imports.items);
}
