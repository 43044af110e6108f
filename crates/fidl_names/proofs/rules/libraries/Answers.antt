use Rattle.std.proofs.Common.{◌≡◌, ◌++◌, ◌∷◌, [], get_or, take, ap, sym, subst, ◌∙◌, arith}
use Rattle.std.proofs.Math.ListN.{get_or-map, length-map}
use Rattle.std.proofs.lemmas.Option.{get_or_from_slice_get}
use Rattle.fidl_named.specs.Names.{library_of}
use Rattle.fidl_names.specs.ImportRules.{libraries_of}
use Rattle.fidl_named.specs.NameMaps.{seen, names_of}
use Rattle.fidl_names.specs.TakenNames.{HaveSame}
use Rattle.fidl_cycles.proofs.Lists.{take_item}
use Rattle.fidl_names.proofs.Sames.{same_more}
use Rattle.fidl_names.proofs.rules.libraries.Goals as goal

pub loop-file_index-preserved : goal.loop-file_index-preserved
loop-file_index-preserved c =
    let files = c.args.set.now in
    let i = c.loop-file_index.file_index in
    let f = c.file-file.result.now in
    let lt = c.loop-file_index-test.true in
    let long = c.count-file_index-end.ensures in
    let is : f ≡ get_or files i f = sym (get_or_from_slice_get files i f f c.file-file.ensures) in
    let name : c.in_ok-name.name.items ≡ library_of f = c.in_ok-name.ensures in
    let at : library_of f ≡ get_or (libraries_of files) i (library_of f) = ap library_of is ∙ sym (get_or-map library_of files i f) in
    let more = take_item (libraries_of files) i (library_of f) (omega (arith, length-map files library_of)) at in
    let now = subst (λ n. HaveSame (names_of (seen c.add_library.new.libraries.entries)) (names_of (seen c.loop-file_index.libraries.entries) ++ n ∷ [])) name c.in_ok-add_library.ensures.same in
    record {
      same = subst (HaveSame (names_of (seen c.add_library.new.libraries.entries))) (sym more) (same_more _ _ (take i (libraries_of files)) (library_of f) c.loop-file_index.invariant.same now);
      numbered = c.in_ok-add_library.ensures.numbered c.loop-file_index.invariant.numbered;
    }
