-- The numbers that a set keeps of the declaration of an id.
use Rattle.std.proofs.Common.{◌≡◌, ◌<◌, List, Some, refl, ap, sym, subst, ◌∙◌, length, get_or, map, slice_get, arith}
use Rattle.std.specs.List.{AllByRecursion}
use Rattle.std.specs.Option.{option_map}
use Rattle.std.proofs.Math.ListN.{length-map}
use Rattle.std.proofs.lemmas.Option.{slice_get-map, slice_get_within, slice_get_read}
use Rattle.fidl_tree.specs.declared.file.File.{File}
use Rattle.fidl_tree.specs.declared.declaration.Declaration.{Declaration}
use Rattle.fidl_named.specs.declared.file_set.AddedFile.{AddedFile}
use Rattle.fidl_named.specs.declared.member_numbers.MemberNumbers.{MemberNumbers}
use Rattle.fidl_named.specs.declared.place.DeclarationId.{DeclarationId}
use Rattle.fidl_named.specs.Constraints.{IsDeclarationAt}
use Rattle.fidl_named.specs.MemberNumbers.{AreNumbersOf, AreNumbersIn}
use Rattle.fidl_cycles.proofs.Lists.{all_get as all_at}
use Rattle.fidl_named.proofs.NumbersOfNames.{match_at, match_length}

abbrev pub tree_of : AddedFile → File
tree_of a = a.file.now

abbrev pub numbered : AddedFile → Type 0
numbered a = AreNumbersIn a.file.now a.numbers.items

module _ (added : List AddedFile) (fs : List File) (view : map tree_of added ≡ fs) (all : AllByRecursion numbered added) (p : DeclarationId) (a : AddedFile) (is : a ≡ get_or added p.file a) where
  there : (f : File) → slice_get fs p.file ≡ Some f → slice_get (map tree_of added) p.file ≡ Some f
  there f h = subst (λ l. slice_get l p.file ≡ Some f) (sym view) h

  at_file : (f : File) → slice_get fs p.file ≡ Some f → slice_get added p.file ≡ Some a
  at_file f h =
      let within = slice_get_within (map tree_of added) p.file f (there f h) in
      let lt : p.file < length added = omega (arith, length-map added tree_of) in
      slice_get_read added (length added) p.file a refl lt is

  same_tree : (f : File) → slice_get fs p.file ≡ Some f → a.file.now ≡ f
  same_tree f h =
      let both : Some a.file.now ≡ Some f = sym (slice_get-map tree_of added p.file ∙ ap (option_map tree_of) (at_file f h)) ∙ there f h in
      cc

  kept : (f : File) → slice_get fs p.file ≡ Some f → AreNumbersIn f a.numbers.items
  kept f h = subst (λ (g : File). AreNumbersIn g a.numbers.items) (same_tree f h) (all_at numbered added p.file a all (at_file f h))

  pub file_there : p.file < length added → slice_get fs p.file ≡ Some a.file.now
  file_there lt = subst (λ l. slice_get l p.file ≡ Some a.file.now) view (slice_get-map tree_of added p.file ∙ ap (option_map tree_of) (slice_get_read added (length added) p.file a refl lt is))

  pub index_within : (f : File) (d : Declaration) → IsDeclarationAt fs p f d → p.index < length a.numbers.items
  index_within f d h =
      subst (λ n. p.index < n) (match_length (AreNumbersOf f) f.declarations.items a.numbers.items (kept f h.file_at)) (slice_get_within f.declarations.items p.index d h.stands)

  pub found_numbers : (f : File) (d : Declaration) → IsDeclarationAt fs p f d → (n : MemberNumbers) → n ≡ get_or a.numbers.items p.index n → AreNumbersOf f d n
  found_numbers f d h n at =
      match_at (AreNumbersOf f) f.declarations.items a.numbers.items p.index d n (kept f h.file_at) h.stands
      (slice_get_read a.numbers.items (length a.numbers.items) p.index n refl (index_within f d h) at)
