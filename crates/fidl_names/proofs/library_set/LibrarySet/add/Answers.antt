use Rattle.std.proofs.Common.{◌≡◌, ◌++◌, ◌∷◌, [], ◌+◌, List, length, map, ap, sym, subst, ◌∙◌, add-zero}
use Rattle.std.proofs.lemmas.List.{map-append}
use Rattle.std.proofs.Math.ListN.{length-map}
use Rattle.fidl_tree.specs.declared.file.File.{File}
use Rattle.fidl_named.specs.Names.{all_declared, all_entries, entries_of, AreDistinct}
use Rattle.fidl_names.specs.Refusals.{IsTrueOfAdding}
use Rattle.fidl_named.specs.NameMaps.{seen, names_of}
use Rattle.fidl_names.proofs.Files.{entries_after, names_of-all}
use Rattle.std.specs.List.{AllByRecursion}
use Rattle.fidl_named.proofs.FileNumbers.{tree_of, numbered}
use Rattle.fidl_named.proofs.NumbersOfNames.{all_more}
use Rattle.fidl_names.proofs.library_set.LibrarySet.add.Goals as goal

pub invariant_of-self-in-Ok : goal.invariant_of-self-in-Ok
invariant_of-self-in-Ok c =
    let f = c.args.file.now in
    let old : List File = map tree_of c.self.inside.files.items in
    let number : c.len-file_index.result ≡ length old + 0 =
    c.len-file_index.ensures ∙ c.self.inside.files.ok.0 ∙ sym (length-map c.self.inside.files.items tree_of) ∙ sym (add-zero (length old)) in
    let files : map tree_of c.push.new.self.items ≡ old ++ f ∷ [] =
    ap (map tree_of) c.in_ok-push.ensures.items ∙ map-append _ c.self.inside.files.items (record { file = c.args.file; numbers = c.in_ok-numbers.numbers } ∷ []) in
    let all = c.in-Ok.ensures.ok
    ∙ ap (λ l. l ++ entries_of f c.len-file_index.result) c.self.invariant.0
    ∙ ap (λ n. all_entries old 0 ++ entries_of f n) number
    ∙ sym (entries_after old f 0)
    ∙ ap (λ fs. all_entries fs 0) (sym files) in (
      all,
      c.in-Ok.ensures.distinct c.self.invariant.1,
      subst (AllByRecursion numbered) (sym c.in_ok-push.ensures.items) (all_more numbered c.self.inside.files.items (record { file = c.args.file; numbers = c.in_ok-numbers.numbers }) c.self.invariant.2 c.in_ok-numbers.ensures),
    )

pub returns-in-Ok-clause-distinct : goal.returns-in-Ok-clause-distinct
returns-in-Ok-clause-distinct c =
    let invariant = invariant_of-self-in-Ok c in
    let files : map tree_of c.push.new.self.items ≡ c.args.self.now ++ c.args.file.now ∷ [] =
    ap (map tree_of) c.in_ok-push.ensures.items
    ∙ map-append _ c.self.inside.files.items (record { file = c.args.file; numbers = c.in_ok-numbers.numbers } ∷ [])
    ∙ ap (λ fs. fs ++ c.args.file.now ∷ []) c.self.view_is in
    subst AreDistinct (ap names_of invariant.0 ∙ names_of-all (map tree_of c.push.new.self.items) 0 ∙ ap all_declared files) invariant.1

pub returns-in-Err-clause-fault_is_true : goal.returns-in-Err-clause-fault_is_true
returns-in-Err-clause-fault_is_true c =
    let before = c.self.inside.files.items in
    let names : names_of (seen c.self.inside.names.entries) ≡ all_declared c.args.self.now =
    ap names_of c.self.invariant.0 ∙ names_of-all (map tree_of before) 0 ∙ ap all_declared c.self.view_is in
    let number : c.len-file_index.result ≡ length c.args.self.now =
    c.len-file_index.ensures ∙ c.self.inside.files.ok.0 ∙ sym (length-map before tree_of) ∙ ap length c.self.view_is in
    subst (λ n. IsTrueOfAdding (all_declared c.args.self.now) c.args.file.now n c.in-Err.fault) number
    (subst (λ l. IsTrueOfAdding l c.args.file.now c.len-file_index.result c.in-Err.fault) names c.in-Err.ensures.fault_is_true)
