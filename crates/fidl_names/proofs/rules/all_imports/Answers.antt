use Rattle.std.proofs.Common.{◌≡◌, ◌++◌, ◌∷◌, [], get_or, map, take, ap, sym, ◌∙◌, arith}
use Rattle.std.proofs.lemmas.List.{map-append}
use Rattle.std.proofs.lemmas.Result.{err_from_is_err_and}
use Rattle.std.proofs.lemmas.Option.{get_or_from_slice_get}
use Rattle.fidl_named.specs.declared.fault.NameFault.TheVariants.{Memory}
use Rattle.fidl_named.specs.Imports.{visible, ImportsAreApart}
use Rattle.fidl_names.specs.ImportRules.{libraries_of, ImportsAreKnown, IsTrueOfImports}
use Rattle.fidl_names.specs.Refusals.{IsTrueOfOne}
use Rattle.fidl_named.specs.NameMaps.{seen, texts_view, names_of}
use Rattle.fidl_cycles.proofs.Lists.{take_item, all_take}
use Rattle.fidl_names.proofs.Sames.{known_by, reported_by}
use Rattle.fidl_names.proofs.rules.all_imports.Goals as goal

pub loop-file_index-preserved : goal.loop-file_index-preserved
loop-file_index-preserved c =
    let files = c.args.set.now in
    let i = c.loop-file_index.file_index in
    let f = c.file.result.now in
    let lt = c.loop-file_index-test.true in
    let long = c.count-file_index-end.ensures in
    let is : f ≡ get_or files i f = sym (get_or_from_slice_get files i f f c.file.ensures) in
    let more = take_item files i f (omega arith) is in
    let known = known_by (names_of (seen c.args.libraries.now.entries)) (libraries_of files) f c.requires c.in_ok-visible_names.ensures.known in
    record {
      ok = ap (map (λ visible_names. texts_view visible_names.entries)) c.in_ok-push.ensures.items
          ∙ map-append (λ visible_names. texts_view visible_names.entries) c.loop-file_index.found.items (c.in_ok-visible_names.visible_names ∷ [])
          ∙ ap (λ l. l ++ texts_view c.in_ok-visible_names.visible_names.entries ∷ []) c.loop-file_index.invariant.ok
          ∙ ap (λ v. map visible (take i files) ++ v ∷ []) c.in_ok-visible_names.ensures.ok
          ∙ sym (ap (map visible) more ∙ map-append visible (take i files) (f ∷ []));
      apart = all_take files i f (omega arith) is ImportsAreApart c.loop-file_index.invariant.apart c.in_ok-visible_names.ensures.apart;
      known = all_take files i f (omega arith) is (ImportsAreKnown (libraries_of files)) c.loop-file_index.invariant.known known;
    }

pub returns-in_err-visible_names-clause-fault_is_true : goal.returns-in_err-visible_names-clause-fault_is_true
returns-in_err-visible_names-clause-fault_is_true c =
    let files = c.args.set.now in
    let f = c.file.result.now in
    let fault = c.in_err-visible_names.field-0.0 in
    let says = reported_by (names_of (seen c.args.libraries.now.entries)) (libraries_of files) f c.loop-file_index.file_index c.requires fault c.in_err-visible_names.ensures.fault_is_true in
    let h : IsTrueOfOne files (IsTrueOfImports (libraries_of files)) fault = record { file_index = c.loop-file_index.file_index; file = f; file_at = c.file.ensures; says = says } in
    let p = err_from_is_err_and c.from_residual.result c.from_residual.ensures.1 in
    rw (p.1, p.2) h

pub returns-in_err-push-clause-fault_is_true : goal.returns-in_err-push-clause-fault_is_true
returns-in_err-push-clause-fault_is_true c =
    let files = c.args.set.now in
    let h : IsTrueOfOne files (IsTrueOfImports (libraries_of files)) Memory = record { file_index = c.loop-file_index.file_index; file = c.file.result.now; file_at = c.file.ensures; says = tt } in
    let p = err_from_is_err_and c.from_residual-in_err-push.result c.from_residual-in_err-push.ensures.1 in
    rw (p.1, p.2) h
