use Rattle.std.proofs.Common.{◌≡◌, ◌++◌, ◌∷◌, ◌+◌, ℕ, suc, List, get_or, map, drop, ap, sym, ◌∙◌, arith}
use Rattle.std.proofs.lemmas.List.{drop_more, append_assoc}
use Rattle.std.proofs.lemmas.Option.{get_or_from_slice_get}
use Rattle.std.proofs.Math.ListN.{get_or-map, length-map}
use Rattle.fidl_tree.specs.Syntax.{File}
use Rattle.fidl_tree.specs.Views.{file_view}
use Rattle.fidl_declarations.specs.Forms.{file_forms, forms_from}
use Rattle.fidl_declarations.specs.FormViews.{forms_view}
use Rattle.fidl_declarations.proofs.numbering.forms.Goals as goal

pub loop-file_index-preserved : goal.loop-file_index-preserved
loop-file_index-preserved c =
    let files = c.args.named.now in
    let seen = map file_view files in
    let i = c.loop-file_index.file_index in
    let f = c.file.result.now in
    let lt = c.loop-file_index-test.true in
    let long = c.count-file_index-end.ensures in
    let is : get_or files i f ≡ f = get_or_from_slice_get files i f f c.file.ensures in
    let first : get_or seen i (file_view f) ≡ file_view f = get_or-map file_view files i f ∙ ap file_view is in
    let next : drop i seen ≡ file_view f ∷ drop (i + 1) seen =
    drop_more seen i (file_view f) (omega (arith, length-map files file_view)) ∙ ap (λ x. x ∷ drop (i + 1) seen) first in
    let before = forms_view c.loop-file_index.forms.items in
    let own = file_forms i (file_view f) in
    let rest = drop (i + 1) seen in
    let on : suc i ≡ i + 1 = omega arith in
    ap (λ l. l ++ forms_from (i + 1) rest) c.in_ok-push_file_forms.ensures
    ∙ append_assoc before own (forms_from (i + 1) rest)
    ∙ ap (λ (n : ℕ). before ++ (own ++ forms_from n rest)) (sym on)
    ∙ sym (ap (λ (l : List File). before ++ forms_from i l) next)
    ∙ c.loop-file_index.invariant
