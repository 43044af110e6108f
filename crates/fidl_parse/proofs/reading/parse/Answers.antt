use Rattle.std.proofs.Common.{◌≤◌, length, refl, sym, subst, ◌∙◌, []}
use Rattle.fidl_tree.specs.Brackets.{IsWithinLimit}
use Rattle.fidl_parse.proofs.Trees.{whole, tree_ahead}
use Rattle.fidl_parse.proofs.reading.parse.Goals as goal

pub returns-in-Err-Unexpected-clause-no_tree : goal.returns-in-Err-Unexpected-clause-no_tree
returns-in-Err-Unexpected-clause-no_tree c other tree =
    let words = c.as_slice-words.result.now in
    let end = c.nesting_end-end.result in
    let within : IsWithinLimit words = subst IsWithinLimit (sym c.as_slice-words.ensures) tree.4 in
    let all : length words ≤ end = whole words end within c.nesting_end-end.ensures.deep in
    let ahead = tree_ahead _ words c.args.src.now end tree.0 refl refl all tree.1 tree.2 (tree.3 ∙ sym c.as_slice-words.ensures) in
    let stop = c.in-Err-Unexpected.ensures.complete tree.0 [] refl ahead in
    let unexpected = c.in-Err-Unexpected.field-0-is in
    cc
