use Rattle.std.proofs.Common.{◌≡◌, ◌++◌, drop, map}
use Rattle.fidl_tree.specs.Views.{file_view}
use Rattle.fidl_declarations.specs.Forms.{forms_from}
use Rattle.fidl_declarations.specs.FormViews.{forms_view}
use Rattle.fidl_declarations.proofs.numbering.forms.Given as goal

-- the forms so far and those of the files to come are all
abbrev pub invariant-loop-file_index : goal.invariant-loop-file_index
invariant-loop-file_index l =
    forms_view l.forms.items ++ forms_from l.file_index (drop l.file_index (map file_view l.named))
    ≡ forms_from 0 (map file_view l.named)
