use Rattle.std.proofs.Common.{◌≡◌, map, List}
use Rattle.std.specs.List.{AllZip}
use Rattle.fidl_tree.specs.declared.file.File.{File}
use Rattle.fidl_declarations.specs.FormViews.{forms_view}
use Rattle.fidl_lower_types.specs.Numbers.{all_forms}
use Rattle.fidl_layout.specs.Roots.{AreStarts}
use Rattle.fidl_layout.proofs.Found.{AreBefore}
use Rattle.fidl_layout.proofs.roots.root_numbers.Given as goal

-- the roots before this number are found, and no other
abbrev pub invariant-loop-number : goal.invariant-loop-number
invariant-loop-number l = (files : List File) → forms_view l.forms ≡ all_forms files → AllZip AreStarts files (map (λ s. s.keys) l.starts) → AreBefore files l.number l.found.items
