use Rattle.fidl_tree.specs.Views.{attribute_view}
use Rattle.fidl_method_rules.specs.Selectors.{is_selector}
use Rattle.fidl_method_rules.proofs.Selecting.{NoneBefore}
use Rattle.fidl_method_rules.proofs.selector.first_selector.Given as goal

-- none of the attributes so far is a selector
abbrev pub invariant-loop-number : goal.invariant-loop-number
invariant-loop-number l = NoneBefore attribute_view (is_selector l.file.src.now) l.attributes l.number
