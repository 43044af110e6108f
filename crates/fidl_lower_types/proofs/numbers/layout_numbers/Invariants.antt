use Rattle.indexmap.specs.IndexMap.{get}
use Rattle.fidl_declarations.specs.FormViews.{forms_view}
use Rattle.fidl_lower_types.specs.NumberViews.{same_key, same_answer, IsLayoutKey, IsAnswerKey, AreHeldBefore}
use Rattle.fidl_lower_types.proofs.numbers.layout_numbers.Given as goal

-- the index of the forms so far
abbrev pub invariant-loop-index : goal.invariant-loop-index
invariant-loop-index l = record {
  layouts : AreHeldBefore IsLayoutKey (get same_key l.known) (forms_view l.forms) l.index;
  answers : AreHeldBefore IsAnswerKey (get same_answer l.answers) (forms_view l.forms) l.index;
}
