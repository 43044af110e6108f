use Rattle.std.proofs.Common.{arith, ap}
use Rattle.std.specs.Map.{lookup}
use Rattle.std.proofs.Math.ListN.{length-map}
use Rattle.indexmap.specs.IndexMap.{get}
use Rattle.fidl_declarations.specs.FormViews.{form_view, forms_view}
use Rattle.fidl_lower_types.specs.NumberViews.{same_key, same_answer, IsLayoutKey, IsAnswerKey}
use Rattle.fidl_lower_types.proofs.Indexing.{form_there, one_layout_key, test_layouts, one_answer_key, test_answers, begins, ends}
use Rattle.fidl_lower_types.proofs.numbers.layout_numbers.Goals as goal

pub loop-index-init : goal.loop-index-init
loop-index-init c = record {
  layouts = begins IsLayoutKey one_layout_key same_key test_layouts (forms_view c.args.forms.now) (get same_key c.new-known.result) (λ key. ap (lookup (same_key key)) c.new-known.ensures.empty);
  answers = begins IsAnswerKey one_answer_key same_answer test_answers (forms_view c.args.forms.now) (get same_answer c.new-answers.result) (λ key. ap (lookup (same_answer key)) c.new-answers.ensures.empty);
}

pub loop-index-preserved : goal.loop-index-preserved
loop-index-preserved c =
    let form = c.index-forms-index.result in
    let there = form_there c.args.forms.now c.loop-index.index form c.loop-index-test.true c.index-forms-index.is in
    record {
      layouts = c.in_ok-add_layout.ensures (forms_view c.args.forms.now) there c.loop-index.invariant.layouts;
      answers = c.in_ok-add_answer.ensures (forms_view c.args.forms.now) there c.loop-index.invariant.answers;
    }

pub returns : goal.returns
returns c =
    let past = c.loop-index-test.false in
    record {
      layouts = ends IsLayoutKey one_layout_key same_key test_layouts (forms_view c.args.forms.now) c.loop-index.index (get same_key c.loop-index.known) (omega (arith, past, length-map c.args.forms.now form_view)) c.loop-index.invariant.layouts;
      answers = ends IsAnswerKey one_answer_key same_answer test_answers (forms_view c.args.forms.now) c.loop-index.index (get same_answer c.loop-index.answers) (omega (arith, past, length-map c.args.forms.now form_view)) c.loop-index.invariant.answers;
    }
