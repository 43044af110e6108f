use Rattle.std.proofs.Common.{◌∙◌, ap, sym}
use Rattle.fidl_ordinal.specs.Ordinal.{ordinal}
use Rattle.fidl_tree.specs.Views.{file_view}
use Rattle.fidl_method_rules.specs.Methods.{OrdinalIs}
use Rattle.fidl_method_rules.specs.MethodViews.{method_view}
use Rattle.fidl_method_rules.proofs.methods.method_ordinal.Goals as goal

pub returns-then-ordinal-eq0-clause-fault_is_true : goal.returns-then-ordinal-eq0-clause-fault_is_true
returns-then-ordinal-eq0-clause-fault_is_true c =
    let its : OrdinalIs (file_view c.args.scope.now.file.now) c.args.scope.now.protocol.now.name (method_view c.args.method) 0 = record {
      text = c.in_ok-text.text.items;
      text_is = c.in_ok-text.ensures.ok;
      number = sym c.if-ordinal-eq0.true ∙ c.ordinal_of-ordinal.ensures ∙ ap ordinal c.deref.ensures.value;
    } in
    (c.place.ensures.file, (its, c.place.ensures.span))

pub returns-clause-ok : goal.returns-clause-ok
returns-clause-ok c = record {
  text = c.in_ok-text.text.items;
  text_is = c.in_ok-text.ensures.ok;
  number = c.ordinal_of-ordinal.ensures ∙ ap ordinal c.deref.ensures.value;
}
