use Rattle.std.proofs.Common.{◌≡◌, ◌∙◌, ℕ, [], ◌∷◌, ap}
use Rattle.std.specs.Global.{Vec}
use Rattle.std.proofs.lemmas.Result.{IfOk-weaker}
use Rattle.fidl_tree.specs.Views.{file_view}
use Rattle.fidl_declarations.specs.declared.step.Step.TheVariants as step
use Rattle.fidl_declarations.specs.Forms.{name_by_path}
use Rattle.fidl_method_rules.specs.Methods.{named_in}
use Rattle.fidl_method_rules.proofs.FullNames.{named_by_path}
use Rattle.fidl_method_rules.proofs.full_name.method_full_name.Goals as goal

pub returns : goal.returns
returns c =
    let f = file_view c.args.file.now in
    let whole = ap (named_in f c.args.protocol) c.text.ensures.bytes ∙ named_by_path f c.args.protocol c.args.method in
    IfOk-weaker c.named_in.result (λ (text : Vec ℕ). text.items ≡ named_in f c.args.protocol c.text.result.now) (λ (text : Vec ℕ). text.items ≡ name_by_path f (step.Name c.args.protocol ∷ step.Name c.args.method ∷ []))
    (λ text is. is ∙ whole)
    c.named_in.ensures
