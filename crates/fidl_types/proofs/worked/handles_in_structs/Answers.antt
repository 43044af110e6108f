use Rattle.std.proofs.Common.{◌≡◌, ◌∙◌, [], ◌∷◌, List, refl, ap, sym, subst}
use Rattle.fidl_declarations.specs.Forms.{Form}
use Rattle.fidl_ir_rules.specs.declared.mark.Mark.TheVariants.{Resource, Value, Result}
use Rattle.fidl_ir_rules.specs.Resources.{mark_of}
use Rattle.fidl_ir_rules.specs.Samples.{a_handle, holding}
use Rattle.fidl_types.specs.Marks.{form_mark, marks_of}
use Rattle.fidl_types.proofs.Small.{place_there, only_mark}
use Rattle.fidl_types.proofs.worked.handles_in_structs.Goals as goal

pub returns-clause-unmarked : goal.returns-clause-unmarked
returns-clause-unmarked c = λ files form k ms one kind h.
    let its : form_mark form.kind ≡ Value = ap form_mark kind in
    let unmarked = subst (λ (fs : List Form). mark_of (marks_of fs) 0 ≡ Value) (sym one) its in
    record {
      terms = holding a_handle ∷ [];
      definitions = h;
      number = 0;
      breaks = (0, record { definition = holding a_handle; member = a_handle; stands = refl; unmarked = unmarked; among = refl; resource = refl });
      reported = place_there files form one;
    }

pub returns-clause-marked : goal.returns-clause-marked
returns-clause-marked c = λ files form k ms place one kind h.
    let not : Resource ≡ Value = sym (ap form_mark kind) ∙ only_mark files form one place h in
    cc

pub returns-clause-of_a_result : goal.returns-clause-of_a_result
returns-clause-of_a_result c = λ files form r place one kind h.
    let not : Result ≡ Value = sym (ap form_mark kind) ∙ only_mark files form one place h in
    cc
