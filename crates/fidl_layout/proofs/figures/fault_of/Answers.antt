use Rattle.std.proofs.Common.{subst}
use Rattle.fidl_ir.specs.Terms.{definitions_view}
use Rattle.fidl_type_shape.specs.declared.fault.FigureFault.{FigureFault}
use Rattle.fidl_type_shape.specs.Faults.{IsTrueOf}
use Rattle.fidl_layout.proofs.Forms.{form_there}
use Rattle.fidl_layout.proofs.figures.fault_of.Goals as goal

pub place_of-requires : goal.place_of-requires
place_of-requires c =
    let terms = definitions_view c.args.definitions.now in
    let h = subst (λ (fault : FigureFault). IsTrueOf terms fault) c.in-TooNested.is c.requires.is_true in
    form_there c.args.types.now c.forms-forms.result.now terms c.forms-forms.ensures c.requires.checked.definitions c.in-TooNested.definition h.definition h.stands

pub place_of-requires-in-TooLarge : goal.place_of-requires-in-TooLarge
place_of-requires-in-TooLarge c =
    let terms = definitions_view c.args.definitions.now in
    let h = subst (λ (fault : FigureFault). IsTrueOf terms fault) c.in-TooLarge.is c.requires.is_true in
    form_there c.args.types.now c.forms-forms.result.now terms c.forms-forms.ensures c.requires.checked.definitions c.in-TooLarge.definition h.definition h.stands

pub place_of-requires-in-TooManyMembers : goal.place_of-requires-in-TooManyMembers
place_of-requires-in-TooManyMembers c =
    let terms = definitions_view c.args.definitions.now in
    let h = subst (λ (fault : FigureFault). IsTrueOf terms fault) c.in-TooManyMembers.is c.requires.is_true in
    form_there c.args.types.now c.forms-forms.result.now terms c.forms-forms.ensures c.requires.checked.definitions c.in-TooManyMembers.definition h.definition h.stands
