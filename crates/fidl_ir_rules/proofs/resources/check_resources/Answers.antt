use Rattle.std.proofs.Common.{◌≡◌, ◌∙◌, ℕ, Bool, List, ap, get_or, subst}
use Rattle.std.specs.Result.{OnOk}
use Rattle.fidl_wire.specs.Term.{nothing}
use Rattle.fidl_ir.specs.Terms.{definitions_view}
use Rattle.fidl_ir_rules.specs.Resources.{is_resource, MembersHold, mark_of}
use Rattle.fidl_ir_rules.specs.Flags.{is_flagged}
use Rattle.fidl_ir_rules.proofs.resources.check_resources.Goals as goal

pub returns-clause-ok : goal.returns-clause-ok
returns-clause-ok c =
    let terms = definitions_view c.args.definitions.now in
    let marks = c.args.marks.now in
    let same : is_flagged c.deref.result.now ≡ is_resource terms marks = λ i j. (ap (λ (fs : List Bool). is_flagged fs j) c.deref.ensures.value ∙ c.in_ok-flags.ensures j) i in
    subst (λ (p : ℕ → Bool). OnOk c.check_members.result ((i : ℕ) → MembersHold p (mark_of marks i) (get_or terms i nothing))) same c.check_members.ensures.ok
