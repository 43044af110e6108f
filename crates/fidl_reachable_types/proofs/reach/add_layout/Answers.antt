use Rattle.std.proofs.Common.{◌≡◌, get_or, sym, subst, arith}
use Rattle.std.proofs.Math.ListN.{length-map}
use Rattle.std.proofs.lemmas.List.{get_or_past}
use Rattle.fidl_wire.specs.Term.{Term, nothing}
use Rattle.fidl_ir.specs.Terms.{definition_view, definitions_view}
use Rattle.fidl_ir.specs.Members.{member_types}
use Rattle.fidl_reachable_types.specs.Growing.{GrowsBy}
use Rattle.fidl_reachable_types.proofs.Growth.{begins}
use Rattle.fidl_reachable_types.proofs.reach.add_layout.Goals as goal

pub returns-in-None-clause-ok : goal.returns-in-None-clause-ok
returns-in-None-clause-ok c =
    let none : get_or (definitions_view c.args.definitions.now) c.args.number nothing ≡ nothing =
    let past = c.in-None.ensures.lookup in
    get_or_past (definitions_view c.args.definitions.now) c.args.number nothing (omega (arith, past, length-map c.args.definitions.now definition_view)) in
    subst (λ (t : Term). GrowsBy c.args.list.now c.args.list.now (member_types t)) (sym none) (begins c.args.list.now c.requires.kept)
