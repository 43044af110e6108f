use Rattle.std.proofs.Common.{◌≡◌, ℕ, ◌∙◌, subst}
use Rattle.fidl_table_format.specs.Section.{header_of}
use Rattle.fidl_table_format.specs.Method.{IsMethodAt, HasNoMethod, method_number}
use Rattle.fidl_verify.specs.Lookups.{TableProtocol}
use Rattle.fidl_verify.proofs.Placed.{rising, with_ordinal, without_ordinal}
use Rattle.fidl_verify.proofs.protocol.Protocol.method.Goals as goal

pub find_method-requires-clause-rises : goal.find_method-requires-clause-rises
find_method-requires-clause-rises c = rising c.self.inside.sections.bytes.now c.self.inside.sections.header c.self.inside.sections.is_header c.self.inside.found.index c.self.inside.found.first c.self.inside.found.end c.self.invariant.1 c.self.invariant.2 c.self.invariant.0.well_formed c.self.invariant.0.within

pub returns-clause-found : goal.returns-clause-found
returns-clause-found c =
    let found = c.in-Some.ensures.found in
    let it = with_ordinal c.self.inside.sections.bytes.now c.self.inside.sections.header c.self.inside.sections.is_header c.self.inside.found.index c.self.inside.found.first c.self.inside.found.end c.self.invariant.1 c.self.invariant.2 c.args.ordinal c.in-Some.index found.0 found.1 found.2 in
    subst (λ (p : TableProtocol). (x : ℕ) × IsMethodAt p.table (header_of p.table) p.number c.args.ordinal x × (c.new.result.number ≡ method_number p.table (header_of p.table) p.number x)) c.self.view_is
    (it.0, it.1, c.new.ensures.number ∙ it.2)

pub returns-in_default-clause-none : goal.returns-in_default-clause-none
returns-in_default-clause-none c =
    subst (λ (p : TableProtocol). HasNoMethod p.table (header_of p.table) p.number c.args.ordinal) c.self.view_is
    (without_ordinal c.self.inside.sections.bytes.now c.self.inside.sections.header c.self.inside.sections.is_header c.self.inside.found.index c.self.inside.found.first c.self.inside.found.end c.self.invariant.1 c.self.invariant.2 c.args.ordinal c.in_default.ensures.none)
