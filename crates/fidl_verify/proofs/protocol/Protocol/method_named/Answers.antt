use Rattle.std.proofs.Common.{◌≡◌, ℕ, ◌∙◌, subst}
use Rattle.fidl_table_format.specs.Section.{header_of}
use Rattle.fidl_table_format.specs.Method.{IsFirstMethod, method_number}
use Rattle.fidl_verify.specs.Lookups.{TableProtocol}
use Rattle.fidl_verify.proofs.Placed.{with_name}
use Rattle.fidl_verify.proofs.protocol.Protocol.method_named.Goals as goal

pub returns-clause-found : goal.returns-clause-found
returns-clause-found c =
    let found = c.in-Some.ensures.found in
    let it = with_name c.self.inside.sections.bytes.now c.self.inside.sections.header c.self.inside.sections.is_header c.self.inside.found.index c.self.inside.found.first c.self.inside.found.end c.self.invariant.1 c.self.invariant.2 c.args.name.now c.in-Some.index found.0 found.1 found.2 c.in-Some.ensures.earliest in
    subst (λ (p : TableProtocol). (x : ℕ) × IsFirstMethod p.table (header_of p.table) p.number c.args.name.now x × (c.new.result.number ≡ method_number p.table (header_of p.table) p.number x)) c.self.view_is
    (it.0, it.1, c.new.ensures.number ∙ it.2)
