use Rattle.std.proofs.Common.{◌<◌, ℕ, suc, ◌∙◌, ap, sym, subst}
use Rattle.fidl_table_format.specs.Section.{header_of}
use Rattle.fidl_table_format.specs.Protocol.{IsProtocol, IsFirstProtocol, HasNoProtocol, methods_before}
use Rattle.fidl_table_format.specs.WellFormed.{WellFormed}
use Rattle.fidl_verify.proofs.table.Table.protocol.Goals as goal

pub find_protocol-requires : goal.find_protocol-requires
find_protocol-requires c =
    let s = c.sections.result.now in
    let w = subst WellFormed (sym c.sections.ensures.bytes) c.sections.ensures.well_formed in
    record { rules = subst (λ h. (index : ℕ) → index < h.protocols → IsProtocol s.bytes.now h index) (sym s.is_header) w.protocols }

pub invariant_of-result : goal.invariant_of-result
invariant_of-result c =
    let s = c.sections.result.now in
    let found = c.in-Some.ensures in (
      record { well_formed = subst WellFormed (sym c.sections.ensures.bytes) c.sections.ensures.well_formed; within = subst (λ h. c.in-Some.found.index < h.protocols) s.is_header found.found.within },
      found.first ∙ ap (λ h. methods_before s.bytes.now h c.in-Some.found.index) s.is_header,
      found.end ∙ ap (λ h. methods_before s.bytes.now h (suc c.in-Some.found.index)) s.is_header,
    )

pub returns-clause-found : goal.returns-clause-found
returns-clause-found c =
    let s = c.sections.result.now in
    subst (λ b. IsFirstProtocol b (header_of b) c.args.name.now c.in-Some.found.index) c.sections.ensures.bytes
    (subst (λ h. IsFirstProtocol s.bytes.now h c.args.name.now c.in-Some.found.index) s.is_header c.in-Some.ensures.found)

pub returns-in_default-clause-none : goal.returns-in_default-clause-none
returns-in_default-clause-none c =
    let s = c.sections.result.now in
    subst (λ b. HasNoProtocol b (header_of b) c.args.name.now) c.sections.ensures.bytes (subst (λ h. HasNoProtocol s.bytes.now h c.args.name.now) s.is_header c.in_default.ensures.none)
