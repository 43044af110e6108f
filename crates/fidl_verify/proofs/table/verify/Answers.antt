use Rattle.std.proofs.Common.{rules, IfErr, subst, sym, arith}
use Rattle.std.proofs.lemmas.Grind.{common_steps}
use Rattle.fidl_table_format.specs.WellFormed.{HasHeader, WellFormed}
use Rattle.fidl_verify.specs.Faults.{Breaks}
use Rattle.fidl_verify.proofs.Whole.{well_formed_from, none_of}
use Rattle.fidl_verify.proofs.table.verify.Goals as goal

pub returns-in_err-sections-clause-none : goal.returns-in_err-sections-clause-none
returns-in_err-sections-clause-none c =
    let h : IfErr c.from_residual.result (Breaks c.args.bytes.now) = first_of (search rules, grind (arith, common_steps)) in
    none_of c.args.bytes.now c.from_residual.result h

pub returns-in_err-parts-clause-none : goal.returns-in_err-parts-clause-none
returns-in_err-parts-clause-none c =
    let h : IfErr c.from_residual-in_err-parts.result (Breaks c.args.bytes.now) = first_of (search rules, grind (arith, common_steps)) in
    none_of c.args.bytes.now c.from_residual-in_err-parts.result h

pub returns-in_err-check_covered-clause-none : goal.returns-in_err-check_covered-clause-none
returns-in_err-check_covered-clause-none c =
    let h : IfErr c.from_residual-in_err-check_covered.result (Breaks c.args.bytes.now) = first_of (search rules, grind (arith, common_steps)) in
    none_of c.args.bytes.now c.from_residual-in_err-check_covered.result h

pub returns-in_err-check_roots-clause-none : goal.returns-in_err-check_roots-clause-none
returns-in_err-check_roots-clause-none c =
    let h : IfErr c.from_residual-in_err-check_roots.result (Breaks c.args.bytes.now) = first_of (search rules, grind (arith, common_steps)) in
    none_of c.args.bytes.now c.from_residual-in_err-check_roots.result h

pub returns-in_err-check_protocols-clause-none : goal.returns-in_err-check_protocols-clause-none
returns-in_err-check_protocols-clause-none c =
    let h : IfErr c.from_residual-in_err-check_protocols.result (Breaks c.args.bytes.now) = first_of (search rules, grind (arith, common_steps)) in
    none_of c.args.bytes.now c.from_residual-in_err-check_protocols.result h

pub returns-in_err-check_methods-clause-none : goal.returns-in_err-check_methods-clause-none
returns-in_err-check_methods-clause-none c =
    let h : IfErr c.from_residual-in_err-check_methods.result (Breaks c.args.bytes.now) = first_of (search rules, grind (arith, common_steps)) in
    none_of c.args.bytes.now c.from_residual-in_err-check_methods.result h

pub invariant_of-result : goal.invariant_of-result
invariant_of-result c =
    well_formed_from c.in_ok-sections.sections.bytes.now c.in_ok-sections.sections.header c.in_ok-sections.sections.is_header
    (subst (λ bytes. HasHeader bytes c.in_ok-sections.sections.header) (sym c.in_ok-sections.ensures.value) c.in_ok-sections.ensures.ok)
    c.in_ok-parts.ensures.ok c.in_ok-check_covered.ensures.covered c.in_ok-check_covered.ensures.values_covered c.in_ok-check_roots.ensures.ok
    c.in_ok-check_protocols.ensures.ok c.in_ok-check_protocols.ensures.covered c.in_ok-check_methods.ensures.ok

pub returns-clause-ok : goal.returns-clause-ok
returns-clause-ok c = subst WellFormed c.in_ok-sections.ensures.value (
    well_formed_from c.in_ok-sections.sections.bytes.now c.in_ok-sections.sections.header c.in_ok-sections.sections.is_header
    (subst (λ bytes. HasHeader bytes c.in_ok-sections.sections.header) (sym c.in_ok-sections.ensures.value) c.in_ok-sections.ensures.ok)
    c.in_ok-parts.ensures.ok c.in_ok-check_covered.ensures.covered c.in_ok-check_covered.ensures.values_covered c.in_ok-check_roots.ensures.ok
    c.in_ok-check_protocols.ensures.ok c.in_ok-check_protocols.ensures.covered c.in_ok-check_methods.ensures.ok
    )
