use Rattle.std.proofs.Common.{◌+◌, drop, refl, ◌∙◌, arith}
use Rattle.fidl_text.specs.Listing.{sections_text}
use Rattle.fidl_text.proofs.Written.{so_far_none, so_far_more, so_far_failed, so_far_all, failed_as}
use Rattle.fidl_text.proofs.Records.{sections_more, sections_end}
use Rattle.fidl_text.proofs.listing.write_sections.Goals as goal

pub loop-section-init : goal.loop-section-init
loop-section-init g c = (so_far_none _ (sections_text c.args.table.now c.args.sections.now), refl)

pub returns-in_err-write_section-clause-text : goal.returns-in_err-write_section-clause-text
returns-in_err-write_section-clause-text g c =
    let b = c.args.table.now in
    let sections = c.args.sections.now in
    let i = c.loop-section.section-index in
    failed_as _ _ _ c.from_residual.result c.from_residual.ensures.0
    (so_far_failed _ _ _ _ _ _ (sections_text b (drop (i + 1) sections)) c.loop-section.invariant.0 c.in_err-write_section.ensures.text (sections_more b sections i _ c.loop-section-test.true))

pub loop-section-preserved : goal.loop-section-preserved
loop-section-preserved g c =
    let b = c.args.table.now in
    let sections = c.args.sections.now in
    let i = c.loop-section.section-index in (
      so_far_more _ _ _ _ _ _ (sections_text b (drop (i + 1) sections)) c.loop-section.invariant.0 c.in_ok-write_section.ensures.text (sections_more b sections i _ c.loop-section-test.true),
      c.in_ok-write_section.ensures.kept ∙ c.loop-section.invariant.1,
    )

pub returns-clause-text : goal.returns-clause-text
returns-clause-text g c = so_far_all _ _ _ _ c.loop-section.invariant.0 (sections_end c.args.table.now c.args.sections.now c.loop-section.section-index (omega (arith, c.loop-section-test.false)))
