use Rattle.std.proofs.Common.{◌+◌, ◌-◌, ap, refl, ◌∙◌, arith}
use Rattle.fidl_table_format.specs.Section.{header_of}
use Rattle.fidl_table_format.specs.declared.record.Header.{Header}
use Rattle.fidl_text.specs.Listing.{lines_from, record_line, count_of, section_text}
use Rattle.fidl_text.proofs.Written.{so_far_none, so_far_more, so_far_failed, so_far_all, so_far_as, failed_as}
use Rattle.fidl_text.proofs.Records.{lines_begin, lines_more, lines_end}
use Rattle.fidl_text.proofs.listing.write_section.Goals as goal

pub loop-index-init : goal.loop-index-init
loop-index-init g c =
    let h = header_of c.args.table.now in
    (so_far_as _ _ _ _ _ (so_far_none _ (section_text c.args.table.now c.args.section)) (lines_begin (record_line c.args.section c.args.table.now h) (count_of c.args.section h)), refl)

pub returns-in_err-write_record-clause-text : goal.returns-in_err-write_record-clause-text
returns-in_err-write_record-clause-text g c =
    let h = header_of c.args.table.now in
    let i = c.loop-index.index in
    let line = record_line c.args.section c.args.table.now h in
    let count = count_of c.args.section h in
    let counted = c.count-count.ensures ∙ ap (λ (k : Header). count_of c.args.section k) (c.read_header.ensures ∙ ap header_of c.bytes.ensures.value) in
    failed_as _ _ _ c.from_residual.result c.from_residual.ensures.0
    (so_far_failed _ _ _ _ _ _ (lines_from line (i + 1) (count - (i + 1))) c.loop-index.invariant.0 c.in_err-write_record.ensures.text (lines_more line i count (omega (arith, c.loop-index-test.true, counted))))

pub loop-index-preserved : goal.loop-index-preserved
loop-index-preserved g c =
    let h = header_of c.args.table.now in
    let i = c.loop-index.index in
    let line = record_line c.args.section c.args.table.now h in
    let count = count_of c.args.section h in
    let counted = c.count-count.ensures ∙ ap (λ (k : Header). count_of c.args.section k) (c.read_header.ensures ∙ ap header_of c.bytes.ensures.value) in (
      so_far_more _ _ _ _ _ _ (lines_from line (i + 1) (count - (i + 1))) c.loop-index.invariant.0 c.in_ok-write_record.ensures.text (lines_more line i count (omega (arith, c.loop-index-test.true, counted))),
      c.in_ok-write_record.ensures.kept ∙ c.loop-index.invariant.1,
    )

pub returns-clause-text : goal.returns-clause-text
returns-clause-text g c =
    let h = header_of c.args.table.now in
    let count = count_of c.args.section h in
    let counted = c.count-count.ensures ∙ ap (λ (k : Header). count_of c.args.section k) (c.read_header.ensures ∙ ap header_of c.bytes.ensures.value) in
    so_far_all _ _ _ _ c.loop-index.invariant.0 (lines_end (record_line c.args.section c.args.table.now h) c.loop-index.index count (omega (arith, c.loop-index-test.false, counted)))
