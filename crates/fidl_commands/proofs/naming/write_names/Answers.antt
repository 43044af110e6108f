use Rattle.std.proofs.Common.{◌+◌, ◌-◌, ◌++◌, List, ℕ, ap, refl, ◌∙◌, arith}
use Rattle.std.specs.Prelude.{codes}
use Rattle.fidl_table_format.specs.Section.{header_of}
use Rattle.fidl_table_format.specs.declared.record.Header.{Header}
use Rattle.fidl_text.specs.Listing.{lines_from}
use Rattle.fidl_text.proofs.Written.{so_far_none, so_far_more, so_far_failed, so_far_all, so_far_as, failed_as, writes_kept, appends_kept, front_as, appends_as}
use Rattle.fidl_commands.specs.Naming.{count_of, name_line, names_text}
use Rattle.fidl_commands.proofs.Names.{lines_begin, lines_more, lines_end}
use Rattle.fidl_commands.proofs.naming.write_names.Goals as goal

pub loop-index-init : goal.loop-index-init
loop-index-init g c =
    let h = header_of c.args.table.now in
    (so_far_as _ _ _ _ _ (so_far_none _ (names_text c.args.named c.args.table.now)) (lines_begin (name_line c.args.named c.args.table.now) (count_of c.args.named h)), refl)

pub returns-in_err-write_name-clause-text : goal.returns-in_err-write_name-clause-text
returns-in_err-write_name-clause-text g c =
    let i = c.loop-index.index in
    let line = name_line c.args.named c.args.table.now in
    let count = count_of c.args.named (header_of c.args.table.now) in
    let counted = c.count-count.ensures ∙ ap (λ (k : Header). count_of c.args.named k) (c.read_header.ensures ∙ ap header_of c.bytes.ensures.value) in
    let same = ap (λ (n : List ℕ). n ++ codes "\n") c.name_of.ensures in
    failed_as _ _ _ c.from_residual.result c.from_residual.ensures.0
    (so_far_failed _ _ _ _ _ _ (lines_from line (i + 1) (count - (i + 1))) c.loop-index.invariant.0 (front_as _ _ _ _ same c.in_err-write_name.ensures.text) (lines_more line i count (omega (arith, c.loop-index-test.true, counted))))

pub loop-index-preserved : goal.loop-index-preserved
loop-index-preserved g c =
    let i = c.loop-index.index in
    let line = name_line c.args.named c.args.table.now in
    let count = count_of c.args.named (header_of c.args.table.now) in
    let counted = c.count-count.ensures ∙ ap (λ (k : Header). count_of c.args.named k) (c.read_header.ensures ∙ ap header_of c.bytes.ensures.value) in
    let same = ap (λ (n : List ℕ). n ++ codes "\n") c.name_of.ensures in (
      so_far_more _ _ _ _ _ _ (lines_from line (i + 1) (count - (i + 1))) c.loop-index.invariant.0 (appends_as _ _ _ _ same c.in_ok-write_name.ensures.text) (lines_more line i count (omega (arith, c.loop-index-test.true, counted))),
      c.in_ok-write_name.ensures.kept ∙ c.loop-index.invariant.1,
    )

pub returns-clause-text : goal.returns-clause-text
returns-clause-text g c =
    let count = count_of c.args.named (header_of c.args.table.now) in
    let counted = c.count-count.ensures ∙ ap (λ (k : Header). count_of c.args.named k) (c.read_header.ensures ∙ ap header_of c.bytes.ensures.value) in
    let all = so_far_all _ _ _ _ c.loop-index.invariant.0 (lines_end (name_line c.args.named c.args.table.now) c.loop-index.index count (omega (arith, c.loop-index-test.false, counted))) in
    writes_kept _ _ _ c.flush.result (appends_kept _ _ _ _ all c.flush.ensures.bytes)
