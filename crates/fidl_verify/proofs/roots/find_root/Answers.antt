use Rattle.std.proofs.Common.{◌≢◌, ◌≡◌, ◌∙◌, sym, below_more, false, true}
use Rattle.std.specs.Cmp.Lexicographic.{bytes_decides}
use Rattle.fidl_table_format.specs.Root.{root_name}
use Rattle.fidl_verify.proofs.roots.find_root.Goals as goal

pub loop-index-preserved : goal.loop-index-preserved
loop-index-preserved c =
    below_more (λ k. root_name c.args.table.now.bytes.now c.args.table.now.header k ≢ c.args.name.now) _ c.loop-index.invariant
    (λ e.
    let same = (bytes_decides c.root_name.result.now c.args.name.now).1 (c.root_name.ensures ∙ e) in
    let never : false ≡ true = sym c.if-eq.false ∙ c.eq.ensures ∙ same in
    cc)
