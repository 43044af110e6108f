use Rattle.std.proofs.Common.{◌∙◌, arith, ap, sym, List, get_or}
use Rattle.fidl_tree.specs.declared.path.PathPart.{PathPart}
use Rattle.fidl_named.proofs.Spans.{last_span-more}
use Rattle.fidl_named.proofs.Texts.{no_part}
use Rattle.fidl_named.proofs.name_texts.path_span.Goals as goal

pub loop-part-preserved : goal.loop-part-preserved
loop-part-preserved c =
    let i = c.loop-part.part-index in
    let lt = c.loop-part-test.true in
    ap (λ (ps : List PathPart). (get_or ps i no_part).name) c.deref-part-items.ensures.value
    ∙ sym (last_span-more c.args.path.now.first c.args.path.now.rest.items i no_part (omega (arith, c.deref-part-items.ensures.len)))
