use Rattle.std.proofs.Common.{◌≡◌, ◌+◌, ◌++◌, List, length, ap, sym, subst, ◌∙◌, arith}
use Rattle.std.specs.Global.{Vec}
use Rattle.fidl_named.specs.declared.meaning.Meaning.{Meaning}
use Rattle.fidl_const.specs.Columns.{nodes_in, starts_in}
use Rattle.fidl_const.proofs.NumberedNodes.{AreNumberedTo, numbered_more, numbered_all}
use Rattle.fidl_const.proofs.nodes.number_nodes.Goals as goal

pub loop-file_index-preserved : goal.loop-file_index-preserved
loop-file_index-preserved c =
    let files = c.args.named.now in
    let k = c.loop-file_index.file_index in
    let f = c.file.result.now in
    let ns = c.loop-file_index.nodes.items in
    let ss = c.loop-file_index.starts.items in
    let row = c.in_ok-row.row in
    let declarations = c.deref.ensures.value in
    let nodes : c.push_file.new.nodes.items ≡ ns ++ nodes_in k 0 f.declarations.items = c.in_ok-row.ensures.nodes ∙ ap (λ l. ns ++ nodes_in k 0 l) declarations in
    let starts : row.items ≡ starts_in (length ns) f.declarations.items = c.in_ok-row.ensures.starts ∙ ap (starts_in (length ns)) declarations in
    let more = numbered_more files k ns ss f row c.loop-file_index.invariant c.file.ensures starts in
    subst (λ (l : List Meaning). AreNumberedTo files (k + 1) l c.push.new.self.items) (sym nodes)
    (subst (λ (l : List (Vec _)). AreNumberedTo files (k + 1) (ns ++ nodes_in k 0 f.declarations.items) l) (sym c.in_ok-push.ensures.items) more)

pub returns : goal.returns
returns c =
    let over = c.loop-file_index-test.false in
    let long = c.count-file_index-end.ensures in
    numbered_all c.args.named.now c.loop-file_index.file_index c.loop-file_index.nodes.items c.loop-file_index.starts.items (omega arith) c.loop-file_index.invariant
