use Rattle.std.proofs.Common.{◌≡◌, ◌+◌, ◌++◌, ◌∷◌, [], ◌<◌, ℕ, List, length, take, ap, sym, ◌∙◌, append_assoc, length-append, arith}
use Rattle.std.proofs.lemmas.List.{take_more, length-take-le}
use Rattle.fidl_named.proofs.FullNames.{at}
use Rattle.fidl_const.specs.Columns.{member_list, nodes_of, nodes_in, starts_in}
use Rattle.fidl_const.proofs.NumberedNodes.{nodes_more, starts_more}
use Rattle.fidl_const.proofs.nodes.push_file.Goals as goal

pub loop-index-preserved : goal.loop-index-preserved
loop-index-preserved c =
    let k = c.args.file_index in
    let i = c.loop-index.index in
    let xs = c.args.declarations.now in
    let d = c.index-declarations-index.result in
    let before = c.args.nodes.now.items in
    let ns = c.loop-index.nodes in
    let ds = take i xs in
    let lt : i < length xs = omega arith in
    let taken : take (i + 1) xs ≡ ds ++ d ∷ [] = take_more xs i d lt ∙ ap (λ y. ds ++ y ∷ []) (sym c.index-declarations-index.is) in
    let short : length ds ≡ i = length-take-le i xs (omega arith) in
    let place : i ≡ 0 + length ds = omega (arith, short) in
    let whole : length ns.items ≡ length before + length (nodes_in k 0 ds) = ap length c.loop-index.invariant.nodes ∙ length-append before (nodes_in k 0 ds) in
    let start : c.len.result ≡ length before + length (nodes_in k 0 ds) = c.len.ensures ∙ ns.ok.0 ∙ whole in
    record {
      nodes = c.in_ok-push_declaration.ensures
          ∙ ap (λ n. ns.items ++ nodes_of (at k i) n) c.member_count.ensures
          ∙ ap (λ l. l ++ nodes_of (at k i) (length (member_list d.body))) c.loop-index.invariant.nodes
          ∙ append_assoc before (nodes_in k 0 ds) (nodes_of (at k i) (length (member_list d.body)))
          ∙ ap (λ l. before ++ l) (sym (nodes_more k 0 ds i d place) ∙ ap (nodes_in k 0) (sym taken));
      starts = ◌∙◌ {A = List ℕ} c.in_ok-push.ensures.items (ap (λ l. l ++ c.len.result ∷ []) c.loop-index.invariant.starts)
          ∙ sym (starts_more k (length before) 0 ds d c.len.result start)
          ∙ ap (starts_in (length before)) (sym taken);
    }
