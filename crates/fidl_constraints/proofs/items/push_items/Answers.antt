use Rattle.std.proofs.Common.{◌≡◌, ◌<◌, ◌+◌, ◌++◌, ◌∙◌, ◌==◌, Bool, Bor, length, ap, sym, arith}
use Rattle.std.specs.Prelude.{slice_get}
use Rattle.std.proofs.Math.ListN.{length-map}
use Rattle.fidl_tree.specs.Views.{value_view}
use Rattle.fidl_tree.specs.declared.value.Value.{Value as Tree}
use Rattle.fidl_named.specs.ReferenceViews.{value_list_view}
use Rattle.fidl_constraints.specs.BehindViews.{given_view}
use Rattle.fidl_constraints.specs.Items.{is_word, next_rank, items_of}
use Rattle.fidl_constraints.specs.ItemViews.{items_view}
use Rattle.fidl_constraints.proofs.Listing.{last_is, value_within, value_is, listed_more, item_is, rank_low}
use Rattle.fidl_constraints.proofs.items.push_items.Goals as goal

pub loop-index-preserved : goal.loop-index-preserved
loop-index-preserved c =
    let xs = c.deref-value-items.result.now in
    let vs = value_list_view xs in
    let i = c.loop-index.index in
    let v = value_view c.value-item.result.now in
    let f = slice_get c.args.named.now c.args.given.file_index in
    let number = c.args.given.file_index in
    let rank = c.loop-index.rank in
    let lt = c.loop-index-test.true in
    let within : i < length vs = value_within xs i c.value-item.result lt c.value-item.is in
    let is = value_is xs i c.value-item.result lt c.value-item.is in
    let word : c.in_ok-word.word ≡ is_word f v = c.in_ok-word.ensures ∙ ap (λ o. is_word o v) (sym c.file-file.ensures) in
    let count : c.len.result ≡ length vs = omega (arith, c.len.ensures, ap length c.deref-value-items.ensures.value, length-map xs (λ (x : Bor Tree). value_view x.now)) in
    let last = last_is vs i c.len.result within count in
    let up : c.next_rank-rank.result ≡ next_rank (is_word f v) rank = c.next_rank-rank.ensures ∙ ap (λ (b : Bool). next_rank b rank) word in
    record {
      all = listed_more f number rank vs i v within is c.loop-index.found.items c.push.new.self.items _ c.next_rank-rank.result (items_view c.args.found.now.items ++ items_of c.args.named.now (given_view c.args.given)) c.in_ok-push.ensures.items
          (item_is number v rank c.in_ok-word.word (is_word f v) (i + 1 == c.len.result) _ word last) up c.loop-index.invariant.all;
      low = rank_low c.in_ok-word.word rank i c.next_rank-rank.result c.next_rank-rank.ensures c.loop-index.invariant.low;
    }
