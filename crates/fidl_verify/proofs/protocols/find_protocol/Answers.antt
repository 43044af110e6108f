use Rattle.std.proofs.Common.{◌≢◌, ◌≡◌, ◌∙◌, sym, below_more, false, true}
use Rattle.std.specs.Cmp.Lexicographic.{bytes_decides}
use Rattle.fidl_table_format.specs.Protocol.{protocol_name}
use Rattle.fidl_verify.proofs.Ordinals.{next_before}
use Rattle.fidl_verify.proofs.protocols.find_protocol.Goals as goal

pub loop-index-preserved : goal.loop-index-preserved
loop-index-preserved c = record {
  before = next_before c.args.table.now.bytes.now c.args.table.now.header c.loop-index.index c.loop-index.first c.protocol.result c.protocol.ensures c.loop-index.invariant.before;
  others =
      below_more (λ k. protocol_name c.args.table.now.bytes.now c.args.table.now.header k ≢ c.args.name.now) _ c.loop-index.invariant.others
      (λ e.
      let same = (bytes_decides c.protocol_name.result.now c.args.name.now).1 (c.protocol_name.ensures ∙ e) in
      let never : false ≡ true = sym c.if-eq.false ∙ c.eq.ensures ∙ same in
      cc);
}
