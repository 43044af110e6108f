use Rattle.std.proofs.Common.{rules, ap, ◌∙◌, arith}
use Rattle.fidl_table_format.specs.Section.{header_of}
use Rattle.fidl_table_format.specs.declared.record.Header.{Header}
use Rattle.fidl_commands.specs.Naming.{count_of, name_of}
use Rattle.fidl_commands.proofs.Names.{names_more, names_end}
use Rattle.fidl_commands.proofs.naming.names_of.Goals as goal

pub loop-index-preserved : goal.loop-index-preserved
loop-index-preserved c =
    let count = count_of c.args.named (header_of c.args.table.now) in
    let counted = c.count-count.ensures ∙ ap (λ (k : Header). count_of c.args.named k) (c.read_header.ensures ∙ ap header_of c.bytes.ensures.value) in
    names_more (λ n. n.now) (name_of c.args.named c.args.table.now) c.loop-index.index count _ c.loop-index.names.items c.push.new.self.items c.name_of.result (omega (arith, c.loop-index-test.true, counted)) c.loop-index.invariant (let p = c.push.ensures.items in search (rules, p)) c.name_of.ensures

pub returns : goal.returns
returns c =
    let count = count_of c.args.named (header_of c.args.table.now) in
    let counted = c.count-count.ensures ∙ ap (λ (k : Header). count_of c.args.named k) (c.read_header.ensures ∙ ap header_of c.bytes.ensures.value) in
    names_end (λ n. n.now) (name_of c.args.named c.args.table.now) c.loop-index.index count _ c.loop-index.names.items (omega (arith, c.loop-index-test.false, counted)) c.loop-index.invariant
