use Rattle.fidl_tree.specs.Leaf.{text_at}
use Rattle.fidl_named.proofs.Texts.{grown, no_part}
use Rattle.fidl_named.proofs.name_texts.dotted_text.Goals as goal

pub loop-part-preserved : goal.loop-part-preserved
loop-part-preserved c =
    grown c.args.file.now.src.now c.args.parts.now c.loop-part.part-index no_part c.loop-part-test.true (text_at c.args.file.now.src.now c.args.first) c.loop-part.text.items c.push.new.self.items c.extend_from_slice-in-loop-part.new.self.items c.text-in-loop-part.result.now
    c.loop-part.invariant
    c.in_ok-push.ensures.items
    c.text-in-loop-part.ensures.bytes
    c.in_ok-extend_from_slice-2.ensures.items
