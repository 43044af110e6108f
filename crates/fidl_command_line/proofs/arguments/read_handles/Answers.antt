use Rattle.std.proofs.Common.{rules}
use Rattle.fidl_command_line.proofs.HandleTexts.{one_more, refused_handle}
use Rattle.fidl_command_line.proofs.arguments.read_handles.Goals as goal

pub returns-in_default-clause-fault_is_true : goal.returns-in_default-clause-fault_is_true
returns-in_default-clause-fault_is_true c =
    refused_handle c.args.texts.now c.loop-text.text-index _ c.loop-text-test.true c.loop-text.handles.items c.bad_handle.result _ c.loop-text.invariant c.in_default.ensures.none (let e = c.len.ensures in search (rules, e)) c.bad_handle.ensures

pub loop-text-preserved : goal.loop-text-preserved
loop-text-preserved c = one_more c.args.texts.now c.loop-text.text-index _ c.loop-text-test.true c.loop-text.handles.items c.push.new.self.items c.in-Some.handle c.loop-text.invariant c.in-Some.ensures.some (let p = c.push.ensures.items in search (rules, p))
