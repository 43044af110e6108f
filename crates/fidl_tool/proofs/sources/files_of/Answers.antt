use Rattle.std.proofs.Common.{ap, arith}
use Rattle.fidl_commands.specs.declared.files.File.{File}
use Rattle.fidl_tool.specs.Running.{stored_as}
use Rattle.fidl_tool.proofs.Pushed.{map_more, map_done}
use Rattle.fidl_tool.proofs.sources.files_of.Goals as goal

pub loop-source-preserved : goal.loop-source-preserved
loop-source-preserved c = map_more stored_as (λ (file : File). (file.name.now, file.bytes.now)) c.args.sources.now c.loop-source.source-index
    c.source-item.result c.loop-source.files.items _ _ c.loop-source-test.true c.source-item.is c.in_ok-push.ensures.items
    (ap (λ bytes. (c.source-item.result.name.now, bytes)) c.as_slice.ensures.value) c.loop-source.invariant

pub returns : goal.returns
returns c = map_done stored_as (λ (file : File). (file.name.now, file.bytes.now)) c.args.sources.now c.loop-source.source-index c.loop-source.files.items (omega (arith, c.loop-source-test.false)) c.loop-source.invariant
