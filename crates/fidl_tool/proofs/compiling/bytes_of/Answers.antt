use Rattle.std.proofs.Common.{refl, ◌∙◌, arith}
use Rattle.fidl_commands.specs.declared.files.File.{File}
use Rattle.fidl_tool.proofs.Pushed.{map_at, map_done}
use Rattle.fidl_tool.proofs.NamedFiles.{bytes_named}
use Rattle.fidl_tool.proofs.compiling.bytes_of.Goals as goal

pub loop-file-preserved : goal.loop-file-preserved
loop-file-preserved c = map_at (λ (file : File). file.bytes.now) (λ t. t.now) c.args.files.now c.loop-file.file-index _ c.loop-file.texts.items _ _ c.loop-file-test.true c.in_ok-push.ensures.items refl c.loop-file.invariant

pub returns : goal.returns
returns c = map_done (λ (file : File). file.bytes.now) (λ t. t.now) c.args.files.now c.loop-file.file-index c.loop-file.texts.items (omega (arith, c.loop-file-test.false)) c.loop-file.invariant ∙ bytes_named c.args.files.now
