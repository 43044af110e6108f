use Rattle.std.proofs.Common.{◌≡◌, ◌+◌, ℕ, List, length, map, take, sym, subst, ap, ◌∙◌}
use Rattle.std.specs.Prelude.{Some, slice_get}
use Rattle.std.proofs.lemmas.List.{length-append}
use Rattle.fidl_tree.specs.declared.file.File.{File}
use Rattle.fidl_compile.specs.Sources.{ReadsAs, ReadAs}
use Rattle.fidl_compile.specs.Stages.{SourceRefused}
use Rattle.fidl_compile.proofs.Zipped.{made_at, next_more}
use Rattle.fidl_compile.proofs.sources.read_sources.Goals as goal

pub returns-in-Err-clause-stop : goal.returns-in-Err-clause-stop
returns-in-Err-clause-stop c =
    let count = sym c.loop-file.invariant.0 in
    let at = made_at (λ s. s.now) c.args.sources.now c.loop-file.file _ c.loop-file-test.true in
    subst (λ n. (src : List ℕ) × (slice_get (map (λ s. s.now) c.args.sources.now) n ≡ Some src) × SourceRefused src n c.in-Err.fault) count
    (_, at, c.in-Err.ensures.fault_is_true)

pub loop-file-preserved : goal.loop-file-preserved
loop-file-preserved c =
    let texts = map (λ s. s.now) c.args.sources.now in
    let files = c.loop-file.files.items in
    let at = made_at (λ s. s.now) c.args.sources.now c.loop-file.file _ c.loop-file-test.true in
    let items = c.in_ok-push-in-Ok.ensures.items in
    let more = next_more ReadsAs texts files c.loop-file.file _ c.in-Ok.tree c.loop-file.invariant.1 at c.in-Ok.ensures.ok in (
      ap length items ∙ length-append files _ ∙ ap (λ n. n + 1) c.loop-file.invariant.0,
      subst (λ (fs : List File). ReadAs (take (c.loop-file.file + 1) texts) fs) (sym items) more,
    )
