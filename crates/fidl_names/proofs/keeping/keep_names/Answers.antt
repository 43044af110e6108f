use Rattle.std.proofs.Common.{◌≡◌, ◌++◌, ◌∷◌, [], length, ap, sym, subst, ◌∙◌, arith}
use Rattle.std.specs.Prelude.{slice_get, Some}
use Rattle.std.proofs.Math.ListN.{length-map}
use Rattle.std.proofs.lemmas.List.{length_push, map-append}
use Rattle.fidl_named.specs.declared.kept_names.KeptNames.{KeptNames}
use Rattle.fidl_named.specs.KeptNames.{AreKeptIn, kept_rows}
use Rattle.fidl_named.proofs.KeptMeanings.{kept_rows_more}
use Rattle.fidl_names.proofs.keeping.keep_names.Goals as goal

pub loop-file_index-preserved : goal.loop-file_index-preserved
loop-file_index-preserved c =
    let files = c.args.names.now.set.now in
    let rows = c.loop-file_index.rows.items in
    let kept = c.in_ok-kept.kept in
    let i = c.loop-file_index.file_index in
    let f = c.file.result.now in
    let count : length rows ≡ i = c.loop-file_index.invariant.long in
    let seen : length (kept_rows rows) ≡ i = length-map rows (λ (r : KeptNames). r.names.items) ∙ count in
    let now : kept_rows c.push.new.self.items ≡ kept_rows rows ++ kept.names.items ∷ [] = ap kept_rows c.in_ok-push.ensures.items ∙ map-append (λ (r : KeptNames). r.names.items) rows (kept ∷ []) in
    let at : slice_get files (length (kept_rows rows)) ≡ Some f = ap (slice_get files) seen ∙ c.file.ensures in
    record {
      long = ap length c.in_ok-push.ensures.items ∙ length_push rows kept ∙ omega (arith, count);
      each = subst (AreKeptIn files) (sym now) (kept_rows_more files (kept_rows rows) kept.names.items f c.loop-file_index.invariant.each at c.in_ok-kept.ensures);
    }
