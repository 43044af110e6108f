use Rattle.std.proofs.Common.{◌≡◌, ◌+◌, ◌++◌, ◌∷◌, [], length, ap, sym, subst, ◌∙◌, arith}
use Rattle.std.specs.Global.{Vec}
use Rattle.std.proofs.Math.ListN.{length-map}
use Rattle.std.proofs.lemmas.List.{map-append}
use Rattle.fidl_named.specs.declared.ends.AliasEnd.{AliasEnd}
use Rattle.fidl_named.specs.declared.meaning.Meaning.TheVariants as meaning
use Rattle.fidl_named.specs.declared.place.DeclarationId.{DeclarationId}
use Rattle.fidl_named.specs.Aliases.{rows_of}
use Rattle.fidl_names.specs.DeclarationNumbers.{ids_in}
use Rattle.fidl_named.specs.Aliases.{own_end}
use Rattle.fidl_names.proofs.Numbering.{length_in}
use Rattle.fidl_names.proofs.MeaningRows.{AreRowsTo, rows_more, rows_within}
use Rattle.fidl_names.proofs.alias_ends.own_rows.Goals as goal

pub loop-file_index-preserved : goal.loop-file_index-preserved
loop-file_index-preserved c =
    let files = c.args.set.now in
    let k = c.loop-file_index.file_index in
    let f = c.file.result.now in
    let rows = c.loop-file_index.rows.items in
    let row = c.in_ok-row.row in
    let long : length row.items ≡ length f.declarations.items = ap length c.in_ok-row.ensures ∙ length-map (ids_in k c.len.result) (λ (p : DeclarationId). own_end (meaning.Declared p)) ∙ length_in k c.len.result ∙ c.len.ensures ∙ f.declarations.ok.0 in
    let now : rows_of c.push.new.self.items ≡ rows_of rows ++ row.items ∷ [] = ap rows_of c.in_ok-push.ensures.items ∙ map-append (λ (v : Vec AliasEnd). v.items) rows (row ∷ []) in
    subst (AreRowsTo files (k + 1)) (sym now) (rows_more files k (rows_of rows) row.items f c.loop-file_index.invariant c.file.ensures long)

pub returns : goal.returns
returns c =
    let over = c.loop-file_index-test.false in
    let long = c.count-file_index-end.ensures in
    rows_within c.args.set.now c.loop-file_index.file_index (rows_of c.loop-file_index.rows.items) (omega (arith, over, long)) c.loop-file_index.invariant
