use Rattle.std.proofs.Common.{◌≡◌, ◌∙◌, ◌∷◌, [], ◌++◌, ℕ, List, ap, sym, subst, arith}
use Rattle.std.specs.Global.{Vec}
use Rattle.std.proofs.lemmas.List.{map-append}
use Rattle.fidl_named.specs.declared.place.DeclarationId.{DeclarationId}
use Rattle.fidl_cycles.specs.Cycles.{points_of}
use Rattle.fidl_composition.specs.Tables.{AreNumberedTo}
use Rattle.fidl_composition.proofs.Numbering.{none_numbered, file_more, all_numbered}
use Rattle.fidl_composition.proofs.protocols.number_protocols.Goals as goal

pub loop-file_index-init : goal.loop-file_index-init
loop-file_index-init c =
    let fs = c.args.named.now in
    subst (λ (l : List DeclarationId). AreNumberedTo fs 0 l (points_of c.new-rows.result.items)) (sym c.new-ids.ensures.items)
    (subst (λ (l : List (Vec ℕ)). AreNumberedTo fs 0 [] (points_of l)) (sym c.new-rows.ensures.items) (none_numbered fs))

pub loop-file_index-preserved : goal.loop-file_index-preserved
loop-file_index-preserved c =
    let rows = c.loop-file_index.rows.items in
    let row = c.in_ok-row.row in
    let now : points_of c.push.new.self.items ≡ points_of rows ++ row.items ∷ [] = ap points_of c.in_ok-push.ensures.items ∙ map-append (λ (v : Vec ℕ). v.items) rows (row ∷ []) in
    file_more c.args.named.now c.loop-file_index.file_index c.loop-file_index.ids.items c.push_file.new.ids.items (points_of rows) (points_of c.push.new.self.items) row.items c.loop-file_index.invariant c.in_ok-row.ensures.protocols c.in_ok-row.ensures.kept c.in_ok-row.ensures.numbers now

pub returns : goal.returns
returns c =
    let over = c.loop-file_index-test.false in
    let long = c.count-file_index-end.ensures in
    all_numbered c.args.named.now c.loop-file_index.file_index c.loop-file_index.ids.items (points_of c.loop-file_index.rows.items) (omega (arith, over, long)) c.loop-file_index.invariant
