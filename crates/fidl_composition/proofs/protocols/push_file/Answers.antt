use Rattle.std.proofs.Common.{◌≡◌, ◌≤◌, ◌∙◌, ◌∷◌, [], ◌++◌, ℕ, List, Some, length, ap, refl, sym, subst}
use Rattle.std.specs.Prelude.{slice_get}
use Rattle.std.proofs.lemmas.Option.{slice_get_read}
use Rattle.fidl_tree.specs.declared.declaration.Declaration.{Declaration}
use Rattle.fidl_named.specs.Constraints.{IsDeclarationAt}
use Rattle.fidl_composition.specs.Tables.{at, IsRowTo}
use Rattle.fidl_composition.proofs.Numbering.{keeps_itself, keeps_then, row_begins, adds_keeps, to_next, row_next, to_end, row_whole}
use Rattle.fidl_composition.proofs.protocols.push_file.Goals as goal

pub loop-index-init : goal.loop-index-init
loop-index-init c =
    let fs = c.args.named.now in
    let ids = c.args.ids.now.items in
    record {
      protocols = c.requires.before;
      kept = keeps_itself ids;
      row = subst (IsRowTo fs c.args.file_index 0 ids) (sym c.new-row.ensures.items) (row_begins fs c.args.file_index ids);
    }

pub loop-index-preserved : goal.loop-index-preserved
loop-index-preserved c =
    let fs = c.args.named.now in
    let k = c.args.file_index in
    let i = c.loop-index.index in
    let f = c.file-file.result.now in
    let d = c.declaration-item.result in
    let items = c.deref-declaration-items.result.now in
    let old = c.loop-index.ids.items in
    let new = c.push_protocol.new.ids.items in
    let row = c.loop-index.row.items in
    let inv = c.loop-index.invariant in
    let adds = c.in_ok-push_protocol.ensures in
    let stands : IsDeclarationAt fs (at k i) f d = record {
      file_at = c.file-file.ensures;
      stands = subst (λ (l : List Declaration). slice_get l i ≡ Some d) c.deref-declaration-items.ensures.value (slice_get_read items (length items) i d refl c.loop-index-test.true c.declaration-item.is);
    } in
    let now : c.push.new.self.items ≡ row ++ length old ∷ [] = ◌∙◌ {A = List ℕ} c.in_ok-push.ensures.items (ap (λ (n : ℕ). row ++ n ∷ []) (c.len.ensures ∙ c.loop-index.ids.ok.0)) in
    record {
      protocols = to_next fs k i f d stands old new adds inv.protocols;
      kept = keeps_then c.args.ids.now.items old new inv.kept (adds_keeps fs k i f d stands old new adds);
      row = row_next fs k i f d stands old new adds row c.push.new.self.items now inv.row;
    }

pub returns-clause-protocols : goal.returns-clause-protocols
returns-clause-protocols c =
    let past = c.loop-index-test.false in
    let over = subst (λ (l : List Declaration). length l ≤ c.loop-index.index) c.deref-declaration-items.ensures.value past in
    to_end c.args.named.now c.args.file_index c.loop-index.index c.file-file.result.now c.file-file.ensures over c.loop-index.ids.items c.loop-index.invariant.protocols

pub returns-clause-numbers : goal.returns-clause-numbers
returns-clause-numbers c =
    let past = c.loop-index-test.false in
    let over = subst (λ (l : List Declaration). length l ≤ c.loop-index.index) c.deref-declaration-items.ensures.value past in
    row_whole c.args.named.now c.args.file_index c.loop-index.index c.file-file.result.now c.file-file.ensures over c.loop-index.ids.items c.loop-index.row.items c.loop-index.invariant.row
