use Rattle.std.proofs.Common.{◌≡◌, ◌+◌, ◌++◌, ◌∷◌, [], ℕ, List, length, ap, sym, subst, ◌∙◌, arith}
use Rattle.fidl_named.specs.declared.place.DeclarationId.{DeclarationId}
use Rattle.fidl_names.specs.DeclarationNumbers.{ids_in}
use Rattle.fidl_names.proofs.Numbering.{AreNumberedTo, numbered_more, numbered_all}
use Rattle.fidl_names.proofs.declaration_numbers.number_declarations.Goals as goal

pub loop-file_index-preserved : goal.loop-file_index-preserved
loop-file_index-preserved c =
    let k = c.loop-file_index.file_index in
    let f = c.file.result.now in
    let ps = c.loop-file_index.ids in
    let ss = c.loop-file_index.starts in
    let start : c.len.result ≡ length ps.items = c.len.ensures ∙ ps.ok.0 in
    let count : c.len-in-loop-file_index.result ≡ length f.declarations.items = c.len-in-loop-file_index.ensures ∙ f.declarations.ok.0 in
    let starts : c.push.new.self.items ≡ ss.items ++ length ps.items ∷ [] = ◌∙◌ {A = List ℕ} c.in_ok-push.ensures.items (ap (λ n. ss.items ++ n ∷ []) start) in
    let ids : c.push_ids.new.ids.items ≡ ps.items ++ ids_in k (length f.declarations.items) = c.in_ok-push_ids.ensures ∙ ap (λ n. ps.items ++ ids_in k n) count in
    let more = numbered_more c.args.set.now k ps.items ss.items f c.loop-file_index.invariant c.file.ensures in
    subst (λ (l : List DeclarationId). AreNumberedTo c.args.set.now (k + 1) l c.push.new.self.items) (sym ids)
    (subst (λ (l : List ℕ). AreNumberedTo c.args.set.now (k + 1) (ps.items ++ ids_in k (length f.declarations.items)) l) (sym starts) more)

pub returns : goal.returns
returns c =
    let over = c.loop-file_index-test.false in
    let long = c.count-file_index-end.ensures in
    numbered_all c.args.set.now c.loop-file_index.file_index c.loop-file_index.ids.items c.loop-file_index.starts.items (omega arith) c.loop-file_index.invariant
