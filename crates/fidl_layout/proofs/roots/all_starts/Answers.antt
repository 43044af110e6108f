use Rattle.std.proofs.Common.{◌≡◌, ◌∙◌, ◌∷◌, ◌++◌, [], map, sym, subst, ap, take, ◌+◌}
use Rattle.std.specs.List.{AllZip}
use Rattle.std.proofs.lemmas.List.{map-append}
use Rattle.fidl_layout.specs.Roots.{AreStarts}
use Rattle.fidl_layout.proofs.Starts.{zip_more}
use Rattle.fidl_layout.proofs.roots.all_starts.Goals as goal

pub loop-file_index-preserved : goal.loop-file_index-preserved
loop-file_index-preserved c =
    let files = c.args.named.now in
    let i = c.loop-file_index.file_index in
    let keys = map (λ s. s.keys) c.loop-file_index.found.items in
    let set = c.in_ok-type_starts.field-0 in
    let all : map (λ s. s.keys) c.push.new.self.items ≡ keys ++ set.keys ∷ [] = ap (map (λ s. s.keys)) c.in_ok-push.ensures.items ∙ map-append (λ s. s.keys) c.loop-file_index.found.items (set ∷ []) in
    subst (λ l. AllZip AreStarts (take (i + 1) files) l) (sym all) (zip_more AreStarts files i c.file.result.now c.file.ensures keys set.keys c.loop-file_index.invariant c.in_ok-type_starts.ensures)
