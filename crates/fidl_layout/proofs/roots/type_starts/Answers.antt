use Rattle.std.proofs.Common.{◌≡◌, ◌∙◌, ◌+◌, ◌<◌, ◌≤◌, ap, get_or, length, refl, subst, sym, take}
use Rattle.std.specs.List.{filter_map}
use Rattle.std.proofs.lemmas.List.{take_all}
use Rattle.fidl_tree.specs.declared.declaration.Declaration.{Declaration}
use Rattle.fidl_layout.specs.Roots.{type_start}
use Rattle.fidl_layout.proofs.Starts.{no_start, none_more, one_more, both_more, both_same}
use Rattle.fidl_layout.proofs.roots.type_starts.Goals.{in-Type+in_ok-insert, in_default}
use Rattle.fidl_layout.proofs.roots.type_starts.Goals as goal

pub loop-declaration-preserved : goal.loop-declaration-preserved
loop-declaration-preserved c =
    let ds = c.args.file.now.declarations.items in
    let i = c.loop-declaration.declaration-index in
    let d = c.declaration-item.result in
    let value = c.deref-declaration-items.ensures.value in
    let lt : i < length ds = subst (λ l. i < length l) value c.loop-declaration-test.true in
    let is : d ≡ get_or ds i d = subst (λ l. d ≡ get_or l i d) value c.declaration-item.is in
    elim c.match-declaration.branch [
      | in-Type+in_ok-insert w ↦ both_more c.loop-declaration.found.keys (filter_map (λ (x : Declaration). type_start x.body) (take i ds)) c.loop-declaration.invariant c.match-declaration.found.keys (filter_map (λ (x : Declaration). type_start x.body) (take (i + 1) ds)) w.in-Type.declared.name.from
          (ap (λ s. s.keys) w.found-is ∙ w.in_ok-insert.ensures.keys)
          (one_more (λ (x : Declaration). type_start x.body) ds i d lt is w.in-Type.declared.name.from (ap type_start w.in-Type.is))
      | in_default w ↦ both_same c.loop-declaration.found.keys (filter_map (λ (x : Declaration). type_start x.body) (take i ds)) c.loop-declaration.invariant c.match-declaration.found.keys (filter_map (λ (x : Declaration). type_start x.body) (take (i + 1) ds))
          (ap (λ s. s.keys) w.found-is)
          (none_more (λ (x : Declaration). type_start x.body) ds i d lt is (no_start d.body w.in_default.not-Type))
    ]

pub returns : goal.returns
returns c =
    let ds = c.args.file.now.declarations.items in
    let whole : take c.loop-declaration.declaration-index ds ≡ ds = take_all c.loop-declaration.declaration-index ds (subst (λ l. length l ≤ c.loop-declaration.declaration-index) c.deref-declaration-items.ensures.value c.loop-declaration-test.false) in
    both_same c.loop-declaration.found.keys (filter_map (λ (x : Declaration). type_start x.body) (take c.loop-declaration.declaration-index ds)) c.loop-declaration.invariant c.loop-declaration.found.keys (filter_map (λ (x : Declaration). type_start x.body) ds) refl (ap (filter_map (λ (x : Declaration). type_start x.body)) (sym whole))
