use Rattle.std.proofs.Common.{◌≡◌, ◌⊎◌, ◌<◌, ◌+◌, ℕ, List, Some, length, take, drop, get_or, inl, inr, ap, sym, subst, ◌∙◌, refl}
use Rattle.std.specs.Prelude.{slice_get}
use Rattle.std.specs.List.{Contains}
use Rattle.std.specs.Global.{Vec}
use Rattle.std.proofs.Math.ListN.{length-map, length-set}
use Rattle.std.proofs.lemmas.List.{take_all, take_more, take_at}
use Rattle.std.proofs.lemmas.List.Elements.{Contains-get_or, Contains-push_cases}
use Rattle.std.proofs.lemmas.Option.{slice_get-get_or, slice_get_read, same_Some}
use Rattle.fidl_tree.specs.declared.file.File.{File}
use Rattle.fidl_named.specs.declared.place.DeclarationId.{DeclarationId}
use Rattle.fidl_named.specs.declared.ends.AliasEnd.{AliasEnd}
use Rattle.fidl_named.specs.declared.meaning.Meaning.TheVariants as meaning
use Rattle.fidl_named.specs.Aliases.{IsEnd, HasEnd, rows_of}
use Rattle.fidl_names.specs.AliasGraph.{IsAliasOrder}
use Rattle.fidl_named.specs.FullNames.{HasDeclaration}
use Rattle.fidl_names.specs.DeclarationNumbers.{number_of, AreNumbered}
use Rattle.fidl_names.specs.MeaningRows.{IsWithin, with_end}
use Rattle.fidl_names.proofs.MeaningRows.{within_more, end_here, end_kept}
use Rattle.fidl_names.proofs.AliasNames.{follows_refers}
use Rattle.fidl_names.proofs.alias_ends.find_ends.Goals as goal

-- one end more
module _ (fs : List File) (ps : List DeclarationId) (ss : List ℕ) (numbered : AreNumbered fs ps ss) (order : List ℕ) (i : ℕ) (lt : i < length order) (p : DeclarationId) (at : slice_get ps (get_or order i 0) ≡ Some p) (rows : List (List AliasEnd))
    (within : IsWithin rows p) (end : AliasEnd) (is_end : IsEnd fs (meaning.Declared p) end) where
  new_end : ((q : DeclarationId) → HasDeclaration fs q → Contains (take i order) (number_of ss q) → HasEnd fs rows q) → (q : DeclarationId) → HasDeclaration fs q → Contains (take (i + 1) order) (number_of ss q) → HasEnd fs (with_end rows p end) q
  new_end old q there h = either (Contains-push_cases (take i order) (get_or order i 0) (number_of ss q) (subst (λ l. Contains l (number_of ss q)) (take_more order i 0 lt) h))
    where
      either : Contains (take i order) (number_of ss q) ⊎ (get_or order i 0 ≡ number_of ss q) → HasEnd fs (with_end rows p end) q
      either (inl before) = end_kept rows p end within fs is_end q (old q there before)
      either (inr last) =
          let same = same_Some p q (sym at ∙ ap (slice_get ps) last ∙ numbered.numbered q there) in
          subst (HasEnd fs (with_end rows p end)) same (end_here rows p end within fs is_end)

-- what stands at a number of the order
at_number : (fs : List File) (ss : List ℕ) (ps : List DeclarationId) (order : List ℕ) → IsAliasOrder fs ss ps order → (i : ℕ) → i < length order → (p : DeclarationId) → p ≡ get_or ps (get_or order i 0) p → slice_get ps (get_or order i 0) ≡ Some p
at_number fs ss ps order o i lt p is = slice_get_read ps (length ps) (get_or order i 0) p refl (o.points (get_or order i 0) (Contains-get_or order i 0 lt)) is

pub index-id-requires : goal.index-id-requires
index-id-requires c =
    let order = c.args.order.now in
    let i = c.loop-number.number-index in
    let within = c.requires.order.points (get_or order i 0) (Contains-get_or order i 0 c.loop-number-test.true) in
    subst (λ n. get_or order i 0 < n) (sym c.args.numbers.now.ids.ok.0) within

pub find_end-requires-clause-stands : goal.find_end-requires-clause-stands
find_end-requires-clause-stands c =
    let n = get_or c.args.order.now c.loop-number.number-index 0 in
    let p = c.index-id.result.now in
    c.requires.numbered.declared n p
    (at_number c.args.names.now.set.now c.args.numbers.now.starts.items c.args.numbers.now.ids.items c.args.order.now c.requires.order c.loop-number.number-index c.loop-number-test.true p c.index-id.ensures)

pub find_end-requires-clause-ends : goal.find_end-requires-clause-ends
find_end-requires-clause-ends c = λ q follows there.
    let fs = c.args.names.now.set.now in
    let order = c.args.order.now in
    let i = c.loop-number.number-index in
    let p = c.index-id.result.now in
    let at = at_number fs c.args.numbers.now.starts.items c.args.numbers.now.ids.items order c.requires.order i c.loop-number-test.true p c.index-id.ensures in
    let before = c.requires.order.after i (get_or order i 0) p q (slice_get-get_or order i 0 c.loop-number-test.true) at (follows_refers fs p q follows) in
    subst (λ (l : List (Vec AliasEnd)). HasEnd fs (rows_of l) q) (sym c.deref.ensures.value) (c.loop-number.invariant.ends q there before)

pub set_end-requires : goal.set_end-requires
set_end-requires c =
    let order = c.args.order.now in
    let i = c.loop-number.number-index in
    let p = c.index-id.result.now in
    let at = at_number c.args.names.now.set.now c.args.numbers.now.starts.items c.args.numbers.now.ids.items order c.requires.order i c.loop-number-test.true p c.index-id.ensures in
    let there = c.requires.numbered.declared (get_or order i 0) p at in
    subst (λ (l : List (Vec AliasEnd)). IsWithin (rows_of l) p) (sym c.deref_mut.ensures.value) (c.loop-number.invariant.within p there)

pub loop-number-preserved : goal.loop-number-preserved
loop-number-preserved c =
    let fs = c.args.names.now.set.now in
    let ps = c.args.numbers.now.ids.items in
    let ss = c.args.numbers.now.starts.items in
    let order = c.args.order.now in
    let i = c.loop-number.number-index in
    let p = c.index-id.result.now in
    let end = c.in_ok-end.end in
    let ends = c.loop-number.ends in
    let rows = rows_of ends.items in
    let new = c.set_end.new.ends in
    let at = at_number fs ss ps order c.requires.order i c.loop-number-test.true p c.index-id.ensures in
    let there = c.requires.numbered.declared (get_or order i 0) p at in
    let within = c.loop-number.invariant.within p there in
    let now : rows_of new ≡ with_end rows p end = c.set_end.ensures ∙ ap (λ (l : List (Vec AliasEnd)). with_end (rows_of l) p end) c.deref_mut.ensures.value in
    let long : length new ≡ ends.len =
    sym (length-map new (λ (v : Vec AliasEnd). v.items)) ∙ ap length now ∙ length-set rows p.file _ ∙ length-map ends.items (λ (v : Vec AliasEnd). v.items) ∙ sym ends.ok.0 in
    let all = ap rows_of (take_at new (drop (length new) ends.items) ends.len long) ∙ now in
    record {
      within = λ q here. subst (λ (l : List (List AliasEnd)). IsWithin l q) (sym all) (within_more rows p end within q (c.loop-number.invariant.within q here));
      ends = λ q here h. subst (λ (l : List (List AliasEnd)). HasEnd fs l q) (sym all)
          (new_end fs ps ss c.requires.numbered order i c.loop-number-test.true p at rows within end c.in_ok-end.ensures c.loop-number.invariant.ends q here h);
    }

pub returns : goal.returns
returns c = λ p f d file_at stands.
    let there : HasDeclaration c.args.names.now.set.now p = record { file = f; declaration = d; file_at = file_at; stands = stands } in
    let whole = take_all c.loop-number.number-index c.args.order.now c.loop-number-test.false in
    c.loop-number.invariant.ends p there (subst (λ (l : List ℕ). Contains l (number_of c.args.numbers.now.starts.items p)) (sym whole) (c.requires.order.whole p there))
