use Rattle.std.proofs.Common.{◌≡◌, ◌++◌, ◌∷◌, [], take, map, get_or, ap, sym, subst, ◌∙◌, arith}
use Rattle.std.proofs.lemmas.List.{take_more}
use Rattle.std.proofs.Math.ListN.{get_or-map, length-map}
use Rattle.fidl_span.specs.declared.words.Span.{Span}
use Rattle.fidl_tree.specs.Leaf.{text_at}
use Rattle.fidl_named.specs.Names.{AreDistinct, IsOneOf}
use Rattle.fidl_named.specs.NameMaps.{seen, names_of}
use Rattle.fidl_names.proofs.Adding.{distinct_more, names_more, seen_more}
use Rattle.fidl_names.proofs.differ.check_names.Goals as goal

pub loop-index-preserved : goal.loop-index-preserved
loop-index-preserved c =
    let src = c.args.file.now.src.now in
    let i = c.loop-index.index in
    let ms = c.args.members.now in
    let texts = map (text_at src) ms in
    let none : Span = record { from = 0; to = 0 } in
    let lt = c.loop-index-test.true in
    let name : c.in_ok-name.name.items ≡ get_or texts i (text_at src none) =
    c.in_ok-name.ensures.items ∙ c.text.ensures.bytes ∙ sym (get_or-map (text_at src) ms i none) in
    let old = c.loop-index.names.entries in
    let more = sym (take_more texts i (text_at src none) (omega (arith, length-map ms (text_at src)))) in
    let now : names_of (seen c.declare.new.names.entries) ≡ take i texts ++ c.in_ok-name.name.items ∷ [] =
    ap (λ es. names_of (seen es)) c.in_ok-declare.ensures.ok
    ∙ ap names_of (seen_more old c.in_ok-name.name (record { file = c.args.file_index; index = i }))
    ∙ names_more (seen old) (c.in_ok-name.name.items, record { file = c.args.file_index; index = i })
    ∙ ap (λ l. l ++ c.in_ok-name.name.items ∷ []) c.loop-index.invariant.so_far in
    let up = ap (λ n. take i texts ++ n ∷ []) name ∙ more in
    let fresh = subst (λ l. IsOneOf l c.in_ok-name.name.items → ⊥) c.loop-index.invariant.so_far c.in_ok-declare.ensures.fresh in
    record {
      so_far = now ∙ up;
      distinct = subst AreDistinct up (distinct_more (take i texts) c.in_ok-name.name.items c.loop-index.invariant.distinct fresh);
    }
