use Rattle.std.proofs.Common.{◌≡◌, ◌<◌, ◌≤◌, ◌+◌, ◌++◌, ◌∷◌, [], ℕ, List, length, take, get_or, ap, sym, subst, ◌∙◌}
use Rattle.std.specs.Prelude.{slice_get}
use Rattle.std.specs.Global.{Vec}
use Rattle.std.proofs.lemmas.List.{take_all, take_more, map-append}
use Rattle.std.proofs.lemmas.Option.{slice_get-get_or}
use Rattle.fidl_tree.specs.declared.file.File.{File}
use Rattle.fidl_named.specs.declared.meaning.Meaning.{Meaning}
use Rattle.fidl_named.specs.declared.meaning.Meaning.TheVariants as meaning
use Rattle.fidl_named.specs.declared.meaning.Predeclared.TheVariants as name
use Rattle.fidl_cycles.specs.Cycles.{points_of}
use Rattle.fidl_consts.specs.Dependencies.{IsKnownNode, Uses}
use Rattle.fidl_const.specs.Columns.{AreNames, AreNumbered, AreRows, name_uses_view}
use Rattle.fidl_const.proofs.Targets.{node_within, row_of_targets, rows_more}
use Rattle.fidl_const.proofs.graph.value_graph.Goals as goal

abbrev node_at : List Meaning → ℕ → Meaning
node_at nodes i = get_or nodes i (meaning.Predeclared name.Bool)

known_at : (fs : List File) (nodes items : List Meaning) (ss : List (Vec ℕ)) (i : ℕ) → AreNumbered fs nodes ss → items ≡ nodes → i < length items → IsKnownNode fs (node_at items i)
known_at fs nodes items ss i numbered same lt =
    numbered.node i (node_at items i) (ap (λ l. slice_get l i) (sym same) ∙ slice_get-get_or items i (meaning.Predeclared name.Bool) lt)

pub targets-requires-clause-within : goal.targets-requires-clause-within
targets-requires-clause-within c =
    let fs = c.args.named.now in
    let items = c.deref-meaning-items.result.now in
    let i = c.loop-meaning.meaning-index in
    let known = known_at fs c.args.numbers.now.nodes.items items c.args.numbers.now.starts.items i c.requires c.deref-meaning-items.ensures.value c.loop-meaning-test.true in
    subst (λ n. n < length fs) (sym c.file_number.ensures) (node_within fs (node_at items i) known)

pub loop-meaning-preserved : goal.loop-meaning-preserved
loop-meaning-preserved c =
    let fs = c.args.named.now in
    let nodes = c.args.numbers.now.nodes.items in
    let ss = c.args.numbers.now.starts.items in
    let items = c.deref-meaning-items.result.now in
    let value = c.deref-meaning-items.ensures.value in
    let i = c.loop-meaning.meaning-index in
    let inside = c.loop-meaning-test.true in
    let one = node_at items i in
    let known = known_at fs nodes items ss i c.requires value inside in
    let rows = c.loop-meaning.graph.items in
    let row = c.in_ok-row.row in
    let lt : i < length nodes = subst (λ (l : List Meaning). i < length l) value inside in
    let more : take (i + 1) nodes ≡ take i nodes ++ one ∷ [] = take_more nodes i (meaning.Predeclared name.Bool) lt ∙ ap (λ (l : List Meaning). take i nodes ++ node_at l i ∷ []) (sym value) in
    let now : points_of c.push.new.self.items ≡ points_of rows ++ row.items ∷ [] = ap points_of c.in_ok-push.ensures.items ∙ map-append (λ (v : Vec ℕ). v.items) rows (row ∷ []) in
    let new = row_of_targets fs ss one (name_uses_view c.deref.result.now) row.items known
    (λ f at. subst (λ l. AreNames (Uses fs one f) (name_uses_view l)) (sym c.deref.ensures.value) (c.in_ok-uses.ensures f at))
    (λ f at. c.in_ok-row.ensures f (ap (slice_get fs) c.file_number.ensures ∙ at)) in
    subst (λ (l : List Meaning). AreRows fs l ss (points_of c.push.new.self.items)) (sym more)
    (subst (AreRows fs (take i nodes ++ one ∷ []) ss) (sym now) (rows_more fs ss (take i nodes) (points_of rows) one row.items c.loop-meaning.invariant new))

pub returns : goal.returns
returns c =
    let nodes = c.args.numbers.now.nodes.items in
    let i = c.loop-meaning.meaning-index in
    let past = c.loop-meaning-test.false in
    let over : length nodes ≤ i = subst (λ (l : List Meaning). length l ≤ i) c.deref-meaning-items.ensures.value past in
    subst (λ (l : List Meaning). AreRows c.args.named.now l c.args.numbers.now.starts.items (points_of c.loop-meaning.graph.items)) (take_all i nodes over) c.loop-meaning.invariant
