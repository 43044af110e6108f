use Rattle.std.proofs.Common.{◌<◌, ◌∙◌, map, length, sym, arith}
use Rattle.std.proofs.Math.ListN.{get_or-map, length-map}
use Rattle.std.proofs.lemmas.List.{take_more_same}
use Rattle.fidl_span.specs.declared.words.Span.{Span}
use Rattle.fidl_tree.specs.declared.path.PathPart.{PathPart}
use Rattle.fidl_named.proofs.kept_names.same_parts.Goals as goal

abbrev name_in : PathPart → Span
name_in q = q.name

pub loop-index-preserved : goal.loop-index-preserved
loop-index-preserved c =
    let ones = c.args.one.now in
    let others = c.args.other.now in
    let i = c.loop-index.index in
    let none : PathPart = record { dot = record { from = 0; to = 0 }; name = record { from = 0; to = 0 } } in
    let lt = c.loop-index-test.true in
    let long = c.if-one-other.false in
    let same = c.same_span.ensures c.if-not-same_span.false in
    let first : i < length (map name_in ones) = omega (arith, lt, length-map ones name_in) in
    let second : i < length (map name_in others) = omega (arith, lt, long, length-map others name_in) in
    take_more_same (map name_in ones) (map name_in others) i none.name first second c.loop-index.invariant
    (get_or-map name_in ones i none ∙ same ∙ sym (get_or-map name_in others i none))
