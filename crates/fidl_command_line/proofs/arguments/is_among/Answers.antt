use Rattle.std.proofs.Common.{◌+◌, ◌<◌, [], length, map, sym, arith}
use Rattle.std.proofs.lemmas.List.{length-map, get_or-map}
use Rattle.fidl_command_line.specs.Arguments.{is_one_path}
use Rattle.fidl_command_line.proofs.Paths.{one_more, one_of_all}
use Rattle.fidl_command_line.proofs.arguments.is_among.Goals as goal

pub returns-then-eq : goal.returns-then-eq
returns-then-eq c =
    let names = c.args.names.now in
    let all = map (λ n. n.now) names in
    let i = c.loop-other.other-index in
    let within : i < length all = omega (arith, c.loop-other-test.true, length-map names (λ n. n.now)) in
    sym (one_of_all (is_one_path c.args.name.now) all (i + 1) (one_more c.args.name.now all i within c.loop-other.invariant _ _ _ _ (get_or-map (λ n. n.now) names i _ [] c.loop-other-test.true) c.in_ok-path.ensures c.in_ok-from_here.ensures c.if-eq.ensures))

pub loop-other-preserved : goal.loop-other-preserved
loop-other-preserved c =
    let names = c.args.names.now in
    let all = map (λ n. n.now) names in
    let i = c.loop-other.other-index in
    let within : i < length all = omega (arith, c.loop-other-test.true, length-map names (λ n. n.now)) in
    one_more c.args.name.now all i within c.loop-other.invariant _ _ _ _ (get_or-map (λ n. n.now) names i _ [] c.loop-other-test.true) c.in_ok-path.ensures c.in_ok-from_here.ensures c.if-eq.ensures
