use Rattle.std.proofs.Common.{rules, ◌<◌, ◌-◌, ℕ, get_or, length, arith}
use Rattle.std.specs.List.{Contains}
use Rattle.std.proofs.lemmas.List.{get_or_default}
use Rattle.fidl_layout.proofs.Found.{root_within}
use Rattle.fidl_layout.proofs.laying.too_many.Goals as goal

pub place_of-requires : goal.place_of-requires
place_of-requires c =
    let roots = c.args.roots.now in
    let root : ℕ = get_or roots (length roots - 1) 0 in
    let some : 0 < length roots = search (rules, c.if-is_empty.ensures) in
    let last : length roots - 1 < length roots = omega (arith, some) in
    let there : Contains roots root = (length roots - 1, last, get_or_default roots (length roots - 1) root 0 last) in
    root_within c.args.types.now c.forms.result.now c.forms.ensures root (c.requires.roots.sound root there)
