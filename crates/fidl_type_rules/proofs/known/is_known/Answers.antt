use Rattle.std.proofs.Common.{refl, sym, ◌∙◌}
use Rattle.fidl_type_rules.proofs.Aliases.{key_there}
use Rattle.fidl_type_rules.proofs.known.is_known.Goals as goal

pub returns-in-Some : goal.returns-in-Some
returns-in-Some c = λ yes.
    let id = c.in-Some.id in
    (id, c.in-Some.is, key_there c.args.known.now.keys (id.file, id.index) (sym c.contains.ensures ∙ yes))
