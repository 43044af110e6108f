use Rattle.std.proofs.Common.{rules, ◌≡◌, Some, refl, ap, sym, ◌∙◌}
use Rattle.fidl_tree.specs.declared.type_constructor.TypeConstructor.{the_lemmas}
use Rattle.fidl_tree.specs.declared.type_constructor.NamedType.{NamedType, out-NamedType}
use Rattle.fidl_named.specs.Aliases.{type_path}
use Rattle.fidl_named.proofs.Readings.{ok_iff}
use Rattle.fidl_names.proofs.AliasNames.{means_follows, follows_means, follows_alias}
use Rattle.fidl_names.proofs.alias_steps.next_meaning.Goals as goal

pub returns-in-None : goal.returns-in-None
returns-in-None c = λ x h.
    let k = follows_alias c.args.names.now.set.now c.args.id x h in
    c.in-None.ensures.none refl k.0 k.1 k.2

pub returns-in-Named : goal.returns-in-Named
returns-in-Named c =
    let set = c.args.names.now.set.now in
    let p = c.args.id in
    let f = c.in-Some.found.file.now in
    let a = c.in-Some.found.alias.now in
    let path = (out-NamedType c.deref.result.now).path in
    let h = c.in-Named.is in
    let written : type_path a.constructor ≡ Some (out-NamedType c.in-Named.named.value).path = search (rules, the_lemmas, h) in
    let type_is : type_path a.constructor ≡ Some path = written ∙ ap (λ (n : NamedType). Some (out-NamedType n).path) (sym c.deref.ensures) in
    ok_iff _ _ (means_follows set p f a path c.in-Some.ensures.found type_is) (follows_means set p f a path c.in-Some.ensures.found type_is) c.read_type.result c.read_type.ensures
