use Rattle.std.proofs.Common.{rules, ◌≡◌, Some, None, sym, subst, refl, ◌∙◌}
use Rattle.fidl_named.specs.Meanings.{components, Means}
use Rattle.fidl_named.specs.declared.meaning.Wanted.TheVariants as wanted
use Rattle.fidl_named.specs.Aliases.{ResolvesTo}
use Rattle.fidl_named.specs.Constraints.{texts_of, declared_members}
use Rattle.fidl_named.proofs.Justs.{no_just, the_just}
use Rattle.fidl_named.proofs.PropertyMembers.{end_is, stands_there, number_there, is_this}
use Rattle.fidl_named.proofs.properties.declared_member.Goals as goal

pub returns-in_default : goal.returns-in_default
returns-in_default c = λ m h.
    no_just (Means c.args.scope.now.named.now c.args.scope.now.file.now wanted.«Type» (components c.args.scope.now.file.now.src.now c.args.path.now)) c.in_ok-first.field-0 c.in_ok-first.ensures
    c.in_default.not-Some h.first h.means

pub returns-in_default-resolved : goal.returns-in_default-resolved
returns-in_default-resolved c = λ m h.
    let means = the_just (Means c.args.scope.now.named.now c.args.scope.now.file.now wanted.«Type» (components c.args.scope.now.file.now.src.now c.args.path.now)) c.in_ok-first.field-0 c.in_ok-first.ensures c.in-Some.first c.in-Some.is in
    c.in_default-resolved.not-Declared h.id (end_is c.args.scope.now.named.now c.args.scope.now.file.now c.args.path.now c.args.name.now c.in-Some.first c.resolved.result means c.resolved.ensures m h)

pub returns-in_default-get : goal.returns-in_default-get
returns-in_default-get c = λ m h.
    let means = the_just (Means c.args.scope.now.named.now c.args.scope.now.file.now wanted.«Type» (components c.args.scope.now.file.now.src.now c.args.path.now)) c.in_ok-first.field-0 c.in_ok-first.ensures c.in-Some.first c.in-Some.is in
    let at = stands_there c.args.scope.now.named.now c.args.scope.now.file.now c.args.path.now c.args.name.now c.in-Some.first c.resolved.result means c.resolved.ensures m h c.in-Declared.id c.in-Declared.is in
    search (rules, c.in_default-get.ensures.none, at)

pub returns-in-None : goal.returns-in-None
returns-in-None c = λ m h.
    let means = the_just (Means c.args.scope.now.named.now c.args.scope.now.file.now wanted.«Type» (components c.args.scope.now.file.now.src.now c.args.path.now)) c.in_ok-first.field-0 c.in_ok-first.ensures c.in-Some.first c.in-Some.is in
    let number = number_there c.args.scope.now.named.now c.args.scope.now.file.now c.args.path.now c.args.name.now c.in-Some.first c.resolved.result means c.resolved.ensures m h c.in-Declared.id c.in-Declared.is
    c.in-Some-get.found.file.now c.in-Some-get.found.declaration.now c.in-Some-get.ensures.found.1 in
    let x = c.in-Some-get.found in
    let both : None ≡ Some h.number = c.in-None.ensures (texts_of x.file.now (declared_members x.declaration.now.body)) c.in-Some-get.ensures.numbers.members ∙ number in
    absurd (cc)

pub returns-in-Some-find_number : goal.returns-in-Some-find_number
returns-in-Some-find_number c =
    let means = the_just (Means c.args.scope.now.named.now c.args.scope.now.file.now wanted.«Type» (components c.args.scope.now.file.now.src.now c.args.path.now)) c.in_ok-first.field-0 c.in_ok-first.ensures c.in-Some.first c.in-Some.is in
    let x = c.in-Some-get.found in
    let there = sym (c.in-Some-find_number.ensures (texts_of x.file.now (declared_members x.declaration.now.body)) c.in-Some-get.ensures.numbers.members) in (
      record {
        first = c.in-Some.first;
        id = c.in-Declared.id;
        file = c.in-Some-get.found.file.now;
        declaration = c.in-Some-get.found.declaration.now;
        number = c.in-Some-find_number.number;
        means = means;
        resolved = subst (ResolvesTo c.args.scope.now.named.now c.in-Some.first) c.in-Declared.is c.resolved.ensures;
        stands = c.in-Some-get.ensures.found.1;
        number_is = there;
        is = refl;
      },
      λ m h. is_this c.args.scope.now.named.now c.args.scope.now.file.now c.args.path.now c.args.name.now c.in-Some.first c.resolved.result means c.resolved.ensures m h c.in-Declared.id c.in-Declared.is
          c.in-Some-get.found.file.now c.in-Some-get.found.declaration.now c.in-Some-find_number.number c.in-Some-get.ensures.found.1 there,
    )
