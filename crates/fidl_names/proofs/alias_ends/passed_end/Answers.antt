use Rattle.std.proofs.Common.{sym, ◌∙◌, refl, true≢false}
use Rattle.fidl_named.specs.declared.meaning.Meaning.TheVariants as meaning
use Rattle.fidl_named.specs.Aliases.{PassesOn, stays, passes}
use Rattle.fidl_names.proofs.AliasNames.{followed_alias}
use Rattle.fidl_names.proofs.alias_ends.passed_end.Goals as goal

pub returns-in-None : goal.returns-in-None
returns-in-None c = stays (meaning.Declared c.args.id) (λ next h.
    let only = c.requires.follows.1 next h.follows in
    c.in-None.ensures.none refl h.other (sym only ∙ h.next_is))

pub returns-then-adds_nothing : goal.returns-then-adds_nothing
returns-then-adds_nothing c =
    let fs = c.args.set.now in
    let p = c.args.id in
    let h = c.requires.follows.0 in
    let on : PassesOn fs (meaning.Declared p) c.args.next = record {
      other = c.in-Some.field-0;
      follows = h;
      bare = (c.adds_nothing.ensures h.file h.alias (followed_alias fs p c.args.next h)).0 c.if-adds_nothing.true;
      next_is = c.in-Some.ensures.some;
    } in
    passes (meaning.Declared p) c.args.next c.args.passed on c.requires.passed

pub returns-else-adds_nothing : goal.returns-else-adds_nothing
returns-else-adds_nothing c = stays (meaning.Declared c.args.id) (λ next h.
    let fs = c.args.set.now in
    let p = c.args.id in
    let k = h.follows in
    let yes = (c.adds_nothing.ensures k.file k.alias (followed_alias fs p next k)).1 h.bare in
    true≢false (sym yes ∙ c.if-adds_nothing.false))
