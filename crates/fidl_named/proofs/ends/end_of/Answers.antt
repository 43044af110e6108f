use Rattle.std.proofs.Common.{◌≡◌, sym, subst, ◌∙◌, refl, true≢false}
use Rattle.fidl_named.specs.declared.meaning.Meaning.TheVariants as meaning
use Rattle.fidl_named.specs.Aliases.{IsEnd}
use Rattle.fidl_named.specs.FullNames.{HasDeclaration}
use Rattle.fidl_named.proofs.AliasFacts.{alias_id, own_is_end}
use Rattle.fidl_named.proofs.ends.end_of.Goals as goal

pub returns-in-None : goal.returns-in-None
returns-in-None c =
    subst (IsEnd c.args.set.now c.args.meaning) (sym c.own_end.ensures)
    (own_is_end c.args.set.now c.args.meaning (λ next h. c.in-None.ensures.none refl h.id h.is))

pub returns-else-has_declaration : goal.returns-else-has_declaration
returns-else-has_declaration c =
    subst (IsEnd c.args.set.now c.args.meaning) (sym c.own_end-in-Some.ensures)
    (own_is_end c.args.set.now c.args.meaning (λ next h.
    let both : meaning.Declared h.id ≡ meaning.Declared c.in-Some.id = sym h.is ∙ c.in-Some.ensures.some in
    let same : h.id ≡ c.in-Some.id = cc in
    let here = subst (HasDeclaration c.args.set.now) same (alias_id c.args.set.now h.id h.file h.alias h.alias_at) in
    true≢false (sym (c.has_declaration.ensures.1 here) ∙ c.if-has_declaration.false)))
