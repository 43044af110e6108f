use Rattle.std.proofs.Common.{◌≡◌, ◌∙◌, List, [], refl, ap, sym}
use Rattle.std.specs.Prelude.{◌≢◌}
use Rattle.fidl_tree.specs.Views.{type_view}
use Rattle.fidl_tree.specs.declared.file.File.{File}
use Rattle.fidl_tree.specs.declared.declaration.AliasDeclaration.{AliasDeclaration}
use Rattle.fidl_named.specs.declared.meaning.Meaning.{Meaning}
use Rattle.fidl_named.specs.declared.meaning.Meaning.TheVariants as meaning
use Rattle.fidl_named.specs.Aliases.{Follows, constraints_of, PassesOn, PassesTo, stays, passes}
use Rattle.fidl_named.proofs.ResolvedMeanings.{one_alias}
use Rattle.fidl_named.proofs.worked_aliases.aliases_without_constraints_are_passed.Goals as goal

nothing_passed : (fs : List File) (m next : Meaning) (h : Follows fs m next) → constraints_of (type_view h.alias.constructor) ≢ [] → (n : Meaning) → PassesOn fs m n → ⊥
nothing_passed fs m next h some n k =
    let both : meaning.Declared h.id ≡ meaning.Declared k.follows.id = sym h.is ∙ k.follows.is in
    let same : h.id ≡ k.follows.id = cc in
    let alias = one_alias fs h.id k.follows.id h.file k.follows.file h.alias k.follows.alias h.alias_at k.follows.alias_at same in
    some (ap (λ (a : AliasDeclaration). constraints_of (type_view a.constructor)) alias ∙ k.bare)

itself_alone : (fs : List File) (m end : Meaning) → ((n : Meaning) → PassesOn fs m n → ⊥) → PassesTo fs m end → end ≡ m
itself_alone fs m _ none (stays _ nothing) = refl
itself_alone fs m end none (passes _ next _ on rest) = absurd (none next on)

pub returns-clause-passed : goal.returns-clause-passed
returns-clause-passed c = λ fs m next h none. passes m next next h (stays next none)

pub returns-clause-constrained : goal.returns-clause-constrained
returns-clause-constrained c = λ fs m next h some. stays m (nothing_passed fs m next h some)

pub returns-clause-other : goal.returns-clause-other
returns-clause-other c = λ fs m next end h some k. itself_alone fs m end (nothing_passed fs m next h some) k

pub returns-clause-predeclared : goal.returns-clause-predeclared
returns-clause-predeclared c = λ fs m w h.
    let no : meaning.Predeclared w ≡ meaning.Declared h.other = h.next_is in
    cc
