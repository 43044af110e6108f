use Rattle.std.proofs.Common.{◌≡◌, [], ◌∷◌, sym, ◌∙◌}
use Rattle.fidl_named.proofs.worked.properties_of_declarations.Goals as goal

pub returns-clause-other : goal.returns-clause-other
returns-clause-other c = λ d p is e.
    let both : p ∷ [] ≡ [] = sym is ∙ e in
    absurd (cc)
