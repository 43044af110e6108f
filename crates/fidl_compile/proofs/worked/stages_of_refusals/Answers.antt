use Rattle.std.proofs.Common.{◌≡◌, List, [], ◌∷◌, ◌++◌}
use Rattle.fidl_compile.proofs.worked.stages_of_refusals.Goals as goal

not_empty : {A : Type 0} (before rest : List A) (x : A) → [] ≡ before ++ x ∷ rest → ⊥
not_empty [] rest x e = cc
not_empty (y ∷ before) rest x e = cc

pub returns-clause-none : goal.returns-clause-none
returns-clause-none c = λ fault h. not_empty h.before h.rest h.file h.are

pub returns-clause-before_types : goal.returns-clause-before_types
returns-clause-before_types c = λ files fault h. (h.1.resolved, h.1.evaluated)

pub returns-clause-before_layout : goal.returns-clause-before_layout
returns-clause-before_layout c = λ files fault h. (h.1.before.resolved, h.1.before.evaluated, (h.1.definitions, h.1.checked))

pub returns-clause-before_protocols : goal.returns-clause-before_protocols
returns-clause-before_protocols c = λ files fault h.
    let before = h.1.before.before in
    (before.resolved, before.evaluated, (h.1.declarations, h.1.laid_out))
