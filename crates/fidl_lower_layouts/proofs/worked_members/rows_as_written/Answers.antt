use Rattle.std.proofs.Common.{List, [], ◌∷◌, ◌++◌, sym, subst}
use Rattle.fidl_tree.specs.Syntax.{Member}
use Rattle.fidl_wire.specs.Term.{no_rows, row}
use Rattle.fidl_lower_layouts.specs.Members.{own_row, EachRow}
use Rattle.fidl_lower_layouts.proofs.worked_members.rows_as_written.Goals as goal

pub returns-clause-two : goal.returns-clause-two
returns-clause-two c = λ files n f m w i j one other e d first second h k.
    subst (λ (l : List Member). EachRow files n f (l ++ (own_row w ++ [])) (row i one e (row j other d no_rows))) (sym first)
    (subst (λ (l : List Member). EachRow files n f (m ∷ (l ++ [])) (row i one e (row j other d no_rows))) (sym second) (h, (k, tt)))
