use Rattle.std.proofs.Common.{◌≡◌, ◌∙◌, ℕ, refl, sym, arith}
use Rattle.fidl_tree.specs.Leaf.{text_at}
use Rattle.fidl_tree.specs.Syntax.{named_member}
use Rattle.fidl_lower_layouts.proofs.Numbered.{its_ordinal, row_is}
use Rattle.fidl_lower_layouts.proofs.WorkedMembers.{no_row}
use Rattle.fidl_lower_layouts.proofs.worked_members.rows_of_members.Goals as goal

pub returns-clause-numbered : goal.returns-clause-numbered
returns-clause-numbered c = λ files n f attributes ordinal name t e is h. row_is files n f attributes ordinal name t 3 (text_at f.src.now name) e (sym is) (omega arith) refl h

pub returns-clause-other : goal.returns-clause-other
returns-clause-other c = λ files n f attributes ordinal name t e text is h.
    let four : ◌≡◌ {A = ℕ} 4 3 = its_ordinal files n f attributes ordinal name t 4 text e h ∙ is in
    omega (arith, four)

pub returns-clause-no_ordinal : goal.returns-clause-no_ordinal
returns-clause-no_ordinal c = λ files n f attributes name t e k text h. no_row files n f (named_member attributes name t) attributes name t k text e refl h
