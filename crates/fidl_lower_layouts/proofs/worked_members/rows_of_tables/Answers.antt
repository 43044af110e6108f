use Rattle.std.proofs.Common.{◌≡◌, ◌∙◌, ◌<◌, ℕ, [], ◌∷◌, refl, sym, arith}
use Rattle.std.proofs.lemmas.List.Sorted.{IsPermutation-refl}
use Rattle.fidl_tree.specs.Leaf.{text_at}
use Rattle.fidl_tree.specs.Syntax.{ordinal_member}
use Rattle.fidl_lower_layouts.proofs.Numbered.{its_ordinal, low_ordinal, row_is}
use Rattle.fidl_lower_layouts.proofs.Rising.{no_pairs, single}
use Rattle.fidl_lower_layouts.proofs.WorkedMembers.{only_row, none_moved}
use Rattle.fidl_lower_layouts.proofs.worked_members.rows_of_tables.Goals as goal

pub returns-clause-one : goal.returns-clause-one
returns-clause-one c = λ files n f attributes ordinal name t e is h. record {
  members = ordinal_member attributes ordinal name t ∷ [];
  same = IsPermutation-refl (ordinal_member attributes ordinal name t ∷ []);
  each = (row_is files n f attributes ordinal name t 3 (text_at f.src.now name) e (sym is) (omega arith) refl h, tt);
  rise = single (λ m n. m < n) 3;
}

pub returns-clause-other : goal.returns-clause-other
returns-clause-other c = λ files n f attributes ordinal name t e text is h.
    let four : ◌≡◌ {A = ℕ} 4 3 = its_ordinal files n f attributes ordinal name t 4 text e (only_row files n f (ordinal_member attributes ordinal name t) 4 text e refl h) ∙ is in
    omega (arith, four)

pub returns-clause-too_high : goal.returns-clause-too_high
returns-clause-too_high c = λ files n f attributes ordinal name t e k text is h.
    let low = low_ordinal files n f attributes ordinal name t k text e (only_row files n f (ordinal_member attributes ordinal name t) k text e refl h) in
    omega (arith, low, is)

pub returns-clause-reserved : goal.returns-clause-reserved
returns-clause-reserved c = λ files n f attributes ordinal. record { members = []; same = IsPermutation-refl []; each = tt; rise = no_pairs (λ m n. m < n) }

pub returns-clause-no_row : goal.returns-clause-no_row
returns-clause-no_row c = λ files n f attributes ordinal text e h. none_moved files n f h.members 3 text e h.same h.each
