use Rattle.std.proofs.Common.{ℕ, List, ◌++◌, refl}
use Rattle.std.specs.Prelude.{codes, decimal}
use Rattle.std.specs.Fmt.{digits}
use Rattle.fidl_commands.proofs.worked.the_line_of_a_table.Goals as goal

-- the line of four counts
line : (entries roots protocols methods : ℕ) → List ℕ
line entries roots protocols methods = codes "entries " ++ decimal entries ++ codes ", roots " ++ decimal roots ++ codes ", protocols " ++ decimal protocols ++ codes ", methods " ++ decimal methods ++ codes ", bytes 5\n"

pub returns : goal.returns
unfolding digits
returns c = λ h e r p m. rw (e, r, p, m) refl
