-- What following the aliases of a type finds, as the code has it.
use Rattle.std.specs.Prelude.{ℕ, ◌<◌, List, length}
use Rattle.fidl_tree.specs.Syntax.{TypeUse}
use Rattle.fidl_tree.specs.declared.file.File.{File}
use Rattle.fidl_constraints.specs.declared.aliases.Followed as code
use Rattle.fidl_constraints.specs.declared.aliases.Followed.TheVariants.{Ends, Nothing, Many}
use Rattle.fidl_constraints.specs.Behind.{Core, Behind}
use Rattle.fidl_constraints.specs.BehindViews.{core_view}

-- what the type is behind its aliases, that it is nothing there, or that more lists of constraints
-- are on the way than this number
abbrev pub IsFollowed : List File → (number : ℕ) → TypeUse → (most : ℕ) → code.Followed → Type 0
IsFollowed files number t most (Ends core) = Behind files number t (core_view core)
IsFollowed files number t most Nothing = (c : Core) → Behind files number t c → ⊥
IsFollowed files number t most Many =
    (c : Core) → Behind files number t c → most < length c.given
