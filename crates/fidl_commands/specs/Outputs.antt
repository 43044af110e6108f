-- Which lines a command prints on its outputs, where their bytes are known, and when it reports that
-- one has failed.
use Rattle.std.specs.Prelude.{◌≡◌, ◌↔◌, ◌⊎◌, ℕ, List, Option, None, IsSome}
use Rattle.std.specs.Io.KnownBytes.{Appends}
use Rattle.fidl_text.specs.Outputs.{AppendsFront}
use Rattle.fidl_commands.specs.declared.outcome.Outcome.{Outcome}
use Rattle.fidl_commands.specs.declared.outcome.Outcome.TheVariants as outcome

-- one of these lines was written
abbrev pub AppendsOne : (List ℕ → Type 0) → (old new : Option (List ℕ)) → Type 0
AppendsOne IsLine old new = (line : List ℕ) × IsLine line × Appends old new line

-- a front of one of these lines was written, or nothing
abbrev pub AppendsFrontOfOne : (List ℕ → Type 0) → (old new : Option (List ℕ)) → Type 0
AppendsFrontOfOne IsLine old new = (new ≡ old)
    ⊎ ((line : List ℕ) × IsLine line × AppendsFront old new line)

-- where no write had failed before, `Unwritten` comes exactly where one has failed now
abbrev pub ReportsFailures : {F G : Type 0} → Outcome → (old_out new_out : Option F)
    → (old_errors new_errors : Option G) → Type 0
ReportsFailures result old_out new_out old_errors new_errors =
    old_out ≡ None → old_errors ≡ None → (result ≡ outcome.Unwritten)
    ↔ (IsSome new_out ⊎ IsSome new_errors)
