use Rattle.std.proofs.Common.{[], ◌∷◌, refl, arith}
use Rattle.std.proofs.lemmas.Option.{slice_get_within}
use Rattle.fidl_member_rules.proofs.worked_rules.places_lead_to_files.Goals as goal

pub returns-clause-second : goal.returns-clause-second
returns-clause-second c f g rule s h = record { f = g; file_at = refl; breaks = h }

pub returns-clause-past : goal.returns-clause-past
returns-clause-past c f rule s h = let within = slice_get_within (f ∷ []) 1 h.f h.file_at in absurd (omega (arith, within))
