use Rattle.std.proofs.Common.{◌≡◌, drop}
use Rattle.std.specs.List.{filter_map, last_or}
use Rattle.fidl_types.specs.Places.{step_name, last_name}
use Rattle.fidl_types.proofs.places.last_name.Given as goal

-- the last name so far, or in the steps to come, is the last of all
abbrev pub invariant-loop-step : goal.invariant-loop-step
invariant-loop-step l = last_or l.found (filter_map step_name (drop l.step-index l.path)) ≡ last_name l.path
