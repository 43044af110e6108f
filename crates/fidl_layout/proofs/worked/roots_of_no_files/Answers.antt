use Rattle.std.proofs.Common.{[]}
use Rattle.std.proofs.lemmas.Option.{none-some}
use Rattle.fidl_reachable_types.proofs.Members.{here, nothing_there}
use Rattle.fidl_layout.proofs.worked.roots_of_no_files.Goals as goal

pub returns-clause-none : goal.returns-clause-none
returns-clause-none c = record { sound = λ i h. absurd (nothing_there i h); complete = λ i r. absurd (none-some r.form r.at) }

pub returns-clause-one : goal.returns-clause-one
returns-clause-one c = λ i are. let r = are.sound i (here i []) in none-some r.form r.at
