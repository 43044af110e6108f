use Rattle.fidl_named.specs.NameMaps.{texts_view}
use Rattle.fidl_named.specs.Imports.{visible, ImportsAreApart}
use Rattle.fidl_cycles.proofs.Lists.{all_get as all_at}
use Rattle.fidl_named.proofs.AliasFacts.{seen_at}
use Rattle.fidl_named.proofs.file_scope.FileScope.visible.Goals as goal

pub returns-clause-sees : goal.returns-clause-sees
returns-clause-sees c =
    let s = c.args.self.now in
    rw (← c.index-self-self.is) (seen_at (λ v. texts_view v.entries) visible s.names.visible_names.now s.names.set.now s.file_index c.index-self-self.result s.file.now s.names.sees s.file_at c.index-self-self.is)

pub returns-clause-apart : goal.returns-clause-apart
returns-clause-apart c =
    let s = c.args.self.now in
    all_at ImportsAreApart s.names.set.now s.file_index s.file.now s.names.apart s.file_at
