use Rattle.std.specs.Prelude.{Option}
use Rattle.std.proofs.lemmas.Result.{IfOk-weaker}
use Rattle.fidl_named.specs.declared.meaning.Meaning.{Meaning}
use Rattle.fidl_named.specs.Meanings.{components, IsJust, Means}
use Rattle.fidl_named.proofs.Scoped.{of_file}
use Rattle.fidl_named.proofs.named.Named.search.Goals as goal

pub returns : goal.returns
returns c =
    let s = c.scope.result in
    IfOk-weaker c.find_meaning.result _ _ (λ (found : Option Meaning) h. of_file c.args.self.now s.names.set.now s.file_index c.args.file_index s.file.now (λ fs n f. IsJust (Means fs f c.args.wanted (components f.src.now c.args.path.now)) found) c.scope.ensures.set c.scope.ensures.number s.file_at h)
    c.find_meaning.ensures
