use Rattle.std.proofs.lemmas.Result.{IfOk-weaker, IfErr-weaker}
use Rattle.fidl_named.specs.declared.fault.NameFault.{NameFault}
use Rattle.fidl_named.specs.declared.meaning.Meaning.{Meaning}
use Rattle.fidl_named.specs.Meanings.{components, Means, IsTrueOfName}
use Rattle.fidl_named.proofs.Scoped.{of_file}
use Rattle.fidl_named.proofs.named.Named.read.Goals as goal

pub returns-clause-ok : goal.returns-clause-ok
returns-clause-ok c =
    let s = c.scope.result in
    IfOk-weaker c.read_name.result _ _ (λ (m : Meaning) h. of_file c.args.self.now s.names.set.now s.file_index c.args.file_index s.file.now (λ fs n f. Means fs f c.args.wanted (components f.src.now c.args.path.now) m) c.scope.ensures.set c.scope.ensures.number s.file_at h)
    c.read_name.ensures.ok

pub returns-clause-fault_is_true : goal.returns-clause-fault_is_true
returns-clause-fault_is_true c =
    let s = c.scope.result in
    IfErr-weaker c.read_name.result _ _ (λ (fault : NameFault) h. of_file c.args.self.now s.names.set.now s.file_index c.args.file_index s.file.now (λ fs n f. IsTrueOfName fs f n c.args.wanted c.args.path.now fault) c.scope.ensures.set c.scope.ensures.number s.file_at h)
    c.read_name.ensures.fault_is_true
