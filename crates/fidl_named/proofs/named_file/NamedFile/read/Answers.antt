use Rattle.std.proofs.lemmas.Option.{slice_get_within}
use Rattle.std.proofs.lemmas.Result.{IfOk-weaker, IfErr-weaker}
use Rattle.fidl_named.proofs.named_file.NamedFile.read.Goals as goal

pub meaning-requires : goal.meaning-requires
meaning-requires c = slice_get_within c.args.self.now.named.now c.args.self.now.file_index c.args.self.now.file.now c.args.self.now.file_at

pub returns-clause-ok : goal.returns-clause-ok
returns-clause-ok c = IfOk-weaker c.meaning.result _ _ (λ m h. h c.args.self.now.file.now c.args.self.now.file_at) c.meaning.ensures.ok

pub returns-clause-fault_is_true : goal.returns-clause-fault_is_true
returns-clause-fault_is_true c = IfErr-weaker c.meaning.result _ _ (λ fault h. h c.args.self.now.file.now c.args.self.now.file_at) c.meaning.ensures.fault_is_true
