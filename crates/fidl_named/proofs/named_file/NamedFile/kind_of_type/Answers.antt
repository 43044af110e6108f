use Rattle.std.proofs.lemmas.Option.{slice_get_within}
use Rattle.std.proofs.lemmas.Result.{IfOk-weaker}
use Rattle.fidl_named.proofs.named_file.NamedFile.kind_of_type.Goals as goal

pub kind-requires : goal.kind-requires
kind-requires c = slice_get_within c.args.self.now.named.now c.args.self.now.file_index c.args.self.now.file.now c.args.self.now.file_at

pub returns : goal.returns
returns c = IfOk-weaker c.kind.result _ _ (λ x h. h c.args.self.now.file.now c.args.self.now.file_at) c.kind.ensures
