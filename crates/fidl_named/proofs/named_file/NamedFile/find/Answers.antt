use Rattle.std.proofs.lemmas.Option.{slice_get_within}
use Rattle.std.proofs.lemmas.Result.{IfOk-weaker}
use Rattle.fidl_named.proofs.named_file.NamedFile.find.Goals as goal

pub type_meaning-requires : goal.type_meaning-requires
type_meaning-requires c = slice_get_within c.args.self.now.named.now c.args.self.now.file_index c.args.self.now.file.now c.args.self.now.file_at

pub returns : goal.returns
returns c = IfOk-weaker c.type_meaning.result _ _ (λ x h. h c.args.self.now.file.now c.args.self.now.file_at) c.type_meaning.ensures
