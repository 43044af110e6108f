use Rattle.std.specs.Prelude.{option_copied}
use Rattle.std.proofs.lemmas.Result.{IfOk-weaker}
use Rattle.fidl_named.specs.declared.meaning.Wanted.{Wanted}
use Rattle.fidl_named.specs.Aliases.{WantsKind}
use Rattle.fidl_named.proofs.Scoped.{of_file}
use Rattle.fidl_named.proofs.named.Named.kind.Goals as goal

pub returns : goal.returns
returns c =
    let s = c.scope.result in
    IfOk-weaker c.wanted_kind.result _ _ (λ (k : Wanted) h. of_file c.args.self.now s.names.set.now s.file_index c.args.file_index s.file.now (λ fs n f. WantsKind fs f (option_copied c.args.argument_of) k) c.scope.ensures.set c.scope.ensures.number s.file_at h)
    c.wanted_kind.ensures
