use Rattle.std.proofs.Common.{length, refl}
use Rattle.std.proofs.lemmas.Option.{slice_get_read}
use Rattle.fidl_named.proofs.AliasFacts.{id_within}
use Rattle.fidl_names.proofs.alias_steps.alias_at.Goals as goal

pub returns-in-Some-clause-found : goal.returns-in-Some-clause-found
returns-in-Some-clause-found c =
    let f = c.file-file.result.now in
    let p = c.args.id in
    record {
      declaration = c.index.result.now;
      file_at = c.file-file.ensures;
      stands = slice_get_read f.declarations.items (length f.declarations.items) p.index c.index.result.now refl (id_within c.args.set.now p f c.requires c.file-file.ensures) c.index.ensures;
      body = c.in-Some.ensures.some;
    }
