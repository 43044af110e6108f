use Rattle.std.proofs.Common.{◌≡◌, ◌∙◌, ap, sym, subst, Option, Some, slice_get}
use Rattle.std.specs.Prelude.{unwrap_or}
use Rattle.std.proofs.lemmas.Option.{get_or_from_slice_get}
use Rattle.fidl_tree.specs.Views.{declared_name, declared_view}
use Rattle.fidl_tree.specs.declared.file.File.{File}
use Rattle.fidl_tree.specs.declared.declaration.Declaration.{Declaration}
use Rattle.fidl_protocol.proofs.declaring.find.Goals as goal

pub returns-clause-found : goal.returns-clause-found
returns-clause-found c =
    let there = c.requires.1.is in
    let file : c.requires.1.file ≡ c.file-file.result.now = ap (λ (o : Option File). unwrap_or o c.requires.1.file) (sym there.at.file_at ∙ c.file-file.ensures) in
    let stands : slice_get c.file-file.result.now.declarations.items c.args.id.index ≡ Some there.declaration = subst (λ (f : File). slice_get f.declarations.items c.args.id.index ≡ Some there.declaration) file there.at.stands in
    let is : c.index.result.now ≡ there.declaration = c.index.ensures ∙ get_or_from_slice_get c.file-file.result.now.declarations.items c.args.id.index there.declaration c.index.result.now stands in
    record {
      declaration = c.index.result.now;
      at = record { file_at = c.file-file.ensures; stands = stands ∙ ap (λ (d : Declaration). Some d) (sym is) };
      name_is = ap declared_name c.in-Protocol.is;
      body = ap declared_view c.in-Protocol.is;
    }
