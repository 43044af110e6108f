use Rattle.std.proofs.Common.{◌≡◌, ◌<◌, length, ◌∙◌, arith}
use Rattle.std.proofs.lemmas.Bool.Decides.{Decides-ltb}
use Rattle.fidl_cycles.proofs.Lists.{get_there}
use Rattle.fidl_named.proofs.AliasFacts.{id_within}
use Rattle.fidl_named.proofs.file_set.has_declaration.Goals as goal

pub returns : goal.returns
returns c =
    let f = c.file.result.now in
    let p = c.args.id in
    let long : c.len.result ≡ length f.declarations.items = c.len.ensures ∙ f.declarations.ok.0 in (
      λ h.
          let lt = (Decides-ltb p.index c.len.result).0 h in
          let less : p.index < length f.declarations.items = omega (arith, lt, long) in
          let there = get_there f.declarations.items p.index less in
          record { file = f; declaration = there.0; file_at = c.file.ensures; stands = there.1 },
      λ h.
          let less = id_within c.args.set.now p f h c.file.ensures in
          (Decides-ltb p.index c.len.result).1 (omega (arith, less, long)),
    )
