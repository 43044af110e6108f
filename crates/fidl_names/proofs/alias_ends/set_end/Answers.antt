use Rattle.std.proofs.Common.{List, [], set, ap, sym, ◌∙◌}
use Rattle.std.specs.Global.{Vec}
use Rattle.std.proofs.lemmas.List.{map-set, get_or_default}
use Rattle.std.proofs.Math.ListN.{get_or-map}
use Rattle.fidl_named.specs.declared.ends.AliasEnd.{AliasEnd}
use Rattle.fidl_named.specs.Aliases.{rows_of}
use Rattle.fidl_names.proofs.alias_ends.set_end.Goals as goal

pub returns : goal.returns
returns c =
    let ends = c.args.ends.now in
    let p = c.args.id in
    let row = c.index-ends-id.result in
    let old = sym (get_or-map (λ (v : Vec AliasEnd). v.items) ends p.file row) ∙ get_or_default (rows_of ends) p.file row.items [] c.requires.0 in
    map-set (λ (v : Vec AliasEnd). v.items) ends p.file _
    ∙ ap (λ (l : List AliasEnd). set (rows_of ends) p.file (set l p.index c.args.end)) old
