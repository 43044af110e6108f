use Rattle.std.proofs.Common.{◌≡◌, ◌∙◌, List, ap, refl, sym, subst}
use Rattle.std.specs.Prelude.{slice_index_or}
use Rattle.indexmap.specs.IndexSet.{insert_key}
use Rattle.std.proofs.lemmas.List.Elements.{Contains-get_or}
use Rattle.fidl_type_rules.specs.Known.{IsKnownAlias, AreKnownAliases}
use Rattle.fidl_type_rules.proofs.Aliases.{one_more, same_key}
use Rattle.fidl_type_rules.proofs.known.learn.Goals as goal

pub loop-id-preserved : goal.loop-id-preserved
loop-id-preserved c = λ files old way.
    let i = c.loop-id.id-index in
    let p = slice_index_or c.args.way.now i (record { file = 0; index = 0 }) in
    let keys : c.insert.new.self.keys ≡ insert_key same_key c.loop-id.known.keys (p.file, p.index) = c.in_ok-insert.ensures.keys in
    subst (AreKnownAliases files) (sym keys) (one_more files c.loop-id.known.keys p (c.loop-id.invariant files old way) (way p (Contains-get_or c.args.way.now i (record { file = 0; index = 0 }) c.loop-id-test.true)))
