use Rattle.std.proofs.Common.{◌∙◌, true≢false, sym, refl}
use Rattle.indexmap.proofs.CallerLemmas.{insert_entry-new}
use Rattle.fidl_named.proofs.Taken.{taken, none_there}
use Rattle.fidl_names.proofs.declarations.declare.Goals as goal

pub returns-clause-ok : goal.returns-clause-ok
returns-clause-ok c =
    let none = none_there _ (sym c.contains_key.ensures ∙ c.if-contains_key.false) in
    c.in_ok-insert.ensures.entries ∙ insert_entry-new _ c.args.names.now c.args.name c.args.id none

pub returns-clause-fresh : goal.returns-clause-fresh
returns-clause-fresh c = λ h. absurd (true≢false (sym ((taken c.args.names.now.entries c.args.name.items).1 h) ∙ sym c.contains_key.ensures ∙ c.if-contains_key.false))

pub returns-then-contains_key-clause-taken : goal.returns-then-contains_key-clause-taken
returns-then-contains_key-clause-taken c = (refl, (taken c.args.names.now.entries c.args.name.items).0 (sym c.contains_key.ensures ∙ c.if-contains_key.true))
