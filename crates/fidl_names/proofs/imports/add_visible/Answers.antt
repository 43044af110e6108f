use Rattle.std.proofs.Common.{sym, ◌∙◌, true≢false, refl}
use Rattle.indexmap.proofs.CallerLemmas.{insert_entry-new}
use Rattle.fidl_named.proofs.Taken.{taken_text, none_there}
use Rattle.fidl_names.proofs.Seeing.{distinct_texts}
use Rattle.fidl_names.proofs.imports.add_visible.Goals as goal

pub returns-clause-ok : goal.returns-clause-ok
returns-clause-ok c =
    let none = none_there _ (sym c.contains_key.ensures ∙ c.if-contains_key.false) in
    c.in_ok-insert.ensures.entries ∙ insert_entry-new _ c.args.visible.now c.args.name c.args.library none

pub returns-clause-distinct : goal.returns-clause-distinct
returns-clause-distinct c =
    let old = c.args.visible.now.entries in
    distinct_texts old c.insert.new.self.entries c.args.name c.args.library (returns-clause-ok c)
    (λ h. absurd (true≢false (sym ((taken_text old c.args.name.items).1 h) ∙ sym c.contains_key.ensures ∙ c.if-contains_key.false)))

pub returns-then-contains_key-clause-fault_is_true : goal.returns-then-contains_key-clause-fault_is_true
returns-then-contains_key-clause-fault_is_true c = (refl, (taken_text c.args.visible.now.entries c.args.name.items).0 (sym c.contains_key.ensures ∙ c.if-contains_key.true))
