use Rattle.std.proofs.Common.{◌≡◌, ℕ, Option, ap, sym, subst, ◌∙◌}
use Rattle.std.specs.Prelude.{is_some, IfSome}
use Rattle.std.proofs.lemmas.Option.{IfSome_then}
use Rattle.indexmap.specs.IndexMap.{get}
use Rattle.fidl_lower_types.specs.Numbers.{all_forms, IsFirstForm}
use Rattle.fidl_lower_types.specs.NumberViews.{layout_key, same_key}
use Rattle.fidl_lower_types.proofs.Indexing.{layout_first, first_layout}
use Rattle.fidl_lower_types.proofs.numbers.number_of.Goals as goal

pub returns-clause-found : goal.returns-clause-found
returns-clause-found c =
    let s = c.args.sources.now in
    let forms = all_forms s.named.now in
    let key = layout_key c.args.file_index c.args.optional c.args.keyword in
    let held : c.copied.result ≡ get same_key s.numbers.now.known key = c.copied.ensures ∙ c.get.ensures.value ∙ ap (get same_key s.numbers.now.known) c.layout_key-key.ensures in
    subst (λ (o : Option ℕ). IfSome o (IsFirstForm forms c.args.file_index c.args.optional c.args.keyword)) (sym held)
    (IfSome_then (get same_key s.numbers.now.known key) (c.requires.numbers.layouts.found key) (layout_first forms c.args.file_index c.args.optional c.args.keyword))

pub returns-clause-none : goal.returns-clause-none
returns-clause-none c = λ none i first.
    let s = c.args.sources.now in
    let key = layout_key c.args.file_index c.args.optional c.args.keyword in
    let held : c.copied.result ≡ get same_key s.numbers.now.known key = c.copied.ensures ∙ c.get.ensures.value ∙ ap (get same_key s.numbers.now.known) c.layout_key-key.ensures in
    c.requires.numbers.layouts.none key (sym (ap is_some held) ∙ none) i (first_layout (all_forms s.named.now) c.args.file_index c.args.optional c.args.keyword i first)
