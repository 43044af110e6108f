use Rattle.std.proofs.Common.{ℕ, subst}
use Rattle.std.specs.Prelude.{IfSome, IsNone}
use Rattle.fidl_span.specs.declared.words.Span.{Span}
use Rattle.fidl_lower_types.specs.Numbers.{all_forms, IsFirstForm}
use Rattle.fidl_lower_types.proofs.node.layout_number.Goals as goal

pub returns-clause-found : goal.returns-clause-found
returns-clause-found c =
    let forms = all_forms c.args.sources.now.named.now in
    subst (λ (k : Span). IfSome c.number_of.result (IsFirstForm forms c.args.file_index c.args.optional k)) c.layout_keyword.ensures c.number_of.ensures.found

pub returns-clause-none : goal.returns-clause-none
returns-clause-none c =
    let forms = all_forms c.args.sources.now.named.now in
    subst (λ (k : Span). IsNone c.number_of.result → (i : ℕ) → IsFirstForm forms c.args.file_index c.args.optional k i → ⊥) c.layout_keyword.ensures c.number_of.ensures.none
