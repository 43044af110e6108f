use Rattle.std.proofs.Common.{◌≡◌, ◌∙◌, ◌<◌, ℕ, zero, suc, true, false, [], ◌∷◌, Some, refl, ap, sym, subst, arith}
use Rattle.std.specs.Prelude.{slice_get}
use Rattle.std.proofs.lemmas.Option.{same_Some}
use Rattle.fidl_span.specs.declared.words.Span.{Span}
use Rattle.fidl_tree.specs.Syntax.{struct_layout}
use Rattle.fidl_declarations.specs.Keywords.{layout_keyword}
use Rattle.fidl_declarations.specs.Forms.{Form, layout_form}
use Rattle.fidl_lower_types.specs.Numbers.{IsFormAt}
use Rattle.fidl_lower_types.proofs.worked.numbers_of_layouts.Goals as goal

pub returns-clause-own : goal.returns-clause-own
returns-clause-own c = λ path name k ms. record { layout = struct_layout false k ms; file_is = refl; kind_is = refl; keyword_is = refl }

pub returns-clause-optional : goal.returns-clause-optional
returns-clause-optional c = λ form k ms is h.
    let both : layout_form false (struct_layout false k ms) ≡ layout_form true h.layout = sym is ∙ h.kind_is in
    absurd (cc)

pub returns-clause-elsewhere : goal.returns-clause-elsewhere
returns-clause-elsewhere c = λ form k j differ h g.
    let both : layout_form false h.layout ≡ layout_form false g.layout = sym h.kind_is ∙ g.kind_is in
    let same : h.layout ≡ g.layout = cc in
    differ (sym h.keyword_is ∙ ap layout_keyword same ∙ g.keyword_is)

none_first : (k : Span) (one other : Form) → (IsFormAt 2 false k one → ⊥) → (n : ℕ) (form : Form) → n < 1 → slice_get (one ∷ other ∷ []) n ≡ Some form → IsFormAt 2 false k form → ⊥
none_first k one other not zero form lt at is = not (subst (IsFormAt 2 false k) (sym (same_Some one form at)) is)
none_first k one other not (suc n) form lt at is = omega (arith, lt)

pub returns-clause-first : goal.returns-clause-first
returns-clause-first c = λ one other k not is. record { form = other; at = refl; is = is; first = none_first k one other not; low = omega arith }

pub returns-clause-later : goal.returns-clause-later
returns-clause-later c = λ one other k is h. h.first 0 one (omega arith) refl is

pub returns-clause-too_high : goal.returns-clause-too_high
returns-clause-too_high c = λ forms k h. let low = h.low in omega (arith, low)
