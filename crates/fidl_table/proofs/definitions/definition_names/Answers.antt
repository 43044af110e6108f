use Rattle.std.proofs.Common.{◌≡◌, ◌∙◌, ◌+◌, ◌++◌, ◌<◌, ℕ, suc, List, [], ◌∷◌, length, get_or, drop, map, ap, sym, subst, append_assoc, drop-cons, arith}
use Rattle.std.specs.Global.{Vec}
use Rattle.std.proofs.lemmas.List.{map-append}
use Rattle.fidl_declarations.specs.declared.form.Form.{Form}
use Rattle.fidl_declarations.specs.FormViews.{form_view, forms_view}
use Rattle.fidl_table.specs.Listed.{names_of}
use Rattle.fidl_table.proofs.definitions.definition_names.Goals as goal

-- one name more
further : (forms : List Form) (i : ℕ) (x : Form) (names new : List (Vec ℕ)) (name : Vec ℕ) → i < length forms → x ≡ get_or forms i x → name.items ≡ (form_view x).name → new ≡ names ++ name ∷ [] → map (λ (v : Vec ℕ). v.items) names ++ names_of (forms_view (drop i forms)) ≡ names_of (forms_view forms) → map (λ (v : Vec ℕ). v.items) new ++ names_of (forms_view (drop (i + 1) forms)) ≡ names_of (forms_view forms)
further forms i x names new name lt is called pushed so_far =
    let rest = drop (i + 1) forms in
    let next : suc i ≡ i + 1 = omega arith in
    let cons : drop i forms ≡ x ∷ rest = drop-cons forms i x lt ∙ ap (λ (y : Form). y ∷ drop (suc i) forms) (sym is) ∙ ap (λ (n : ℕ). x ∷ drop n forms) next in
    let whole : map (λ (v : Vec ℕ). v.items) names ++ (form_view x).name ∷ names_of (forms_view rest) ≡ names_of (forms_view forms) = subst (λ (l : List Form). map (λ (v : Vec ℕ). v.items) names ++ names_of (forms_view l) ≡ names_of (forms_view forms)) cons so_far in
    let it = λ (v : Vec ℕ). v.items in
    let more = names_of (forms_view rest) in
    ap (λ (l : List (Vec ℕ)). map it l ++ more) pushed
    ∙ ap (λ (l : List (List ℕ)). l ++ more) (map-append it names (name ∷ []))
    ∙ append_assoc (map it names) (name.items ∷ []) more
    ∙ ap (λ (n : List ℕ). map it names ++ n ∷ more) called
    ∙ whole

pub loop-form-preserved : goal.loop-form-preserved
loop-form-preserved c = further c.args.forms.now c.loop-form.form-index c.form-item.result c.loop-form.names.items _ c.in_ok-name.name c.loop-form-test.true c.form-item.is c.in_ok-name.ensures c.in_ok-push.ensures.items c.loop-form.invariant
