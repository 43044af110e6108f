-- The numbers of forms, held form by form.
use Rattle.std.proofs.Common.{◌≡◌, ◌<◌, ◌≤◌, ◌+◌, ◌^◌, ◌&&◌, ℕ, Bool, true, false, cond, List, Option, Some, None, length, get_or, refl, ap, sym, subst, ◌∙◌, inl, inr, arith, nat_eq, true≢false}
use Rattle.std.specs.Prelude.{slice_get, is_some, IfSome, IsNone}
use Rattle.std.specs.Bool.{beq, Decides}
use Rattle.std.proofs.lemmas.Bool.{cases_lt, cases_Bool}
use Rattle.std.proofs.lemmas.Option.{same_Some, slice_get_within, slice_get-get_or}
use Rattle.std.proofs.Math.ListN.{get_or-map, length-map}
use Rattle.std.proofs.lemmas.Bool.Decides.{Decides-eqb, Decides-and}
use Rattle.fidl_span.specs.declared.words.Span.{Span}
use Rattle.fidl_declarations.specs.declared.form.Form.{Form as CodeForm}
use Rattle.fidl_declarations.specs.FormViews.{form_view, forms_view}
use Rattle.fidl_declarations.specs.Keywords.{layout_keyword}
use Rattle.fidl_declarations.specs.Forms.{Form, FormKind, layout_form, result_form, empty_response_form}
use Rattle.fidl_lower_types.specs.Numbers.{IsFirst, IsFormAt, IsAnswerAt, IsAnswerKind, last_step, method_path}
use Rattle.fidl_lower_types.specs.NumberViews.{LayoutKey, layout_key, kind_key, same_key, IsLayoutKey, AnswerKey, answer_key, same_answer, IsAnswerKey, AreHeld, AreHeldBefore}

-- a form of the code among the forms
pub form_there : (forms : List CodeForm) (i : ℕ) (form : CodeForm) → i < length forms → form ≡ get_or forms i form → slice_get (forms_view forms) i ≡ Some (form_view form)
form_there forms i form lt is =
    let within : i < length (forms_view forms) = omega (arith, lt, length-map forms form_view) in
    slice_get-get_or (forms_view forms) i (form_view form) within ∙ ap Some (get_or-map form_view forms i form ∙ ap form_view (sym is))

same_span : (a b : Span) → a.from ≡ b.from → a.to ≡ b.to → a ≡ b
same_span a b e f = λ j. record { from = e j; to = f j }

-- What a layout is known by.

form_known : (form : Form) (number : ℕ) (optional : Bool) (keyword : Span) → IsFormAt number optional keyword form → IsLayoutKey (layout_key number optional keyword) form
form_known form number optional keyword h =
    ap (kind_key form.file) h.kind_is
    ∙ ap (λ n. Some (layout_key n optional (layout_keyword h.layout))) h.file_is
    ∙ ap (λ k. Some (layout_key number optional k)) h.keyword_is

kind_known : (form : Form) (kind : FormKind) (number : ℕ) (optional : Bool) (keyword : Span) → form.kind ≡ kind → kind_key form.file kind ≡ Some (layout_key number optional keyword) → IsFormAt number optional keyword form
kind_known form (result_form strict r) number optional keyword is e = absurd (cc)
kind_known form empty_response_form number optional keyword is e = absurd (cc)
kind_known form (layout_form o l) number optional keyword is e =
    let key : layout_key form.file o (layout_keyword l) ≡ layout_key number optional keyword = cc in
    record {
      layout = l;
      file_is = ap (λ (k : LayoutKey). k.0) key;
      kind_is = is ∙ ap (λ b. layout_form b l) (ap (λ (k : LayoutKey). k.1) key);
      keyword_is = same_span (layout_keyword l) keyword (ap (λ (k : LayoutKey). k.2) key) (ap (λ (k : LayoutKey). k.3) key);
    }

known_form : (form : Form) (number : ℕ) (optional : Bool) (keyword : Span) → IsLayoutKey (layout_key number optional keyword) form → IsFormAt number optional keyword form
known_form form number optional keyword e = kind_known form form.kind number optional keyword refl e

pub one_layout_key : (form : Form) (j k : LayoutKey) → IsLayoutKey j form → IsLayoutKey k form → j ≡ k
one_layout_key form j k h g = same_Some j k (sym h ∙ g)

-- What an answer is known by.

answer_known : (form : Form) (number : ℕ) (empty : Bool) (protocol method : Span) → IsAnswerAt number empty protocol method form → IsAnswerKey (answer_key number empty protocol method) form
answer_known form number empty protocol method h = record {
  empty = empty;
  protocol = protocol;
  method = method;
  at = record { kind_is = h.kind_is; file_is = refl; path_is = h.path_is };
  key_is = ap (λ n. answer_key n empty protocol method) (sym h.file_is);
}

known_answer : (form : Form) (number : ℕ) (empty : Bool) (protocol method : Span) → IsAnswerKey (answer_key number empty protocol method) form → IsAnswerAt number empty protocol method form
known_answer form number empty protocol method h =
    let key = h.key_is in
    let p : h.protocol ≡ protocol = same_span h.protocol protocol (sym (ap (λ (k : AnswerKey). k.2) key)) (sym (ap (λ (k : AnswerKey). k.3) key)) in
    let m : h.method ≡ method = same_span h.method method (sym (ap (λ (k : AnswerKey). k.4) key)) (sym (ap (λ (k : AnswerKey). k.5) key)) in
    let e : h.empty ≡ empty = sym (ap (λ (k : AnswerKey). k.1) key) in
    record {
      kind_is = subst (λ b. IsAnswerKind b form.kind) e h.at.kind_is;
      file_is = sym (ap (λ (k : AnswerKey). k.0) key);
      path_is = h.at.path_is ∙ ap (λ b. method_path h.protocol h.method (last_step b)) e ∙ ap (λ s. method_path s h.method (last_step empty)) p ∙ ap (λ s. method_path protocol s (last_step empty)) m;
    }

one_empty : (a b : Bool) → last_step a ≡ last_step b → a ≡ b
one_empty true true e = refl
one_empty true false e = absurd (cc)
one_empty false true e = absurd (cc)
one_empty false false e = refl

pub one_answer_key : (form : Form) (j k : AnswerKey) → IsAnswerKey j form → IsAnswerKey k form → j ≡ k
one_answer_key form j k h g =
    let paths : method_path h.protocol h.method (last_step h.empty) ≡ method_path g.protocol g.method (last_step g.empty) = sym h.at.path_is ∙ g.at.path_is in
    let p : h.protocol ≡ g.protocol = cc in
    let m : h.method ≡ g.method = cc in
    let last : last_step h.empty ≡ last_step g.empty = cc in
    h.key_is
    ∙ ap (λ b. answer_key form.file b h.protocol h.method) (one_empty h.empty g.empty last)
    ∙ ap (λ s. answer_key form.file g.empty s h.method) p
    ∙ ap (λ s. answer_key form.file g.empty g.protocol s) m
    ∙ sym g.key_is

-- The tests of the maps.

test_flags : (x y : Bool) → Decides (beq x y) (x ≡ y)
test_flags true true = (λ e. refl, λ e. refl)
test_flags true false = (λ e. absurd (cc), λ e. absurd (cc))
test_flags false true = (λ e. absurd (cc), λ e. absurd (cc))
test_flags false false = (λ e. refl, λ e. refl)

test_parts : (x y : LayoutKey) → Decides (same_key x y) ((((x.0 ≡ y.0) × (x.1 ≡ y.1)) × (x.2 ≡ y.2)) × (x.3 ≡ y.3))
test_parts x y =
    let flags = test_flags x.1 y.1 in
    Decides-and ((nat_eq x.0 y.0 && beq x.1 y.1) && nat_eq x.2 y.2) (nat_eq x.3 y.3)
    (Decides-and (nat_eq x.0 y.0 && beq x.1 y.1) (nat_eq x.2 y.2)
    (Decides-and (nat_eq x.0 y.0) (beq x.1 y.1) (Decides-eqb x.0 y.0) flags) (Decides-eqb x.2 y.2)) (Decides-eqb x.3 y.3)

pub test_layouts : (x y : LayoutKey) → Decides (same_key x y) (x ≡ y)
test_layouts x y = (
  λ e. let h = (test_parts x y).0 e in λ j. (h.0.0.0 j, h.0.0.1 j, h.0.1 j, h.1 j),
  λ e. (test_parts x y).1 (((ap (λ (k : LayoutKey). k.0) e, ap (λ (k : LayoutKey). k.1) e), ap (λ (k : LayoutKey). k.2) e), ap (λ (k : LayoutKey). k.3) e),
)

test_more : (x y : AnswerKey) → Decides (same_answer x y) ((((((x.0 ≡ y.0) × (x.1 ≡ y.1)) × (x.2 ≡ y.2)) × (x.3 ≡ y.3)) × (x.4 ≡ y.4)) × (x.5 ≡ y.5))
test_more x y =
    let first = test_parts (x.0, x.1, x.2, x.3) (y.0, y.1, y.2, y.3) in
    let front = ((nat_eq x.0 y.0 && beq x.1 y.1) && nat_eq x.2 y.2) && nat_eq x.3 y.3 in
    Decides-and (front && nat_eq x.4 y.4) (nat_eq x.5 y.5) (Decides-and front (nat_eq x.4 y.4) first (Decides-eqb x.4 y.4)) (Decides-eqb x.5 y.5)

pub test_answers : (x y : AnswerKey) → Decides (same_answer x y) (x ≡ y)
test_answers x y = (
  λ e. let h = (test_more x y).0 e in λ j. (h.0.0.0.0.0 j, h.0.0.0.0.1 j, h.0.0.0.1 j, h.0.0.1 j, h.0.1 j, h.1 j),
  λ e. (test_more x y).1 (
    ((((ap (λ (k : AnswerKey). k.0) e, ap (λ (k : AnswerKey). k.1) e), ap (λ (k : AnswerKey). k.2) e), ap (λ (k : AnswerKey). k.3) e), ap (λ (k : AnswerKey). k.4) e),
    ap (λ (k : AnswerKey). k.5) e,
  ),
)

-- The index, one form further: each form has at most one key, and a map holds numbers by keys.
module _ {K : Type 0} (Of : K → Form → Type 0) (one_key : (form : Form) (j k : K) → Of j form → Of k form → j ≡ k) (same : K → K → Bool) (test : (j k : K) → Decides (same j k) (j ≡ k)) (forms : List Form) where
  module _ (i : ℕ) (form : Form) (at : slice_get forms i ≡ Some form) where
    -- a form that is before the next place and not before this one is this one
    this_one : (k : ℕ) (other : Form) → k < i + 1 → i ≤ k → slice_get forms k ≡ Some other → other ≡ form
    this_one k other below ge there =
        let same : k ≡ i = omega (arith, below, ge) in
        let here : slice_get forms i ≡ Some other = subst (λ n. slice_get forms n ≡ Some other) same there in
        same_Some other form (sym here ∙ at)

    -- where this form adds nothing
    stays : (held : K → Option ℕ) → ((key : K) → IsNone (held key) → i < 2 ^ 32 → Of key form → ⊥) → AreHeldBefore Of held forms i → AreHeldBefore Of held forms (i + 1)
    stays held not h = record {
      found = h.found;
      none = λ key none k other below low there its. elim (cases_lt k i) [
        | inl lt ↦ h.none key none k other lt low there its
        | inr ge ↦ not key none (omega (arith, below, ge, low)) (subst (Of key) (this_one k other below ge there) its)
      ];
    }

    pub stays_unknown : (held : K → Option ℕ) → ((key : K) → Of key form → ⊥) → AreHeldBefore Of held forms i → AreHeldBefore Of held forms (i + 1)
    stays_unknown held unknown = stays held (λ key _ _ its. unknown key its)

    pub stays_late : (held : K → Option ℕ) → (i < 2 ^ 32 → ⊥) → AreHeldBefore Of held forms i → AreHeldBefore Of held forms (i + 1)
    stays_late held late = stays held (λ key _ low _. late low)

    pub stays_known : (held : K → Option ℕ) (key : K) → Of key form → is_some (held key) ≡ true → AreHeldBefore Of held forms i → AreHeldBefore Of held forms (i + 1)
    stays_known held key is there = stays held (λ q none _ its. absurd (true≢false (sym there ∙ ap (λ k. is_some (held k)) (one_key form key q is its) ∙ none)))

    -- where it has the next number
    module _ (old new : K → Option ℕ) (key : K) (n : ℕ) (is : Of key form) (small : (n ≡ i) × (n < 2 ^ 32)) (fresh : is_some (old key) ≡ false) (updated : (q : K) → new q ≡ cond (same key q) (Some n) (old q)) (h : AreHeldBefore Of old forms i) where
      first_here : IsFirst forms (Of key) n
      first_here = record {
        form = form;
        at = subst (λ k. slice_get forms k ≡ Some form) (sym small.0) at;
        is = is;
        first = λ k other below there its. h.none key fresh k other (omega (arith, below, small.0)) (omega (arith, below, small.1)) there its;
        low = small.1;
      }

      found_now : (q : K) → IfSome (new q) (IsFirst forms (Of q))
      found_now q = elim (cases_Bool (same key q)) [
        | inl e ↦ subst (λ o. IfSome o (IsFirst forms (Of q))) (sym (updated q ∙ ap (λ b. cond b (Some n) (old q)) e)) (subst (λ k. IsFirst forms (Of k) n) ((test key q).0 e) first_here)
        | inr e ↦ subst (λ o. IfSome o (IsFirst forms (Of q))) (sym (updated q ∙ ap (λ b. cond b (Some n) (old q)) e)) (h.found q)
      ]

      none_now : (q : K) → IsNone (new q) → (k : ℕ) (other : Form) → k < i + 1 → k < 2 ^ 32 → slice_get forms k ≡ Some other → Of q other → ⊥
      none_now q none k other below low there its = elim (cases_Bool (same key q)) [
        | inl e ↦ absurd (true≢false (sym (ap is_some (updated q ∙ ap (λ b. cond b (Some n) (old q)) e)) ∙ none))
        | inr e ↦ elim (cases_lt k i) [
          | inl lt ↦ h.none q (sym (ap is_some (updated q ∙ ap (λ b. cond b (Some n) (old q)) e)) ∙ none) k other lt low there its
          | inr ge ↦ absurd (true≢false (sym ((test key q).1 (one_key form key q is (subst (Of q) (this_one k other below ge there) its))) ∙ e))
        ]
      ]

      pub grows : AreHeldBefore Of new forms (i + 1)
      grows = record { found = found_now; none = none_now }

  -- no forms are numbered yet
  pub begins : (held : K → Option ℕ) → ((key : K) → held key ≡ None) → AreHeldBefore Of held forms 0
  begins held nothing = record {
    found = λ key. subst (λ o. IfSome o (IsFirst forms (Of key))) (sym (nothing key)) tt;
    none = λ key none k other below low there its. omega (arith, below);
  }

  -- all are
  pub ends : (i : ℕ) (held : K → Option ℕ) → length forms ≤ i → AreHeldBefore Of held forms i → AreHeld Of held forms
  ends i held past h = record {
    found = h.found;
    none = λ key none k first.
        let within = slice_get_within forms k first.form first.at in
        h.none key none k first.form (omega (arith, within, past)) first.low first.at first.is;
  }

-- The first of all that are one thing is the first of all that are another, where both are the same.
pub first_too : (forms : List Form) (One Other : Form → Type 0) → ((form : Form) → One form → Other form) → ((form : Form) → Other form → One form) → (i : ℕ) → IsFirst forms One i → IsFirst forms Other i
first_too forms One Other there back i h = record {
  form = h.form;
  at = h.at;
  is = there h.form h.is;
  first = λ k other below at its. h.first k other below at (back other its);
  low = h.low;
}

module _ (forms : List Form) (number : ℕ) (optional : Bool) (keyword : Span) where
  pub layout_first : (i : ℕ) → IsFirst forms (IsLayoutKey (layout_key number optional keyword)) i → IsFirst forms (IsFormAt number optional keyword) i
  layout_first = first_too forms (IsLayoutKey (layout_key number optional keyword)) (IsFormAt number optional keyword) (λ form. known_form form number optional keyword) (λ form. form_known form number optional keyword)

  pub first_layout : (i : ℕ) → IsFirst forms (IsFormAt number optional keyword) i → IsFirst forms (IsLayoutKey (layout_key number optional keyword)) i
  first_layout = first_too forms (IsFormAt number optional keyword) (IsLayoutKey (layout_key number optional keyword)) (λ form. form_known form number optional keyword) (λ form. known_form form number optional keyword)

module _ (forms : List Form) (number : ℕ) (empty : Bool) (protocol method : Span) where
  pub answer_first : (i : ℕ) → IsFirst forms (IsAnswerKey (answer_key number empty protocol method)) i → IsFirst forms (IsAnswerAt number empty protocol method) i
  answer_first = first_too forms (IsAnswerKey (answer_key number empty protocol method)) (IsAnswerAt number empty protocol method) (λ form. known_answer form number empty protocol method) (λ form. answer_known form number empty protocol method)

  pub first_answer : (i : ℕ) → IsFirst forms (IsAnswerAt number empty protocol method) i → IsFirst forms (IsAnswerKey (answer_key number empty protocol method)) i
  first_answer = first_too forms (IsAnswerAt number empty protocol method) (IsAnswerKey (answer_key number empty protocol method)) (λ form. answer_known form number empty protocol method) (λ form. known_answer form number empty protocol method)
