-- The first of a list of which something is true, and the first empty response of a method.
use Rattle.std.proofs.Common.{◌≡◌, ◌<◌, ◌≤◌, ◌^◌, ◌⊎◌, ℕ, zero, suc, List, [], ◌∷◌, Some, length, refl, ap, sym, subst, ◌∙◌, inl, inr, arith}
use Rattle.std.specs.Prelude.{slice_get}
use Rattle.std.specs.List.{Contains}
use Rattle.std.proofs.lemmas.Bool.{cases_lt}
use Rattle.std.proofs.lemmas.Option.{same_Some, slice_get_within}
use Rattle.fidl_span.specs.declared.words.Span.{Span}
use Rattle.fidl_consts.proofs.Among.{among_none, among_cases}
use Rattle.fidl_declarations.specs.declared.step.Step.{Step}
use Rattle.fidl_declarations.specs.declared.step.Step.TheVariants as step
use Rattle.fidl_declarations.specs.Sites.{within}
use Rattle.fidl_declarations.specs.Forms.{Form, FormKind, layout_form, result_form, empty_response_form}
use Rattle.fidl_lower_layouts.specs.Results.{AreOfOneMethod, IsEmptyOf, IsFirstEmpty}
use Rattle.fidl_lower_layouts.proofs.Paths.{one_before}

-- it is true, or it is not
abbrev pub Decided : Type 0 → Type 0
Decided P = P ⊎ (P → ⊥)

same_number : (m n : ℕ) → Decided (m ≡ n)
same_number m n = elim (cases_lt m n) [
  | inl lt ↦ inr (λ e. omega (arith, lt, e))
  | inr ge ↦ elim (cases_lt n m) [
    | inl lt ↦ inr (λ e. omega (arith, lt, e))
    | inr le ↦ inl (omega (arith, ge, le))
  ]
]

both_same : (s t : Span) → s.from ≡ t.from → s.to ≡ t.to → s ≡ t
both_same s t from to = ap (λ (n : ℕ). record { from = n; to = s.to }) from ∙ ap (λ (n : ℕ). record { from = t.from; to = n }) to

same_span : (s t : Span) → Decided (s ≡ t)
same_span s t = elim (same_number s.from t.from) [
  | inr not ↦ inr (λ e. not (ap (λ (x : Span). x.from) e))
  | inl from ↦ elim (same_number s.to t.to) [
    | inr not ↦ inr (λ e. not (ap (λ (x : Span). x.to) e))
    | inl to ↦ inl (both_same s t from to)
  ]
]

same_name : (s t : Span) → Decided (s ≡ t) → Decided (step.Name s ≡ step.Name t)
same_name s t (inl is) = inl (ap step.Name is)
same_name s t (inr not) = inr (λ e. not (let is : s ≡ t = cc in is))

same_step : (s t : Step) → Decided (s ≡ t)
same_step (step.Name s) (step.Name t) = same_name s t (same_span s t)
same_step (step.Name s) step.Request = inr (λ e. absurd (cc))
same_step (step.Name s) step.Response = inr (λ e. absurd (cc))
same_step (step.Name s) step.Error = inr (λ e. absurd (cc))
same_step (step.Name s) step.Result = inr (λ e. absurd (cc))
same_step step.Request (step.Name t) = inr (λ e. absurd (cc))
same_step step.Request step.Request = inl refl
same_step step.Request step.Response = inr (λ e. absurd (cc))
same_step step.Request step.Error = inr (λ e. absurd (cc))
same_step step.Request step.Result = inr (λ e. absurd (cc))
same_step step.Response (step.Name t) = inr (λ e. absurd (cc))
same_step step.Response step.Request = inr (λ e. absurd (cc))
same_step step.Response step.Response = inl refl
same_step step.Response step.Error = inr (λ e. absurd (cc))
same_step step.Response step.Result = inr (λ e. absurd (cc))
same_step step.Error (step.Name t) = inr (λ e. absurd (cc))
same_step step.Error step.Request = inr (λ e. absurd (cc))
same_step step.Error step.Response = inr (λ e. absurd (cc))
same_step step.Error step.Error = inl refl
same_step step.Error step.Result = inr (λ e. absurd (cc))
same_step step.Result (step.Name t) = inr (λ e. absurd (cc))
same_step step.Result step.Request = inr (λ e. absurd (cc))
same_step step.Result step.Response = inr (λ e. absurd (cc))
same_step step.Result step.Error = inr (λ e. absurd (cc))
same_step step.Result step.Result = inl refl

same_path : (p q : List Step) → Decided (p ≡ q)
same_path [] [] = inl refl
same_path [] (t ∷ q) = inr (λ e. absurd (cc))
same_path (s ∷ p) [] = inr (λ e. absurd (cc))
same_path (s ∷ p) (t ∷ q) = elim (same_step s t) [
  | inr not ↦ inr (λ e. not (let is : s ≡ t = cc in is))
  | inl first ↦ elim (same_path p q) [
    | inr not ↦ inr (λ e. not (let is : p ≡ q = cc in is))
    | inl rest ↦ inl (cc)
  ]
]

is_empty : (kind : FormKind) → Decided (kind ≡ empty_response_form)
is_empty (layout_form optional l) = inr (λ e. absurd (cc))
is_empty (result_form strict r) = inr (λ e. absurd (cc))
is_empty empty_response_form = inl refl

-- whether a form is the empty response of the method of this path
module _ (number : ℕ) (method : List Step) where
  abbrev result_path : List Step
  result_path = within method step.Result

  response_of : (p : List Step) → AreOfOneMethod result_path p → p ≡ within method step.Response
  response_of p h = h.of_response ∙ ap (λ m. within m step.Response) (sym (one_before method h.method step.Result step.Result h.of_result).0)

  pub empty_decided : (form : Form) → Decided (IsEmptyOf number result_path form)
  empty_decided form = elim (is_empty form.kind) [
    | inr not ↦ inr (λ h. not h.kind_is)
    | inl kind ↦ elim (same_number form.file number) [
      | inr not ↦ inr (λ h. not h.file_is)
      | inl file ↦ elim (same_path form.path (within method step.Response)) [
        | inr not ↦ inr (λ h. not (response_of form.path h.of_method))
        | inl path ↦ inl (record { kind_is = kind; file_is = file; of_method = record { method = method; of_result = refl; of_response = path } })
      ]
    ]
  ]

-- The first.
pub record IsFirst {X : Type 0} (P : X → Type 0) (xs : List X) (i : ℕ) : Type 0 where
  pub one : X
  pub at : slice_get xs i ≡ Some one
  pub is : P one
  pub first : (k : ℕ) (other : X) → k < i → slice_get xs k ≡ Some other → P other → ⊥

module _ {X : Type 0} (P : X → Type 0) (decided : (x : X) → Decided (P x)) where
  abbrev HasFirst : List X → Type 0
  HasFirst xs = (i : ℕ) × IsFirst P xs i

  none_before : (y : X) (xs : List X) (i : ℕ) (h : IsFirst P xs i) → (P y → ⊥) → (k : ℕ) (other : X) → k < suc i → slice_get (y ∷ xs) k ≡ Some other → P other → ⊥
  none_before y xs i h not zero other below at p = not (subst P (sym (same_Some y other at)) p)
  none_before y xs i h not (suc k) other below at p = h.first k other (omega (arith, below)) at p

  one_later : (y : X) (xs : List X) → (P y → ⊥) → HasFirst xs → HasFirst (y ∷ xs)
  one_later y xs not h = (suc h.0, record { one = h.1.one; at = h.1.at; is = h.1.is; first = none_before y xs h.0 h.1 not })

  -- by whether it is true of the first of them
  first_by : (y : X) (xs : List X) → Decided (P y) → ((P y → ⊥) → HasFirst xs) → HasFirst (y ∷ xs)
  first_by y xs (inl held) later = (zero, record { one = y; at = refl; is = held; first = λ k other below at q. absurd (omega (arith, below)) })
  first_by y xs (inr not) later = one_later y xs not (later not)

  pub first_of : (xs : List X) (x : X) → Contains xs x → P x → HasFirst xs
  first_of [] x h p = absurd (among_none x h)
  first_of (y ∷ xs) x h p =
      first_by y xs (decided y) (λ not. elim (among_cases y x xs h) [
        | inl is ↦ absurd (not (subst P (sym is) p))
        | inr later ↦ first_of xs x later p
      ])

-- an empty response among few enough forms has its number
pub empty_number : (forms : List Form) (number : ℕ) (method : List Step) (form : Form) → length forms ≤ 2 ^ 32 → Contains forms form → IsEmptyOf number (within method step.Result) form → (i : ℕ) × IsFirstEmpty forms number (within method step.Result) i
empty_number forms number method form few among is =
    let found = first_of (IsEmptyOf number (within method step.Result)) (empty_decided number method) forms form among is in
    let its = found.1 in
    let below = slice_get_within forms found.0 its.one its.at in
    (found.0, record { form = its.one; at = its.at; is = its.is; first = its.first; low = omega (arith, below, few) })
