-- Flags that say which definitions are resources.
use Rattle.std.proofs.Common.{◌≡◌, ℕ, suc, ◌+◌, ◌<◌, ◌≤◌, inl, inr, Bool, true, false, List, [], ◌∷◌, ◌++◌, length, map, get_or, Some, refl, ap, sym, ◌∙◌, arith}
use Rattle.std.specs.Prelude.{slice_get, Option, None, unwrap_or, IfSome, IsNone, is_some, ◌||◌}
use Rattle.std.specs.List.{list_any}
use Rattle.std.proofs.Common.{zero}
use Rattle.std.proofs.lemmas.Bool.{cases_lt}
use Rattle.std.proofs.lemmas.List.{get_or_past}
use Rattle.std.proofs.Math.ListN.{get_or-map, get_or-append}
use Rattle.std.proofs.Math.Seq.{get_or-append_seam}
use Rattle.fidl_wire.specs.Term.{Term, nothing}
use Rattle.fidl_ir_rules.specs.declared.mark.Mark.{Mark}
use Rattle.fidl_ir_rules.specs.declared.mark.Mark.TheVariants.{Value}
use Rattle.fidl_ir_rules.specs.Resources.{bears, is_marked, mark_of, is_resource_by, is_resource}
use Rattle.fidl_ir_rules.specs.Flags.{is_flagged, BearsAt, NoneBears}

-- the flags of the marked ones, as a function
pub marks_flagged : (marks : List Mark) (flags : List Bool) → flags ≡ map is_marked marks → is_flagged flags ≡ (λ j. is_marked (mark_of marks j))
marks_flagged marks flags e = λ i j. each j i
  where
    each : (j : ℕ) → is_flagged flags j ≡ is_marked (mark_of marks j)
    each j = ap (λ (fs : List Bool). get_or fs j false) e ∙ get_or-map is_marked marks j Value

-- a definition past the marks is no resource
pub past_marks : (terms : List Term) (marks : List Mark) (i : ℕ) → length marks ≤ i → is_resource terms marks i ≡ false
past_marks terms marks i past = ap (λ (m : Mark). is_resource_by (λ j. is_marked (mark_of marks j)) m (get_or terms i nothing)) (get_or_past marks i Value past)

or_right : (a b : Bool) → b ≡ true → (a || b) ≡ true
or_right true b h = refl
or_right false b h = h

-- whether a member bears, by the first that does
any_of : (is_one : ℕ → Bool) (types : List Term) (m : ℕ) (t : Term) → slice_get types m ≡ Some t → bears is_one t ≡ true → list_any (bears is_one) types ≡ true
any_of is_one [] m t at h = cc
any_of is_one (u ∷ ts) zero t at h =
    let same : u ≡ t = ap (λ (o : Option Term). unwrap_or o t) at in
    ap (λ (b : Bool). b || list_any (bears is_one) ts) (ap (bears is_one) same ∙ h)
any_of is_one (u ∷ ts) (suc m) t at h = or_right (bears is_one u) (list_any (bears is_one) ts) (any_of is_one ts m t at h)

none_of : (is_one : ℕ → Bool) (types : List Term) → NoneBears is_one types → list_any (bears is_one) types ≡ false
none_of is_one [] h = refl
none_of is_one (t ∷ ts) h = ap (λ (b : Bool). b || list_any (bears is_one) ts) h.0 ∙ none_of is_one ts h.1

pub any_bears : (is_one : ℕ → Bool) (types : List Term) (r : Option ℕ) → IfSome r (BearsAt is_one types) → (IsNone r → NoneBears is_one types) → is_some r ≡ list_any (bears is_one) types
any_bears is_one types (Some m) some none = sym (any_of is_one types m some.member some.among some.resource)
any_bears is_one types None some none = sym (none_of is_one types (none refl))

-- one more flag
pub flags_more : (flags : List Bool) (x : Bool) (n : ℕ) → length flags ≡ n → (resource : ℕ → Bool) → ((i : ℕ) → i < n → is_flagged flags i ≡ resource i) → x ≡ resource n → (i : ℕ) → i < n + 1 → is_flagged (flags ++ x ∷ []) i ≡ resource i
flags_more flags x n long resource so_far this i less = elim (cases_lt i n) [
  | inl below ↦ get_or-append flags (x ∷ []) false i (omega (arith, below, long)) ∙ so_far i below
  | inr above ↦
      let same : i ≡ length flags = omega (arith, less, above, long) in
      let last : i ≡ n = omega (arith, less, above) in
      ap (λ (k : ℕ). get_or (flags ++ x ∷ []) k false) same ∙ get_or-append_seam flags x [] false ∙ this ∙ sym (ap resource last)
]
