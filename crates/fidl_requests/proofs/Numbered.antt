-- An ordinal is that of at most one method of a protocol.
use Rattle.std.proofs.Common.{◌≡◌, ◌≢◌, ℕ, zero, suc, ◌-◌, ◌<◌, ◌⊎◌, inl, inr, Bool, true, false, IsTrue, IsFalse, arith, refl, sym, ap, subst, ◌∙◌}
use Rattle.std.proofs.lemmas.Bool.{cases_order}
use Rattle.fidl_table_format.specs.Section.{header_of, protocol_at}
use Rattle.fidl_table_format.specs.Protocol.{methods_before}
use Rattle.fidl_table_format.specs.Method.{has_request, method_number, ordinal_at, IsMethodAt}
use Rattle.fidl_verify.specs.Lookups.{TableProtocol, IsProtocolOfTable}
use Rattle.fidl_verify.proofs.Ordinals.{ordinals_rise}
use Rattle.fidl_requests.specs.Methods.{IsRequested, IsEvent, IsUnrequested, record_of}

-- numbers that rise one by one rise
rises : (f : ℕ → ℕ) (n : ℕ) → ((k : ℕ) → suc k < n → f k < f (suc k)) → (i j : ℕ) → i < j → j < n → f i < f j
rises f n step i zero less within = absurd (omega arith)
rises f n step i (suc j) less within =
    elim (cases_order i j) [
      | inl same ↦ subst (λ (k : ℕ). f k < f (suc j)) (sym same) (step j within)
      | inr (inl p) ↦ let a = rises f n step i j p (omega arith) in let b = step j within in omega (arith, a, b)
      | inr (inr p) ↦ absurd (omega arith)
    ]

-- the ordinal of the protocol's method at a place
abbrev ordinal_of : TableProtocol → (place : ℕ) → ℕ
ordinal_of p place = ordinal_at p.table (header_of p.table) (method_number p.table (header_of p.table) p.number place)

-- a protocol has one place of an ordinal
pub one_place : (p : TableProtocol) → IsProtocolOfTable p → (ordinal i j : ℕ)
    → IsMethodAt p.table (header_of p.table) p.number ordinal i → IsMethodAt p.table (header_of p.table) p.number ordinal j → i ≡ j
one_place p is ordinal i j a b =
    let first = methods_before p.table (header_of p.table) p.number in
    let end = methods_before p.table (header_of p.table) (suc p.number) in
    let n = (protocol_at p.table (header_of p.table) p.number).methods in
    let count : end - first ≡ n = omega arith in
    let step : (k : ℕ) → suc k < n → ordinal_of p k < ordinal_of p (suc k) =
    λ k less. ordinals_rise p.table is.well_formed p.number first end is.within refl refl k (omega (arith, less, count)) in
    elim (cases_order i j) [
      | inl same ↦ same
      | inr (inl less) ↦ absurd (let r = rises (ordinal_of p) n step i j less b.within in omega (arith, r, a.is, b.is))
      | inr (inr more) ↦ absurd (let r = rises (ordinal_of p) n step j i more a.within in omega (arith, r, a.is, b.is))
    ]

-- an ordinal has one method with a request
pub one_number : (p : TableProtocol) → IsProtocolOfTable p → (ordinal m n : ℕ) → IsRequested p ordinal m → IsRequested p ordinal n → m ≡ n
one_number p is ordinal m n a b = a.is ∙ ap (λ (k : ℕ). method_number p.table (header_of p.table) p.number k) (one_place p is ordinal a.place b.place a.at b.at) ∙ sym b.is

not_both : (b : Bool) → IsTrue b → IsFalse b → ⊥
not_both b t f = cc

-- no ordinal both has a method with a request and has none
pub never_both : (p : TableProtocol) → IsProtocolOfTable p → (ordinal n : ℕ) → IsUnrequested p ordinal → IsRequested p ordinal n → ⊥
never_both p is ordinal n none some =
    elim none [
      | inl h ↦ h some.place some.at.within some.at.is
      | inr h ↦
          let same : some.place ≡ h.place = one_place p is ordinal some.place h.place some.at h.at in
          let number : n ≡ method_number p.table (header_of p.table) p.number h.place = some.is ∙ ap (λ (k : ℕ). method_number p.table (header_of p.table) p.number k) same in
          not_both (has_request (record_of p.table (method_number p.table (header_of p.table) p.number h.place)))
          (subst (λ (k : ℕ). IsTrue (has_request (record_of p.table k))) number some.request) h.no_request
    ]

-- a place below n where f is a number, or none
sought : (f : ℕ → ℕ) (x n : ℕ) → ((k : ℕ) × (k < n) × (f k ≡ x)) ⊎ ((k : ℕ) → k < n → f k ≢ x)
sought f x zero = inr (λ k less e. absurd (omega arith))
sought f x (suc n) =
    elim (cases_order (f n) x) [
      | inl same ↦ inl (n, omega arith, same)
      | inr other ↦
          elim (sought f x n) [
            | inl found ↦ inl (found.0, omega arith, found.2)
            | inr none ↦ inr (λ k less e.
                elim (cases_order k n) [
                  | inl here ↦ let g : f n ≡ x = subst (λ (m : ℕ). f m ≡ x) here e in elim other [ inl p ↦ omega arith | inr p ↦ omega arith ]
                  | inr (inl p) ↦ none k p e
                  | inr (inr p) ↦ absurd (omega arith)
                ])
          ]
    ]

-- whether the method at a place has a request
by_request : (p : TableProtocol) (ordinal place : ℕ) → IsMethodAt p.table (header_of p.table) p.number ordinal place
    → (b : Bool) → b ≡ has_request (record_of p.table (method_number p.table (header_of p.table) p.number place))
    → ((number : ℕ) → IsRequested p ordinal number → ⊥) → IsEvent p ordinal
by_request p ordinal place at true e never = absurd (never (method_number p.table (header_of p.table) p.number place) (record { place = place; at = at; is = refl; request = sym e }))
by_request p ordinal place at false e never = record { place = place; at = at; no_request = sym e }

pub unrequested : (p : TableProtocol) (ordinal : ℕ) → ((number : ℕ) → IsRequested p ordinal number → ⊥) → IsUnrequested p ordinal
unrequested p ordinal never =
    elim (sought (ordinal_of p) ordinal (protocol_at p.table (header_of p.table) p.number).methods) [
      | inl found ↦ inr (by_request p ordinal found.0 (record { within = found.1; is = found.2 }) _ refl never)
      | inr none ↦ inl none
    ]
