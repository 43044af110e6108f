-- What a method carries, and whether it has such a message.
use Rattle.std.proofs.Common.{◌≡◌, ◌↔◌, ℕ, Bool, true, false, IsTrue, List, if◌then◌else◌, refl, sym, subst, ◌∙◌}
use Rattle.std.specs.Prelude.{◌==◌}
use Rattle.fidl_wire.specs.declared.handle.HandleInfo.{HandleInfo}
use Rattle.fidl_table_format.specs.Section.{header_of}
use Rattle.fidl_table_format.specs.Method.{no_payload, has_request, method_number, IsMethodAt}
use Rattle.fidl_verify.specs.declared.method.Payload.{Payload}
use Rattle.fidl_verify.specs.declared.method.Payload.TheVariants.{Missing, Empty, Entry}
use Rattle.fidl_verify.specs.Lookups.{TableProtocol, TableMethod, method_record, request_of, payload_of}
use Rattle.fidl_requests.specs.Carried.{IsCarried}
use Rattle.fidl_requests.specs.Methods.{IsRequested, IsEvent, record_of}

some_payload : (same : Bool) (entry : ℕ) → (if same then Empty else Entry entry) ≡ Missing → ⊥
some_payload true entry e = cc
some_payload false entry e = cc

-- only a method without the message has none
missing : (b : Bool) (entry : ℕ) → payload_of b entry ≡ Missing → b ≡ false
missing true entry e = absurd (some_payload (entry == no_payload) entry e)
missing false entry e = refl

there : (b : Bool) (entry : ℕ) → (payload_of b entry ≡ Missing → ⊥) → b ≡ true
there true entry n = refl
there false entry n = absurd (n refl)

-- the method of an ordinal, as a look-up finds it
abbrev Found : (p : TableProtocol) (ordinal : ℕ) (m : TableMethod) → Type 0
Found p ordinal m = (place : ℕ) × IsMethodAt p.table (header_of p.table) p.number ordinal place × (m.number ≡ method_number p.table (header_of p.table) p.number place)

module _ (p : TableProtocol) (ordinal : ℕ) (m : TableMethod) (of_table : m.table ≡ p.table) (found : Found p ordinal m) (carries : Payload) (is : carries ≡ request_of (method_record m)) where
  has : (b : Bool) → has_request (method_record m) ≡ b → has_request (record_of p.table m.number) ≡ b
  has b e = subst (λ (t : List ℕ). has_request (record_of t m.number) ≡ b) of_table e

  pub an_event : carries ≡ Missing → IsEvent p ordinal
  an_event none =
      let e = has false (missing (has_request (method_record m)) (method_record m).request (sym is ∙ none)) in
      record { place = found.0; at = found.1; no_request = subst (λ (n : ℕ). has_request (record_of p.table n) ≡ false) found.2 e }

  pub is_requested : (carries ≡ Missing → ⊥) → IsRequested p ordinal m.number
  is_requested some = record { place = found.0; at = found.1; is = found.2; request = has true (there (has_request (method_record m)) (method_record m).request (λ e. some (is ∙ e))) }

-- what is carried, by other names
pub carried_as : (r : Bool) (table : List ℕ) (p q : Payload) (bytes body : List ℕ) (handles others : List HandleInfo) → p ≡ q → bytes ≡ body → handles ≡ others
    → (IsTrue r ↔ IsCarried table p bytes handles) → (IsTrue r ↔ IsCarried table q body others)
carried_as r table p q bytes body handles others e f g h =
    subst (λ (x : Payload). IsTrue r ↔ IsCarried table x body others) e (subst (λ (y : List ℕ). IsTrue r ↔ IsCarried table p y others) f (subst (λ (z : List HandleInfo). IsTrue r ↔ IsCarried table p bytes z) g h))
