-- The methods of a protocol by their places.
use Rattle.std.proofs.Common.{◌≡◌, ◌≢◌, ℕ, suc, ◌+◌, ◌-◌, ◌<◌, ◌≤◌, List, sym, subst, arith}
use Rattle.fidl_table_format.specs.declared.record.Header.{Header}
use Rattle.fidl_table_format.specs.Section.{header_of, protocol_at}
use Rattle.fidl_table_format.specs.Protocol.{methods_before}
use Rattle.fidl_table_format.specs.Method.{ordinal_at, method_name, method_number, IsMethodAt, HasNoMethod, IsFirstMethod, HasNoMethodNamed}
use Rattle.fidl_table_format.specs.WellFormed.{WellFormed}
use Rattle.fidl_verify.proofs.Ordinals.{ordinals_rise}

-- a protocol, the number of its first method and that of the one behind its last
module _ (bytes : List ℕ) (h : Header) (same : h ≡ header_of bytes) (index first end : ℕ)
    (start : first ≡ methods_before bytes (header_of bytes) index) (stop : end ≡ methods_before bytes (header_of bytes) (suc index)) where
  -- its methods are in the table
  pub in_table : WellFormed bytes → index < (header_of bytes).protocols → end ≤ h.methods
  in_table w within = subst (λ g. end ≤ g.methods) (sym same) (omega (arith, stop, (w.protocols index within).methods))

  pub rising : WellFormed bytes → index < (header_of bytes).protocols
      → (k : ℕ) → suc k < end - first → ordinal_at bytes h (first + k) < ordinal_at bytes h (first + suc k)
  rising w within =
      subst (λ g. (k : ℕ) → suc k < end - first → ordinal_at bytes g (first + k) < ordinal_at bytes g (first + suc k)) (sym same)
      (ordinals_rise bytes w index first end within start stop)

  -- a method from the first on is at a place
  at_place : (i : ℕ) → first ≤ i → i ≡ method_number bytes (header_of bytes) index (i - first)
  at_place i from = omega (arith, from, start)

  in_protocol : (i : ℕ) → first ≤ i → i < end → i - first < (protocol_at bytes (header_of bytes) index).methods
  in_protocol i from p = omega (arith, from, p, start, stop)

  behind_first : (k : ℕ) → method_number bytes (header_of bytes) index k ≡ first + k
  behind_first k = omega (arith, start)

  pub with_ordinal : (ordinal i : ℕ) → first ≤ i → i < end → ordinal_at bytes h i ≡ ordinal
      → (place : ℕ) × IsMethodAt bytes (header_of bytes) index ordinal place × (i ≡ method_number bytes (header_of bytes) index place)
  with_ordinal ordinal i from p is = (
    i - first,
    record {
      within = in_protocol i from p;
      is = subst (λ k. ordinal_at bytes (header_of bytes) k ≡ ordinal) (at_place i from) (subst (λ g. ordinal_at bytes g i ≡ ordinal) same is);
    },
    at_place i from,
  )

  pub without_ordinal : (ordinal : ℕ) → ((k : ℕ) → k < end - first → ordinal_at bytes h (first + k) ≢ ordinal) → HasNoMethod bytes (header_of bytes) index ordinal
  without_ordinal ordinal none place p e =
      none place (omega (arith, p, start, stop))
      (subst (λ g. ordinal_at bytes g (first + place) ≡ ordinal) (sym same) (subst (λ k. ordinal_at bytes (header_of bytes) k ≡ ordinal) (behind_first place) e))

  pub with_name : (name : List ℕ) (i : ℕ) → first ≤ i → i < end → method_name bytes h i ≡ name → ((k : ℕ) → first ≤ k → k < i → method_name bytes h k ≢ name)
      → (place : ℕ) × IsFirstMethod bytes (header_of bytes) index name place × (i ≡ method_number bytes (header_of bytes) index place)
  with_name name i from p is none = (
    i - first,
    record {
      within = in_protocol i from p;
      named = subst (λ k. method_name bytes (header_of bytes) k ≡ name) (at_place i from) (subst (λ g. method_name bytes g i ≡ name) same is);
      first = λ k q e.
          none (first + k) (omega arith) (omega (arith, q))
          (subst (λ g. method_name bytes g (first + k) ≡ name) (sym same) (subst (λ n. method_name bytes (header_of bytes) n ≡ name) (behind_first k) e));
    },
    at_place i from,
  )

  pub without_name : (name : List ℕ) → ((k : ℕ) → first ≤ k → k < end → method_name bytes h k ≢ name) → HasNoMethodNamed bytes (header_of bytes) index name
  without_name name none place p e =
      none (first + place) (omega arith) (omega (arith, p, start, stop))
      (subst (λ g. method_name bytes g (first + place) ≡ name) (sym same) (subst (λ k. method_name bytes (header_of bytes) k ≡ name) (behind_first place) e))
