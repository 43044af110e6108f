-- The methods of protocols: where they stand, and that their ordinals rise.
use Rattle.std.proofs.Common.{◌≡◌, ℕ, zero, suc, ◌+◌, ◌-◌, ◌<◌, ◌≤◌, List, Bool, true, false, if◌then◌else◌, inl, inr, refl, ap, sym, ◌∙◌, subst, arith, add-one}
use Rattle.std.specs.Prelude.{◌==◌}
use Rattle.std.proofs.lemmas.Bool.{cases_order, eq-eqb}
use Rattle.fidl_table_format.specs.declared.record.Header.{Header}
use Rattle.fidl_table_format.specs.declared.record.ProtocolRecord.{ProtocolRecord}
use Rattle.fidl_table_format.specs.Section.{header_of, protocol_at}
use Rattle.fidl_table_format.specs.Protocol.{IsMethodOf, HasMethods, methods_before}
use Rattle.fidl_table_format.specs.Method.{OrdinalRises, PayloadHolds, HasPayload, no_payload, ordinal_at}
use Rattle.fidl_table_format.specs.WellFormed.{WellFormed}
use Rattle.fidl_verify.specs.declared.method.Payload.TheVariants.{Empty, Entry}
use Rattle.fidl_verify.specs.Lookups.{payload_of, EntryHolds}
use Rattle.fidl_verify.proofs.Stated.{or_last}

module _ (bytes : List ℕ) (h : Header) where
  -- more methods than the section has left
  pub past_section : (index before : ℕ) (p : ProtocolRecord) → p ≡ protocol_at bytes h index → before ≡ methods_before bytes h index → h.methods < before + p.methods → HasMethods bytes h index → ⊥
  past_section index before p is same past has =
      let m : p.methods ≡ (protocol_at bytes h index).methods = ap (λ (q : ProtocolRecord). q.methods) is in
      omega (arith, m, same, past, has)

  -- the protocols up to a later one have no fewer methods
  pub grows : (i j : ℕ) → i ≤ j → methods_before bytes h i ≤ methods_before bytes h j
  grows i zero le = let e : i ≡ zero = omega (arith, le) in subst (λ k. methods_before bytes h k ≤ methods_before bytes h zero) (sym e) (omega arith)
  grows i (suc j) le =
      elim (or_last i (suc j) (omega (arith, le))) [
        | inl less ↦ omega (arith, grows i j (omega (arith, less)))
        | inr same ↦ subst (λ k. methods_before bytes h k ≤ methods_before bytes h (suc j)) (sym same) (omega arith)
      ]

  -- a method is of one protocol
  pub one_protocol : (p q method : ℕ) → IsMethodOf bytes h p method → IsMethodOf bytes h q method → p ≡ q
  one_protocol p q method a b =
      elim (cases_order p q) [
        | inl same ↦ same
        | inr (inl less) ↦ absurd (omega (arith, grows (suc p) q (omega (arith, less)), a.to, b.from))
        | inr (inr more) ↦ absurd (omega (arith, grows (suc q) p (omega (arith, more)), b.to, a.from))
      ]

  -- the first method of a protocol has none before it there
  pub first_rises : (protocol : ℕ) → (methods : ℕ) → methods ≡ methods_before bytes h protocol → IsMethodOf bytes h protocol methods → OrdinalRises bytes h methods
  first_rises protocol methods first own before other next within a b =
      let same : other ≡ protocol = one_protocol other protocol methods b own in
      let there : methods_before bytes h protocol ≤ before = subst (λ k. methods_before bytes h k ≤ before) same a.from in
      absurd (omega (arith, there, first, next))

  -- another has a lesser ordinal before it
  pub next_rises : (index : ℕ) → ((before : ℕ) → suc before ≡ index → ordinal_at bytes h before < ordinal_at bytes h index) → OrdinalRises bytes h index
  next_rises index less before other next within a b = less before next

module _ (bytes : List ℕ) (h : Header) where
  -- how many methods there are up to the next protocol
  pub next_before : (index before : ℕ) (p : ProtocolRecord) → p ≡ protocol_at bytes h index → before ≡ methods_before bytes h index → before + p.methods ≡ methods_before bytes h (index + 1)
  next_before index before p is same =
      let up : before + p.methods ≡ methods_before bytes h (suc index) = λ j. same j + (is j).methods in
      up ∙ ap (methods_before bytes h) (sym (add-one index))

  less_of : (a last ordinal b : ℕ) → last ≡ a → ordinal ≡ b → last < ordinal → a < b
  less_of a last ordinal b e f p = omega (arith, e, f, p)

  not_less : (a last ordinal b : ℕ) → last ≡ a → ordinal ≡ b → ordinal ≤ last → a < b → ⊥
  not_less a last ordinal b e f p q = omega (arith, e, f, p, q)

  -- a method, by its protocol, the first method of that, and the ordinal of the one before, if any
  module _ (index first protocol last ordinal : ℕ) (start : first ≡ methods_before bytes h protocol) (own : IsMethodOf bytes h protocol index) (from : first ≤ index)
      (before : (k : ℕ) → first ≤ k → suc k ≡ index → last ≡ ordinal_at bytes h k) (is : ordinal ≡ ordinal_at bytes h index) where
    pub ordinal_rises : last < ordinal → OrdinalRises bytes h index
    ordinal_rises less =
        elim (cases_order first index) [
          | inl same ↦ first_rises bytes h protocol index (sym same ∙ start) own
          | inr (inl p) ↦ next_rises bytes h index (λ k e. less_of (ordinal_at bytes h k) last ordinal (ordinal_at bytes h index) (before k (omega (arith, p, e)) e) is less)
          | inr (inr p) ↦ absurd (omega (arith, p, from))
        ]

    pub never_rises : protocol < h.protocols → (index ≡ first → last ≡ 0) → 0 < ordinal_at bytes h index → ordinal ≤ last → OrdinalRises bytes h index → ⊥
    never_rises within none some more rises =
        elim (cases_order first index) [
          | inl same ↦ not_less 0 last ordinal (ordinal_at bytes h index) (none (sym same)) is more some
          | inr (inl p) ↦
              let next : suc (index - 1) ≡ index = omega (arith, p) in
              let there : IsMethodOf bytes h protocol (index - 1) = record { from = omega (arith, p, start); to = omega (arith, p, own.to) } in
              not_less (ordinal_at bytes h (index - 1)) last ordinal (ordinal_at bytes h index) (before (index - 1) (omega (arith, p)) next) is more (rises (index - 1) protocol next within there own)
          | inr (inr p) ↦ absurd (omega (arith, p, from))
        ]

-- the ordinals of a protocol of a well-formed table rise
pub ordinals_rise : (bytes : List ℕ) → WellFormed bytes → (protocol first end : ℕ) → protocol < (header_of bytes).protocols
    → first ≡ methods_before bytes (header_of bytes) protocol → end ≡ methods_before bytes (header_of bytes) (suc protocol)
    → (k : ℕ) → suc k < end - first → ordinal_at bytes (header_of bytes) (first + k) < ordinal_at bytes (header_of bytes) (first + suc k)
ordinals_rise bytes w protocol first end within a b k p =
    let room = (w.protocols protocol within).methods in
    let next : suc (first + k) ≡ first + suc k = omega arith in
    (w.methods (first + suc k) (omega (arith, p, a, b, room))).rises (first + k) protocol next within
    (record { from = omega (arith, a); to = omega (arith, a, b, p) })
    (record { from = omega (arith, a); to = omega (arith, a, b, p) })

-- what a message carries is an entry that a payload may have
by_test : (table : List ℕ) (entry : ℕ) (same : Bool) → (same ≡ false → HasPayload table (header_of table) entry) → EntryHolds table (if same then Empty else Entry entry)
by_test table entry true has = tt
by_test table entry false has = has refl

pub entry_holds : (table : List ℕ) (has : Bool) (entry : ℕ) → PayloadHolds table (header_of table) has entry → EntryHolds table (payload_of has entry)
entry_holds table false entry p = tt
entry_holds table true entry p =
    by_test table entry (entry == no_payload)
    (λ e. elim p [ inl same ↦ absurd (let never : false ≡ true = sym e ∙ eq-eqb entry no_payload same in cc) | inr there ↦ there.1 ])
