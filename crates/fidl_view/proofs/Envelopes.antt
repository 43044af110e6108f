-- The envelopes of tables and unions, and the members in them.
use Rattle.std.proofs.Common.{◌≡◌, ℕ, suc, ◌+◌, ◌-◌, ◌*◌, ◌<◌, ◌≤◌, ◌++◌, Bool, false, List, length, refl, ap, subst, ◌∙◌, arith, inl, inr, length-append}
use Rattle.std.specs.Prelude.{◌⊎◌, Some, None, if◌then◌else◌}
use Rattle.std.proofs.Math.ListN.{length-replicate}
use Rattle.std.proofs.lemmas.Bool.{cases_lt}
use Rattle.std.proofs.lemmas.Bool.Decides.{eqb_tells}
use Rattle.fidl_wire.specs.Value.{Member, Members, empty, member}
use Rattle.fidl_wire.specs.Term.{Rows, find}
use Rattle.fidl_wire.specs.Figure.{Declarations, IsLaidOut}
use Rattle.fidl_wire.specs.Typed.{IsTypedMember, RiseTyped}
use Rattle.fidl_wire.specs.Encoding.{zeros, enveloped, envelopes}
use Rattle.fidl_wire.specs.Standing.{Stands}
use Rattle.fidl_wire.proofs.Stand.{stands_to, stands_front, stands_back, copies_stand, copies_are}
use Rattle.fidl_wire.proofs.Sizes.{length-enveloped}
use Rattle.fidl_decode_model.specs.Links.{Linked}
use Rattle.fidl_decode_model.specs.State.{Message, envelope_place}
use Rattle.fidl_decode_model.specs.Placed.{IsMemberPlaced, AreMembersPlaced}
use Rattle.fidl_decode_model.specs.Readable.{AreUnlinked, IsMemberReadable, AreMembersReadable}
use Rattle.fidl_view.specs.Parts.{at_ordinal}
use Rattle.fidl_view.proofs.Content.{stands_short}

-- ---- zeros

-- eight of many zeros
pub zeros_within : (m : List ℕ) (p k q : ℕ) → p ≤ q → q + 8 ≤ p + k → Stands m p (zeros k) → Stands m q (zeros 8)
zeros_within m p k q from to h =
    let long = length-replicate {A = ℕ} k 0 in
    let short = stands_short m p (zeros k) h in
    copies_stand m 0 8 q (omega arith) (λ i a b. copies_are m 0 k p h i (omega arith) (omega arith))

-- ---- members by their ordinals

module _ (ds : Declarations) (rows : Rows) (n : ℕ) where
  pub none_before : (ms : Members) (last ordinal : ℕ) → RiseTyped ds rows last n ms → ordinal ≤ last → at_ordinal ms ordinal ≡ None
  none_before empty last ordinal h le = refl
  none_before (member key x ms) last ordinal h le =
      let rises = h.0 in
      elim (eqb_tells key ordinal) [
        | inl same ↦ absurd (let e = same.1 in omega (arith, e, rises, le))
        | inr other ↦ ap (λ (b : Bool). if b then Some x else at_ordinal ms ordinal) other.0 ∙ none_before ms key ordinal h.3 (omega (arith, rises, le))
      ]

  pub none_after : (ms : Members) (last ordinal : ℕ) → RiseTyped ds rows last n ms → n < ordinal → at_ordinal ms ordinal ≡ None
  none_after empty last ordinal h lt = refl
  none_after (member key x ms) last ordinal h lt =
      let within = h.1 in
      elim (eqb_tells key ordinal) [
        | inl same ↦ absurd (let e = same.1 in omega (arith, e, within, lt))
        | inr other ↦ ap (λ (b : Bool). if b then Some x else at_ordinal ms ordinal) other.0 ∙ none_after ms key ordinal h.3 lt
      ]

-- ---- a table's envelopes

module _ (ds : Declarations) (laid : IsLaidOut ds) (m : Message) (l : Linked) (rows : Rows) (n base limit : ℕ) where
  -- the member of an ordinal is one of its type, stands in or behind its envelope, and can be read there
  pub record Holds (ordinal : ℕ) (x : Member) : Type 0 where
    pub typed : IsTypedMember ds false (find rows ordinal) x
    pub stands : Stands m.bytes (envelope_place base ordinal) (enveloped ds (find rows ordinal) x).inline
    pub placed : IsMemberPlaced ds m l (find rows ordinal) (envelope_place base ordinal) x
    pub readable : IsMemberReadable ds l (find rows ordinal) (envelope_place base ordinal) x
    pub within : length (enveloped ds (find rows ordinal) x).out ≤ limit

  -- zeros without a link, or a member
  abbrev pub Found : (ms : Members) (ordinal : ℕ) → Type 0
  Found ms ordinal = ((at_ordinal ms ordinal ≡ None) × Stands m.bytes (envelope_place base ordinal) (zeros 8) × AreUnlinked l (envelope_place base ordinal) (envelope_place base ordinal + 8))
      ⊎ ((x : Member) × (at_ordinal ms ordinal ≡ Some x) × Holds ordinal x)

  pub found : (ms : Members) (last ordinal : ℕ) → RiseTyped ds rows last n ms → Stands m.bytes (base + 8 * last) (envelopes ds rows (suc last) n ms).inline → AreMembersPlaced ds m l rows base ms
      → AreMembersReadable ds l rows last n base ms → length (envelopes ds rows (suc last) n ms).out ≤ limit → last < ordinal → ordinal ≤ n → Found ms ordinal
  found empty last ordinal h st placed reads within lt le = inl (
    refl,
    zeros_within m.bytes (base + 8 * last) (8 * (suc n - suc last)) (envelope_place base ordinal) (omega (arith, lt)) (omega (arith, lt, le)) st,
    λ k from to. reads k (omega (arith, from, lt)) (omega (arith, to, lt, le)),
  )
  found (member key x ms) last ordinal h st placed reads within lt le =
      let rises = h.0 in
      let gap = zeros (8 * (key - suc last)) in
      let long = length-replicate {A = ℕ} (8 * (key - suc last)) 0 in
      let own = enveloped ds (find rows key) x in
      let more = envelopes ds rows (suc key) n ms in
      let wide = length-enveloped ds laid false (find rows key) x h.2 in
      let both = stands_to m.bytes (base + 8 * last + length gap) (envelope_place base key) (own.inline ++ more.inline) (omega (arith, long, rises)) (stands_back m.bytes (base + 8 * last) gap (own.inline ++ more.inline) st) in
      let rest = stands_to m.bytes (envelope_place base key + length own.inline) (base + 8 * key) more.inline (omega (arith, wide, rises)) (stands_back m.bytes (envelope_place base key) own.inline more.inline both) in
      let outs = length-append own.out more.out in
      let mine : Holds key x = record { typed = h.2; stands = stands_front m.bytes (envelope_place base key) own.inline more.inline both; placed = placed.0; readable = reads.1; within = omega (arith, outs, within) } in
      elim (eqb_tells key ordinal) [
        | inl same ↦ inr (x, ap (λ (b : Bool). if b then Some x else at_ordinal ms ordinal) same.0, subst (λ k. Holds k x) same.1 mine)
        | inr other ↦
            let skip : at_ordinal (member key x ms) ordinal ≡ at_ordinal ms ordinal = ap (λ (b : Bool). if b then Some x else at_ordinal ms ordinal) other.0 in
            elim (cases_lt ordinal key) [
              | inl less ↦ inl (
                skip ∙ none_before ds rows n ms key ordinal h.3 (omega (arith, less)),
                zeros_within m.bytes (base + 8 * last) (8 * (key - suc last)) (envelope_place base ordinal) (omega (arith, lt)) (omega (arith, lt, less)) (stands_front m.bytes (base + 8 * last) gap (own.inline ++ more.inline) st),
                λ k from to. reads.0 k (omega (arith, from, lt)) (omega (arith, to, lt, less)),
              )
              | inr past ↦
                  let other_key = other.1 in
                  let over : key < ordinal = after key ordinal past other_key in
                  elim (found ms key ordinal h.3 rest placed.1 reads.2 (omega (arith, outs, within)) over le) [
                    | inl lacks ↦ inl (skip ∙ lacks.0, lacks.1, lacks.2)
                    | inr there ↦ inr (there.0, skip ∙ there.1, there.2)
                  ]
            ]
      ]
    where
      after : (a b : ℕ) → a ≤ b → (a ≡ b → ⊥) → a < b
      after a b le other = elim (cases_lt a b) [ inl lt ↦ lt | inr ge ↦ absurd (other (omega (arith, le, ge))) ]
