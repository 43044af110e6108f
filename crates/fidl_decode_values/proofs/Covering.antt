-- Links that agree with a state on the cells of some places, and lead from an envelope to its member.
use Rattle.std.proofs.Common.{◌≡◌, ℕ, ◌+◌, ◌-◌, ◌*◌, ◌/◌, ◌<◌, ◌≤◌, ◌++◌, length, get_or, refl, sym, ap, subst, ◌∙◌, arith, get_or-set_same, length-set}
use Rattle.std.specs.Prelude.{Bool, true, false, cond, nat_le, [], slice_set}
use Rattle.std.specs.Int.{next_multiple_of}
use Rattle.fidl_wire.specs.Encoding.{Encoding, zeros, padded, pad8, object, envelope, envelope_end, inline_envelope, out_envelope}
use Rattle.fidl_wire.specs.Standing.{Stands, Carries}
use Rattle.fidl_wire.proofs.Sizes.{le-next_multiple_of, le_of_test}
use Rattle.fidl_wire.proofs.Stand.{stands_to, stands_front, stands_back}
use Rattle.fidl_decode_model.specs.Links.{Linked}
use Rattle.fidl_decode_model.specs.State.{Message, Position, member_at, begun, StandsAt}
use Rattle.fidl_decode_model.specs.Placed.{enclosed_at, first_record_at}
use Rattle.fidl_decode_model.proofs.After.{length-pad8}
use Rattle.fidl_decode_model.proofs.Keeping.{Apart, Keeps}

-- links agree with a state on the cells of the places from a up to b
pub record Covers (l : Linked) (r : Position) (a b : ℕ) : Type 0 where
  pub objects : (k : ℕ) → a ≤ k → k + 8 ≤ b → get_or l.objects (k / 8) 0 ≡ get_or r.objects (k / 8) 0
  pub records : (k : ℕ) → a ≤ k → k + 4 ≤ b → get_or l.records (k / 4) 0 ≡ get_or r.records (k / 4) 0

pub covers_within : (l : Linked) (r : Position) (a b c d : ℕ) → a ≤ c → d ≤ b → Covers l r a b → Covers l r c d
covers_within l r a b c d le lt h = record { objects = λ k x y. h.objects k (omega arith) (omega arith); records = λ k x y. h.records k (omega arith) (omega arith) }

-- also with an earlier state, where nothing is linked there in between
pub covers_before : (l : Linked) (mid r : Position) (a b c d e f : ℕ) → ((k n : ℕ) → a ≤ k → k + n ≤ b → Apart k n c d × Apart k n e f) → Keeps c d e f mid r → Covers l r a b → Covers l mid a b
covers_before l mid r a b c d e f out g h = record {
  objects = λ k x y. h.objects k x y ∙ g.objects k (out k 8 x y).0 (out k 8 x y).1;
  records = λ k x y. h.records k x y ∙ g.records k (out k 4 x y).0 (out k 4 x y).1;
}

-- the bytes from a place up to an end lie before the objects that a run from s to r reads, which have cells, and links agree with r on both
pub record Fits (l : Linked) (place to : ℕ) (s r : Position) : Type 0 where
  pub before : to ≤ s.next
  pub objects : r.next ≤ 8 * length s.objects
  pub records : r.next ≤ 4 * length s.records
  pub near : Covers l r place to
  pub far : Covers l r s.next r.next

module _ (m : Message) where
  -- the object out of line of an encoding
  pub object_stands : (e : Encoding) (n : ℕ) (s mid : Position) → n ≡ length e.inline → mid.next ≡ s.next + next_multiple_of n 8 → mid.handle ≡ s.handle
      → Stands m.bytes s.next (pad8 e.inline ++ e.out) → Carries m.handles s.handle e.handles → StandsAt m e s.next mid
  object_stands e n s mid len next hand o c =
      let front = stands_front m.bytes s.next (pad8 e.inline) e.out o in
      let pads = length-pad8 e.inline ∙ ap (λ k. next_multiple_of k 8) (sym len) in
      record {
        inline = stands_front m.bytes s.next e.inline (zeros (next_multiple_of (length e.inline) 8 - length e.inline)) front;
        out = stands_to m.bytes (s.next + length (pad8 e.inline)) mid.next e.out (omega arith) (stands_back m.bytes s.next (pad8 e.inline) e.out o);
        carried = subst (λ k. Carries m.handles k e.handles) (sym hand) c;
      }

  -- what an envelope holds or points to stands where its member begins
  pub envelope_stands : (size place : ℕ) (a : Encoding) (s : Position) → length a.inline ≡ size → (size ≤ 4 → a.out ≡ []) → StandsAt m (envelope size a) place s → StandsAt m a (member_at (nat_le size 4) place s) (begun (nat_le size 4) place size s)
  envelope_stands size place a s long no_more = go (nat_le size 4) refl
    where
      go : (b : Bool) → nat_le size 4 ≡ b → StandsAt m (cond b (inline_envelope (padded 4 a.inline) a.handles) (out_envelope (object a) a.handles)) place s → StandsAt m a (member_at b place s) (begun b place size s)
      go true e st = record {
        inline = stands_front m.bytes place a.inline (zeros (4 - length a.inline)) (stands_front m.bytes place (padded 4 a.inline) (envelope_end 1 a.handles) st.inline);
        out = subst (λ o. Stands m.bytes s.next o) (sym (no_more (le_of_test size e))) tt;
        carried = st.carried;
      }
      go false e st = object_stands a size s (begun false place size s) (sym long) refl refl st.out st.carried

module _ (l : Linked) where
  -- the links lead from an envelope to its member, on whose bytes they agree too
  pub member_fits : (size place : ℕ) (s r : Position) → Keeps (member_at (nat_le size 4) place s) (member_at (nat_le size 4) place s + size) (begun (nat_le size 4) place size s).next r.next (begun (nat_le size 4) place size s) r
      → Fits l place (place + 8) s r → Fits l (member_at (nat_le size 4) place s) (member_at (nat_le size 4) place s + size) (begun (nat_le size 4) place size s) r × (enclosed_at l (nat_le size 4) place ≡ member_at (nat_le size 4) place s)
  member_fits size place s r = go (nat_le size 4) refl
    where
      go : (b : Bool) → nat_le size 4 ≡ b → Keeps (member_at b place s) (member_at b place s + size) (begun b place size s).next r.next (begun b place size s) r → Fits l place (place + 8) s r
          → Fits l (member_at b place s) (member_at b place s + size) (begun b place size s) r × (enclosed_at l b place ≡ member_at b place s)
      go true e k fit =
          let small = le_of_test size e in
          let many = length-set s.records ((place + 4) / 4) (s.handle + 1) in
          let before = fit.before in
          let room = fit.objects in
          let room_records = fit.records in (
            record {
              before = omega arith;
              objects = room;
              records = omega arith;
              near = covers_within l r place (place + 8) place (place + size) (omega arith) (omega arith) fit.near;
              far = fit.far;
            },
            refl,
          )
      go false e k fit =
          let mid = begun false place size s in
          let many = length-set s.objects (place / 8) s.next in
          let many_records = length-set s.records ((place + 4) / 4) (s.handle + 1) in
          let before = fit.before in
          let room = fit.objects in
          let room_records = fit.records in
          let grows = k.grows in
          let up = le-next_multiple_of size 8 in
          let in_range : place / 8 < length s.objects = omega arith in
          let link = fit.near.objects place (omega arith) (omega arith) ∙ k.objects place (λ p q. omega arith) (λ p q. omega arith) ∙ get_or-set_same s.objects (place / 8) s.next 0 in_range in (
            record {
              before = omega arith;
              objects = omega arith;
              records = omega arith;
              near = covers_within l r s.next r.next s.next (s.next + size) (omega arith) (omega arith) fit.far;
              far = covers_within l r s.next r.next mid.next r.next (omega arith) (omega arith) fit.far;
            },
            link,
          )

  -- the links lead from an envelope to its first record
  pub first_is : (place : ℕ) (s r : Position) → s.next ≤ r.next → r.records ≡ slice_set s.records ((place + 4) / 4) (s.handle + 1) → Fits l place (place + 8) s r → first_record_at l place ≡ s.handle
  first_is place s r grows same fit =
      let before = fit.before in
      let room_records = fit.records in
      let in_range : (place + 4) / 4 < length s.records = omega arith in
      let cell = fit.near.records (place + 4) (omega arith) (omega arith) ∙ ap (λ cells. get_or cells ((place + 4) / 4) 0) same ∙ get_or-set_same s.records ((place + 4) / 4) (s.handle + 1) 0 in_range in
      omega (arith, cell)
