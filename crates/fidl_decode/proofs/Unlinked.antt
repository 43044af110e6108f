-- What a run links can be read: each link that is looked for is written, and none stands over other bytes of the value.
use Rattle.std.proofs.Common.{◌≡◌, ◌⊎◌, inl, inr, ℕ, ◌+◌, ◌*◌, ◌/◌, ◌%◌, ◌<◌, ◌≤◌, length, get_or, refl, sym, ap, subst, ◌∙◌, arith, mul-suc, get_or-set_same, get_or-set_other, length-set, zero-add, ◌≢◌}
use Rattle.std.specs.Prelude.{Bool, true, false, nat_le, Option, Some, None}
use Rattle.std.specs.Int.{next_multiple_of}
use Rattle.fidl_wire.specs.Value.{Value, absent, bool, number, text, list, fields, handle, table, union, Values, none, value, count, Member, known, unknown, Members, empty, member}
use Rattle.fidl_wire.specs.Term.{Term, Fields, no_fields, field, Rows, nothing, resolve, fields_of, find, IsNoName}
use Rattle.fidl_wire.specs.Term as ty
use Rattle.fidl_wire.specs.Figure.{Declarations, figure_of, end_of, align_of, size_of, IsLaidOut}
use Rattle.fidl_wire.specs.Typed.{IsTyped, AllTyped, EachTyped, IsTypedMember, RiseTyped, IsUnknownLength}
use Rattle.fidl_wire.specs.Encoding.{elements, members}
use Rattle.fidl_wire.proofs.Sizes.{size_of-resolve, length-elements, length-members, end_of-le, le-next_multiple_of, le_of_test}
use Rattle.fidl_decode_model.specs.Links.{Linked}
use Rattle.fidl_decode_model.specs.State.{Message, Position, opened, linked, member_at, begun, envelope_place, after, after_elements, after_fields, after_member, after_envelopes}
use Rattle.fidl_decode_model.specs.Placed.{object_at, enclosed_at}
use Rattle.fidl_decode_model.specs.Readable.{AreUnlinked, HasObject, IsEnvelopeReadable, Readable, AreReadable, AreFieldsReadable, IsMemberReadable, AreMembersReadable}
use Rattle.fidl_decode_model.specs.Frontier.{AreFree, IsOutside, Stays, IsAhead, IsEven}
use Rattle.fidl_decode_model.proofs.Keeping.{ends_behind, keeps, keeps_member}
use Rattle.fidl_decode_model.proofs.Aligned.{even_eights, even_eights_fields, even_after, even_first, even_rest, even_resolve}
use Rattle.fidl_decode_model.proofs.Staying.{stays_all, stays_both, stays_wider, free_still, ahead_still, stays_linked, stays_opened, next_begun, even_member_at, stays, stays_elements, stays_fields, stays_member, stays_envelopes}

-- links agree with a state on the cells of each byte from a up to b
pub record Agrees (l : Linked) (r : Position) (a b : ℕ) : Type 0 where
  pub objects : (k : ℕ) → a ≤ k → k < b → get_or l.objects (k / 8) 0 ≡ get_or r.objects (k / 8) 0
  pub records : (k : ℕ) → a ≤ k → k < b → get_or l.records (k / 4) 0 ≡ get_or r.records (k / 4) 0

agrees_within : (l : Linked) (r : Position) (a b c d : ℕ) → a ≤ c → d ≤ b → Agrees l r a b → Agrees l r c d
agrees_within l r a b c d le lt h = record { objects = λ k x y. h.objects k (omega (arith, le, x)) (omega (arith, lt, y)); records = λ k x y. h.records k (omega (arith, le, x)) (omega (arith, lt, y)) }

-- a byte on one side of a range, of those from a up to b
beside : (a b c d k : ℕ) → (b ≤ c) ⊎ (d ≤ a) → a ≤ k → k < b → (k < c) ⊎ (d ≤ k)
beside a b c d k (inl le) x y = inl (omega (arith, le, y))
beside a b c d k (inr le) x y = inr (omega (arith, le, x))

-- the cell of such a byte lies not wholly in that range
eight_outside : (c d k : ℕ) → (k < c) ⊎ (d ≤ k) → IsOutside (8 * (k / 8)) 8 c d
eight_outside c d k (inl lt) p q = omega (arith, lt, p)
eight_outside c d k (inr le) p q = omega (arith, le, q)

four_outside : (c d k : ℕ) → (k < c) ⊎ (d ≤ k) → IsOutside (4 * (k / 4)) 4 c d
four_outside c d k (inl lt) p q = omega (arith, lt, p)
four_outside c d k (inr le) p q = omega (arith, le, q)

-- also with an earlier state, where what changed in between lies in other bytes
agrees_before : (l : Linked) (mid r : Position) (a b c d e f : ℕ) → Stays c d e f mid r → (b ≤ c) ⊎ (d ≤ a) → (b ≤ e) ⊎ (f ≤ a) → Agrees l r a b → Agrees l mid a b
agrees_before l mid r a b c d e f g one two h = record {
  objects = λ k x y. h.objects k x y ∙ g.objects (k / 8) (eight_outside c d k (beside a b c d k one x y)) (eight_outside e f k (beside a b e f k two x y));
  records = λ k x y. h.records k x y ∙ g.records (k / 4) (four_outside c d k (beside a b c d k one x y)) (four_outside e f k (beside a b e f k two x y));
}

-- the second half of an envelope has the cell of its first record
stays_half : (place c d : ℕ) (s : Position) → place % 8 ≡ 0 → Stays (place + 4) (place + 8) c d s (opened place s)
stays_half place c d s even = record {
  objects = λ i x y. refl;
  records = λ j x y. get_or-set_other s.records ((place + 4) / 4) j (s.handle + 1) 0 (other j x);
  grows = omega arith;
}
  where
    other : (j : ℕ) → IsOutside (4 * j) 4 (place + 4) (place + 8) → j ≢ (place + 4) / 4
    other j x e = x (omega arith) (omega arith)

-- the links of a run from s to r agree with r on the bytes from a place up to an end, and on the objects that it reads; no link stood ahead at s
pub record Sees (l : Linked) (m : Message) (place to : ℕ) (s r : Position) : Type 0 where
  pub ahead : IsAhead m s
  pub before : to ≤ s.next
  pub within : r.next ≤ length m.bytes
  pub objects : length m.bytes ≤ 8 * length s.objects
  pub records : length m.bytes ≤ 4 * length s.records
  pub near : Agrees l r place to
  pub far : Agrees l r s.next r.next

-- the object of a marker: the link leads there, and the run reads it
record Lower (l : Linked) (m : Message) (marker size : ℕ) (s mid r : Position) : Type 0 where
  link : object_at l marker ≡ s.next
  has : HasObject l marker
  inside : Sees l m s.next (s.next + size) mid r
  free : AreFree mid s.next (s.next + size)
  over : Stays marker (marker + 8) s.next r.next s r

module _ (l : Linked) (m : Message) where
  sees_within : (place to a b : ℕ) (s r : Position) → place ≤ a → b ≤ to → Sees l m place to s r → Sees l m a b s r
  sees_within place to a b s r le lt h = record {
    ahead = h.ahead;
    before = omega (arith, lt, h.before);
    within = h.within;
    objects = h.objects;
    records = h.records;
    near = agrees_within l r place to a b le lt h.near;
    far = h.far;
  }

  -- what is read first, of the bytes up to b
  sees_first : (place to a b c d : ℕ) (s mid r : Position) → place ≤ a → b ≤ to → b ≤ c → d ≤ to → s.next ≤ mid.next → Stays c d mid.next r.next mid r → Sees l m place to s r → Sees l m a b s mid
  sees_first place to a b c d s mid r le lt apart in_range grows g h =
      let before = h.before in
      let on = g.grows in
      let within = h.within in
      record {
        ahead = h.ahead;
        before = omega (arith, lt, before);
        within = omega (arith, on, within);
        objects = h.objects;
        records = h.records;
        near = agrees_before l mid r a b c d mid.next r.next g (inl apart) (inl (omega (arith, lt, before, grows))) (agrees_within l r place to a b le lt h.near);
        far = agrees_before l mid r s.next mid.next c d mid.next r.next g (inr (omega (arith, in_range, before))) (inl (omega arith)) (agrees_within l r s.next r.next s.next mid.next (omega arith) on h.far);
      }

  -- what is read then
  sees_rest : (place to a b c d : ℕ) (s mid r : Position) → place ≤ c → d ≤ to → b ≤ to → Stays a b s.next mid.next s mid → mid.next % 8 ≡ 0 → length mid.objects ≡ length s.objects → length mid.records ≡ length s.records → Sees l m place to s r → Sees l m c d mid r
  sees_rest place to a b c d s mid r le lt in_range g even many many_records h =
      let before = h.before in
      let grows = g.grows in record {
        ahead = ahead_still m a b s mid g (omega (arith, in_range, before)) even h.ahead;
        before = omega (arith, lt, before, grows);
        within = h.within;
        objects = subst (λ k. length m.bytes ≤ 8 * k) (sym many) h.objects;
        records = subst (λ k. length m.bytes ≤ 4 * k) (sym many_records) h.records;
        near = agrees_within l r place to c d le lt h.near;
        far = agrees_within l r s.next r.next mid.next r.next grows (omega arith) h.far;
      }

  -- and no link stands there yet
  free_rest : (a b c d : ℕ) (s mid : Position) → Stays a b s.next mid.next s mid → b ≤ c → d ≤ s.next → AreFree s c d → AreFree mid c d
  free_rest a b c d s mid g le lt free k x y = free_still a b s.next mid.next s mid g k (inr (omega (arith, le, x))) (inl (omega (arith, lt, y))) (free k x y)

  -- bytes that are read, over which nothing is linked
  clear : (place to c d a b : ℕ) (s r : Position) → place ≤ c → d ≤ to → (d ≤ a) ⊎ (b ≤ c) → Stays a b s.next r.next s r → AreFree s c d → Sees l m place to s r → AreUnlinked l c d
  clear place to c d a b s r le lt side g free h k x y =
      let still = free_still a b s.next r.next s r g k (beside c d a b k side x y) (inl (omega (arith, lt, y, h.before))) (free k x y) in
      (h.near.objects k (omega (arith, le, x)) (omega (arith, lt, y)) ∙ still.0, h.near.records k (omega (arith, le, x)) (omega (arith, lt, y)) ∙ still.1)

  -- a number, or what is absent
  clear_all : (place to : ℕ) (s r : Position) → Stays to to s.next r.next s r → AreFree s place to → Sees l m place to s r → AreUnlinked l place to
  clear_all place to s r g free h = clear place to place to to to s r (omega arith) (omega arith) (inl (omega arith)) g free h

  lower : (place to marker n size : ℕ) (s r : Position) → marker % 8 ≡ 0 → place ≤ marker → marker + 8 ≤ to → size ≤ next_multiple_of n 8 → Stays s.next (s.next + size) (linked marker n s).next r.next (linked marker n s) r → Sees l m place to s r
      → Lower l m marker size s (linked marker n s) r
  lower place to marker n size s r even le room short g h =
      let mid = linked marker n s in
      let before = h.before in
      let within = h.within in
      let cells = h.objects in
      let on = g.grows in
      let many = length-set s.objects (marker / 8) s.next in
      let in_range : marker / 8 < length s.objects = omega (arith, room, before, on, within, cells) in
      let link : get_or l.objects (marker / 8) 0 ≡ s.next =
      h.near.objects marker le (omega (arith, room)) ∙ g.objects (marker / 8) (λ p q. omega (arith, p, room, before)) (λ p q. omega (arith, p, room, before)) ∙ get_or-set_same s.objects (marker / 8) s.next 0 in_range in
      let ahead_even = h.ahead.even in
      let own = stays_linked marker (marker + 8) s.next mid.next marker n s (omega arith) (omega arith) even in record {
        link = link;
        has = (even, omega (arith, link, room, before), ap (λ n. n % 8) link ∙ ahead_even);
        inside = record {
          ahead = ahead_still m marker (marker + 8) s mid own (omega (arith, room, before)) (omega (arith, ahead_even)) h.ahead;
          before = omega (arith, short);
          within = within;
          objects = subst (λ k. length m.bytes ≤ 8 * k) (sym many) cells;
          records = h.records;
          near = agrees_within l r s.next r.next s.next (s.next + size) (omega arith) (omega (arith, short, on)) h.far;
          far = agrees_within l r s.next r.next mid.next r.next (omega arith) (omega arith) h.far;
        };
        free = λ k x y. free_still marker (marker + 8) 0 0 s mid (stays_linked marker (marker + 8) 0 0 marker n s (omega arith) (omega arith) even) k (inr (omega (arith, room, before, x))) (inr (omega arith))
            (h.ahead.free k x (omega (arith, y, short, on, within)));
        over = stays_both _ _ _ _ s mid r
            (stays_linked marker (marker + 8) s.next r.next marker n s (omega arith) (omega arith) even)
            (stays_wider s.next (s.next + size) mid.next r.next marker (marker + 8) s.next r.next mid r (λ k i x y. ((λ p q. y (omega (arith, p)) (omega (arith, q, short, on))), (λ p q. y (omega (arith, p)) (omega (arith, q))))) g);
      }

  -- an envelope, and its member
  sees_member : (inline : Bool) (size place : ℕ) (s r : Position) → (inline ≡ true → size ≤ 4) → place % 8 ≡ 0
      → Stays (member_at inline place s) (member_at inline place s + size) (begun inline place size s).next r.next (begun inline place size s) r → AreFree s place (place + 8) → Sees l m place (place + 8) s r
      → Sees l m (member_at inline place s) (member_at inline place s + size) (begun inline place size s) r × AreFree (begun inline place size s) (member_at inline place s) (member_at inline place s + size)
      × (enclosed_at l inline place ≡ member_at inline place s) × IsEnvelopeReadable l inline place
  sees_member true size place s r few even g free h =
      let mid = opened place s in
      let small = few refl in
      let before = h.before in
      let within = h.within in
      let cells = h.records in
      let on = g.grows in
      let many = length-set s.records ((place + 4) / 4) (s.handle + 1) in
      let in_range : (place + 4) / 4 < length s.records = omega (arith, before, on, within, cells) in
      let cell : get_or l.records ((place + 4) / 4) 0 ≡ s.handle + 1 = h.near.records (place + 4) (omega arith) (omega arith)
      ∙ g.records ((place + 4) / 4) (λ p q. omega (arith, q, small, even)) (λ p q. omega (arith, p, before)) ∙ get_or-set_same s.records ((place + 4) / 4) (s.handle + 1) 0 in_range in (
        record {
          ahead = ahead_still m place (place + 8) s mid (stays_opened place s.next s.next s even) before h.ahead.even h.ahead;
          before = omega (arith, small, before);
          within = within;
          objects = h.objects;
          records = subst (λ k. length m.bytes ≤ 4 * k) (sym many) cells;
          near = agrees_within l r place (place + 8) place (place + size) (omega arith) (omega (arith, small)) h.near;
          far = h.far;
        },
        (λ k x y. free_still (place + 4) (place + 8) 0 0 s mid (stays_half place 0 0 s even) k (inl (omega (arith, y, small))) (inr (omega arith)) (free k x (omega (arith, y, small)))),
        refl,
        (even, (omega (arith, even), omega (arith, cell))),
      )
  sees_member false size place s r few even g free h =
      let mid = opened place s in
      let before = h.before in
      let within = h.within in
      let cells = h.records in
      let on = g.grows in
      let many = length-set s.records ((place + 4) / 4) (s.handle + 1) in
      let in_range : (place + 4) / 4 < length s.records = omega (arith, before, on, within, cells) in
      let cell : get_or l.records ((place + 4) / 4) 0 ≡ s.handle + 1 = h.near.records (place + 4) (omega arith) (omega arith)
      ∙ g.records ((place + 4) / 4) (λ p q. omega (arith, p, before)) (λ p q. omega (arith, p, before)) ∙ get_or-set_same s.records ((place + 4) / 4) (s.handle + 1) 0 in_range in
      let low = lower place (place + 8) place size size mid r even (omega arith) (omega arith) (le-next_multiple_of size 8) g (record {
        ahead = ahead_still m place (place + 8) s mid (stays_opened place s.next s.next s even) before h.ahead.even h.ahead;
        before = before;
        within = within;
        objects = h.objects;
        records = subst (λ k. length m.bytes ≤ 4 * k) (sym many) cells;
        near = h.near;
        far = h.far;
      }) in
      (low.inside, low.free, low.link, ((omega (arith, even), omega (arith, cell)), low.has))

-- the bytes of an unknown member that is in its envelope are four
short_inline : (inline : Bool) (n : ℕ) → IsUnknownLength inline n → inline ≡ true → n ≤ 4
short_inline true n h e = omega (arith, h)
short_inline false n h e = absurd (other e)
  where
    other : false ≡ true → ⊥
    other e = cc

module _ (ds : Declarations) (laid : IsLaidOut ds) (named : (i : ℕ) → IsNoName (get_or ds.terms i nothing)) (m : Message) (l : Linked) where
  mutual
    -- a value at a place
    pub readable : (t : Term) (v : Value) (place : ℕ) (s : Position) → IsTyped ds t v → IsEven ds t place → AreFree s place (place + size_of ds t) → Sees l m place (place + size_of ds t) s (after ds t v place s) → Readable ds l t place v
    readable t absent place s h even free see = (clear_all l m place (place + size_of ds t) s s (stays_all _ _ _ _ s) free see, even)
    readable t (bool b) place s h even free see = clear_all l m place (place + size_of ds t) s s (stays_all _ _ _ _ s) free see
    readable t (number z) place s h even free see = clear_all l m place (place + size_of ds t) s s (stays_all _ _ _ _ s) free see
    readable (ty.handle optional subtype rights) (handle i) place s h even free see =
        let before = see.before in
        let within = see.within in
        let cells = see.records in
        let in_range : place / 4 < length s.records = omega (arith, before, within, cells) in
        let cell : get_or l.records (place / 4) 0 ≡ s.handle + 1 = see.near.records place (omega arith) (omega arith) ∙ get_or-set_same s.records (place / 4) (s.handle + 1) 0 in_range in
        (even, omega (arith, cell))
    readable (ty.string optional bound) (text bytes) place s h even free see =
        let n = length bytes in
        let r = linked (place + 8) n s in
        let low = lower l m place (place + 16) (place + 8) n n s r (omega arith) (omega arith) (omega arith) (le-next_multiple_of n 8) (stays_all _ _ _ _ r) see in
        let own = clear_all l m s.next (s.next + n) r r (stays_all _ _ _ _ r) low.free low.inside in (
          clear l m place (place + 16) place (place + 8) (place + 8) (place + 8 + 8) s r (omega arith) (omega arith) (inl (omega arith)) low.over (λ k x y. free k x (omega (arith, y))) see,
          low.has,
          subst (λ p. AreUnlinked l p (p + n)) (sym low.link) own,
        )
    readable (ty.vector optional bound t) (list vs) place s h even free see =
        let u = resolve ds.terms t in
        let size = size_of ds t in
        let n = length (elements ds u vs).inline in
        let same = size_of-resolve ds laid t in
        let next = see.ahead.even in
        let mid = linked (place + 8) n s in
        let r = after_elements ds u size vs s.next mid in
        let len : n ≡ size * count vs = length-elements ds laid u vs h.1 ∙ ap (λ k. k * count vs) same in
        let on : mid.next % 8 ≡ 0 = omega arith in
        let first = even_eights ds laid named u s.next next in
        let more = stays_elements ds laid named u size (sym same) vs s.next mid h.1 on first in
        let up = le-next_multiple_of n 8 in
        let low = lower l m place (place + 16) (place + 8) n (size * count vs) s r (omega arith) (omega arith) (omega arith) (omega (arith, len, up)) more.0 see in (
          (clear l m place (place + 16) place (place + 8) (place + 8) (place + 8 + 8) s r (omega arith) (omega arith) (inl (omega arith)) low.over (λ k x y. free k x (omega (arith, y))) see, low.has),
          subst (λ p. AreReadable ds l u size p vs) (sym low.link) (readable_elements u size (sym same) vs s.next mid h.1 first low.free low.inside),
        )
    readable (ty.array t n) (list vs) place s h even free see =
        let same = size_of-resolve ds laid t in
        let size = size_of ds t in
        let r = after ds (ty.array t n) (list vs) place s in (
          tt,
          readable_elements (resolve ds.terms t) size (sym same) vs place s h.1 (even_resolve ds laid named t place even) (subst (λ k. AreFree s place (place + size * k)) (sym h.0) free)
              (subst (λ k. Sees l m place (place + size * k) s r) (sym h.0) see),
        )
    readable (ty.struct fs) (fields vs) place s h even free see =
        let size = size_of ds (ty.struct fs) in
        let r = after ds (ty.struct fs) (fields vs) place s in
        (tt, readable_fields fs size 0 place vs s (end_of-le ds fs) h even (λ k x y. free k (omega (arith, x)) y) (sees_within l m place (place + size) (place + 0) (place + size) s r (omega arith) (omega arith) see))
    readable (ty.box t) (fields vs) place s h even free see =
        let fs = fields_of (resolve ds.terms t) in
        let size = size_of ds (ty.struct fs) in
        let n = length (members ds size 0 fs vs).inline in
        let len : n ≡ size = sym (zero-add _) ∙ length-members ds laid fs size 0 vs (end_of-le ds fs) h.1 in
        let next = see.ahead.even in
        let mid = linked place n s in
        let r = after_fields ds fs 0 vs s.next mid in
        let on : mid.next % 8 ≡ 0 = omega arith in
        let first = even_eights_fields ds laid named fs s.next next in
        let more = stays_fields ds laid named fs size 0 s.next vs mid (end_of-le ds fs) h.1 on first in
        let inner = stays_wider (s.next + 0) (s.next + size) mid.next r.next s.next (s.next + size) mid.next r.next mid r (λ k i x y. ((λ p q. x (omega arith) (omega arith)), y)) more.0 in
        let up = le-next_multiple_of n 8 in
        let low = lower l m place (place + 8) place n size s r even (omega arith) (omega arith) (omega (arith, len, up)) inner see in (
          low.has,
          subst (λ p. AreFieldsReadable ds l fs 0 p vs) (sym low.link)
              (readable_fields fs size 0 s.next vs mid (end_of-le ds fs) h.1 first (λ k x y. low.free k (omega (arith, x)) y) (sees_within l m s.next (s.next + size) (s.next + 0) (s.next + size) mid r (omega arith) (omega arith) low.inside)),
        )
    readable (ty.table rows) (table n ms) place s h even free see =
        let next = see.ahead.even in
        let mid = linked (place + 8) (8 * n) s in
        let r = after_envelopes ds rows ms s.next mid in
        let on : mid.next % 8 ≡ 0 = omega arith in
        let more = stays_envelopes ds laid named rows 0 n s.next ms mid h.1 on next in
        let inner = stays_wider (s.next + 8 * 0) (s.next + 8 * n) mid.next r.next s.next (s.next + 8 * n) mid.next r.next mid r (λ k i x y. ((λ p q. x (omega arith) (omega arith)), y)) more.0 in
        let low = lower l m place (place + 16) (place + 8) (8 * n) (8 * n) s r (omega arith) (omega arith) (omega arith) (le-next_multiple_of (8 * n) 8) inner see in (
          clear l m place (place + 16) place (place + 8) (place + 8) (place + 8 + 8) s r (omega arith) (omega arith) (inl (omega arith)) low.over (λ k x y. free k x (omega (arith, y))) see,
          low.has,
          subst (λ p. AreMembersReadable ds l rows 0 n p ms) (sym low.link)
              (readable_envelopes rows 0 n s.next ms mid h.1 next (λ k x y. low.free k (omega (arith, x)) y) (sees_within l m s.next (s.next + 8 * n) (s.next + 8 * 0) (s.next + 8 * n) mid r (omega arith) (omega arith) low.inside)),
        )
    readable (ty.union optional strict rows) (union ordinal x) place s h even free see =
        let r = after_member ds (find rows ordinal) x (place + 8) s in
        let more = stays_member ds laid named strict (find rows ordinal) x (place + 8) s h.2 see.ahead.even (omega arith) in (
          clear l m place (place + 16) place (place + 8) (place + 8) (place + 8 + 8) s r (omega arith) (omega arith) (inl (omega arith)) more.0 (λ k y z. free k y (omega (arith, z))) see,
          readable_member strict (find rows ordinal) x (place + 8) s h.2 (omega arith) (λ k y z. free k (omega (arith, y)) (omega (arith, z))) (sees_within l m place (place + 16) (place + 8) (place + 8 + 8) s r (omega arith) (omega arith) see),
        )
    readable _ _ place s h even free see = absurd h

    -- elements behind one another, the first at a place
    readable_elements : (u : Term) (size : ℕ) → size ≡ size_of ds u → (vs : Values) (place : ℕ) (s : Position) → AllTyped ds u vs → IsEven ds u place → AreFree s place (place + size * count vs)
        → Sees l m place (place + size * count vs) s (after_elements ds u size vs place s) → AreReadable ds l u size place vs
    readable_elements u size same none place s h even free see = tt
    readable_elements u size same (value v vs) place s h even free see =
        let mid = after ds u v place s in
        let r = after_elements ds u size vs (place + size) mid in
        let to = place + size * count (value v vs) in
        let ends = place + size + size * count vs in
        let more = mul-suc size (count vs) in
        let before = see.before in
        let behind : IsEven ds u (place + size) = subst (λ k. IsEven ds u (place + k)) (sym same) (even_after ds laid named u place even) in
        let one = stays ds laid named u v place s h.0 see.ahead.even even in
        let two = stays_elements ds laid named u size same vs (place + size) mid h.1 one.1 behind in
        let kept = keeps ds laid u v place s h.0 in (
          readable u v place s h.0 even (λ k x y. free k x (omega (arith, y, same, more)))
              (sees_first l m place to place (place + size_of ds u) (place + size) ends s mid r (omega arith) (omega (arith, same, more)) (omega (arith, same)) (omega (arith, more)) one.0.grows two.0 see),
          readable_elements u size same vs (place + size) mid h.1 behind
              (free_rest l m place (place + size_of ds u) (place + size) ends s mid one.0 (omega (arith, same)) (omega (arith, more, before)) (λ k x y. free k (omega (arith, x)) (omega (arith, y, more))))
              (sees_rest l m place to place (place + size_of ds u) (place + size) ends s mid r (omega arith) (omega (arith, more)) (omega (arith, same, more)) one.0 one.1 kept.as_many kept.as_many_records see),
        )

    -- fields behind `from`, in a struct at a base
    readable_fields : (fs : Fields) (size from base : ℕ) (vs : Values) (s : Position) → end_of ds.figures from fs ≤ size → EachTyped ds fs vs → base % align_of ds.figures fs ≡ 0 → AreFree s (base + from) (base + size)
        → Sees l m (base + from) (base + size) s (after_fields ds fs from vs base s) → AreFieldsReadable ds l fs from base vs
    readable_fields no_fields size from base none s le h even free see = tt
    readable_fields (field name t fs) size from base (value v vs) s le h even free see =
        let f = figure_of ds.figures t in
        let at = next_multiple_of from f.align in
        let u = resolve ds.terms t in
        let same = size_of-resolve ds laid t in
        let mid = after ds u v (base + at) s in
        let r = after_fields ds fs (at + f.size) vs base mid in
        let up = le-next_multiple_of from f.align in
        let fit = ends_behind ds fs (at + f.size) in
        let before = see.before in
        let place : IsEven ds u (base + at) = even_resolve ds laid named t (base + at) (even_first ds laid named name t fs from base even) in
        let behind = even_rest ds laid named name t fs base even in
        let one = stays ds laid named u v (base + at) s h.0 see.ahead.even place in
        let two = stays_fields ds laid named fs size (at + f.size) base vs mid le h.1 one.1 behind in
        let kept = keeps ds laid u v (base + at) s h.0 in
        let ends : base + at + size_of ds u ≤ base + (at + f.size) = omega arith in
        let fits : base + (at + f.size) ≤ base + size = omega (arith, fit, le) in (
          readable u v (base + at) s h.0 place (λ k x y. free k (omega (arith, x, up)) (omega (arith, y, ends, fits)))
              (sees_first l m (base + from) (base + size) (base + at) (base + at + size_of ds u) (base + (at + f.size)) (base + size) s mid r (omega (arith, up)) (omega (arith, ends, fits)) ends (omega arith) one.0.grows two.0 see),
          readable_fields fs size (at + f.size) base vs mid le h.1 behind
              (free_rest l m (base + at) (base + at + size_of ds u) (base + (at + f.size)) (base + size) s mid one.0 ends before (λ k x y. free k (omega (arith, x, up)) y))
              (sees_rest l m (base + from) (base + size) (base + at) (base + at + size_of ds u) (base + (at + f.size)) (base + size) s mid r (omega (arith, up)) (omega arith) (omega (arith, ends, fits)) one.0 one.1 kept.as_many kept.as_many_records see),
        )
    readable_fields _ size from base _ s le h even free see = absurd h

    -- an envelope at a place
    readable_member : (strict : Bool) (o : Option Term) (x : Member) (place : ℕ) (s : Position) → IsTypedMember ds strict o x → place % 8 ≡ 0 → AreFree s place (place + 8) → Sees l m place (place + 8) s (after_member ds o x place s) → IsMemberReadable ds l o place x
    readable_member strict (Some t) (known v) place s h even free see =
        let u = resolve ds.terms t in
        let size = size_of ds t in
        let next = see.ahead.even in
        let at = member_at (nat_le size 4) place s in
        let mid = begun (nat_le size 4) place size s in
        let r = after ds u v at mid in
        let same = size_of-resolve ds laid t in
        let stood = even_eights ds laid named u at (even_member_at (nat_le size 4) place s even next) in
        let more = stays ds laid named u v at mid h (next_begun (nat_le size 4) place size s next) stood in
        let got = sees_member l m (nat_le size 4) size place s r (le_of_test size) even (subst (λ k. Stays at (at + k) mid.next r.next mid r) same more.0) free see in
        let inside = readable u v at mid h stood (subst (λ k. AreFree mid at (at + k)) (sym same) got.1) (subst (λ k. Sees l m at (at + k) mid r) (sym same) got.0) in
        (got.3, subst (λ p. Readable ds l u p v) (sym got.2) inside)
    readable_member strict None (unknown inline bytes handles) place s h even free see =
        let n = length bytes in
        let at = member_at inline place s in
        let mid = begun inline place n s in
        let r = after_member ds None (unknown inline bytes handles) place s in
        let none_linked : (a b c d : ℕ) → Stays a b c d mid r = λ a b c d. record { objects = λ i x y. refl; records = λ j x y. refl; grows = omega arith } in
        let got = sees_member l m inline n place s r (short_inline inline n h.2) even (none_linked at (at + n) mid.next r.next) free see in
        let own = clear_all l m at (at + n) mid r (none_linked (at + n) (at + n) mid.next r.next) got.1 got.0 in
        (got.3, subst (λ p. AreUnlinked l p (p + n)) (sym got.2) own)
    readable_member strict _ _ place s h even free see = absurd h

    -- the envelopes behind `last`
    readable_envelopes : (rows : Rows) (last n base : ℕ) (ms : Members) (s : Position) → RiseTyped ds rows last n ms → base % 8 ≡ 0 → AreFree s (base + 8 * last) (base + 8 * n)
        → Sees l m (base + 8 * last) (base + 8 * n) s (after_envelopes ds rows ms base s) → AreMembersReadable ds l rows last n base ms
    readable_envelopes rows last n base empty s h even free see = clear_all l m (base + 8 * last) (base + 8 * n) s s (stays_all _ _ _ _ s) free see
    readable_envelopes rows last n base (member ordinal x ms) s h even free see =
        let o = find rows ordinal in
        let at = envelope_place base ordinal in
        let mid = after_member ds o x at s in
        let r = after_envelopes ds rows ms base mid in
        let above = h.0 in
        let within = h.1 in
        let before = see.before in
        let stood : at % 8 ≡ 0 = omega arith in
        let from : base + 8 * last ≤ at = omega arith in
        let ends : at + 8 ≤ base + 8 * ordinal = omega arith in
        let fits : base + 8 * ordinal ≤ base + 8 * n = omega arith in
        let one = stays_member ds laid named false o x at s h.2 see.ahead.even stood in
        let two = stays_envelopes ds laid named rows ordinal n base ms mid h.3 one.1 even in
        let kept = keeps_member ds laid false o x at s h.2 in
        let up = one.0.grows in
        let on = two.0.grows in
        let both = stays_both _ _ _ _ s mid r
        (stays_wider at (at + 8) s.next mid.next at (base + 8 * n) s.next r.next s mid (λ k i y z. ((λ p q. y (omega arith) (omega arith)), (λ p q. z (omega arith) (omega arith)))) one.0)
        (stays_wider (base + 8 * ordinal) (base + 8 * n) mid.next r.next at (base + 8 * n) s.next r.next mid r (λ k i y z. ((λ p q. y (omega arith) (omega arith)), (λ p q. z (omega arith) (omega arith)))) two.0) in (
          clear l m (base + 8 * last) (base + 8 * n) (base + 8 * last) at at (base + 8 * n) s r (omega arith) (omega (arith, ends, fits)) (inl (omega arith)) both (λ k y z. free k y (omega (arith, z, ends, fits))) see,
          readable_member false o x at s h.2 stood (λ k y z. free k (omega (arith, y, from)) (omega (arith, z, ends, fits)))
              (sees_first l m (base + 8 * last) (base + 8 * n) at (at + 8) (base + 8 * ordinal) (base + 8 * n) s mid r from (omega (arith, ends, fits)) ends (omega arith) up two.0 see),
          readable_envelopes rows ordinal n base ms mid h.3 even
              (free_rest l m at (at + 8) (base + 8 * ordinal) (base + 8 * n) s mid one.0 ends before (λ k y z. free k (omega (arith, y, from, ends)) z))
              (sees_rest l m (base + 8 * last) (base + 8 * n) at (at + 8) (base + 8 * ordinal) (base + 8 * n) s mid r (omega (arith, from, ends)) (omega arith) (omega (arith, ends, fits)) one.0 one.1 kept.as_many kept.as_many_records see),
        )
