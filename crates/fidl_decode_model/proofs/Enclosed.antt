-- Tables and unions: which values of one stand at a place, and the members in their envelopes.
use Rattle.std.proofs.Common.{rules, ◌≡◌, ℕ, suc, ◌+◌, ◌-◌, ◌*◌, ◌<◌, ◌≤◌, max, Bool, true, false, cond, nat_le, List, ◌++◌, length, Option, Some, None, refl, sym, ap, subst, ◌∙◌, arith, inl, inr, length-append, mul-suc}
use Rattle.std.specs.Prelude.{◌⊎◌}
use Rattle.std.specs.Int.{next_multiple_of}
use Rattle.std.proofs.lemmas.Bool.{cases_lt}
use Rattle.std.proofs.lemmas.List.{replicate-append-replicate}
use Rattle.fidl_limits.specs.declared.limits.TheConstants.{MAX_DEPTH}
use Rattle.fidl_wire.specs.Value.{Value, absent, bool, number, text, list, fields, handle, table, union, Values, none, value, Member, known, unknown, Members, empty, member, count}
use Rattle.fidl_wire.specs.Term.{Term, Fields, no_fields, field, Rows, resolve, find}
use Rattle.fidl_wire.specs.Term as ty
use Rattle.fidl_wire.specs.Figure.{Declarations, IsLaidOut, figure_of, size_of, end_of}
use Rattle.fidl_wire.specs.Typed.{IsTyped, AllTyped, EachTyped, IsTypedMember, RiseTyped}
use Rattle.fidl_wire.specs.Encoding.{zeros, padded, pad8, object, joined, inline_envelope, out_envelope, envelope_end, encoding_of, enveloped, envelopes}
use Rattle.fidl_wire.specs.Depth.{depth_of, elements_depth, fields_depth, member_depth, members_depth}
use Rattle.fidl_wire.specs.Standing.{Stands}
use Rattle.fidl_wire.proofs.Sizes.{size_of-resolve, length-inline, length-enveloped, length-padded, le_of_test, le-next_multiple_of, end_of-le}
use Rattle.fidl_wire.proofs.Stand.{stands_to, stands_front, stands_back, stands_both}
use Rattle.fidl_wire.proofs.Unique.{no_out}
use Rattle.fidl_decode_model.specs.State.{Message, Position, passed, opened, member_at, begun, envelope_place, after, after_member, after_envelopes, StandsAt, ValueAt, Slots}
use Rattle.fidl_decode_model.specs.Work.{member_work, members_work}
use Rattle.fidl_decode_model.specs.Worth.{ContainedWorth, SlotsWorth}
use Rattle.fidl_decode_model.specs.Envelopes.{Contained, depth_within}
use Rattle.fidl_wire.specs.Envelope.{bytes_below, handles_below, flags_at}
use Rattle.fidl_decode_model.specs.Faults.{IsWithin}
use Rattle.fidl_decode_model.proofs.Numbers.{number_16, number_32}
use Rattle.fidl_decode_model.proofs.After.{length-object, length-pad8, past, after_past, member_past, stands_alike}
use Rattle.fidl_decode_model.proofs.Rows.{stands_joined, joined_stands, stands_at}
use Rattle.fidl_decode_model.proofs.Enveloped.{holds, inline_numbers, out_numbers}

-- ---- what is at most four bytes long holds nothing out of line

le-end_of : (ds : Declarations) (from : ℕ) (fs : Fields) → from ≤ end_of ds.figures from fs
le-end_of ds from no_fields = omega arith
le-end_of ds from (field name t fs) = let f = figure_of ds.figures t in omega (arith, le-next_multiple_of from f.align, le-end_of ds (next_multiple_of from f.align + f.size) fs)

none_deeper : (a b : ℕ) → a ≡ 0 → b ≡ 0 → max a b ≡ 0
none_deeper a b h k = (λ i. max (h i) (k i))

mutual
  pub no_depth : (ds : Declarations) → IsLaidOut ds → (t : Term) (v : Value) → IsTyped ds t v → size_of ds t ≤ 4 → depth_of ds t v ≡ 0
  no_depth ds w t absent h s = refl
  no_depth ds w ty.bool (bool b) h s = refl
  no_depth ds w (ty.number kind) (number z) h s = refl
  no_depth ds w (ty.bits kind mask) (number z) h s = refl
  no_depth ds w (ty.enum kind values) (number z) h s = refl
  no_depth ds w (ty.string optional bound) (text bytes) h s = absurd (omega (arith, s))
  no_depth ds w (ty.vector optional bound t) (list vs) h s = absurd (omega (arith, s))
  no_depth ds w (ty.array t n) (list vs) h s = no_depth_elements ds w (resolve ds.terms t) vs h.1 (rw (size_of-resolve ds w t, h.0) s)
  no_depth ds w (ty.struct fs) (fields vs) h s = no_depth_members ds w fs 0 vs h (omega (arith, s, end_of-le ds fs))
  no_depth ds w (ty.box t) (fields vs) h s = absurd (omega (arith, s))
  no_depth ds w (ty.handle optional subtype rights) (handle i) h s = refl
  no_depth ds w (ty.table rows) (table n ms) h s = absurd (omega (arith, s))
  no_depth ds w (ty.union optional strict rows) (union ordinal m) h s = absurd (omega (arith, s))
  no_depth ds w _ _ h s = absurd h

  no_depth_elements : (ds : Declarations) → IsLaidOut ds → (t : Term) (vs : Values) → AllTyped ds t vs → size_of ds t * count vs ≤ 4 → elements_depth ds t vs ≡ 0
  no_depth_elements ds w t none h s = refl
  no_depth_elements ds w t (value v vs) h s =
      let s' : size_of ds t * count vs + size_of ds t ≤ 4 = subst (λ k. k ≤ 4) (mul-suc (size_of ds t) (count vs)) s in
      none_deeper (depth_of ds t v) (elements_depth ds t vs) (no_depth ds w t v h.0 (omega (arith, s'))) (no_depth_elements ds w t vs h.1 (omega (arith, s')))

  no_depth_members : (ds : Declarations) → IsLaidOut ds → (fs : Fields) (from : ℕ) (vs : Values) → EachTyped ds fs vs → end_of ds.figures from fs ≤ 4 → fields_depth ds fs vs ≡ 0
  no_depth_members ds w no_fields from none h s = refl
  no_depth_members ds w (field name t fs) from (value v vs) h s =
      let f = figure_of ds.figures t in
      let at = next_multiple_of from f.align in
      none_deeper (depth_of ds (resolve ds.terms t) v) (fields_depth ds fs vs)
      (no_depth ds w (resolve ds.terms t) v h.0 (rw (size_of-resolve ds w t) (omega (arith, s, le-end_of ds (at + f.size) fs)))) (no_depth_members ds w fs (at + f.size) vs h.1 s)
  no_depth_members ds w _ from _ h s = absurd h

-- ---- the content of an envelope

clash : true ≡ false → ⊥
clash e = cc

-- a known member stands in its envelope up to four bytes, or out of line up to a multiple of 8
abbrev pub wide : (inline : Bool) → (size : ℕ) → ℕ
wide true size = 4
wide false size = next_multiple_of size 8

pub small_inline : (n : ℕ) → n ≤ 4 → nat_le n 4 ≡ true
small_inline n h = search (rules, h)

pub large_out : (n : ℕ) → 4 < n → nat_le n 4 ≡ false
large_out n h = go (nat_le n 4) refl
  where
    go : (b : Bool) → nat_le n 4 ≡ b → b ≡ false
    go true e = absurd (omega (arith, le_of_test n e, h))
    go false e = refl

module _ (ds : Declarations) (laid : IsLaidOut ds) (m : Message) (within : IsWithin m.bytes m.handles) (held : ℕ) (t : Term) (p : ℕ) (from : Position) where
  abbrev size : ℕ
  size = size_of ds t

  abbrev u : Term
  u = resolve ds.terms t

  -- a known member, where it stands, with zeros behind it; its envelope counts what lies below it
  pub record Enclosed (inline : Bool) (to : Position) : Type 0 where
    pub item : ValueAt ds m (depth_within inline held) u (member_at inline p from) (begun inline p size from) to
    pub padding : Stands m.bytes (member_at inline p from + size) (zeros (wide inline size - size))
    pub fits : size ≤ wide inline size
    pub handles : handles_below m.bytes p ≡ to.handle - from.handle
    pub bytes : inline ≡ false → bytes_below m.bytes p ≡ to.next - from.next

  pub known_content : (inline : Bool) → nat_le size 4 ≡ inline → (to : Position) → Contained ds m held (Some t) p from to → Enclosed inline to
  known_content inline is to x = only x.content x.typed x.shallow x.stands x.end
    where
      go : (b : Bool) → nat_le size 4 ≡ b → (v : Value) → IsTyped ds u v → cond b 0 (suc (depth_of ds u v)) + held ≤ MAX_DEPTH
          → StandsAt m (cond b (inline_envelope (padded 4 (encoding_of ds u v).inline) (encoding_of ds u v).handles) (out_envelope (object (encoding_of ds u v)) (encoding_of ds u v).handles)) p from
          → to ≡ after ds u v (member_at b p from) (begun b p size from) → Enclosed b to
      go true e v h deep s end =
          let a = encoding_of ds u v in
          let small = le_of_test size e in
          let long : length a.inline ≡ size = length-inline ds laid u v h ∙ size_of-resolve ds laid t in
          let same : size_of ds u ≤ 4 = subst (λ k. k ≤ 4) (sym (size_of-resolve ds laid t)) small in
          let flat = no_depth ds laid u v h same in
          let first = stands_front m.bytes p (padded 4 a.inline) (envelope_end 1 a.handles) s.inline in
          let numbers = inline_numbers m within p from (padded 4 a.inline) a.handles (length-padded 4 a.inline (omega (arith, long, small))) s in
          let led = after_past ds laid u v p (begun true p size from) h in
          let hand : to.handle ≡ from.handle + length a.handles = ap (λ (k : Position). k.handle) end ∙ led.1 in
          record {
            item = record {
              value = v;
              typed = h;
              shallow = omega (arith, deep, flat);
              stands = record {
                inline = stands_front m.bytes p a.inline (zeros (4 - length a.inline)) first;
                out = subst (λ (l : List ℕ). Stands m.bytes from.next l) (sym (no_out ds laid u v h same)) tt;
                carried = s.carried;
              };
              end = end;
            };
            padding = subst (λ k. Stands m.bytes (p + k) (zeros (4 - k))) long (stands_back m.bytes p a.inline (zeros (4 - length a.inline)) first);
            fits = small;
            handles = omega (arith, numbers.2, hand);
            bytes = λ no. absurd (clash no);
          }
      go false e v h deep s end =
          let a = encoding_of ds u v in
          let long : length a.inline ≡ size = length-inline ds laid u v h ∙ size_of-resolve ds laid t in
          let first = stands_front m.bytes from.next (pad8 a.inline) a.out s.out in
          let numbers = out_numbers m within p from (object a) a.handles s in
          let led = after_past ds laid u v from.next (begun false p size from) h in
          let hand : to.handle ≡ from.handle + length a.handles = ap (λ (k : Position). k.handle) end ∙ led.1 in
          let next : to.next ≡ from.next + next_multiple_of size 8 + length a.out = ap (λ (k : Position). k.next) end ∙ led.0 in
          let padding = ap (λ k. next_multiple_of k 8) long in
          let behind : from.next + length (pad8 a.inline) ≡ from.next + next_multiple_of size 8 = ap (λ n. from.next + n) (length-pad8 a.inline ∙ ap (λ k. next_multiple_of k 8) long) in
          record {
            item = record {
              value = v;
              typed = h;
              shallow = omega (arith, deep);
              stands = record {
                inline = stands_front m.bytes from.next a.inline (zeros (next_multiple_of (length a.inline) 8 - length a.inline)) first;
                out = subst (λ n. Stands m.bytes n a.out) behind (stands_back m.bytes from.next (pad8 a.inline) a.out s.out);
                carried = s.carried;
              };
              end = end;
            };
            padding = subst (λ k. Stands m.bytes (from.next + k) (zeros (next_multiple_of k 8 - k))) long
                (stands_back m.bytes from.next a.inline (zeros (next_multiple_of (length a.inline) 8 - length a.inline)) first);
            fits = le-next_multiple_of size 8;
            handles = omega (arith, numbers.3, hand);
            bytes = λ no. omega (arith, numbers.1, next, padding, length-object a);
          }

      only : (x : Member) → IsTypedMember ds false (Some t) x → member_depth ds (Some t) x + held ≤ MAX_DEPTH → StandsAt m (enveloped ds (Some t) x) p from → to ≡ after_member ds (Some t) x p from → Enclosed inline to
      only (known v) h deep s end = subst (λ b. Enclosed b to) is (go (nat_le size 4) refl v h deep s end)
      only (unknown inline bytes handles) h deep s end = absurd h

-- ---- the numbers of an envelope with a member

some_none : (t : Term) → Some t ≡ None → ⊥
some_none t e = cc

module _ (ds : Declarations) (laid : IsLaidOut ds) (m : Message) (within : IsWithin m.bytes m.handles) (held : ℕ) (t : Option Term) (p : ℕ) (from : Position) where
  -- it is not zeros
  pub contained_some : (to : Position) → Contained ds m held t p from to → Stands m.bytes p (zeros 8) → ⊥
  contained_some to x z =
      let flags : flags_at m.bytes p ≡ 0 = number_16 m.bytes (p + 6) 0 (omega arith) (stands_back m.bytes p (zeros 6) (zeros 2) z) in
      let none : bytes_below m.bytes p ≡ 0 = number_32 m.bytes p 0 (omega arith) (stands_front m.bytes p (zeros 4) (zeros 4) z) in
      elim (holds ds laid m within held p from t x.content x.typed x.shallow x.stands).0 [
        | inl i ↦ omega (arith, flags, i.0)
        | inr o ↦ omega (arith, none, o.1.0)
      ]

  -- where an unknown one leads
  pub unknown_led : (to : Position) → t ≡ None → Contained ds m held t p from to → ((flags_at m.bytes p ≡ 1) × (to ≡ passed (handles_below m.bytes p) (opened p from)))
      ⊎ ((flags_at m.bytes p ≡ 0) × (to ≡ passed (handles_below m.bytes p) (begun false p (bytes_below m.bytes p) from)))
  unknown_led to is x = only t is x.content x.typed x.stands x.end
    where
      only : (o : Option Term) → o ≡ None → (y : Member) → IsTypedMember ds false o y → StandsAt m (enveloped ds o y) p from → to ≡ after_member ds o y p from
          → ((flags_at m.bytes p ≡ 1) × (to ≡ passed (handles_below m.bytes p) (opened p from))) ⊎ ((flags_at m.bytes p ≡ 0) × (to ≡ passed (handles_below m.bytes p) (begun false p (bytes_below m.bytes p) from)))
      only (Some w) is y h s e = absurd (some_none w is)
      only None is (known v) h s e = absurd h
      only None is (unknown true bytes handles) h s e =
          let n = inline_numbers m within p from bytes handles h.2 s in
          inl (n.0, e ∙ ap (λ k. passed k (opened p from)) (sym n.2))
      only None is (unknown false bytes handles) h s e =
          let n = out_numbers m within p from bytes handles s in
          inr (n.0, e ∙ ap (λ k. passed k (begun false p (length bytes) from)) (sym n.3) ∙ ap (λ k. passed (handles_below m.bytes p) (begun false p k from)) (sym n.1))

-- ---- the members of a table, one envelope after the other

split_zeros : (n k : ℕ) → n ≡ suc k → zeros (8 * n) ≡ zeros 8 ++ zeros (8 * k)
split_zeros n k e = let same : 8 * n ≡ 8 + 8 * k = omega (arith, e) in ap zeros same ∙ sym (replicate-append-replicate 8 (8 * k) 0)

module _ (ds : Declarations) (laid : IsLaidOut ds) (m : Message) (held : ℕ) (rows : Rows) (n base : ℕ) where
  -- a member is in an envelope, and others behind it
  pub record Behind (read : ℕ) (from to : Position) : Type 0 where
    pub mid : Position
    pub contained : Contained ds m held (find rows (suc read)) (envelope_place base (suc read)) from mid
    pub slots : Slots ds m held rows (suc read) n base mid to

  abbrev pub Step : (read : ℕ) (from to : Position) → Type 0
  Step read from to = (Stands m.bytes (envelope_place base (suc read)) (zeros 8) × Slots ds m held rows (suc read) n base from to) ⊎ Behind read from to

  -- the next envelope is zeros, or has a member
  pub slots_step : (read : ℕ) (from to : Position) → read < n → Slots ds m held rows read n base from to → Step read from to
  slots_step read from to lt x = go x.members x.typed x.shallow x.stands x.end
    where
      here : base + 8 * read ≡ envelope_place base (suc read)
      here = omega arith

      there : base + 8 * read + 8 ≡ base + 8 * suc read
      there = omega arith

      at_next : (ordinal : ℕ) → suc read ≡ ordinal → (y : Member) (ms : Members) → IsTypedMember ds false (find rows ordinal) y → RiseTyped ds rows ordinal n ms
          → max (member_depth ds (find rows ordinal) y) (members_depth ds rows ms) + held ≤ MAX_DEPTH → StandsAt m (joined (enveloped ds (find rows ordinal) y) (envelopes ds rows (suc ordinal) n ms)) (base + 8 * read) from
          → to ≡ after_envelopes ds rows ms base (after_member ds (find rows ordinal) y (envelope_place base ordinal) from) → Behind read from to
      at_next ordinal same y ms h more d s e = subst (λ (o : ℕ). IsTypedMember ds false (find rows o) y → RiseTyped ds rows o n ms
          → max (member_depth ds (find rows o) y) (members_depth ds rows ms) + held ≤ MAX_DEPTH → StandsAt m (joined (enveloped ds (find rows o) y) (envelopes ds rows (suc o) n ms)) (base + 8 * read) from
          → to ≡ after_envelopes ds rows ms base (after_member ds (find rows o) y (envelope_place base o) from) → Behind read from to) same
          (λ h more d s e.
          let o = find rows (suc read) in
          let a = enveloped ds o y in
          let b = envelopes ds rows (suc (suc read)) n ms in
          let mid = after_member ds o y (envelope_place base (suc read)) from in
          let led = member_past ds laid false o y (envelope_place base (suc read)) from h in
          let long = length-enveloped ds laid false o y h in
          let two = stands_joined m a b (base + 8 * read) from s in
          record {
            mid = mid;
            contained = record { content = y; typed = h; shallow = omega (arith, d); stands = stands_at m a (base + 8 * read) (envelope_place base (suc read)) from here two.0; end = refl };
            slots = record {
              members = ms;
              typed = more;
              shallow = omega (arith, d);
              stands = stands_alike m b (base + 8 * suc read) (past a from) mid (sym led.0, sym led.1) (stands_at m b (base + 8 * read + length a.inline) (base + 8 * suc read) (past a from) (omega (arith, long)) two.1);
              end = e;
            };
          }) h more d s e

      go : (ms : Members) → RiseTyped ds rows read n ms → members_depth ds rows ms + held ≤ MAX_DEPTH → StandsAt m (envelopes ds rows (suc read) n ms) (base + 8 * read) from → to ≡ after_envelopes ds rows ms base from → Step read from to
      go empty h d s e =
          let z = subst (λ (l : List ℕ). Stands m.bytes (base + 8 * read) l) (split_zeros (suc n - suc read) (suc n - suc (suc read)) (omega (arith, lt))) s.inline in
          inl (
            stands_to m.bytes (base + 8 * read) (envelope_place base (suc read)) (zeros 8) here (stands_front m.bytes (base + 8 * read) (zeros 8) (zeros (8 * (suc n - suc (suc read)))) z),
            record {
              members = empty;
              typed = tt;
              shallow = d;
              stands = record {
                inline = stands_to m.bytes (base + 8 * read + 8) (base + 8 * suc read) (zeros (8 * (suc n - suc (suc read)))) there (stands_back m.bytes (base + 8 * read) (zeros 8) (zeros (8 * (suc n - suc (suc read)))) z);
                out = tt;
                carried = tt;
              };
              end = e;
            },
          )
      go (member ordinal y ms) h d s e = elim (cases_lt (suc read) ordinal) [
        | inl further ↦
            let rest = joined (enveloped ds (find rows ordinal) y) (envelopes ds rows (suc ordinal) n ms) in
            let gap = zeros (8 * (ordinal - suc (suc read))) in
            let whole = subst (λ (l : List ℕ). Stands m.bytes (base + 8 * read) (l ++ rest.inline)) (split_zeros (ordinal - suc read) (ordinal - suc (suc read)) (omega (arith, further))) s.inline in
            let front = stands_front m.bytes (base + 8 * read) (zeros 8 ++ gap) rest.inline whole in
            let back = stands_back m.bytes (base + 8 * read) (zeros 8 ++ gap) rest.inline whole in
            let long = length-append (zeros 8) gap in
            let gap_there = stands_to m.bytes (base + 8 * read + 8) (base + 8 * suc read) gap there (stands_back m.bytes (base + 8 * read) (zeros 8) gap front) in
            inl (
              stands_to m.bytes (base + 8 * read) (envelope_place base (suc read)) (zeros 8) here (stands_front m.bytes (base + 8 * read) (zeros 8) gap front),
              record {
                members = member ordinal y ms;
                typed = (further, h.1, h.2, h.3);
                shallow = d;
                stands = record {
                  inline = stands_both m.bytes (base + 8 * suc read) gap rest.inline gap_there (stands_to m.bytes (base + 8 * read + length (zeros 8 ++ gap)) (base + 8 * suc read + length gap) rest.inline (omega (arith, long)) back);
                  out = s.out;
                  carried = s.carried;
                };
                end = e;
              },
            )
        | inr le ↦
            let same : suc read ≡ ordinal = omega (arith, le, h.0) in
            let none : 8 * (ordinal - suc read) ≡ 0 = omega (arith, same) in
            let rest = joined (enveloped ds (find rows ordinal) y) (envelopes ds rows (suc ordinal) n ms) in
            let s' : StandsAt m rest (base + 8 * read) from = record { inline = subst (λ k. Stands m.bytes (base + 8 * read) (zeros k ++ rest.inline)) none s.inline; out = s.out; carried = s.carried } in
            inr (at_next ordinal same y ms h.2 h.3 d s' e)
      ]

  -- members behind zeros, and behind a member
  module _ (read : ℕ) (lt : read < n) where
    here : envelope_place base (suc read) ≡ base + 8 * read
    here = omega arith

    there : base + 8 * suc read ≡ base + 8 * read + 8
    there = omega arith

    pub worth_zeros : (from to : Position) → Stands m.bytes (envelope_place base (suc read)) (zeros 8) → (w : ℕ) → SlotsWorth ds m held rows (suc read) n base from to w → SlotsWorth ds m held rows read n base from to w
    worth_zeros from to z w (x, less) = behind_zeros x.members x.typed x.shallow x.stands x.end less
      where
        behind_zeros : (ms : Members) → RiseTyped ds rows (suc read) n ms → members_depth ds rows ms + held ≤ MAX_DEPTH
            → StandsAt m (envelopes ds rows (suc (suc read)) n ms) (base + 8 * suc read) from → to ≡ after_envelopes ds rows ms base from → members_work ms ≤ w → SlotsWorth ds m held rows read n base from to w
        behind_zeros empty h d s e le =
            let rest = zeros (8 * (suc n - suc (suc read))) in
            let first = stands_to m.bytes (envelope_place base (suc read)) (base + 8 * read) (zeros 8) here z in
            let both = stands_both m.bytes (base + 8 * read) (zeros 8) rest first (stands_to m.bytes (base + 8 * suc read) (base + 8 * read + 8) rest there s.inline) in (
              record {
                members = empty;
                typed = tt;
                shallow = d;
                stands = record { inline = subst (λ (l : List ℕ). Stands m.bytes (base + 8 * read) l) (sym (split_zeros (suc n - suc read) (suc n - suc (suc read)) (omega (arith, lt)))) both; out = tt; carried = tt };
                end = e;
              },
              le,
            )
        behind_zeros (member ordinal y ms) h d s e le =
            let further = h.0 in
            let rest = joined (enveloped ds (find rows ordinal) y) (envelopes ds rows (suc ordinal) n ms) in
            let gap = zeros (8 * (ordinal - suc (suc read))) in
            let long = length-append (zeros 8) gap in
            let first = stands_to m.bytes (envelope_place base (suc read)) (base + 8 * read) (zeros 8) here z in
            let gap_there = stands_to m.bytes (base + 8 * suc read) (base + 8 * read + 8) gap there (stands_front m.bytes (base + 8 * suc read) gap rest.inline s.inline) in
            let rest_there = stands_to m.bytes (base + 8 * suc read + length gap) (base + 8 * read + length (zeros 8 ++ gap)) rest.inline (omega (arith, long)) (stands_back m.bytes (base + 8 * suc read) gap rest.inline s.inline) in
            let whole = stands_both m.bytes (base + 8 * read) (zeros 8 ++ gap) rest.inline (stands_both m.bytes (base + 8 * read) (zeros 8) gap first gap_there) rest_there in (
              record {
                members = member ordinal y ms;
                typed = (omega (arith, further), h.1, h.2, h.3);
                shallow = d;
                stands = record {
                  inline = subst (λ (l : List ℕ). Stands m.bytes (base + 8 * read) (l ++ rest.inline)) (sym (split_zeros (ordinal - suc read) (ordinal - suc (suc read)) (omega (arith, further)))) whole;
                  out = s.out;
                  carried = s.carried;
                };
                end = e;
              },
              le,
            )

    pub worth_member : (from mid to : Position) (a b : ℕ) → ContainedWorth ds m held (find rows (suc read)) (envelope_place base (suc read)) from mid a → SlotsWorth ds m held rows (suc read) n base mid to b → SlotsWorth ds m held rows read n base from to (a + b)
    worth_member from mid to a_work b_work (x, x_le) (z, z_le) =
        let o = find rows (suc read) in
        let y = x.content in
        let a = enveloped ds o y in
        let ms = z.members in
        let c = envelopes ds rows (suc (suc read)) n ms in
        let led = member_past ds laid false o y (envelope_place base (suc read)) from x.typed in
        let long = length-enveloped ds laid false o y x.typed in
        let none : 0 ≡ 8 * (suc read - suc read) = omega arith in
        let deep = x.shallow in
        let more = z.shallow in
        let front = stands_at m a (envelope_place base (suc read)) (base + 8 * read) from here x.stands in
        let moved = stands_at m c (base + 8 * suc read) (base + 8 * read + length a.inline) mid (omega (arith, long)) z.stands in
        let back = stands_alike m c (base + 8 * read + length a.inline) (after_member ds o y (envelope_place base (suc read)) from) (past a from) led (subst (λ (q : Position). StandsAt m c (base + 8 * read + length a.inline) q) x.end moved) in
        let both = joined_stands m a c (base + 8 * read) from front back in (
          record {
            members = member (suc read) y ms;
            typed = (omega arith, omega (arith, lt), x.typed, z.typed);
            shallow = omega (arith, deep, more);
            stands = record { inline = subst (λ k. Stands m.bytes (base + 8 * read) (zeros k ++ (joined a c).inline)) none both.inline; out = both.out; carried = both.carried };
            end = z.end ∙ ap (λ (q : Position). after_envelopes ds rows ms base q) x.end;
          },
          omega (arith, x_le, z_le),
        )

  -- what stands behind zeros, or behind a member, are the members from there on
  pub step_slots : (read : ℕ) (from to : Position) → read < n → Step read from to → Slots ds m held rows read n base from to
  step_slots read from to lt step = elim step [
    | inl z ↦ (worth_zeros read lt from to z.0 (members_work z.1.members) (z.1, omega arith)).0
    | inr b ↦ (worth_member read lt from b.mid to (member_work b.contained.content) (members_work b.slots.members) (b.contained, omega arith) (b.slots, omega arith)).0
  ]

  -- no envelope is left: nothing stands there
  pub slots_end : (from to : Position) → Slots ds m held rows n n base from to → from ≡ to
  slots_end from to x = go x.members x.typed x.end
    where
      go : (ms : Members) → RiseTyped ds rows n n ms → to ≡ after_envelopes ds rows ms base from → from ≡ to
      go empty h e = sym e
      go (member ordinal y ms) h e = absurd (omega (arith, h.0, h.1))

  pub worth_end : (from : Position) → held ≤ MAX_DEPTH → (w : ℕ) → SlotsWorth ds m held rows n n base from from w
  worth_end from deep w =
      let none : 0 ≡ 8 * (suc n - suc n) = omega arith in (
        record {
          members = empty;
          typed = tt;
          shallow = omega arith;
          stands = record { inline = subst (λ k. Stands m.bytes (base + 8 * n) (zeros k)) none tt; out = tt; carried = tt };
          end = refl;
        },
        omega arith,
      )

  pub end_slots : (from : Position) → held ≤ MAX_DEPTH → Slots ds m held rows n n base from from
  end_slots from deep = (worth_end from deep 0).0
