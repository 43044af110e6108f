-- The content of an envelope: the known members that stand in one or behind it.
use Rattle.std.proofs.Common.{◌≡◌, ℕ, suc, ◌+◌, ◌-◌, ◌<◌, ◌≤◌, Bool, true, false, cond, nat_le, List, [], ◌∷◌, length, get_or, Some, refl, sym, ap, subst, ◌∙◌, arith}
use Rattle.std.specs.Int.{w32, to_le_bytes, next_multiple_of}
use Rattle.fidl_limits.specs.declared.limits.TheConstants.{MAX_DEPTH}
use Rattle.fidl_wire.specs.Value.{Value, Member, known}
use Rattle.fidl_wire.specs.Term.{Term, resolve}
use Rattle.fidl_wire.specs.Term as ty
use Rattle.fidl_wire.specs.Figure.{Declarations, IsLaidOut, figure_of, size_of}
use Rattle.fidl_wire.specs.Typed.{IsTyped, IsTypedMember}
use Rattle.fidl_wire.specs.Encoding.{zeros, padded, pad8, object, inline_envelope, out_envelope, envelope_end, encoding_of, enveloped}
use Rattle.fidl_wire.specs.Depth.{depth_of, member_depth}
use Rattle.fidl_wire.specs.Standing.{Stands}
use Rattle.fidl_wire.proofs.Sizes.{size_of-resolve, length-inline, length-padded}
use Rattle.fidl_wire.proofs.Stand.{stands_to, stands_front, stands_back, stands_both}
use Rattle.fidl_wire.proofs.Unique.{no_out}
use Rattle.fidl_decode_model.specs.Rows.{Row, element_rows, RowsRise}
use Rattle.fidl_decode_model.specs.Faults.{IsWithin}
use Rattle.fidl_decode_model.specs.State.{Message, Position, opened, linked, member_at, begun, after, after_member, StandsAt, ValueAt, Members}
use Rattle.fidl_decode_model.specs.Envelopes.{Contained}
use Rattle.fidl_wire.specs.Envelope.{bytes_below, handles_below, flags_at}
use Rattle.fidl_decode_model.proofs.After.{length-pad8, length-object, after_past}
use Rattle.fidl_decode_model.specs.Work.{Work, values_work}
use Rattle.fidl_decode_model.specs.Worth.{ValueWorth, MembersWorth, ContainedWorth}
use Rattle.fidl_decode_model.proofs.Rows.{members_end, more_members, worth_apart}
use Rattle.fidl_decode_values.proofs.Covering.{object_stands}
use Rattle.fidl_decode_model.proofs.Shallow.{no_depth}
use Rattle.fidl_decode_values.proofs.Counts.{at_most_four, not_at_most_four, end_numbers, first_number, end_stands, first_stands}

-- ---- an object of one value

module _ (ds : Declarations) (laid : IsLaidOut ds) (m : Message) (e held wide base : ℕ) (deep : held ≤ MAX_DEPTH) (fits : size_of ds (ty.named e) ≤ wide) where
  abbrev u : Term
  u = resolve ds.terms (ty.named e)

  abbrev size : ℕ
  size = size_of ds (ty.named e)

  abbrev only : Row
  only = record { offset = 0; entry = e }

  only_rises : RowsRise ds (suc e) (suc (figure_of ds.figures (ty.named e)).nest) wide 0 (only ∷ [])
  only_rises = (omega arith, omega arith, omega arith, omega (arith, fits))

  -- the value stands there, and zeros behind it
  pub worth_only : (from to : Position) (w : ℕ) → MembersWorth ds m held wide base 0 (element_rows e size 1 0) from to w → ValueWorth ds m held u base from to w × Stands m.bytes (base + size) (zeros (wide - size))
  worth_only from to w x =
      let p = (worth_apart ds laid m held (suc e) (suc (figure_of ds.figures (ty.named e)).nest) wide base 0 only [] from to only_rises w x).1 in
      let q = (members_end ds laid m held wide base (0 + size) p.0 to deep).0 p.4.0 in
      let here : base + 0 ≡ base = omega arith in
      let flat : 0 + size ≡ size = omega arith in
      let le = p.5 in
      let own = p.3.1 in (
        subst (λ (s : Position). ValueWorth ds m held u base from s w) q.0 (subst (λ (b : ℕ). ValueWorth ds m held u b from p.0 w) here (p.3.0, omega (arith, le, own))),
        subst (λ (k : ℕ). Stands m.bytes (base + k) (zeros (wide - k))) flat q.1,
      )

  pub members_only : (from to : Position) → Members ds m held wide base 0 (element_rows e size 1 0) from to → ValueAt ds m held u base from to × Stands m.bytes (base + size) (zeros (wide - size))
  members_only from to x = let p = worth_only from to (values_work x.values) (x, omega arith) in (p.0.0, p.1)

  pub only_members : (from to : Position) → ValueAt ds m held u base from to → Stands m.bytes (base + size) (zeros (wide - size)) → Members ds m held wide base 0 (element_rows e size 1 0) from to
  only_members from to x z =
      let here : base ≡ base + 0 = omega arith in
      let flat : size ≡ 0 + size = omega arith in
      more_members ds laid m held (suc e) (suc (figure_of ds.figures (ty.named e)).nest) wide base 0 only [] from to to only_rises tt
      (subst (λ (b : ℕ). ValueAt ds m held u b from to) here x)
      ((members_end ds laid m held wide base (0 + size) to to deep).1 (refl, subst (λ (k : ℕ). Stands m.bytes (base + k) (zeros (wide - k))) flat z))

-- ---- a known member

module _ (ds : Declarations) (laid : IsLaidOut ds) (m : Message) (within : IsWithin m.bytes m.handles) (held : ℕ) (t : Term) (p : ℕ) (from to : Position) where
  abbrev term : Term
  term = resolve ds.terms t

  abbrev wide : ℕ
  wide = size_of ds t

  -- one of at most four bytes stands in its envelope, which counts its handles
  pub record Inside : Type 0 where
    pub item : ValueAt ds m held term p (opened p from) to
    pub behind : Stands m.bytes (p + wide) (zeros (4 - wide))
    pub next : to.next ≡ from.next
    pub handle : to.handle ≡ from.handle + handles_below m.bytes p

  -- one of more is the next object of its envelope, which counts its bytes and its handles
  pub record Below : Type 0 where
    pub item : ValueAt ds m (held + 1) term from.next (linked p wide (opened p from)) to
    pub behind : Stands m.bytes (from.next + wide) (zeros (next_multiple_of wide 8 - wide))
    pub next : to.next ≡ from.next + bytes_below m.bytes p
    pub handle : to.handle ≡ from.handle + handles_below m.bytes p

  same_size : size_of ds term ≡ wide
  same_size = size_of-resolve ds laid t

  -- a value of at most four bytes has nothing out of line, and leads past its handles
  pub inside_led : wide ≤ 4 → (x : ValueAt ds m held term p (opened p from) to) → (to.next ≡ from.next) × (to.handle ≡ from.handle + length (encoding_of ds term x.value).handles)
  inside_led le x =
      let none = ap length (no_out ds laid term x.value x.typed (subst (λ k. k ≤ 4) (sym same_size) le)) in
      let led = after_past ds laid term x.value p (opened p from) x.typed in
      let n : to.next ≡ (after ds term x.value p (opened p from)).next = ap (λ (k : Position). k.next) x.end in
      let h : to.handle ≡ (after ds term x.value p (opened p from)).handle = ap (λ (k : Position). k.handle) x.end in
      (omega (arith, n, led.0, none), omega (arith, h, led.1))

  pub below_led : (x : ValueAt ds m (held + 1) term from.next (linked p wide (opened p from)) to)
      → (to.next ≡ from.next + length (object (encoding_of ds term x.value))) × (to.handle ≡ from.handle + length (encoding_of ds term x.value).handles)
  below_led x =
      let a = encoding_of ds term x.value in
      let mid = linked p wide (opened p from) in
      let long = length-inline ds laid term x.value x.typed ∙ same_size in
      let led = after_past ds laid term x.value from.next mid x.typed in
      let n : to.next ≡ (after ds term x.value from.next mid).next = ap (λ (k : Position). k.next) x.end in
      let h : to.handle ≡ (after ds term x.value from.next mid).handle = ap (λ (k : Position). k.handle) x.end in
      (omega (arith, n, led.0, length-object a, ap (λ k. next_multiple_of k 8) long), omega (arith, h, led.1))

  pub contained_inside : wide ≤ 4 → Contained ds m held (Some t) p from to → Inside
  contained_inside le x = only_known x.content x.typed x.shallow x.stands x.end
    where
      go : (v : Value) → IsTyped ds term v → (b : Bool) → b ≡ true → cond b 0 (suc (depth_of ds term v)) + held ≤ MAX_DEPTH
          → StandsAt m (cond b (inline_envelope (padded 4 (encoding_of ds term v).inline) (encoding_of ds term v).handles) (out_envelope (object (encoding_of ds term v)) (encoding_of ds term v).handles)) p from
          → to ≡ after ds term v (member_at b p from) (begun b p wide from) → Inside
      go v h false e d s end = absurd (cc)
      go v h true e d s end =
          let a = encoding_of ds term v in
          let long : length a.inline ≡ wide = length-inline ds laid term v h ∙ same_size in
          let whole : length (padded 4 a.inline) ≡ 4 = length-padded 4 a.inline (omega (arith, long, le)) in
          let front = stands_front m.bytes p (padded 4 a.inline) (envelope_end 1 a.handles) s.inline in
          let last = stands_to m.bytes (p + length (padded 4 a.inline)) (p + 4) (envelope_end 1 a.handles) (omega (arith, whole)) (stands_back m.bytes p (padded 4 a.inline) (envelope_end 1 a.handles) s.inline) in
          let many = (end_numbers m within p 1 from.handle a.handles (omega arith) s.carried last).1 in
          let none = no_out ds laid term v h (subst (λ k. k ≤ 4) (sym same_size) le) in
          let x : ValueAt ds m held term p (opened p from) to = record {
            value = v;
            typed = h;
            shallow = omega (arith, d, no_depth ds laid term v h (subst (λ k. k ≤ 4) (sym same_size) le));
            stands = record { inline = stands_front m.bytes p a.inline (zeros (4 - length a.inline)) front; out = subst (λ (o : List ℕ). Stands m.bytes from.next o) (sym none) tt; carried = s.carried };
            end = end;
          } in
          let led : (to.next ≡ from.next) × (to.handle ≡ from.handle + length a.handles) = inside_led le x in
          record {
            item = x;
            behind = subst (λ (k : ℕ). Stands m.bytes (p + k) (zeros (4 - k))) long (stands_back m.bytes p a.inline (zeros (4 - length a.inline)) front);
            next = led.0;
            handle = omega (arith, led.1, many);
          }

      only_known : (c : Member) → IsTypedMember ds false (Some t) c → member_depth ds (Some t) c + held ≤ MAX_DEPTH → StandsAt m (enveloped ds (Some t) c) p from → to ≡ after_member ds (Some t) c p from → Inside
      only_known (known v) h d s end = go v h (nat_le wide 4) (at_most_four wide le) d s end
      only_known _ h d s end = absurd h

  pub contained_below : 4 < wide → Contained ds m held (Some t) p from to → Below
  contained_below lt x = only_known x.content x.typed x.shallow x.stands x.end
    where
      go : (v : Value) → IsTyped ds term v → (b : Bool) → b ≡ false → cond b 0 (suc (depth_of ds term v)) + held ≤ MAX_DEPTH
          → StandsAt m (cond b (inline_envelope (padded 4 (encoding_of ds term v).inline) (encoding_of ds term v).handles) (out_envelope (object (encoding_of ds term v)) (encoding_of ds term v).handles)) p from
          → to ≡ after ds term v (member_at b p from) (begun b p wide from) → Below
      go v h true e d s end = absurd (cc)
      go v h false e d s end =
          let a = encoding_of ds term v in
          let long : length a.inline ≡ wide = length-inline ds laid term v h ∙ same_size in
          let front = stands_front m.bytes from.next (pad8 a.inline) a.out s.out in
          let first = stands_front m.bytes p (to_le_bytes w32 (length (object a))) (envelope_end 0 a.handles) s.inline in
          let last = stands_back m.bytes p (to_le_bytes w32 (length (object a))) (envelope_end 0 a.handles) s.inline in
          let many = (end_numbers m within p 0 from.handle a.handles (omega arith) s.carried last).1 in
          let counted = first_number m within p from.next (object a) s.out first in
          let x : ValueAt ds m (held + 1) term from.next (linked p wide (opened p from)) to = record {
            value = v;
            typed = h;
            shallow = omega (arith, d);
            stands = object_stands m a wide from (linked p wide (opened p from)) (sym long) refl refl s.out s.carried;
            end = end;
          } in
          let led = below_led x in
          record {
            item = x;
            behind = subst (λ (k : ℕ). Stands m.bytes (from.next + k) (zeros (next_multiple_of k 8 - k))) long (stands_back m.bytes from.next a.inline (zeros (next_multiple_of (length a.inline) 8 - length a.inline)) front);
            next = omega (arith, led.0, counted);
            handle = omega (arith, led.1, many);
          }

      only_known : (c : Member) → IsTypedMember ds false (Some t) c → member_depth ds (Some t) c + held ≤ MAX_DEPTH → StandsAt m (enveloped ds (Some t) c) p from → to ≡ after_member ds (Some t) c p from → Below
      only_known (known v) h d s end = go v h (nat_le wide 4) (not_at_most_four wide lt) d s end
      only_known _ h d s end = absurd h

  module _ (room : p + 8 ≤ length m.bytes) (small : (i : ℕ) → get_or m.bytes i 0 < 256) where
    pub inside_contained : wide ≤ 4 → held ≤ MAX_DEPTH → flags_at m.bytes p ≡ 1 → (i : Inside) → (w : ℕ) → Work i.item.value ≤ w → ContainedWorth ds m held (Some t) p from to w
    inside_contained le deep flags i w worth =
        let x = i.item in
        let v = x.value in
        let a = encoding_of ds term v in
        let is = at_most_four wide le in
        let long : length a.inline ≡ wide = length-inline ds laid term v x.typed ∙ same_size in
        let whole : length (padded 4 a.inline) ≡ 4 = length-padded 4 a.inline (omega (arith, long, le)) in
        let led = inside_led le x in
        let counted = i.handle in
        let many : handles_below m.bytes p ≡ length a.handles = omega (arith, led.1, counted) in
        let last = end_stands m within p room small 1 a.handles flags many in
        let behind = subst (λ (k : ℕ). Stands m.bytes (p + k) (zeros (4 - k))) (sym long) i.behind in
        let st : StandsAt m (inline_envelope (padded 4 a.inline) a.handles) p from = record {
          inline = stands_both m.bytes p (padded 4 a.inline) (envelope_end 1 a.handles)
              (stands_both m.bytes p a.inline (zeros (4 - length a.inline)) x.stands.inline behind)
              (stands_to m.bytes (p + 4) (p + length (padded 4 a.inline)) (envelope_end 1 a.handles) (omega (arith, whole)) last);
          out = tt;
          carried = x.stands.carried;
        } in (
          record {
            content = known v;
            typed = x.typed;
            shallow = subst (λ (b : Bool). cond b 0 (suc (depth_of ds term v)) + held ≤ MAX_DEPTH) (sym is) (omega arith);
            stands = subst (λ (b : Bool). StandsAt m (cond b (inline_envelope (padded 4 a.inline) a.handles) (out_envelope (object a) a.handles)) p from) (sym is) st;
            end = subst (λ (b : Bool). to ≡ after ds term v (member_at b p from) (begun b p wide from)) (sym is) x.end;
          },
          worth,
        )

    pub below_contained : 4 < wide → flags_at m.bytes p ≡ 0 → (i : Below) → (w : ℕ) → Work i.item.value ≤ w → ContainedWorth ds m held (Some t) p from to w
    below_contained lt flags i w worth =
        let x = i.item in
        let v = x.value in
        let a = encoding_of ds term v in
        let is = not_at_most_four wide lt in
        let long : length a.inline ≡ wide = length-inline ds laid term v x.typed ∙ same_size in
        let up : length (pad8 a.inline) ≡ next_multiple_of wide 8 = length-pad8 a.inline ∙ ap (λ k. next_multiple_of k 8) long in
        let led = below_led x in
        let counted = i.next in
        let counted_handles = i.handle in
        let many : handles_below m.bytes p ≡ length a.handles = omega (arith, led.1, counted_handles) in
        let much : bytes_below m.bytes p ≡ length (object a) = omega (arith, led.0, counted) in
        let last = end_stands m within p room small 0 a.handles flags many in
        let first = first_stands m within p room small (length (object a)) much in
        let behind = subst (λ (k : ℕ). Stands m.bytes (from.next + k) (zeros (next_multiple_of k 8 - k))) (sym long) i.behind in
        let d = x.shallow in
        let st : StandsAt m (out_envelope (object a) a.handles) p from = record {
          inline = stands_both m.bytes p (to_le_bytes w32 (length (object a))) (envelope_end 0 a.handles) first last;
          out = stands_both m.bytes from.next (pad8 a.inline) a.out
              (stands_both m.bytes from.next a.inline (zeros (next_multiple_of (length a.inline) 8 - length a.inline)) x.stands.inline behind)
              (stands_to m.bytes (from.next + next_multiple_of wide 8) (from.next + length (pad8 a.inline)) a.out (omega (arith, up)) x.stands.out);
          carried = x.stands.carried;
        } in (
          record {
            content = known v;
            typed = x.typed;
            shallow = subst (λ (b : Bool). cond b 0 (suc (depth_of ds term v)) + held ≤ MAX_DEPTH) (sym is) (omega (arith, d));
            stands = subst (λ (b : Bool). StandsAt m (cond b (inline_envelope (padded 4 a.inline) a.handles) (out_envelope (object a) a.handles)) p from) (sym is) st;
            end = subst (λ (b : Bool). to ≡ after ds term v (member_at b p from) (begun b p wide from)) (sym is) x.end;
          },
          worth,
        )
