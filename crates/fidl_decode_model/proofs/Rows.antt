-- Laws of the members that a holder has left.
use Rattle.std.proofs.Common.{◌≡◌, ℕ, ◌+◌, ◌-◌, ◌≤◌, List, [], ◌∷◌, length, refl, sym, ap, subst, ◌∙◌, arith}
use Rattle.fidl_limits.specs.declared.limits.TheConstants.{MAX_DEPTH}
use Rattle.std.specs.Prelude.{◌↔◌}
use Rattle.std.proofs.Math.ListN.{length-replicate}
use Rattle.fidl_wire.specs.Value.{Value, Values, none, value}
use Rattle.fidl_wire.specs.Term.{resolve}
use Rattle.fidl_wire.specs.Term as ty
use Rattle.fidl_wire.specs.Figure.{Declarations, IsLaidOut, size_of}
use Rattle.fidl_wire.specs.Typed.{IsTyped}
use Rattle.fidl_wire.specs.Encoding.{Encoding, zeros, inline_only, joined, encoding_of}
use Rattle.fidl_wire.specs.Standing.{Stands}
use Rattle.fidl_wire.proofs.Sizes.{length-inline, size_of-resolve}
use Rattle.fidl_wire.proofs.Stand.{stands_front, stands_back, stands_both, carries_front, carries_back, carries_both}
use Rattle.fidl_decode_model.specs.Rows.{Row, TypedRows, enc_rows, depth_rows, RowsRise}
use Rattle.fidl_decode_model.specs.Work.{Work, values_work}
use Rattle.fidl_decode_model.specs.Worth.{ValueWorth, MembersWorth}
use Rattle.fidl_decode_model.specs.State.{Message, Position, after, after_rows, StandsAt, ValueAt, Members}
use Rattle.fidl_decode_model.proofs.After.{past, after_past, stands_alike}

-- two encodings, one behind the other
pub stands_joined : (m : Message) (a b : Encoding) (place : ℕ) (s : Position) → StandsAt m (joined a b) place s → StandsAt m a place s × StandsAt m b (place + length a.inline) (past a s)
stands_joined m a b place s h = (
  record { inline = stands_front m.bytes place a.inline b.inline h.inline; out = stands_front m.bytes s.next a.out b.out h.out; carried = carries_front m.handles s.handle a.handles b.handles h.carried },
  record { inline = stands_back m.bytes place a.inline b.inline h.inline; out = stands_back m.bytes s.next a.out b.out h.out; carried = carries_back m.handles s.handle a.handles b.handles h.carried },
)

pub joined_stands : (m : Message) (a b : Encoding) (place : ℕ) (s : Position) → StandsAt m a place s → StandsAt m b (place + length a.inline) (past a s) → StandsAt m (joined a b) place s
joined_stands m a b place s h k =
    record { inline = stands_both m.bytes place a.inline b.inline h.inline k.inline; out = stands_both m.bytes s.next a.out b.out h.out k.out; carried = carries_both m.handles s.handle a.handles b.handles h.carried k.carried }

pub stands_at : (m : Message) (e : Encoding) (p q : ℕ) (s : Position) → p ≡ q → StandsAt m e p s → StandsAt m e q s
stands_at m e p q s same h = subst (λ n. StandsAt m e n s) same h

plus_none : (n : ℕ) → n + 0 ≡ n
plus_none n = omega arith

pub past_inline : (bytes : List ℕ) (s : Position) → past (inline_only bytes) s ≡ s
past_inline bytes s = λ i. record { next = plus_none s.next i; handle = plus_none s.handle i; objects = s.objects; records = s.records }

pub rows_fit : (ds : Declarations) (n nest size done : ℕ) (rs : List Row) → RowsRise ds n nest size done rs → done ≤ size
rows_fit ds n nest size done [] h = h
rows_fit ds n nest size done (r ∷ rs) h = omega (arith, rows_fit ds n nest size (r.offset + size_of ds (ty.named r.entry)) rs h.3)

module _ (ds : Declarations) (laid : IsLaidOut ds) where
  -- a value of an entry is as long as the entry's size
  pub length-entry : (e : ℕ) (v : Value) → IsTyped ds (resolve ds.terms (ty.named e)) v → length (encoding_of ds (resolve ds.terms (ty.named e)) v).inline ≡ size_of ds (ty.named e)
  length-entry e v h = length-inline ds laid (resolve ds.terms (ty.named e)) v h ∙ size_of-resolve ds laid (ty.named e)

  module _ (m : Message) (held : ℕ) where
    -- no members are worth nothing
    pub worth_none : (size base done : ℕ) (from to : Position) → held ≤ MAX_DEPTH → (from ≡ to) → Stands m.bytes (base + done) (zeros (size - done)) → (w : ℕ) → MembersWorth ds m held size base done [] from to w
    worth_none size base done from to deep same z w = (
      record { values = none; typed = tt; shallow = none_deep held deep; stands = record { inline = z; out = tt; carried = tt }; end = sym same },
      omega arith,
    )
      where
        none_deep : (n : ℕ) → n ≤ MAX_DEPTH → 0 + n ≤ MAX_DEPTH
        none_deep n h = omega arith

    -- no members are left: zeros
    pub members_end : (size base done : ℕ) (from to : Position) → held ≤ MAX_DEPTH → Members ds m held size base done [] from to ↔ ((from ≡ to) × Stands m.bytes (base + done) (zeros (size - done)))
    members_end size base done from to deep = (
      λ x. at_end x.values x.typed x.stands x.end,
      λ y. (worth_none size base done from to deep y.0 y.1 0).0,
    )
      where
        at_end : (vs : Values) → TypedRows ds [] vs → StandsAt m (enc_rows ds size done [] vs) (base + done) from → to ≡ after_rows ds [] vs base from → (from ≡ to) × Stands m.bytes (base + done) (zeros (size - done))
        at_end none h s e = (sym e, s.inline)
        at_end (value v vs) h s e = absurd h

    -- a member behind zeros, and those after it
    pub worth_apart : (n nest size base done : ℕ) (r : Row) (rs : List Row) (from to : Position) → RowsRise ds n nest size done (r ∷ rs) → (w : ℕ) → MembersWorth ds m held size base done (r ∷ rs) from to w
        → Stands m.bytes (base + done) (zeros (r.offset - done)) × ((mid : Position) × (a : ℕ) × (b : ℕ) × ValueWorth ds m held (resolve ds.terms (ty.named r.entry)) (base + r.offset) from mid a × MembersWorth ds m held size base (r.offset + size_of ds (ty.named r.entry)) rs mid to b × (a + b ≤ w))
    worth_apart n nest size base done r rs from to f w (x, le) = apart x.values x.typed x.shallow x.stands x.end le
      where
        apart : (vs : Values) → TypedRows ds (r ∷ rs) vs → depth_rows ds (r ∷ rs) vs + held ≤ MAX_DEPTH → StandsAt m (enc_rows ds size done (r ∷ rs) vs) (base + done) from → to ≡ after_rows ds (r ∷ rs) vs base from → values_work vs ≤ w
            → Stands m.bytes (base + done) (zeros (r.offset - done)) × ((mid : Position) × (a : ℕ) × (b : ℕ) × ValueWorth ds m held
            (resolve ds.terms (ty.named r.entry)) (base + r.offset) from mid a × MembersWorth ds m held size base
            (r.offset + size_of ds (ty.named r.entry)) rs mid to b × (a + b ≤ w))
        apart none h d s e less = absurd h
        apart (value v vs) h d s e less =
            let next = r.offset + size_of ds (ty.named r.entry) in
            let g = inline_only (zeros (r.offset - done)) in
            let a = encoding_of ds (resolve ds.terms (ty.named r.entry)) v in
            let b = enc_rows ds size next rs vs in
            let gap : length (zeros (r.offset - done)) ≡ r.offset - done = length-replicate {A = ℕ} (r.offset - done) 0 in
            let len : length a.inline ≡ size_of ds (ty.named r.entry) = length-entry r.entry v h.0 in
            let le : done ≤ r.offset = f.1 in
            let one = stands_joined m g (joined a b) (base + done) from s in
            let u = resolve ds.terms (ty.named r.entry) in
            let mid = after ds u v (base + r.offset) from in
            let led = after_past ds laid u v (base + r.offset) from h.0 in
            let here : base + done + length g.inline ≡ base + r.offset = omega arith in
            let two = stands_joined m a b (base + r.offset) from (subst (λ (p : ℕ). StandsAt m (joined a b) p from) here (subst (λ (q : Position). StandsAt m (joined a b) (base + done + length g.inline) q) (past_inline (zeros (r.offset - done)) from) one.1)) in (
              one.0.inline,
              (
                mid,
                Work v,
                values_work vs,
                (record { value = v; typed = h.0; shallow = omega (arith, d); stands = two.0; end = refl }, omega arith),
                (
                  record {
                    values = vs;
                    typed = h.1;
                    shallow = omega (arith, d);
                    stands = stands_alike m b (base + next) (past a from) mid (sym led.0, sym led.1) (stands_at m b (base + r.offset + length a.inline) (base + next) (past a from) (omega arith) two.1);
                    end = e;
                  },
                  omega arith,
                ),
                less,
              ),
            )

    pub members_more : (n nest size base done : ℕ) (r : Row) (rs : List Row) (from to : Position) → RowsRise ds n nest size done (r ∷ rs) → Members ds m held size base done (r ∷ rs) from to
        → Stands m.bytes (base + done) (zeros (r.offset - done)) × ((mid : Position) × ValueAt ds m held (resolve ds.terms (ty.named r.entry)) (base + r.offset) from mid × Members ds m held size base (r.offset + size_of ds (ty.named r.entry)) rs mid to)
    members_more n nest size base done r rs from to f x = let p = worth_apart n nest size base done r rs from to f (values_work x.values) (x, omega arith) in (p.0, (p.1.0, p.1.3.0, p.1.4.0))

    -- they are worth together what each is
    pub worth_more : (n nest size base done : ℕ) (r : Row) (rs : List Row) (from mid to : Position) → RowsRise ds n nest size done (r ∷ rs)
        → Stands m.bytes (base + done) (zeros (r.offset - done)) → (a b : ℕ) → ValueWorth ds m held (resolve ds.terms (ty.named r.entry))
        (base + r.offset) from mid a → MembersWorth ds m held size base (r.offset + size_of ds (ty.named r.entry)) rs mid to b → MembersWorth ds m
        held size base done (r ∷ rs) from to (a + b)
    worth_more n nest size base done r rs from mid to f z a_work b_work (x, x_le) (y, y_le) =
        let next = r.offset + size_of ds (ty.named r.entry) in
        let g = inline_only (zeros (r.offset - done)) in
        let a = encoding_of ds (resolve ds.terms (ty.named r.entry)) x.value in
        let b = enc_rows ds size next rs y.values in
        let gap : length (zeros (r.offset - done)) ≡ r.offset - done = length-replicate {A = ℕ} (r.offset - done) 0 in
        let len : length a.inline ≡ size_of ds (ty.named r.entry) = length-entry r.entry x.value x.typed in
        let le : done ≤ r.offset = f.1 in
        let here : base + r.offset ≡ base + done + length g.inline = omega arith in
        let u = resolve ds.terms (ty.named r.entry) in
        let led = after_past ds laid u x.value (base + r.offset) from x.typed in
        let b_there : StandsAt m b (base + r.offset + length a.inline) mid = stands_at m b (base + next) (base + r.offset + length a.inline) mid (omega arith) y.stands in
        let both = joined_stands m a b (base + r.offset) from x.stands (stands_alike m b (base + r.offset + length a.inline) (after ds u x.value (base + r.offset) from) (past a from) led (subst (λ (q : Position). StandsAt m b (base + r.offset + length a.inline) q) x.end b_there)) in
        let moved = subst (λ (p : ℕ). StandsAt m (joined a b) p from) here both in (
          record {
            values = value x.value y.values;
            typed = (x.typed, y.typed);
            shallow = omega (arith, x.shallow, y.shallow);
            stands = joined_stands m g (joined a b) (base + done) from (record { inline = z; out = tt; carried = tt }) (subst (λ (q : Position). StandsAt m (joined a b) (base + done + length g.inline) q) (sym (past_inline (zeros (r.offset - done)) from)) moved);
            end = y.end ∙ ap (λ (q : Position). after_rows ds rs y.values base q) x.end;
          },
          omega (arith, x_le, y_le),
        )

    pub more_members : (n nest size base done : ℕ) (r : Row) (rs : List Row) (from mid to : Position) → RowsRise ds n nest size done (r ∷ rs)
        → Stands m.bytes (base + done) (zeros (r.offset - done)) → ValueAt ds m held (resolve ds.terms (ty.named r.entry)) (base + r.offset) from mid → Members ds m held size base (r.offset + size_of ds (ty.named r.entry)) rs mid to → Members ds m held size base done (r ∷ rs) from to
    more_members n nest size base done r rs from mid to f z x y = (worth_more n nest size base done r rs from mid to f z (Work x.value) (values_work y.values) (x, omega arith) (y, omega arith)).0
