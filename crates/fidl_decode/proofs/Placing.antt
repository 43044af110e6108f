-- The links that a run leaves lead from each marker to its object, and from each handle to its record.
use Rattle.std.proofs.Common.{◌≡◌, ℕ, suc, ◌+◌, ◌-◌, ◌*◌, ◌/◌, ◌%◌, inr, ◌<◌, ◌≤◌, List, length, get_or, refl, sym, ap, subst, ◌∙◌, arith, mul-suc, get_or-set_same, length-set, zero-add}
use Rattle.std.specs.Prelude.{Bool, true, false, nat_le, Option, Some, None, slice_get}
use Rattle.std.proofs.Math.ListN.{length-replicate}
use Rattle.std.specs.Int.{next_multiple_of, to_le_bytes, w64}
use Rattle.fidl_limits.specs.declared.limits.TheConstants.{MAX_MESSAGE_BYTES, MAX_MESSAGE_HANDLES}
use Rattle.fidl_wire.specs.Value.{Value, absent, bool, number, text, list, fields, handle, table, union, Values, none, value, count, Member, known, unknown, Members, empty, member}
use Rattle.fidl_wire.specs.Term.{Term, Fields, no_fields, field, Rows, resolve, fields_of, find}
use Rattle.fidl_wire.specs.Term as ty
use Rattle.fidl_wire.specs.Figure.{Declarations, figure_of, end_of, size_of, IsLaidOut}
use Rattle.fidl_wire.specs.Typed.{IsTyped, AllTyped, EachTyped, IsTypedMember, RiseTyped}
use Rattle.fidl_wire.specs.Encoding.{zeros, inline_only, joined, envelope_end, encoding_of, elements, members, enveloped, envelopes}
use Rattle.fidl_wire.specs.Standing.{Stands, Carries}
use Rattle.fidl_wire.proofs.Sizes.{size_of-resolve, length-inline, length-elements, length-members, length-enveloped, end_of-le, le-next_multiple_of}
use Rattle.fidl_wire.proofs.Unique.{no_out}
use Rattle.fidl_wire.proofs.Stand.{stands_front}
use Rattle.fidl_decode_model.specs.Links.{Linked}
use Rattle.fidl_decode_model.specs.State.{Message, Position, linked, member_at, begun, envelope_place, after, after_elements, after_fields, after_member, after_envelopes, StandsAt, ValueAt}
use Rattle.fidl_table_format.specs.Section.{header_of, entry_at}
use Rattle.fidl_table_format.specs.Terms.{declarations_of}
use Rattle.fidl_decode_model.specs.Invariants.{IsFine}
use Rattle.fidl_decode_model.specs.Machine.{IsWhole}
use Rattle.fidl_decode_model.specs.Placed.{Placed, ArePlaced, AreFieldsPlaced, IsMemberPlaced, AreMembersPlaced, links_of}
use Rattle.fidl_decode_model.specs.Readable.{StandsIn}
use Rattle.fidl_decode_model.proofs.Visiting.{size_is}
use Rattle.fidl_decode_model.proofs.Messages.{begins, item_encodes}
use Rattle.fidl_decode_model.proofs.After.{past, length-table, after_past, member_past, stands_alike}
use Rattle.fidl_decode_model.proofs.Rows.{stands_joined, stands_at, past_inline}
use Rattle.fidl_decode_model.specs.Frontier.{AreFree}
use Rattle.fidl_decode_model.proofs.Aligned.{even_eights, even_next, even_resolve, no_names}
use Rattle.fidl_decode_model.proofs.Staying.{stays}
use Rattle.fidl_decode.proofs.Unlinked.{Agrees, readable}
use Rattle.fidl_decode_values.proofs.Covering.{Covers, covers_within, covers_before, Fits, object_stands, envelope_stands, member_fits, first_is}
use Rattle.fidl_decode_model.proofs.Keeping.{Keeps, ends_behind, keeps, keeps_elements, keeps_fields, keeps_member, keeps_envelopes}

module _ (ds : Declarations) (laid : IsLaidOut ds) (m : Message) (l : Linked) where
  mutual
    placed : (t : Term) (v : Value) (place : ℕ) (s : Position) → IsTyped ds t v → StandsAt m (encoding_of ds t v) place s → Fits l place (place + size_of ds t) s (after ds t v place s) → Placed ds m l t place v
    placed t absent place s h st fit = st.inline
    placed t (bool b) place s h st fit = st.inline
    placed t (number z) place s h st fit = st.inline
    placed (ty.handle optional subtype rights) (handle i) place s h st fit =
        let before = fit.before in
        let room = fit.records in
        let in_range : place / 4 < length s.records = omega arith in
        let cell = fit.near.records place (omega arith) (omega arith) ∙ get_or-set_same s.records (place / 4) (s.handle + 1) 0 in_range in
        let link : get_or l.records (place / 4) 0 - 1 ≡ s.handle = omega (arith, cell) in
        (st.inline, subst (λ k. slice_get m.handles k ≡ Some i) (sym link) st.carried.0)
    placed (ty.string optional bound) (text bytes) place s h st fit =
        let before = fit.before in
        let room = fit.objects in
        let in_range : (place + 8) / 8 < length s.objects = omega arith in
        let link = fit.near.objects (place + 8) (omega arith) (omega arith) ∙ get_or-set_same s.objects ((place + 8) / 8) s.next 0 in_range in
        let own = object_stands m (inline_only bytes) (length bytes) s (linked (place + 8) (length bytes) s) refl refl refl st.out tt in
        (st.inline, subst (λ p. Stands m.bytes p bytes) (sym link) own.inline)
    placed (ty.vector optional bound t) (list vs) place s h st fit =
        let u = resolve ds.terms t in
        let size = size_of ds t in
        let e = elements ds u vs in
        let n = length e.inline in
        let same = size_of-resolve ds laid t in
        let mid = linked (place + 8) n s in
        let r = after_elements ds u size vs s.next mid in
        let len : n ≡ size * count vs = length-elements ds laid u vs h.1 ∙ ap (λ k. k * count vs) same in
        let more = keeps_elements ds laid u size (sym same) vs s.next mid h.1 in
        let grows = more.grows in
        let up = le-next_multiple_of n 8 in
        let before = fit.before in
        let room = fit.objects in
        let room_records = fit.records in
        let in_range : (place + 8) / 8 < length s.objects = omega arith in
        let many = length-set s.objects ((place + 8) / 8) s.next in
        let link = fit.near.objects (place + 8) (omega arith) (omega arith) ∙ more.objects (place + 8) (λ p q. omega arith) (λ p q. omega arith) ∙ get_or-set_same s.objects ((place + 8) / 8) s.next 0 in_range in
        let own = object_stands m e n s mid refl refl refl st.out st.carried in
        let inside = placed_elements u size (sym same) vs s.next mid h.1 own (record {
          before = omega arith;
          objects = omega arith;
          records = room_records;
          near = covers_within l r s.next r.next s.next (s.next + size * count vs) (omega arith) (omega arith) fit.far;
          far = covers_within l r s.next r.next mid.next r.next (omega arith) (omega arith) fit.far;
        }) in
        (st.inline, subst (λ p. ArePlaced ds m l u size p vs) (sym link) inside)
    placed (ty.array t n) (list vs) place s h st fit =
        let same = size_of-resolve ds laid t in
        let size = size_of ds t in
        let r = after ds (ty.array t n) (list vs) place s in
        (st.inline, placed_elements (resolve ds.terms t) size (sym same) vs place s h.1 st (subst (λ k. Fits l place (place + size * k) s r) (sym h.0) fit))
    placed (ty.struct fs) (fields vs) place s h st fit =
        let size = size_of ds (ty.struct fs) in
        let r = after ds (ty.struct fs) (fields vs) place s in
        let here : place ≡ place + 0 = omega arith in
        (st.inline, placed_fields fs size 0 place vs s (end_of-le ds fs) h (stands_at m (members ds size 0 fs vs) place (place + 0) s here st) (subst (λ k. Fits l k (place + size) s r) here fit))
    placed (ty.box t) (fields vs) place s h st fit =
        let fs = fields_of (resolve ds.terms t) in
        let size = size_of ds (ty.struct fs) in
        let e = members ds size 0 fs vs in
        let n = length e.inline in
        let len : n ≡ size = sym (zero-add _) ∙ length-members ds laid fs size 0 vs (end_of-le ds fs) h.1 in
        let mid = linked place n s in
        let r = after_fields ds fs 0 vs s.next mid in
        let more = keeps_fields ds laid fs size 0 s.next vs mid (end_of-le ds fs) h.1 in
        let grows = more.grows in
        let up = le-next_multiple_of n 8 in
        let before = fit.before in
        let room = fit.objects in
        let room_records = fit.records in
        let in_range : place / 8 < length s.objects = omega arith in
        let many = length-set s.objects (place / 8) s.next in
        let link = fit.near.objects place (omega arith) (omega arith) ∙ more.objects place (λ p q. omega arith) (λ p q. omega arith) ∙ get_or-set_same s.objects (place / 8) s.next 0 in_range in
        let own = object_stands m e n s mid refl refl refl st.out st.carried in
        let here : s.next ≡ s.next + 0 = omega arith in
        let inside = placed_fields fs size 0 s.next vs mid (end_of-le ds fs) h.1 (stands_at m e s.next (s.next + 0) mid here own) (record {
          before = omega arith;
          objects = omega arith;
          records = room_records;
          near = covers_within l r s.next r.next (s.next + 0) (s.next + size) (omega arith) (omega arith) fit.far;
          far = covers_within l r s.next r.next mid.next r.next (omega arith) (omega arith) fit.far;
        }) in
        (st.inline, subst (λ p. AreFieldsPlaced ds m l fs 0 p vs) (sym link) inside)
    placed (ty.table rows) (table n ms) place s h st fit =
        let e = envelopes ds rows 1 n ms in
        let mid = linked (place + 8) (8 * n) s in
        let r = after_envelopes ds rows ms s.next mid in
        let long = length-table ds laid rows n ms h.1 in
        let more = keeps_envelopes ds laid rows 0 n s.next ms mid h.1 in
        let grows = more.grows in
        let up = le-next_multiple_of (8 * n) 8 in
        let before = fit.before in
        let room = fit.objects in
        let room_records = fit.records in
        let in_range : (place + 8) / 8 < length s.objects = omega arith in
        let many = length-set s.objects ((place + 8) / 8) s.next in
        let link = fit.near.objects (place + 8) (omega arith) (omega arith) ∙ more.objects (place + 8) (λ p q. omega arith) (λ p q. omega arith) ∙ get_or-set_same s.objects ((place + 8) / 8) s.next 0 in_range in
        let own = object_stands m e (8 * n) s mid (sym long) refl refl st.out st.carried in
        let here : s.next ≡ s.next + 8 * 0 = omega arith in
        let inside = placed_envelopes rows 0 n s.next ms mid h.1 (stands_at m e s.next (s.next + 8 * 0) mid here own) (record {
          before = omega arith;
          objects = omega arith;
          records = room_records;
          near = covers_within l r s.next r.next (s.next + 8 * 0) (s.next + 8 * n) (omega arith) (omega arith) fit.far;
          far = covers_within l r s.next r.next mid.next r.next (omega arith) (omega arith) fit.far;
        }) in
        (st.inline, subst (λ p. Stands m.bytes p e.inline) (sym link) own.inline, subst (λ p. AreMembersPlaced ds m l rows p ms) (sym link) inside)
    placed (ty.union optional strict rows) (union ordinal x) place s h st fit =
        let r = after_member ds (find rows ordinal) x (place + 8) s in
        let before = fit.before in
        let own = (stands_joined m (inline_only (to_le_bytes w64 ordinal)) (enveloped ds (find rows ordinal) x) place s st).1 in
        let own' = subst (λ (q : Position). StandsAt m (enveloped ds (find rows ordinal) x) (place + 8) q) (past_inline (to_le_bytes w64 ordinal) s) own in (
          st.inline,
          placed_member strict (find rows ordinal) x (place + 8) s h.2 own' (record {
            before = omega arith;
            objects = fit.objects;
            records = fit.records;
            near = covers_within l r place (place + 16) (place + 8) (place + 8 + 8) (omega arith) (omega arith) fit.near;
            far = fit.far;
          }),
        )
    placed _ _ place s h st fit = absurd h

    placed_elements : (u : Term) (size : ℕ) → size ≡ size_of ds u → (vs : Values) (place : ℕ) (s : Position) → AllTyped ds u vs → StandsAt m (elements ds u vs) place s
        → Fits l place (place + size * count vs) s (after_elements ds u size vs place s) → ArePlaced ds m l u size place vs
    placed_elements u size same none place s h st fit = tt
    placed_elements u size same (value v vs) place s h st fit =
        let mid = after ds u v place s in
        let r = after_elements ds u size vs (place + size) mid in
        let more = mul-suc size (count vs) in
        let one = keeps ds laid u v place s h.0 in
        let two = keeps_elements ds laid u size same vs (place + size) mid h.1 in
        let up = one.grows in
        let on = two.grows in
        let many = one.as_many in
        let many_records = one.as_many_records in
        let before = fit.before in
        let room = fit.objects in
        let room_records = fit.records in
        let a = encoding_of ds u v in
        let b = elements ds u vs in
        let wide : length a.inline ≡ size_of ds u = length-inline ds laid u v h.0 in
        let parts = stands_joined m a b place s st in
        let led = after_past ds laid u v place s h.0 in
        let rest = stands_alike m b (place + size) (past a s) mid (sym led.0, sym led.1) (stands_at m b (place + length a.inline) (place + size) (past a s) (omega arith) parts.1) in (
          placed u v place s h.0 parts.0 (record {
            before = omega arith;
            objects = omega arith;
            records = omega arith;
            near = covers_before l mid r place (place + size_of ds u) (place + size) (place + size + size * count vs) mid.next r.next (λ k i x y. ((λ p q. omega arith), (λ p q. omega arith))) two
                (covers_within l r place (place + size * count (value v vs)) place (place + size_of ds u) (omega arith) (omega arith) fit.near);
            far = covers_before l mid r s.next mid.next (place + size) (place + size + size * count vs) mid.next r.next (λ k i x y. ((λ p q. omega arith), (λ p q. omega arith))) two
                (covers_within l r s.next r.next s.next mid.next (omega arith) (omega arith) fit.far);
          }),
          placed_elements u size same vs (place + size) mid h.1 rest (record {
            before = omega arith;
            objects = omega arith;
            records = omega arith;
            near = covers_within l r place (place + size * count (value v vs)) (place + size) (place + size + size * count vs) (omega arith) (omega arith) fit.near;
            far = covers_within l r s.next r.next mid.next r.next (omega arith) (omega arith) fit.far;
          }),
        )

    placed_fields : (fs : Fields) (size from base : ℕ) (vs : Values) (s : Position) → end_of ds.figures from fs ≤ size → EachTyped ds fs vs → StandsAt m (members ds size from fs vs) (base + from) s
        → Fits l (base + from) (base + size) s (after_fields ds fs from vs base s) → AreFieldsPlaced ds m l fs from base vs
    placed_fields no_fields size from base none s le h st fit = tt
    placed_fields (field name t fs) size from base (value v vs) s le h st fit =
        let f = figure_of ds.figures t in
        let at = next_multiple_of from f.align in
        let u = resolve ds.terms t in
        let same = size_of-resolve ds laid t in
        let mid = after ds u v (base + at) s in
        let r = after_fields ds fs (at + f.size) vs base mid in
        let up = le-next_multiple_of from f.align in
        let ends = ends_behind ds fs (at + f.size) in
        let one = keeps ds laid u v (base + at) s h.0 in
        let two = keeps_fields ds laid fs size (at + f.size) base vs mid le h.1 in
        let grows = one.grows in
        let on = two.grows in
        let many = one.as_many in
        let many_records = one.as_many_records in
        let before = fit.before in
        let room = fit.objects in
        let room_records = fit.records in
        let g = inline_only (zeros (at - from)) in
        let gap : length (zeros (at - from)) ≡ at - from = length-replicate {A = ℕ} (at - from) 0 in
        let a = encoding_of ds u v in
        let b = members ds size (at + f.size) fs vs in
        let wide : length a.inline ≡ size_of ds u = length-inline ds laid u v h.0 in
        let behind = subst (λ (q : Position). StandsAt m (joined a b) (base + from + length g.inline) q) (past_inline (zeros (at - from)) s) (stands_joined m g (joined a b) (base + from) s st).1 in
        let parts = stands_joined m a b (base + at) s (stands_at m (joined a b) (base + from + length g.inline) (base + at) s (omega arith) behind) in
        let led = after_past ds laid u v (base + at) s h.0 in
        let rest = stands_alike m b (base + (at + f.size)) (past a s) mid (sym led.0, sym led.1) (stands_at m b (base + at + length a.inline) (base + (at + f.size)) (past a s) (omega arith) parts.1) in (
          placed u v (base + at) s h.0 parts.0 (record {
            before = omega arith;
            objects = omega arith;
            records = omega arith;
            near = covers_before l mid r (base + at) (base + at + size_of ds u) (base + (at + f.size)) (base + size) mid.next r.next (λ k i x y. ((λ p q. omega arith), (λ p q. omega arith))) two
                (covers_within l r (base + from) (base + size) (base + at) (base + at + size_of ds u) (omega arith) (omega arith) fit.near);
            far = covers_before l mid r s.next mid.next (base + (at + f.size)) (base + size) mid.next r.next (λ k i x y. ((λ p q. omega arith), (λ p q. omega arith))) two
                (covers_within l r s.next r.next s.next mid.next (omega arith) (omega arith) fit.far);
          }),
          placed_fields fs size (at + f.size) base vs mid le h.1 rest (record {
            before = omega arith;
            objects = omega arith;
            records = omega arith;
            near = covers_within l r (base + from) (base + size) (base + (at + f.size)) (base + size) (omega arith) (omega arith) fit.near;
            far = covers_within l r s.next r.next mid.next r.next (omega arith) (omega arith) fit.far;
          }),
        )
    placed_fields _ size from base _ s le h st fit = absurd h

    placed_member : (strict : Bool) (o : Option Term) (x : Member) (place : ℕ) (s : Position) → IsTypedMember ds strict o x → StandsAt m (enveloped ds o x) place s → Fits l place (place + 8) s (after_member ds o x place s) → IsMemberPlaced ds m l o place x
    placed_member strict (Some t) (known v) place s h st fit =
        let u = resolve ds.terms t in
        let size = size_of ds t in
        let at = member_at (nat_le size 4) place s in
        let mid = begun (nat_le size 4) place size s in
        let r = after ds u v at mid in
        let same = size_of-resolve ds laid t in
        let a = encoding_of ds u v in
        let kept = subst (λ k. Keeps at (at + k) mid.next r.next mid r) same (keeps ds laid u v at mid h) in
        let fits = member_fits l size place s r kept fit in
        let own = envelope_stands m size place a s (length-inline ds laid u v h ∙ same) (λ small. no_out ds laid u v h (subst (λ k. k ≤ 4) (sym same) small)) st in
        let inside = placed u v at mid h own (subst (λ k. Fits l at (at + k) mid r) (sym same) fits.0) in
        subst (λ p. Placed ds m l u p v) (sym fits.1) inside
    placed_member strict None (unknown true bytes handles) place s h st fit =
        let r = after_member ds None (unknown true bytes handles) place s in
        let first = first_is l place s r (omega arith) refl fit in
        (stands_front m.bytes place bytes (envelope_end 1 handles) st.inline, subst (λ k. Carries m.handles k handles) (sym first) st.carried)
    placed_member strict None (unknown false bytes handles) place s h st fit =
        let r = after_member ds None (unknown false bytes handles) place s in
        let first = first_is l place s r (omega arith) refl fit in
        let before = fit.before in
        let room = fit.objects in
        let in_range : place / 8 < length s.objects = omega arith in
        let link = fit.near.objects place (omega arith) (omega arith) ∙ get_or-set_same s.objects (place / 8) s.next 0 in_range in
        (subst (λ p. Stands m.bytes p bytes) (sym link) st.out, subst (λ k. Carries m.handles k handles) (sym first) st.carried)
    placed_member strict _ _ place s h st fit = absurd h

    placed_envelopes : (rows : Rows) (last n base : ℕ) (ms : Members) (s : Position) → RiseTyped ds rows last n ms → StandsAt m (envelopes ds rows (suc last) n ms) (base + 8 * last) s
        → Fits l (base + 8 * last) (base + 8 * n) s (after_envelopes ds rows ms base s) → AreMembersPlaced ds m l rows base ms
    placed_envelopes rows last n base empty s h st fit = tt
    placed_envelopes rows last n base (member ordinal x ms) s h st fit =
        let o = find rows ordinal in
        let at = envelope_place base ordinal in
        let mid = after_member ds o x at s in
        let r = after_envelopes ds rows ms base mid in
        let above = h.0 in
        let within = h.1 in
        let one = keeps_member ds laid false o x at s h.2 in
        let two = keeps_envelopes ds laid rows ordinal n base ms mid h.3 in
        let grows = one.grows in
        let on = two.grows in
        let many = one.as_many in
        let many_records = one.as_many_records in
        let before = fit.before in
        let room = fit.objects in
        let room_records = fit.records in
        let g = inline_only (zeros (8 * (ordinal - suc last))) in
        let gap : length (zeros (8 * (ordinal - suc last))) ≡ 8 * (ordinal - suc last) = length-replicate {A = ℕ} (8 * (ordinal - suc last)) 0 in
        let a = enveloped ds o x in
        let b = envelopes ds rows (suc ordinal) n ms in
        let wide : length a.inline ≡ 8 = length-enveloped ds laid false o x h.2 in
        let behind = subst (λ (q : Position). StandsAt m (joined a b) (base + 8 * last + length g.inline) q) (past_inline (zeros (8 * (ordinal - suc last))) s) (stands_joined m g (joined a b) (base + 8 * last) s st).1 in
        let parts = stands_joined m a b at s (stands_at m (joined a b) (base + 8 * last + length g.inline) at s (omega arith) behind) in
        let led = member_past ds laid false o x at s h.2 in
        let rest = stands_alike m b (base + 8 * ordinal) (past a s) mid (sym led.0, sym led.1) (stands_at m b (at + length a.inline) (base + 8 * ordinal) (past a s) (omega arith) parts.1) in (
          placed_member false o x at s h.2 parts.0 (record {
            before = omega arith;
            objects = omega arith;
            records = omega arith;
            near = covers_before l mid r at (at + 8) (base + 8 * ordinal) (base + 8 * n) mid.next r.next (λ k i x y. ((λ p q. omega arith), (λ p q. omega arith))) two
                (covers_within l r (base + 8 * last) (base + 8 * n) at (at + 8) (omega arith) (omega arith) fit.near);
            far = covers_before l mid r s.next mid.next (base + 8 * ordinal) (base + 8 * n) mid.next r.next (λ k i x y. ((λ p q. omega arith), (λ p q. omega arith))) two
                (covers_within l r s.next r.next s.next mid.next (omega arith) (omega arith) fit.far);
          }),
          placed_envelopes rows ordinal n base ms mid h.3 rest (record {
            before = omega arith;
            objects = omega arith;
            records = omega arith;
            near = covers_within l r (base + 8 * last) (base + 8 * n) (base + 8 * ordinal) (base + 8 * n) (omega arith) (omega arith) fit.near;
            far = covers_within l r s.next r.next mid.next r.next (omega arith) (omega arith) fit.far;
          }),
        )

module _ (t : List ℕ) (fine : IsFine t) (m : Message) (e : ℕ) (lt : e < (header_of t).entries) (objects records : List ℕ) where
  abbrev ds : Declarations
  ds = declarations_of t

  abbrev term : Term
  term = resolve ds.terms (ty.named e)

  -- a message's value is found through the links that reading it leaves, and can be read
  pub item_stands : AreFree (begins objects records (entry_at t e).size) 0 (length m.bytes) → length objects ≡ length m.bytes / 8 → length records ≡ 2 * (length m.bytes / 8) → length m.bytes ≤ MAX_MESSAGE_BYTES → length m.handles ≤ MAX_MESSAGE_HANDLES
      → Stands m.bytes (entry_at t e).size (zeros (next_multiple_of (entry_at t e).size 8 - (entry_at t e).size)) → (to : Position) → IsWhole m to
      → ValueAt ds m 0 term 0 (begins objects records (entry_at t e).size) to → StandsIn ds (ty.named e) m.bytes m.handles (links_of to)
  item_stands free cells cells_of_handles short few z to is x =
      let from = begins objects records (entry_at t e).size in
      let r = after ds term x.value 0 from in
      let size : size_of ds term ≡ (entry_at t e).size = size_of-resolve ds fine.laid_out (ty.named e) ∙ size_is t fine e lt in
      let up = le-next_multiple_of (entry_at t e).size 8 in
      let ends : r.next ≡ to.next = ap (λ (s : Position). s.next) (sym x.end) in
      let whole = is.bytes in
      let agree : (a b : ℕ) → Covers (links_of to) r a b = λ a b. record { objects = λ k p q. ap (λ (s : Position). get_or s.objects (k / 8) 0) x.end; records = λ k p q. ap (λ (s : Position). get_or s.records (k / 4) 0) x.end } in
      let agrees : (a b : ℕ) → Agrees (links_of to) r a b = λ a b. record { objects = λ k p q. ap (λ (s : Position). get_or s.objects (k / 8) 0) x.end; records = λ k p q. ap (λ (s : Position). get_or s.records (k / 4) 0) x.end } in
      let led = after_past ds fine.laid_out term x.value 0 from x.typed in
      let reach : (entry_at t e).size ≤ length m.bytes = omega (arith, up, ends, whole, led.0) in
      let even : from.next % 8 ≡ 0 = even_next 8 (entry_at t e).size (inr (inr (inr refl))) in
      let first = even_resolve ds fine.laid_out (no_names t) (ty.named e) 0 (even_eights ds fine.laid_out (no_names t) (ty.named e) 0 refl) in
      let last = (stays ds fine.laid_out (no_names t) term x.value 0 from x.typed even first).1 in
      let eights : length m.bytes % 8 ≡ 0 = omega (arith, last, ends, whole) in (
        x.value,
        item_encodes t fine m e lt objects records short few z to is x,
        placed ds fine.laid_out m (links_of to) term x.value 0 from x.typed x.stands (record {
          before = omega arith;
          objects = omega arith;
          records = omega arith;
          near = agree 0 (0 + size_of ds term);
          far = agree from.next r.next;
        }),
        readable ds fine.laid_out (no_names t) m (links_of to) term x.value 0 from x.typed first (λ k p q. free k p (omega (arith, q, size, reach))) (record {
          ahead = record { even = even; free = λ k p q. free k (omega arith) q };
          before = omega arith;
          within = omega (arith, ends, whole);
          objects = omega (arith, cells, eights);
          records = omega (arith, cells_of_handles, eights);
          near = agrees 0 (0 + size_of ds term);
          far = agrees from.next r.next;
        }),
      )
