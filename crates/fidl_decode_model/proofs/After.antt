-- Where a value leads is behind its encoding, whatever is linked.
use Rattle.std.proofs.Common.{◌≡◌, ℕ, suc, ◌+◌, ◌-◌, ◌*◌, ◌≤◌, Bool, true, false, cond, nat_le, List, [], ◌∷◌, length, Option, Some, None, refl, sym, ap, subst, ◌∙◌, arith, inl, inr, length-append}
use Rattle.std.specs.Int.{next_multiple_of}
use Rattle.std.proofs.Math.ListN.{length-replicate}
use Rattle.fidl_wire.specs.Value.{Value, absent, bool, number, text, list, fields, handle, table, union, Values, none, value, Member, known, unknown, Members, empty, member}
use Rattle.fidl_wire.specs.Term.{Term, Fields, no_fields, field, Rows, resolve, fields_of, find}
use Rattle.fidl_wire.specs.Term as ty
use Rattle.fidl_wire.specs.Figure.{Declarations, IsLaidOut, figure_of, size_of}
use Rattle.fidl_wire.specs.Typed.{IsTyped, AllTyped, EachTyped, IsTypedMember, RiseTyped}
use Rattle.fidl_wire.specs.Encoding.{Encoding, zeros, padded, pad8, inline_only, joined, object, envelope, inline_envelope, out_envelope, encoding_of, elements, members, enveloped, envelopes}
use Rattle.fidl_wire.specs.Standing.{Stands, Carries}
use Rattle.fidl_wire.proofs.Sizes.{le-next_multiple_of, size_of-resolve, length-inline, le_of_test}
use Rattle.fidl_wire.proofs.Unique.{no_out, length-envelopes}
use Rattle.fidl_decode_model.specs.State.{Message, Position, opened, linked, member_at, begun, envelope_place, after, after_elements, after_fields, after_member, after_envelopes, StandsAt, ValueAt}
use Rattle.fidl_decode_model.specs.Envelopes.{Contained, BreaksEnvelope, Miscounts, depth_within}
use Rattle.fidl_decode_model.specs.Breaks.{Part, count_at, ordinal_at, BreaksRule, Breaks, BreaksParts, BreaksEnvelopes, BreaksMember, in_field, in_parts, in_object, in_table, in_union, at_member}
use Rattle.fidl_decode_model.specs.Breaks.{behind_none, behind_member, by_numbers, in_envelope, out_of_line, by_counts, in_gap, in_next, in_later, in_end}
use Rattle.fidl_decode_model.specs.declared.fault.DecodeFault.{DecodeFault}

-- two states stand at the same object and the same handle
abbrev pub Alike : Position → Position → Type 0
Alike s r = (s.next ≡ r.next) × (s.handle ≡ r.handle)

pub length-pad8 : (x : List ℕ) → length (pad8 x) ≡ next_multiple_of (length x) 8
length-pad8 x =
    let pad : length (zeros (next_multiple_of (length x) 8 - length x)) ≡ next_multiple_of (length x) 8 - length x = length-replicate {A = ℕ} (next_multiple_of (length x) 8 - length x) 0 in
    let le = le-next_multiple_of (length x) 8 in
    omega (arith, length-append x (zeros (next_multiple_of (length x) 8 - length x)))

pub length-object : (e : Encoding) → length (object e) ≡ next_multiple_of (length e.inline) 8 + length e.out
length-object e = omega (arith, length-append (pad8 e.inline) e.out, length-pad8 e.inline)

-- behind an encoding's part out of line, and its handles
abbrev pub past : Encoding → Position → Position
past e s = record { next = s.next + length e.out; handle = s.handle + length e.handles; objects = s.objects; records = s.records }

-- behind an object
object_past : (e : Encoding) (s mid r : Position) → mid.next ≡ s.next + next_multiple_of (length e.inline) 8 → mid.handle ≡ s.handle → Alike r (past e mid) → (r.next ≡ s.next + length (object e)) × (r.handle ≡ s.handle + length e.handles)
object_past e s mid r next hand h = (omega (arith, h.0, length-object e), omega (arith, h.1))

joined_past : (a b : Encoding) (s mid r : Position) → Alike mid (past a s) → Alike r (past b mid) → Alike r (past (joined a b) s)
joined_past a b s mid r h k = (omega (arith, h.0, k.0, length-append a.out b.out), omega (arith, h.1, k.1, length-append a.handles b.handles))

-- behind a member, in its envelope or as the next object
envelope_past : (size place : ℕ) (a : Encoding) (s r : Position) → length a.inline ≡ size → (size ≤ 4 → a.out ≡ []) → Alike r (past a (begun (nat_le size 4) place size s)) → Alike r (past (envelope size a) s)
envelope_past size place a s r long no_more = go (nat_le size 4) refl
  where
    go : (b : Bool) → nat_le size 4 ≡ b → Alike r (past a (begun b place size s)) → Alike r (past (cond b (inline_envelope (padded 4 a.inline) a.handles) (out_envelope (object a) a.handles)) s)
    go true e h = let empty : length a.out ≡ 0 = ap length (no_more (le_of_test size e)) in (omega (arith, h.0), h.1)
    go false e h = object_past a s (begun false place size s) r (ap (λ k. s.next + next_multiple_of k 8) (sym long)) refl h

module _ (ds : Declarations) (laid : IsLaidOut ds) where
  -- a table's envelopes have eight bytes each
  pub length-table : (rows : Rows) (n : ℕ) (ms : Members) → RiseTyped ds rows 0 n ms → length (envelopes ds rows 1 n ms).inline ≡ 8 * n
  length-table rows n ms h = let long = length-envelopes ds laid rows 0 n ms h in omega (arith, long)

  mutual
    pub after_past : (t : Term) (v : Value) (place : ℕ) (s : Position) → IsTyped ds t v → Alike (after ds t v place s) (past (encoding_of ds t v) s)
    after_past t absent place s h = (omega arith, omega arith)
    after_past t (bool b) place s h = (omega arith, omega arith)
    after_past t (number z) place s h = (omega arith, omega arith)
    after_past t (handle i) place s h = (omega arith, omega arith)
    after_past t (text bytes) place s h = (omega (arith, length-object (inline_only bytes)), omega arith)
    after_past (ty.vector optional bound t) (list vs) place s h =
        let u = resolve ds.terms t in
        let e = elements ds u vs in
        let mid = linked (place + 8) (length e.inline) s in
        object_past e s mid (after_elements ds u (size_of ds t) vs s.next mid) refl refl (elements_past u (size_of ds t) vs s.next mid h.1)
    after_past (ty.array t n) (list vs) place s h = elements_past (resolve ds.terms t) (size_of ds t) vs place s h.1
    after_past (ty.struct fs) (fields vs) place s h = fields_past (size_of ds (ty.struct fs)) fs 0 vs place s h
    after_past (ty.box t) (fields vs) place s h =
        let fs = fields_of (resolve ds.terms t) in
        let size = size_of ds (ty.struct fs) in
        let e = members ds size 0 fs vs in
        let mid = linked place (length e.inline) s in
        object_past e s mid (after_fields ds fs 0 vs s.next mid) refl refl (fields_past size fs 0 vs s.next mid h.1)
    after_past (ty.table rows) (table n ms) place s h =
        let e = envelopes ds rows 1 n ms in
        let mid = linked (place + 8) (8 * n) s in
        let long = sym (length-table rows n ms h.1) in
        object_past e s mid (after_envelopes ds rows ms s.next mid) (ap (λ k. s.next + next_multiple_of k 8) long) refl (envelopes_past rows 0 n ms s.next mid h.1)
    after_past (ty.union optional strict rows) (union ordinal x) place s h = member_past strict (find rows ordinal) x (place + 8) s h.2
    after_past _ _ place s h = absurd h

    elements_past : (t : Term) (size : ℕ) (vs : Values) (place : ℕ) (s : Position) → AllTyped ds t vs → Alike (after_elements ds t size vs place s) (past (elements ds t vs) s)
    elements_past t size none place s h = (omega arith, omega arith)
    elements_past t size (value v vs) place s h =
        let mid = after ds t v place s in
        joined_past (encoding_of ds t v) (elements ds t vs) s mid (after_elements ds t size vs (place + size) mid) (after_past t v place s h.0) (elements_past t size vs (place + size) mid h.1)

    fields_past : (size : ℕ) (fs : Fields) (from : ℕ) (vs : Values) (base : ℕ) (s : Position) → EachTyped ds fs vs → Alike (after_fields ds fs from vs base s) (past (members ds size from fs vs) s)
    fields_past size no_fields from none base s h = (omega arith, omega arith)
    fields_past size (field name t fs) from (value v vs) base s h =
        let f = figure_of ds.figures t in
        let at = next_multiple_of from f.align in
        let u = resolve ds.terms t in
        let mid = after ds u v (base + at) s in
        joined_past (encoding_of ds u v) (members ds size (at + f.size) fs vs) s mid (after_fields ds fs (at + f.size) vs base mid) (after_past u v (base + at) s h.0) (fields_past size fs (at + f.size) vs base mid h.1)
    fields_past size _ from _ base s h = absurd h

    pub member_past : (strict : Bool) (o : Option Term) (x : Member) (place : ℕ) (s : Position) → IsTypedMember ds strict o x → Alike (after_member ds o x place s) (past (enveloped ds o x) s)
    member_past strict (Some t) (known v) place s h =
        let u = resolve ds.terms t in
        let size = size_of ds t in
        let a = encoding_of ds u v in
        let same = size_of-resolve ds laid t in
        envelope_past size place a s (after ds u v (member_at (nat_le size 4) place s) (begun (nat_le size 4) place size s)) (length-inline ds laid u v h ∙ same) (λ small. no_out ds laid u v h (subst (λ k. k ≤ 4) (sym same) small))
        (after_past u v (member_at (nat_le size 4) place s) (begun (nat_le size 4) place size s) h)
    member_past strict None (unknown true bytes handles) place s h = (omega arith, refl)
    member_past strict None (unknown false bytes handles) place s h = let whole = h.2.1 in (omega arith, refl)
    member_past strict _ _ place s h = absurd h

    envelopes_past : (rows : Rows) (last n : ℕ) (ms : Members) (base : ℕ) (s : Position) → RiseTyped ds rows last n ms → Alike (after_envelopes ds rows ms base s) (past (envelopes ds rows (suc last) n ms) s)
    envelopes_past rows last n empty base s h = (omega arith, omega arith)
    envelopes_past rows last n (member ordinal x ms) base s h =
        let mid = after_member ds (find rows ordinal) x (envelope_place base ordinal) s in
        joined_past (enveloped ds (find rows ordinal) x) (envelopes ds rows (suc ordinal) n ms) s mid (after_envelopes ds rows ms base mid) (member_past false (find rows ordinal) x (envelope_place base ordinal) s h.2) (envelopes_past rows ordinal n ms base mid h.3)

pub stands_alike : (m : Message) (e : Encoding) (place : ℕ) (s r : Position) → Alike s r → StandsAt m e place s → StandsAt m e place r
stands_alike m e place s r a h = record {
  inline = h.inline;
  out = subst (λ n. Stands m.bytes n e.out) a.0 h.out;
  carried = subst (λ n. Carries m.handles n e.handles) a.1 h.carried;
}

-- ---- what is linked decides nothing

item_alike : (ds : Declarations) (laid : IsLaidOut ds) (m : Message) (held : ℕ) (t : Term) (place : ℕ) (s r to : Position) → Alike s r → ValueAt ds m held t place s to → (end : Position) × Alike to end × ValueAt ds m held t place r end
item_alike ds laid m held t place s r to a x =
    let e = encoding_of ds t x.value in
    let one = after_past ds laid t x.value place s x.typed in
    let two = after_past ds laid t x.value place r x.typed in
    let next : to.next ≡ (after ds t x.value place s).next = ap (λ (k : Position). k.next) x.end in
    let hand : to.handle ≡ (after ds t x.value place s).handle = ap (λ (k : Position). k.handle) x.end in (
      after ds t x.value place r,
      (omega (arith, next, one.0, two.0, a.0), omega (arith, hand, one.1, two.1, a.1)),
      record { value = x.value; typed = x.typed; shallow = x.shallow; stands = stands_alike m e place s r a x.stands; end = refl },
    )

rule_alike : (ds : Declarations) (m : Message) (held : ℕ) (t : Term) (place : ℕ) (s r : Position) (fault : DecodeFault) → Alike s r → BreaksRule ds m held t place s.next s.handle fault → BreaksRule ds m held t place r.next r.handle fault
rule_alike ds m held t place s r fault a b = subst (λ n. BreaksRule ds m held t place n r.handle fault) a.0 (subst (λ k. BreaksRule ds m held t place s.next k fault) a.1 b)

numbers_alike : (ds : Declarations) (m : Message) (held : ℕ) (t : Option Term) (envelope : ℕ) (s r : Position) (fault : DecodeFault) → Alike s r → BreaksEnvelope ds m held t envelope s.next s.handle fault → BreaksEnvelope ds m held t envelope r.next r.handle fault
numbers_alike ds m held t envelope s r fault a b = subst (λ n. BreaksEnvelope ds m held t envelope n r.handle fault) a.0 (subst (λ k. BreaksEnvelope ds m held t envelope s.next k fault) a.1 b)

-- the states before a member that states alike lead to
begun_alike : (inline : Bool) (envelope size : ℕ) (s r : Position) → Alike s r → Alike (begun inline envelope size s) (begun inline envelope size r)
begun_alike true envelope size s r a = (a.0, a.1)
begun_alike false envelope size s r a = (ap (λ n. n + next_multiple_of size 8) a.0, a.1)

at_alike : (inline : Bool) (envelope : ℕ) (s r : Position) → Alike s r → member_at inline envelope s ≡ member_at inline envelope r
at_alike true envelope s r a = refl
at_alike false envelope s r a = a.0

contained_alike : (ds : Declarations) (laid : IsLaidOut ds) (m : Message) (held : ℕ) (t : Option Term) (envelope : ℕ) (s r to : Position) → Alike s r → Contained ds m held t envelope s to → (end : Position) × Alike to end × Contained ds m held t envelope r end
contained_alike ds laid m held t envelope s r to a x =
    let one = member_past ds laid false t x.content envelope s x.typed in
    let two = member_past ds laid false t x.content envelope r x.typed in
    let next : to.next ≡ (after_member ds t x.content envelope s).next = ap (λ (k : Position). k.next) x.end in
    let hand : to.handle ≡ (after_member ds t x.content envelope s).handle = ap (λ (k : Position). k.handle) x.end in (
      after_member ds t x.content envelope r,
      (omega (arith, next, one.0, two.0, a.0), omega (arith, hand, one.1, two.1, a.1)),
      record { content = x.content; typed = x.typed; shallow = x.shallow; stands = stands_alike m (enveloped ds t x.content) envelope s r a x.stands; end = refl },
    )

miscounts_alike : (ds : Declarations) (laid : IsLaidOut ds) (m : Message) (held : ℕ) (t : Term) (envelope : ℕ) (s r : Position) → Alike s r → Miscounts ds m held t envelope s → Miscounts ds m held t envelope r
miscounts_alike ds laid m held t envelope s r a w =
    let inline = nat_le (size_of ds t) 4 in
    let u = resolve ds.terms t in
    let moved = subst (λ p. ValueAt ds m (depth_within inline held) u p (begun inline envelope (size_of ds t) s) w.0) (at_alike inline envelope s r a) w.1 in
    let j = item_alike ds laid m (depth_within inline held) u (member_at inline envelope r) (begun inline envelope (size_of ds t) s) (begun inline envelope (size_of ds t) r) w.0 (begun_alike inline envelope (size_of ds t) s r a) moved in
    let hand : w.0.handle - s.handle ≡ j.0.handle - r.handle = omega (arith, j.1.1, a.1) in
    let next : w.0.next - s.next ≡ j.0.next - r.next = omega (arith, j.1.0, a.0) in (
      j.0,
      j.2,
      elim w.2 [ inl h ↦ inl (λ e. h (e ∙ sym hand)) | inr b ↦ inr (b.0, (λ e. b.1 (e ∙ sym next))) ],
    )

mutual
  pub breaks_alike : (ds : Declarations) (laid : IsLaidOut ds) (m : Message) (held : ℕ) (t : Term) (place : ℕ) (s r : Position) (fault : DecodeFault) → Alike s r → Breaks ds m held t place s fault → Breaks ds m held t place r fault
  breaks_alike ds laid m held t place s r fault a (in_field t' place' s' fault' b) = in_field t place r fault (rule_alike ds m held t place s r fault a b)
  breaks_alike ds laid m held t place s r fault a (in_parts t' place' s' fault' ps is b) = in_parts t place r fault ps is (parts_alike ds laid m held (size_of ds t) place 0 ps s r fault a b)
  breaks_alike ds laid m held t place s r fault a (in_object t' place' s' fault' o is ones right b) =
      let behind : (linked o.marker o.size s).next ≡ (linked o.marker o.size r).next = ap (λ n. n + next_multiple_of o.size 8) a.0 in
      let b' = parts_alike ds laid m (held + 1) (next_multiple_of o.size 8) s.next 0 o.parts (linked o.marker o.size s) (linked o.marker o.size r) fault (behind, a.1) b in
      in_object t place r fault o is ones (λ other x. right other (rule_alike ds m held t place r s other (sym a.0, sym a.1) x))
      (subst (λ n. BreaksParts ds m (held + 1) (next_multiple_of o.size 8) n 0 o.parts (linked o.marker o.size r) fault) a.0 b')
  breaks_alike ds laid m held t place s r fault a (in_table rows place' s' fault' ones right b) =
      let n = count_at m.bytes place in
      let behind : (linked (place + 8) (8 * n) s).next ≡ (linked (place + 8) (8 * n) r).next = ap (λ k. k + next_multiple_of (8 * n) 8) a.0 in
      let b' = envelopes_alike ds laid m (held + 1) rows 1 n s.next (linked (place + 8) (8 * n) s) (linked (place + 8) (8 * n) r) fault (behind, a.1) b in
      in_table rows place r fault ones (λ other x. right other (rule_alike ds m held (ty.table rows) place r s other (sym a.0, sym a.1) x))
      (subst (λ k. BreaksEnvelopes ds m (held + 1) rows 1 n k (linked (place + 8) (8 * n) r) fault) a.0 b')
  breaks_alike ds laid m held t place s r fault a (in_union optional strict rows place' s' fault' some right b) =
      in_union optional strict rows place r fault some (λ other x. right other (rule_alike ds m held (ty.union optional strict rows) place r s other (sym a.0, sym a.1) x))
      (member_alike ds laid m held (find rows (ordinal_at m.bytes place)) (place + 8) s r fault a b)

  pub envelopes_alike : (ds : Declarations) (laid : IsLaidOut ds) (m : Message) (held : ℕ) (rows : Rows) (ordinal n base : ℕ) (s r : Position) (fault : DecodeFault) → Alike s r → BreaksEnvelopes ds m held rows ordinal n base s fault → BreaksEnvelopes ds m held rows ordinal n base r fault
  envelopes_alike ds laid m held rows ordinal n base s r fault a (at_member rows' ordinal' n' base' s' fault' le z b) =
      at_member rows ordinal n base r fault le z (member_alike ds laid m held (find rows ordinal) (envelope_place base ordinal) s r fault a b)
  envelopes_alike ds laid m held rows ordinal n base s r fault a (behind_none rows' ordinal' n' base' s' fault' le z b) =
      behind_none rows ordinal n base r fault le z (envelopes_alike ds laid m held rows (suc ordinal) n base s r fault a b)
  envelopes_alike ds laid m held rows ordinal n base s r fault a (behind_member rows' ordinal' n' base' s' mid fault' le c b) =
      let d = contained_alike ds laid m held (find rows ordinal) (envelope_place base ordinal) s r mid a c in
      behind_member rows ordinal n base r d.0 fault le d.2 (envelopes_alike ds laid m held rows (suc ordinal) n base mid d.0 fault d.1 b)

  pub member_alike : (ds : Declarations) (laid : IsLaidOut ds) (m : Message) (held : ℕ) (t : Option Term) (envelope : ℕ) (s r : Position) (fault : DecodeFault) → Alike s r → BreaksMember ds m held t envelope s fault → BreaksMember ds m held t envelope r fault
  member_alike ds laid m held t envelope s r fault a (by_numbers t' envelope' s' fault' b) = by_numbers t envelope r fault (numbers_alike ds m held t envelope s r fault a b)
  member_alike ds laid m held t envelope s r fault a (in_envelope u envelope' s' fault' can le b) =
      in_envelope u envelope r fault can le (parts_alike ds laid m held 4 envelope 0 (record { offset = 0; term = u } ∷ []) (opened envelope s) (opened envelope r) fault (a.0, a.1) b)
  member_alike ds laid m held t envelope s r fault a (out_of_line u envelope' s' fault' can gt right b) =
      let size = size_of ds u in
      let ps : List Part = record { offset = 0; term = u } ∷ [] in
      let behind : (linked envelope size (opened envelope s)).next ≡ (linked envelope size (opened envelope r)).next = ap (λ k. k + next_multiple_of size 8) a.0 in
      let b' = parts_alike ds laid m (held + 1) (next_multiple_of size 8) s.next 0 ps (linked envelope size (opened envelope s)) (linked envelope size (opened envelope r)) fault (behind, a.1) b in
      out_of_line u envelope r fault can gt (λ other x. right other (numbers_alike ds m held (Some u) envelope r s other (sym a.0, sym a.1) x))
      (subst (λ k. BreaksParts ds m (held + 1) (next_multiple_of size 8) k 0 ps (linked envelope size (opened envelope r)) fault) a.0 b')
  member_alike ds laid m held t envelope s r fault a (by_counts u envelope' s' wrong) = by_counts u envelope r (miscounts_alike ds laid m held u envelope s r a wrong)

  parts_alike : (ds : Declarations) (laid : IsLaidOut ds) (m : Message) (held size base done : ℕ) (ps : List Part) (s r : Position) (fault : DecodeFault) → Alike s r → BreaksParts ds m held size base done ps s fault → BreaksParts ds m held size base done ps r fault
  parts_alike ds laid m held size base done ps s r fault a (in_gap size' base' done' p qs s' fault' b) = in_gap size base done p qs r fault b
  parts_alike ds laid m held size base done ps s r fault a (in_next size' base' done' p qs s' fault' z b) = in_next size base done p qs r fault z (breaks_alike ds laid m held (resolve ds.terms p.term) (base + p.offset) s r fault a b)
  parts_alike ds laid m held size base done ps s r fault a (in_later size' base' done' p qs s' mid fault' z i b) =
      let j = item_alike ds laid m held (resolve ds.terms p.term) (base + p.offset) s r mid a i in
      in_later size base done p qs r j.0 fault z j.2 (parts_alike ds laid m held size base (p.offset + size_of ds p.term) qs mid j.0 fault j.1 b)
  parts_alike ds laid m held size base done ps s r fault a (in_end size' base' done' s' fault' b) = in_end size base done r fault b
