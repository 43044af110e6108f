-- Turns on the next envelope of a table's value, whose frame is made from what is noted of it.
use Rattle.std.proofs.Common.{◌≡◌, ℕ, suc, ◌+◌, ◌-◌, ◌*◌, ◌<◌, ◌≤◌, List, refl, sym, ap, subst, ◌∙◌, arith, inr, add-one, false, true, IsTrue}
use Rattle.std.specs.Option.{option_map_or}
use Rattle.std.specs.Prelude.{Option, Some, None}
use Rattle.fidl_wire.specs.Term.{Term, find}
use Rattle.fidl_wire.specs.Term as ty
use Rattle.fidl_wire.specs.Encoding.{zeros}
use Rattle.fidl_wire.specs.Standing.{Stands}
use Rattle.fidl_table_format.specs.declared.record.Row.{Row}
use Rattle.fidl_table_format.specs.declared.kind.EntryKind.{EntryKind}
use Rattle.fidl_table_format.specs.declared.record.Header.{Header}
use Rattle.fidl_table_format.specs.Section.{header_of, entry_at, row_at, row_place, table_length}
use Rattle.fidl_table_format.specs.Uses.{uses_ordinals, uses_rows}
use Rattle.fidl_table_format.specs.Entry.{kind_is}
use Rattle.fidl_verify.proofs.Members.{lies_within, if_some}
use Rattle.fidl_table_format.specs.Kind.{kind_of}
use Rattle.fidl_table_format.specs.Terms.{declarations_of, members_of, term_as}
use Rattle.fidl_wire.specs.Figure.{size_of}
use Rattle.fidl_decode_values.specs.declared.body.TableBody.{TableBody}
use Rattle.fidl_decode_model.proofs.Moving.{moves_below}
use Rattle.fidl_decode_model.specs.declared.frame.Frame.{Frame}
use Rattle.fidl_decode_model.specs.declared.frame.Remaining.TheVariants.{Envelopes}
use Rattle.fidl_decode_model.specs.declared.frame.Turn.{Turn}
use Rattle.fidl_decode_model.specs.Invariants.{IsFine, is_free}
use Rattle.fidl_decode_model.specs.Faults.{IsWithin}
use Rattle.fidl_decode_model.specs.State.{Message, Position}
use Rattle.fidl_decode_values.specs.Body.{BodyFine, IsFreeOf, rest_of, envelopes_of, envelopes_behind}
use Rattle.fidl_decode_model.specs.Machine.{ReadsIf, StateFine, FrameFine, Turns, Visits, Opens, most_nest}
use Rattle.fidl_decode_values.proofs.EnvelopeTurns.{envelope_absent, envelope_opened}
use Rattle.fidl_decode_model.proofs.Enclosed.{contained_some}
use Rattle.fidl_decode_columns.proofs.Leaves.{left_over}
use Rattle.fidl_decode_model.proofs.Visiting.{size_as}

module _ (t : List ℕ) (fine : IsFine t) (m : Message) (within : IsWithin m.bytes m.handles) (entry base count depth read : ℕ) (old : Position) (ff : FrameFine t m.bytes (envelopes_behind entry base count depth read)) (state : StateFine m old) (more : read < count) where
  abbrev place : ℕ
  place = base + 8 * read

  abbrev frame : Frame
  frame = envelopes_behind entry base count depth read

  -- the frame behind the next envelope, so many of its bytes read
  abbrev behind : (done : ℕ) → Turn
  behind done = record { below = None; rest = Some (record { left = Envelopes entry (read + 1) (count - (read + 1)); base = base; done = done; size = 8 * count; nest = most_nest; depth = depth; in_envelope = 0 }) }

  eight : 8 * read + 8 ≡ 8 * (read + 1)
  eight = omega arith

  pub envelope_passed_absent : Stands m.bytes place (zeros 8) → (n : ℕ) → n ≡ 1 → Turns t m frame old old n (record { below = None; rest = Some (envelopes_behind entry base count depth (read + 1)) })
  envelope_passed_absent z n is = subst (λ d. Turns t m frame old old n (behind d)) eight
      (envelope_absent t fine m within frame entry read (count - read) old ff state (read + 1) (count - (read + 1)) (add-one read) (omega (arith, more)) (omega (arith, more)) z n is)

  pub envelope_passed : (e : ℕ) → find (members_of t entry) (suc read) ≡ Some (ty.named e) → (new : Position) (spent n : ℕ) → spent + 1 ≤ n → n ≤ 18 + spent → spent + old.next ≤ new.next → Opens t m depth (Some (ty.named e)) place old new spent None
      → Turns t m frame old new n (record { below = None; rest = Some (envelopes_behind entry base count depth (read + 1)) })
  envelope_passed e is new spent n some_steps few pays o =
      let own : Opens t m depth (find (members_of t entry) (suc read)) place old new spent None = subst (λ (o : Option Term). Opens t m depth o place old new spent None) (sym is) o in
      let some : Stands m.bytes place (zeros 8) → ⊥ = λ z. contained_some (declarations_of t) fine.laid_out m within depth (find (members_of t entry) (suc read)) place old new ((own.same new).1 refl) z in
      let within_new = o.state.next in
      let within_old = state.next in
      subst (λ d. Turns t m frame old new n (behind d)) eight
      (envelope_opened t fine m within frame entry read (count - read) old ff state (read + 1) (count - (read + 1)) (add-one read) (omega (arith, more)) (omega (arith, more)) some None new spent n some_steps few (omega (arith, pays, within_new, within_old)) own)

module _ (t : List ℕ) (fine : IsFine t) (m : Message) (within : IsWithin m.bytes m.handles) (b : TableBody) (read : ℕ) (old : Position) (ff : FrameFine t m.bytes (rest_of b read)) (state : StateFine m old) (more : read < b.count) where
  pub next_absent : Stands m.bytes (b.base + 8 * read) (zeros 8) → (n : ℕ) → n ≡ 1 → Turns t m (rest_of b read) old old n (record { below = None; rest = Some (rest_of b (read + 1)) })
  next_absent = envelope_passed_absent t fine m within b.entry b.base b.count b.depth read old ff state more

  pub next_passed : (e : ℕ) → find (members_of t b.entry) (suc read) ≡ Some (ty.named e) → (new : Position) (spent n : ℕ) → spent + 1 ≤ n → n ≤ 18 + spent → spent + old.next ≤ new.next → Opens t m b.depth (Some (ty.named e)) (b.base + 8 * read) old new spent None
      → Turns t m (rest_of b read) old new n (record { below = None; rest = Some (rest_of b (read + 1)) })
  next_passed = envelope_passed t fine m within b.entry b.base b.count b.depth read old ff state more

-- the rows of the entry that is noted lie in the table, and name entries of it
pub row_lies : (t : List ℕ) (b : TableBody) → BodyFine t b → (read : ℕ) → read < b.known → (entry_at t b.entry).first + read < (header_of t).rows
row_lies t b bf read more =
    let d = entry_at t b.entry in
    let uses : IsTrue (kind_is uses_ordinals d) = ap (λ (o : Option EntryKind). option_map_or uses_ordinals o false) bf.is in
    let within = lies_within t bf.well b.entry bf.entry uses d refl in
    let known = bf.known in
    omega (arith, within, known, more)

pub row_names : (t : List ℕ) (b : TableBody) → BodyFine t b → (read : ℕ) → read < b.known → (row_at t (header_of t) ((entry_at t b.entry).first + read)).entry < (header_of t).entries
row_names t b bf read more =
    let d = entry_at t b.entry in
    let uses : IsTrue (kind_is uses_rows d) = ap (λ (o : Option EntryKind). option_map_or uses_rows o false) bf.is in
    let known = bf.known in
    (bf.well.entries b.entry bf.entry).children.members uses read (omega (arith, more, known))

-- a row lies within the bytes of a table
pub row_fits : (h : Header) (n i : ℕ) → n ≡ table_length h → i < h.rows → row_place h i + 16 ≤ n
row_fits h n i whole less = omega (arith, whole, less)

-- the row of the next envelope is that of its ordinal's member
pub body_found : (t : List ℕ) (b : TableBody) → BodyFine t b → (read : ℕ) → read < b.known
    → (row : Row) → row ≡ row_at b.table.now (header_of b.table.now) ((entry_at b.table.now b.entry).first + read) → row.key ≡ read + 1 → find (members_of t b.entry) (suc read) ≡ Some (ty.named row.entry)
body_found t b bf read more row here key =
    let d = entry_at t b.entry in
    let uses : IsTrue (kind_is uses_ordinals d) = ap (λ (o : Option EntryKind). option_map_or uses_ordinals o false) bf.is in
    let there : row ≡ row_at t (header_of t) (d.first + read) = here ∙ ap (λ u. row_at u (header_of u) ((entry_at u b.entry).first + read)) bf.table in
    let known = bf.known in
    if_some t bf.well b.entry bf.entry uses d refl (suc read) (Some row) (read, omega (arith, more, known), there, key ∙ add-one read)

-- so many are read of all envelopes
pub body_behind : (b : TableBody) → (entry base count depth read : ℕ) → b.entry ≡ entry → b.base ≡ base → b.count ≡ count → b.depth ≡ depth → rest_of b read ≡ envelopes_behind entry base count depth read
body_behind b entry base count depth read e p n d =
    λ i. record { left = Envelopes (e i) read (n i - read); base = p i; done = 8 * read; size = 8 * n i; nest = most_nest; depth = d i; in_envelope = 0 }

-- none is read of all envelopes
pub body_start : (b : TableBody) → (entry base count depth : ℕ) → b.entry ≡ entry → b.base ≡ base → b.count ≡ count → b.depth ≡ depth → envelopes_of entry base count depth ≡ rest_of b 0
body_start b entry base count depth e p n d =
    let left : count ≡ b.count - 0 = omega (arith, n) in
    λ i. record { left = Envelopes (sym e i) 0 (left i); base = sym p i; done = 0; size = 8 * sym n i; nest = most_nest; depth = sym d i; in_envelope = 0 }

-- what a visit leaves is read on
pub visits_on : (t : List ℕ) (m : Message) (held e place : ℕ) (old mid : Position) (a : ℕ) (g : Frame) → Visits t m held e place old mid a (Some g)
    → (new : Position) (b n : ℕ) (o : Option Frame) → n ≡ a + b → Turns t m g mid new b (left_over o) → Visits t m held e place old new n o
visits_on t m held e place old mid a g v new b n o le turns = record {
  same = λ to. (
    (λ x. let p = (turns.same to).0 ((v.same to).0 x) in subst (λ (s : Position). ReadsIf t m o s to) (sym p.1) p.2),
    (λ y. (v.same to).1 ((turns.same to).1 (new, refl, y))),
  );
  breaks = λ fault b. v.breaks fault (turns.breaks fault (inr (new, refl, b)));
  least = λ to w y. let x = v.least to (0 + w + b) (turns.least to new 0 w refl y) in let worth = x.1 in (x.0, omega (arith, worth, le));
  state = turns.state;
  moves = λ ahead read even. let p = v.moves ahead read even in moves_below t m place (place + size_of (declarations_of t) (ty.named e)) g old mid new o None p (turns.moves p.ahead p.below_clear);
  less = omega (arith, le, v.less, turns.less);
}

-- any bytes are a value of an entry of this kind
pub free_of : (t : List ℕ) → IsFine t → (e : ℕ) → e < (header_of t).entries → (k : EntryKind) → kind_of (entry_at t e).kind ≡ Some k → is_free k (entry_at t e) ≡ true
    → (size : ℕ) → size_of (declarations_of t) (term_as k t (header_of t) (entry_at t e)) ≡ size → IsFreeOf t e size
free_of t fine e lt k is free size same = ((k, is, free), sym (size_as t fine e k lt is) ∙ same)
