-- Envelopes of texts of ASCII, which are passed over.
use Rattle.std.proofs.Common.{◌≡◌, ℕ, suc, ◌+◌, ◌-◌, ◌%◌, ◌<◌, ◌≤◌, List, length, get_or, drop, Some, None, refl, sym, ap, subst, ◌∙◌, arith}
use Rattle.std.specs.Prelude.{IsUtf8, slice_range, false}
use Rattle.std.specs.Int.{next_multiple_of}
use Rattle.std.proofs.lemmas.List.{get_or-take, get_or-drop}
use Rattle.std.proofs.lemmas.Str.{IsUtf8-from_ascii}
use Rattle.std.proofs.lemmas.Str.Ascii.{IsAscii-from_reads}
use Rattle.fidl_limits.specs.declared.limits.TheConstants.{MAX_DEPTH}
use Rattle.fidl_wire.specs.Term as ty
use Rattle.fidl_wire.specs.Encoding.{zeros, present}
use Rattle.fidl_wire.specs.Standing.{Stands}
use Rattle.fidl_wire.specs.Typed.{IsUnknownLength}
use Rattle.fidl_wire.proofs.Sizes.{le-next_multiple_of}
use Rattle.fidl_table_format.specs.declared.kind.EntryKind.TheVariants.{String}
use Rattle.fidl_table_format.specs.declared.record.Entry.{Entry}
use Rattle.fidl_table_format.specs.Kind.{kind_of}
use Rattle.fidl_table_format.specs.Section.{header_of, entry_at}
use Rattle.fidl_table_format.specs.Terms.{declarations_of, is_optional}
use Rattle.fidl_decode_model.specs.Invariants.{IsFine}
use Rattle.fidl_decode_model.specs.Faults.{IsWithin}
use Rattle.fidl_decode_model.specs.Breaks.{count_at}
use Rattle.fidl_decode_model.specs.State.{Message, Position, ValueAt, opened, linked}
use Rattle.fidl_wire.specs.Envelope.{bytes_below, handles_below, flags_at}
use Rattle.fidl_decode_model.specs.declared.frame.Until.{Until}
use Rattle.fidl_decode_model.specs.Work.{Work}
use Rattle.fidl_decode_model.specs.Machine.{StateFine, Opens, Visits, Leads}
use Rattle.fidl_decode_model.specs.Worth.{ContainedWorth}
use Rattle.fidl_decode_model.specs.Envelopes.{IsUntil}
use Rattle.fidl_decode_model.proofs.Visiting.{size_as, visits_leaf}
use Rattle.fidl_decode_columns.proofs.Leaves.{no_zeros}
use Rattle.fidl_decode_model.proofs.Broken.{counts_within}
use Rattle.fidl_decode_values.proofs.LeafContent.{leaf_over, leaf_worth}
use Rattle.fidl_decode_values.proofs.Opening.{opens_known, opens_on, opens_worth}
use Rattle.fidl_decode_values.proofs.Entered.{below_frame, enters_below}
use Rattle.fidl_decode_model.proofs.Numbers.{slice_is}
use Rattle.fidl_decode_model.proofs.Scalars.{bytes_at, bytes_stand, length-bytes_at}
use Rattle.fidl_decode_model.proofs.Written.{text_leads, text_work}

-- bytes that are all ASCII are UTF-8
pub ascii_text : (m : List ℕ) (from n : ℕ) → from + n ≤ length m → ((k : ℕ) → k < n → get_or m (from + k) 0 < 128) → IsUtf8 (slice_range m from (from + n))
ascii_text m from n room low =
    let text = slice_range m from (from + n) in
    let own : from + n - from ≡ n = omega arith in
    let long : length text ≡ n = ap length (slice_is m from n (bytes_at m from n) (length-bytes_at m from n) (bytes_stand m from n room)) ∙ length-bytes_at m from n in
    let read : (k : ℕ) → k < n → get_or text k 0 ≡ get_or m (from + k) 0 = λ k lt. get_or-take (from + n - from) (drop from m) k 0 (omega arith) ∙ get_or-drop from m k 0 in
    IsUtf8-from_ascii text (IsAscii-from_reads text n (omega (arith, long)) (λ k lt. omega (arith, read k lt, low k lt)))

module _ (t : List ℕ) (fine : IsFine t) (m : Message) (within : IsWithin m.bytes m.handles) (held e p : ℕ) (old : Position) (lt : e < (header_of t).entries) (room : p + 8 ≤ length m.bytes) (small : (i : ℕ) → get_or m.bytes i 0 < 256) (state : StateFine m old) (deep : held ≤ MAX_DEPTH)
    (kind : kind_of (entry_at t e).kind ≡ Some String) where
  abbrev d : Entry
  d = entry_at t e

  abbrev mid : Position
  mid = linked p d.size (opened p old)

  sixteen : 16 ≡ d.size
  sixteen = size_as t fine e String lt kind

  up : next_multiple_of d.size 8 ≡ 16
  up = ap (λ k. next_multiple_of k 8) (sym sixteen)

  -- the text is the object behind its count and marker
  module _ (shallow : suc (held + 1) ≤ MAX_DEPTH) (n : ℕ) (fits : old.next + 16 + next_multiple_of n 8 ≤ length m.bytes) (count : count_at m.bytes old.next ≡ n) (bound : n ≤ d.bound) (ones : Stands m.bytes (old.next + 8) present)
      (low : (k : ℕ) → k < n → get_or m.bytes (old.next + 16 + k) 0 < 128) (z : Stands m.bytes (old.next + 16 + n) (zeros (next_multiple_of n 8 - n))) where
    abbrev new : Position
    new = linked (old.next + 8) n mid

    behind : old.next + 16 ≡ mid.next
    behind = omega (arith, up)

    leads : Leads (declarations_of t) m (held + 1) (ty.string (is_optional d) d.bound) old.next mid new
    leads =
        let le = le-next_multiple_of n 8 in
        let utf8 = ascii_text m.bytes (old.next + 16) n (omega (arith, fits, le)) low in
        text_leads (declarations_of t) m (omega (arith, within.0)) (held + 1) (is_optional d) d.bound old.next mid shallow ones (omega (arith, fits)) small n count bound (omega (arith, fits, up)) le
        (subst (λ q. IsUtf8 (slice_range m.bytes q (q + n))) behind utf8) (subst (λ q. Stands m.bytes (q + n) (zeros (next_multiple_of n 8 - n))) behind z)

    there : StateFine m new
    there = record { next = omega (arith, fits, up); handle = state.handle; few = state.few }

    -- it is worth its bytes and one more
    worth : (to : Position) (x : ValueAt (declarations_of t) m (held + 1) (ty.string (is_optional d) d.bound) old.next mid to) → Work x.value ≤ next_multiple_of n 8 + 1
    worth to x = let le = le-next_multiple_of n 8 in omega (arith, text_work (declarations_of t) m (omega (arith, within.0)) (held + 1) (is_optional d) d.bound old.next mid to x, count, le)

    visited : StateFine m mid → Visits t m (held + 1) e (old.next + 0) mid new (next_multiple_of n 8) None
    visited entered =
        let here : old.next ≡ old.next + 0 = omega arith in
        subst (λ q. Visits t m (held + 1) e q mid new (next_multiple_of n 8) None) here
        (visits_leaf t fine m (held + 1) e old.next mid lt entered (omega (arith, shallow)) String kind new (next_multiple_of n 8) (omega (arith, up, fits)) there leads worth)

    pub text_passed : flags_at m.bytes p ≡ 0 → bytes_below m.bytes p ≡ 16 + next_multiple_of n 8 → handles_below m.bytes p ≡ 0 → (to : Position) → new ≡ to → (most : ℕ) → next_multiple_of n 8 ≤ most → Opens t m held (Some (ty.named e)) p old to most None
    text_passed flags counted none to led most few =
        let size = next_multiple_of n 8 in
        let eights : next_multiple_of n 8 % 8 ≡ 0 = omega arith in
        let much : IsUnknownLength false (bytes_below m.bytes p) = subst (λ n. IsUnknownLength false n) (sym counted) (omega arith, omega (arith, eights)) in
        let x = enters_below t fine m within held e p old lt room small state deep (omega (arith, sixteen)) flags much (omega (arith, shallow)) (omega (arith, up, fits)) (counts_within m.bytes p (omega (arith, none)) (omega (arith, counted, fits, within.0))) in
        let f = below_frame m e d.size d.nest held p old in
        let u : Until = record { envelope = p; next = old.next + bytes_below m.bytes p; handle = old.handle + handles_below m.bytes p } in
        let o = opens_known t m held p old mid x.state 0 e f (omega arith) x.same x.breaks x.least x.fine x.deeper x.work x.moves in
        let none_behind = no_zeros m.bytes (old.next + (0 + d.size)) (old.next + next_multiple_of d.size 8 - (old.next + (0 + d.size))) (omega (arith, up, sixteen)) in
        let own : IsUntil u new = (omega (arith, up, counted), omega (arith, none)) in
        let k = 1 + size + (f.base + f.size - (f.base + (f.done + d.size)) + 1) in
        let opened = opens_on t m held (Some (ty.named e)) p old mid 0 f o new k k None (omega arith) (leaf_over t fine m f e d.size 1 u refl refl mid x.fine x.state new size (visited x.state) none_behind own k refl) in
        subst (λ (s : Position). Opens t m held (Some (ty.named e)) p old s most None) led
        (opens_worth t m held (Some (ty.named e)) p old new k most None opened
        (λ to w y. let worth = x.least new (size + 1) (leaf_worth t fine m f e d.size 1 u refl refl mid x.fine x.state new size (visited x.state)
        none_behind own) in let le = worth.1 in subst (λ (s : Position). ContainedWorth (declarations_of t) m held (Some (ty.named e)) p old s
        (w + most + 1)) y (worth.0, omega (arith, le, few))))
