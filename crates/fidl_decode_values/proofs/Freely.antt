-- Envelopes of members that are passed over by their numbers: those that any bytes are a value of,
-- bools, and structs of such that stand behind one another.
use Rattle.std.proofs.Common.{◌≡◌, ℕ, ◌+◌, ◌-◌, ◌%◌, ◌<◌, ◌≤◌, List, length, get_or, Some, None, refl, sym, ap, subst, arith, inl}
use Rattle.std.specs.Prelude.{true, false}
use Rattle.std.specs.Int.{next_multiple_of}
use Rattle.fidl_limits.specs.declared.limits.TheConstants.{MAX_DEPTH}
use Rattle.fidl_wire.specs.Term as ty
use Rattle.fidl_wire.specs.Encoding.{zeros}
use Rattle.fidl_wire.specs.Standing.{Stands}
use Rattle.fidl_wire.specs.Typed.{IsUnknownLength}
use Rattle.fidl_wire.proofs.Sizes.{le-next_multiple_of}
use Rattle.fidl_wire.proofs.Stand.{copies_stand, copies_are}
use Rattle.fidl_table_format.specs.declared.kind.EntryKind.{EntryKind}
use Rattle.fidl_table_format.specs.declared.kind.EntryKind.TheVariants.{Bool as Boolean, Struct}
use Rattle.fidl_table_format.specs.declared.record.Entry.{Entry}
use Rattle.fidl_table_format.specs.Kind.{kind_of}
use Rattle.fidl_table_format.specs.Section.{header_of, entry_at}
use Rattle.fidl_decode_model.specs.Invariants.{IsFine, is_free}
use Rattle.fidl_decode_model.specs.Faults.{IsWithin}
use Rattle.fidl_decode_model.specs.declared.frame.Frame.{Frame}
use Rattle.fidl_decode_model.specs.declared.frame.Until.{Until}
use Rattle.fidl_decode_model.specs.declared.frame.Remaining.TheVariants.{Rows, Content}
use Rattle.fidl_decode_model.specs.State.{Message, Position, opened, linked}
use Rattle.fidl_wire.specs.Envelope.{bytes_below, handles_below, flags_at}
use Rattle.fidl_table_format.specs.Terms.{declarations_of}
use Rattle.fidl_decode_model.specs.Machine.{StateFine, Visits, Turns, Passes, Opens, behind_rows}
use Rattle.fidl_decode_model.specs.Worth.{ContainedWorth}
use Rattle.fidl_decode_model.specs.Envelopes.{IsUntil}
use Rattle.fidl_decode_model.proofs.Visiting.{size_as, visits_free, visits_bool}
use Rattle.fidl_decode_model.proofs.Holding.{struct_frame, struct_fine, visits_struct}
use Rattle.fidl_decode_columns.proofs.Leaves.{left_over, no_zeros, over_room, over_turns}
use Rattle.fidl_decode_model.proofs.Broken.{counts_within}
use Rattle.fidl_decode_values.proofs.LeafContent.{leaf_over, leaf_worth}
use Rattle.fidl_decode_columns.proofs.Wholly.{visits_over}
use Rattle.fidl_decode_values.proofs.Words.{byte_below}
use Rattle.fidl_decode_values.proofs.Opening.{opens_known, opens_on, opens_worth}
use Rattle.fidl_decode_values.proofs.Entered.{Enters, inside_frame, below_frame, enters_inside, enters_below}

-- zeros within zeros
zeros_within : (m : List ℕ) (p n q k : ℕ) → Stands m p (zeros n) → p ≤ q → q + k ≤ p + n → q + k ≤ length m → Stands m q (zeros k)
zeros_within m p n q k z le fits room = copies_stand m 0 k q room (λ i a b. copies_are m 0 n p z i (omega (arith, le, a)) (omega (arith, fits, b)))

module _ (t : List ℕ) (fine : IsFine t) (m : Message) (within : IsWithin m.bytes m.handles) (held e p : ℕ) (old : Position) (lt : e < (header_of t).entries) (room : p + 8 ≤ length m.bytes) (small : (i : ℕ) → get_or m.bytes i 0 < 256) (state : StateFine m old) (deep : held ≤ MAX_DEPTH) where
  abbrev d : Entry
  d = entry_at t e

  -- the content of the envelope is over, where its value moves nothing and it ends as the envelope counts
  over : (mid : Position) (f : Frame) (size : ℕ) (u : Until) → f.left ≡ Content e size 1 u → old.next ≤ mid.next → Enters t m held e p old mid f → (spent n : ℕ) → spent ≤ n → Visits t m f.depth e (f.base + f.done) mid mid spent None
      → Stands m.bytes (f.base + (f.done + size)) (zeros (f.base + f.size - (f.base + (f.done + size)))) → IsUntil u mid → Opens t m held (Some (ty.named e)) p old mid n None
  over mid f size u is grows x spent n le v z own =
      let o = opens_known t m held p old mid x.state 0 e f grows x.same x.breaks x.least x.fine x.deeper x.work x.moves in
      let k = 1 + spent + (f.base + f.size - (f.base + (f.done + size)) + 1) in
      let opened = opens_on t m held (Some (ty.named e)) p old mid 0 f o mid k k None (omega arith) (leaf_over t fine m f e size 1 u is refl mid x.fine x.state mid spent v z own k refl) in
      opens_worth t m held (Some (ty.named e)) p old mid k n None opened
      (λ to w y. let worth = x.least mid (spent + 1) (leaf_worth t fine m f e size 1 u is refl mid x.fine x.state mid spent v z own) in let few =
      worth.1 in subst (λ (s : Position). ContainedWorth (declarations_of t) m held (Some (ty.named e)) p old s (w + n + 1)) y
      (worth.0, omega (arith, few, le)))

  -- a bool in the envelope
  pub bool_passed : kind_of d.kind ≡ Some Boolean → flags_at m.bytes p ≡ 1 → handles_below m.bytes p ≡ 0 → bytes_below m.bytes p ≤ 1 → (new : Position) → opened p old ≡ new → (k : ℕ) → Opens t m held (Some (ty.named e)) p old new k None
  bool_passed is flags none le new led k =
      let one : 1 ≡ d.size = size_as t fine e Boolean lt is in
      let x = enters_inside t fine m within held e p old lt room small state deep (omega (arith, one)) flags in
      let byte = byte_below m.bytes p small (omega (arith, room)) (bytes_below m.bytes p) refl (omega (arith, le)) in
      let b = byte.0 in
      let here : p ≡ p + 0 = omega arith in
      let v = subst (λ q. Visits t m held e q (opened p old) (opened p old) 0 None) here (visits_bool t fine m held e p (opened p old) lt x.state deep 0 (omega arith) is (omega (arith, room)) (omega (arith, b, le))) in
      let z : Stands m.bytes (p + (0 + 1)) (zeros (p + 4 - (p + (0 + 1)))) = (let three : 3 ≡ p + 4 - (p + (0 + 1)) = omega arith in subst (λ n. Stands m.bytes (p + 1) (zeros n)) three byte.1) in
      let z' = subst (λ n. Stands m.bytes (p + (0 + n)) (zeros (p + 4 - (p + (0 + n))))) one z in
      subst (λ (s : Position). Opens t m held (Some (ty.named e)) p old s k None) led
      (over (opened p old) (inside_frame m e d.size d.nest held p old) d.size (record { envelope = p; next = old.next; handle = old.handle + handles_below m.bytes p }) refl (omega arith) x 0 k (omega arith) v z' (refl, omega (arith, none)))

  -- a struct as the next object, all of whose rows are passed over, and whose bytes behind them are zeros
  module _ (is : kind_of d.kind ≡ Some Struct) (shallow : held < MAX_DEPTH) (fits : next_multiple_of d.size 8 ≤ length m.bytes - old.next) (rows first done : ℕ) (passes : Passes t m (Rows d.first d.count) rows first 0 done None) where
    more : d.size ≤ next_multiple_of d.size 8
    more = le-next_multiple_of d.size 8

    abbrev f : Frame
    f = struct_frame d old.next (held + 1) 0

    place_fits : old.next + d.size ≤ length m.bytes
    place_fits = let inner = state.next in omega (arith, inner, fits, more)

    passed : (s : Position) → StateFine m s → Turns t m f s s rows (left_over (Some (behind_rows f first 0 done)))
    passed s there = passes f s (struct_fine t fine m (held + 1) e old.next s lt there (omega (arith, shallow)) 0 is place_fits (inl refl)).0 refl refl there tt

    pub rows_within : done ≤ d.size
    rows_within = (over_room t fine m f old old rows (behind_rows f first 0 done) (passed old state)).0

    pub struct_passed : 4 < d.size → flags_at m.bytes p ≡ 0 → bytes_below m.bytes p ≡ next_multiple_of d.size 8 → handles_below m.bytes p ≡ 0 → Stands m.bytes (old.next + done) (zeros (old.next + next_multiple_of d.size 8 - (old.next + done)))
        → (new : Position) → linked p d.size (opened p old) ≡ new → (n : ℕ) → rows ≤ n → Opens t m held (Some (ty.named e)) p old new n None
    struct_passed big flags counted none z new led n wide =
        let some : 0 < next_multiple_of d.size 8 = omega (arith, big, more) in
        let eights : next_multiple_of d.size 8 % 8 ≡ 0 = omega arith in
        let much : IsUnknownLength false (bytes_below m.bytes p) = subst (λ n. IsUnknownLength false n) (sym counted) (some, eights) in
        let x = enters_below t fine m within held e p old lt room small state deep big flags much shallow fits (counts_within m.bytes p (omega (arith, none)) (omega (arith, counted, fits, within.0))) in
        let mid = linked p d.size (opened p old) in
        let rows_in = rows_within in
        let inner = state.next in
        let behind = old.next + next_multiple_of d.size 8 - (old.next + done) in
        let front : Stands m.bytes (old.next + done) (zeros (old.next + d.size - (old.next + done))) = zeros_within m.bytes (old.next + done) behind (old.next + done) _ z (omega arith) (omega (arith, rows_in, more)) (omega (arith, rows_in, place_fits)) in
        let back : Stands m.bytes (old.next + (0 + d.size)) (zeros (old.next + next_multiple_of d.size 8 - (old.next + (0 + d.size)))) = zeros_within
        m.bytes (old.next + done) behind (old.next + (0 + d.size)) _ z (omega (arith, rows_in)) (omega (arith, rows_in, more))
        (omega (arith, inner, fits, more)) in
        let turns = over_turns t fine m f mid mid rows (behind_rows f first 0 done) (passed mid x.state) refl tt rows (omega arith) (omega arith) front in
        let start = visits_struct t fine m (held + 1) e old.next mid lt x.state (omega (arith, shallow)) 0 0 refl is place_fits in
        let here : old.next ≡ old.next + 0 = omega arith in
        let v = subst (λ q. Visits t m (held + 1) e q mid mid rows None) here (visits_over t m (held + 1) e old.next mid mid 0 f start mid rows rows (omega arith) turns) in
        subst (λ (s : Position). Opens t m held (Some (ty.named e)) p old s n None) led
        (over mid (below_frame m e d.size d.nest held p old) d.size (record { envelope = p; next = old.next + bytes_below m.bytes p; handle = old.handle + handles_below m.bytes p }) refl (omega arith) x rows n wide v back (omega (arith, counted), omega (arith, none)))

  module _ (free : (k : EntryKind) × (kind_of (entry_at t e).kind ≡ Some k) × (is_free k (entry_at t e) ≡ true)) where
    -- of one that stands in its envelope, before zeros
    pub inside_passed : d.size ≤ 4 → flags_at m.bytes p ≡ 1 → handles_below m.bytes p ≡ 0 → Stands m.bytes (p + d.size) (zeros (p + 4 - (p + d.size))) → (new : Position) → opened p old ≡ new → (k : ℕ) → Opens t m held (Some (ty.named e)) p old new k None
    inside_passed short flags none behind new led k =
        let x = enters_inside t fine m within held e p old lt room small state deep (omega (arith, short)) flags in
        let v = visits_free t fine m held e (p + 0) (opened p old) lt x.state deep free.0 free.1 free.2 0 (omega arith) (omega (arith, short, room)) small in
        let own : d.size ≡ 0 + d.size = omega arith in
        let z = subst (λ n. Stands m.bytes (p + n) (zeros (p + 4 - (p + n)))) own behind in
        subst (λ (s : Position). Opens t m held (Some (ty.named e)) p old s k None) led
        (over (opened p old) (inside_frame m e d.size d.nest held p old) d.size (record { envelope = p; next = old.next; handle = old.handle + handles_below m.bytes p }) refl (omega arith) x 0 k (omega arith) v z (refl, omega (arith, none)))

    -- of one that is the next object
    pub below_passed : d.size ≡ 8 → flags_at m.bytes p ≡ 0 → bytes_below m.bytes p ≡ 8 → handles_below m.bytes p ≡ 0 → held < MAX_DEPTH → 8 ≤ length m.bytes - old.next → (new : Position) → linked p d.size (opened p old) ≡ new → (k : ℕ) → Opens t m held (Some (ty.named e)) p old new k None
    below_passed eight flags counted none shallow fits new led k =
        let up : next_multiple_of d.size 8 ≡ 8 = ap (λ k. next_multiple_of k 8) eight in
        let much : IsUnknownLength false (bytes_below m.bytes p) = subst (λ n. IsUnknownLength false n) (sym counted) (omega arith, refl) in
        let x = enters_below t fine m within held e p old lt room small state deep (omega (arith, eight)) flags much shallow (omega (arith, up, fits)) (counts_within m.bytes p (omega (arith, none)) (omega (arith, counted))) in
        let inner = state.next in
        let v = visits_free t fine m (held + 1) e (old.next + 0) (linked p d.size (opened p old)) lt x.state (omega (arith, shallow)) free.0 free.1 free.2 0 (omega arith) (omega (arith, eight, fits, inner)) small in
        let z = no_zeros m.bytes (old.next + (0 + d.size)) (old.next + next_multiple_of d.size 8 - (old.next + (0 + d.size))) (omega (arith, up, eight)) in
        subst (λ (s : Position). Opens t m held (Some (ty.named e)) p old s k None) led
        (over (linked p d.size (opened p old)) (below_frame m e d.size d.nest held p old) d.size
        (record { envelope = p; next = old.next + bytes_below m.bytes p; handle = old.handle + handles_below m.bytes p }) refl (omega arith) x 0 k
        (omega arith) v z (omega (arith, up, counted), omega (arith, none)))
