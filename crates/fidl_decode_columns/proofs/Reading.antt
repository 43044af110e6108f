-- One struct of those that stand behind one another, read row after row.
use Rattle.std.proofs.Common.{◌≡◌, ℕ, ◌+◌, ◌-◌, ◌*◌, ◌<◌, ◌≤◌, List, [], ◌∷◌, get_or, refl, ap, subst, arith}
use Rattle.std.specs.Prelude.{Option, Some, true}
use Rattle.fidl_wire.specs.Term as ty
use Rattle.fidl_wire.specs.Figure.{Declarations, size_of}
use Rattle.fidl_wire.specs.Encoding.{zeros}
use Rattle.fidl_wire.specs.Standing.{Stands}
use Rattle.fidl_table_format.specs.declared.kind.EntryKind.{EntryKind}
use Rattle.fidl_table_format.specs.declared.record.Row as raw
use Rattle.fidl_table_format.specs.Kind.{kind_of}
use Rattle.fidl_table_format.specs.Section.{header_of, entry_at, row_at}
use Rattle.fidl_table_format.specs.Terms.{term_as, declarations_of}
use Rattle.fidl_decode_model.specs.declared.fault.DecodeFault.{DecodeFault}
use Rattle.fidl_decode_model.specs.declared.frame.Frame.{Frame}
use Rattle.fidl_decode_model.specs.declared.frame.Remaining.{Remaining}
use Rattle.fidl_decode_model.specs.declared.frame.Remaining.TheVariants.{Rows}
use Rattle.fidl_decode_model.specs.Breaks.{IsPadding, BreaksField}
use Rattle.fidl_decode_model.specs.Invariants.{IsFine}
use Rattle.fidl_decode_model.specs.Rows.{Row, table_rows, RowsRise}
use Rattle.fidl_decode_model.specs.State.{Message}
use Rattle.fidl_decode_model.specs.Machine.{rows_left, Turns}
use Rattle.fidl_decode_model.proofs.Rows.{rows_fit}
use Rattle.fidl_decode_model.proofs.Visiting.{size_is, positive}
use Rattle.fidl_decode_columns.proofs.Leaves.{going_on, left_over, turns_start, next_gap_breaks, next_leaf_breaks, next_turns, over_turns, over_breaks, rows_next}
use Rattle.fidl_decode_columns.specs.declared.column.Wrong.{Wrong}
use Rattle.fidl_decode_columns.specs.declared.structs.Structs.{Structs}
use Rattle.fidl_decode_columns.specs.Columns.{has_numbers, IsGoodAt, StructsFine, struct_at, IsReadTo, IsRead, IsBroken, IsFirstWrong, Narrows, right_before}
use Rattle.fidl_decode_columns.proofs.Narrowed.{narrowed, right_le}
use Rattle.fidl_decode_columns.proofs.Numbers.{good_visits, bad_breaks}

module _ (t : List ℕ) (fine : IsFine t) (m : Message) (x : Structs) where
  abbrev ds : Declarations
  ds = declarations_of t

  abbrev end : ℕ
  end = x.entry.first + x.entry.count

  -- the rows from one on rise behind what is read
  abbrev pub Rise : (index done : ℕ) → Type 0
  Rise index done = RowsRise ds (header_of t).entries x.entry.nest x.entry.size done (table_rows t (header_of t) index (end - index))

  abbrev row : ℕ → raw.Row
  row index = row_at t (header_of t) index

  abbrev own_size : ℕ → ℕ
  own_size index = (entry_at t (row index).entry).size

  pub rise_fits : (index done : ℕ) → Rise index done → done ≤ x.entry.size
  rise_fits index done rise = rows_fit ds (header_of t).entries x.entry.nest x.entry.size done (table_rows t (header_of t) index (end - index)) rise

  -- no struct is read yet
  pub none_read : StructsFine t m.bytes x → (k : ℕ) → k < x.count → IsReadTo t m x x.entry.first 0 k
  none_read ok k lt s state =
      let all : x.entry.count ≡ end - x.entry.first = omega arith in
      let none : 0 ≡ x.entry.first - x.entry.first = omega arith in
      subst (λ n. Turns t m (struct_at x k) s s n (left_over (Some (going_on (struct_at x k) (Rows x.entry.first (end - x.entry.first)) 0)))) none
      (turns_start t m (struct_at x k) s (ok.frames k lt) state (going_on (struct_at x k) (Rows x.entry.first (end - x.entry.first)) 0) (ap (λ n. going_on (struct_at x k) (Rows x.entry.first n) 0) all))

  pub first_rise : StructsFine t m.bytes x → Rise x.entry.first 0
  first_rise ok =
      let all : x.entry.count ≡ end - x.entry.first = omega arith in
      subst (λ n. RowsRise ds (header_of t).entries x.entry.nest x.entry.size 0 (table_rows t (header_of t) x.entry.first n)) all (ok.frames 0 ok.some).rise

  -- the rows lie in the table
  pub rows_within : StructsFine t m.bytes x → end ≤ (header_of t).rows
  rows_within ok = (ok.frames 0 ok.some).left

  module _ (index done : ℕ) (from_first : x.entry.first ≤ index) (below : index < end) (rise : Rise index done) where
    abbrev here : Row
    here = record { offset = (row index).key; entry = (row index).entry }

    abbrev behind : Remaining
    behind = Rows (index + 1) (end - (index + 1))

    split : (d : ℕ) → rows_left t done (Rows index (end - index)) ≡ here ∷ rows_left t d behind
    split d = rows_next t index end done d (row index) refl below

    parts : RowsRise ds (header_of t).entries x.entry.nest x.entry.size done (here ∷ rows_left t done behind)
    parts = subst (λ (rs : List Row). RowsRise ds (header_of t).entries x.entry.nest x.entry.size done rs) (split done) rise

    -- the row's entry is one of the table; its member lies behind what is read, within the struct
    pub row_known : (row index).entry < (header_of t).entries
    row_known = parts.0

    pub row_behind : done ≤ (row index).key
    row_behind = parts.1

    stated : size_of ds (ty.named (row index).entry) ≡ own_size index
    stated = size_is t fine (row index).entry row_known

    pub next_rise : Rise (index + 1) ((row index).key + own_size index)
    next_rise = subst (λ n. Rise (index + 1) ((row index).key + n)) stated parts.3

    pub row_fits : (row index).key + own_size index ≤ x.entry.size
    row_fits = rise_fits (index + 1) ((row index).key + own_size index) next_rise

    pub row_some : 0 < own_size index
    row_some = let some = positive t fine (row index).entry row_known in omega (arith, some, stated)

    module _ (k : ℕ) (read : IsReadTo t m x index done k) where
      abbrev f : Frame
      f = struct_at x k

      abbrev g : Frame
      g = going_on f (Rows index (end - index)) done

      one : rows_left t g.done g.left ≡ here ∷ rows_left t (here.offset + size_of ds (ty.named here.entry)) behind
      one = split (here.offset + size_of ds (ty.named here.entry))

      -- a gap that is not zeros breaks the struct
      pub gap_broken : (fault : DecodeFault) → IsPadding m.bytes (f.base + done) (f.base + done + ((row index).key - done)) fault → IsBroken t m x k fault
      gap_broken fault p s state =
          let before = row_behind in
          let to : f.base + done + ((row index).key - done) ≡ g.base + here.offset = omega (arith, before) in
          next_gap_breaks t fine m f s s (index - x.entry.first) g (read s state) here behind one tt fault (subst (λ n. IsPadding m.bytes (f.base + done) n fault) to p)

      module _ (gap : Stands m.bytes (f.base + done) (zeros ((row index).key - done))) where
        clear : Stands m.bytes (g.base + g.done) (zeros (g.base + here.offset - (g.base + g.done)))
        clear =
            let before = row_behind in
            let wide : (row index).key - done ≡ g.base + here.offset - (g.base + g.done) = omega (arith, before) in
            subst (λ n. Stands m.bytes (f.base + done) (zeros n)) wide gap

        module _ (ok : StructsFine t m.bytes x) (lt : k < x.count) (kind : EntryKind) (is : kind_of (entry_at t (row index).entry).kind ≡ Some kind) (numbers : has_numbers kind ≡ true) where
          -- so does a number that is no value
          pub number_broken : (fault : DecodeFault) → BreaksField m (term_as kind t (header_of t) (entry_at t (row index).entry)) (f.base + (row index).key) fault → IsBroken t m x k fault
          number_broken fault b s state =
              next_leaf_breaks t fine m f s s (index - x.entry.first) g (read s state) here behind one tt fault clear
              (bad_breaks t fine m f.depth (row index).entry (f.base + (row index).key) s row_known state (ok.frames k lt).depth kind is numbers fault b)

          -- behind one that is a value the struct is read up to the next row
          pub number_read : ((i : ℕ) → get_or m.bytes i 0 < 256) → IsGoodAt t m.bytes (entry_at t (row index).entry) kind (f.base + (row index).key) → IsReadTo t m x (index + 1) ((row index).key + own_size index) k
          number_read small good s state =
              let fits = row_fits in
              let room = (ok.frames k lt).room in
              let rows = rows_within ok in
              let v = good_visits t fine m f.depth (row index).entry (f.base + (row index).key) s row_known state (ok.frames k lt).depth kind is numbers (omega (arith, fits, room)) small good in
              next_turns t fine m f s s (index - x.entry.first) g (read s state) here behind one tt (omega (arith, below, rows)) tt s ((row index).key + own_size index) 0 (index + 1 - x.entry.first) refl (omega (arith, from_first)) (omega (arith, from_first)) clear v

  -- all rows are read: zeros to the end
  module _ (index done k : ℕ) (over : index ≡ end) (read : IsReadTo t m x index done k) (fits : done ≤ x.entry.size) where
    abbrev whole : Frame
    whole = struct_at x k

    abbrev last : Frame
    last = going_on whole (Rows index (end - index)) done

    none : rows_left t last.done last.left ≡ []
    none = let no : end - index ≡ 0 = omega (arith, over) in ap (λ n. table_rows t (header_of t) index n) no

    pub end_broken : (fault : DecodeFault) → IsPadding m.bytes (whole.base + done) (whole.base + done + (x.entry.size - done)) fault → IsBroken t m x k fault
    end_broken fault p s state =
        let to : whole.base + done + (x.entry.size - done) ≡ last.base + last.size = omega (arith, fits) in
        over_breaks t fine m whole s s (index - x.entry.first) last (read s state) none tt fault (subst (λ n. IsPadding m.bytes (whole.base + done) n fault) to p)

    pub end_read : Stands m.bytes (whole.base + done) (zeros (x.entry.size - done)) → IsRead t m x k
    end_read z s state =
        let wide : x.entry.size - done ≡ last.base + last.size - (last.base + last.done) = omega (arith, fits) in
        over_turns t fine m whole s s (index - x.entry.first) last (read s state) none tt x.entry.count (omega (arith, over)) (omega (arith, over)) (subst (λ n. Stands m.bytes (whole.base + done) (zeros n)) wide z)

  -- the gap between two places of each struct is looked at
  abbrev Gap : (from to k : ℕ) → Type 0
  Gap from to k = Stands m.bytes (x.base + x.entry.size * k + from) (zeros (to - from))

  abbrev GapFails : (from to k : ℕ) → DecodeFault → Type 0
  GapFails from to k = IsPadding m.bytes (x.base + x.entry.size * k + from) (x.base + x.entry.size * k + from + (to - from))

  module _ (index done : ℕ) (from_first : x.entry.first ≤ index) (below : index < end) (rise : Rise index done) (known front : Option Wrong)
      (all : IsFirstWrong (IsReadTo t m x index done) (IsBroken t m x) x.count known) (gaps : Narrows (Gap done (row index).key) (GapFails done (row index).key) x.count known front) where
    middle : IsFirstWrong (λ k. IsReadTo t m x index done k × Gap done (row index).key k) (IsBroken t m x) x.count front
    middle = narrowed (IsReadTo t m x index done) (Gap done (row index).key) (λ k. IsReadTo t m x index done k × Gap done (row index).key k) (IsBroken t m x) (GapFails done (row index).key) x.count (λ k lt r z. (r, z)) (λ k lt r fault p. gap_broken index done from_first below rise k r fault p)
        known front all gaps

    pub front_le : right_before x.count front ≤ x.count
    front_le = right_le (λ k. IsReadTo t m x index done k × Gap done (row index).key k) (IsBroken t m x) x.count front middle

    -- and then the member
    module _ (ok : StructsFine t m.bytes x) (small : (i : ℕ) → get_or m.bytes i 0 < 256) (kind : EntryKind) (is : kind_of (entry_at t (row index).entry).kind ≡ Some kind) (numbers : has_numbers kind ≡ true) where
      abbrev Good : ℕ → Type 0
      Good k = IsGoodAt t m.bytes (entry_at t (row index).entry) kind (x.base + x.entry.size * k + (row index).key)

      abbrev Bad : ℕ → DecodeFault → Type 0
      Bad k = BreaksField m (term_as kind t (header_of t) (entry_at t (row index).entry)) (x.base + x.entry.size * k + (row index).key)

      pub row_checked : (answer : Option Wrong) → Narrows Good Bad x.count front answer → IsFirstWrong (IsReadTo t m x (index + 1) ((row index).key + own_size index)) (IsBroken t m x) x.count answer
      row_checked answer new =
          narrowed (λ k. IsReadTo t m x index done k × Gap done (row index).key k) Good (IsReadTo t m x (index + 1) ((row index).key + own_size index)) (IsBroken t m x) Bad x.count
          (λ k lt r g. number_read index done from_first below rise k r.0 r.1 ok lt kind is numbers small g) (λ k lt r fault b. number_broken index done from_first below rise k r.0 r.1 ok lt kind is numbers fault b) front answer middle new

  -- behind all rows
  pub end_checked : (index done : ℕ) → index ≡ end → done ≤ x.entry.size → (known answer : Option Wrong) → IsFirstWrong (IsReadTo t m x index done) (IsBroken t m x) x.count known → Narrows (Gap done x.entry.size) (GapFails done x.entry.size) x.count known answer
      → IsFirstWrong (IsRead t m x) (IsBroken t m x) x.count answer
  end_checked index done over fits known answer all gaps =
      narrowed (IsReadTo t m x index done) (Gap done x.entry.size) (IsRead t m x) (IsBroken t m x) (GapFails done x.entry.size) x.count
      (λ k lt r z. end_read index done k over r fits z) (λ k lt r fault p. end_broken index done k over r fits fault p) known answer all gaps
