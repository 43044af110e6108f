-- The envelopes of members.
use Rattle.std.proofs.Common.{rules, take, get_or, add-one, ◌≡◌, ℕ, zero, suc, ◌+◌, ◌-◌, ◌*◌, ◌<◌, ◌≤◌, ◌%◌, true, false, List, [], ◌∷◌, ◌++◌, length, refl, sym, ap, subst, ◌∙◌, arith, append_assoc, mul-suc, nat_le}
use Rattle.std.proofs.Math.ListN.{length-replicate}
use Rattle.std.specs.Prelude.{if◌then◌else◌, Some, None}
use Rattle.std.specs.List.{AllByRecursion}
use Rattle.std.specs.Int.{next_multiple_of, to_le_bytes, w32}
use Rattle.fidl_wire.specs.declared.handle.HandleInfo.{HandleInfo}
use Rattle.fidl_wire.specs.Value.{Value, absent, bool, number, text, list, fields, handle, table, union, Values, none, value, known, unknown, count}
use Rattle.fidl_wire.specs.Term.{Term, Fields, no_fields, field, Rows, resolve}
use Rattle.fidl_wire.specs.Term as ty
use Rattle.fidl_wire.specs.Figure.{Declarations, IsLaidOut, figure_of, size_of, end_of}
use Rattle.fidl_wire.specs.Typed.{IsTyped, AllTyped, EachTyped, AreBytes, IsUnknownLength, IsHandle}
use Rattle.fidl_wire.specs.Depth.{depth_of, elements_depth, fields_depth}
use Rattle.fidl_wire.specs.Encoding.{Encoding, zeros, padded, pad8, object, inline_only, joined, pointing, envelope_end, inline_envelope, out_envelope}
use Rattle.fidl_wire.proofs.Sizes.{length-inline, size_of-resolve, end_of-le, le-next_multiple_of}
use Rattle.fidl_wire.proofs.Unique.{no_out}
use Rattle.fidl_encode.specs.declared.fault.EncodeFault.{EncodeFault}
use Rattle.fidl_encode.specs.declared.fault.EncodeFault.TheVariants.{WrongShape, OverBound, NotUtf8, UnknownValue, WrongHandle, TooDeep, TooLong, TooManyHandles, Memory}
use Rattle.fidl_encode.specs.Writing.{Written, Adds, IsOver, IsWithin}
use Rattle.fidl_encode.specs.Parts.{Part, value_part, member_part, IsWritten, IsRefused}
use Rattle.fidl_encode.proofs.Adding.{append-nil, adds_zeros, adds_joined, adds_inline, over_both}
use Rattle.fidl_encode.proofs.Ending.{Points, within_same, written_inline, written_below}

le_end : (ds : Declarations) (from : ℕ) (fs : Fields) → from ≤ end_of ds.figures from fs
le_end ds from no_fields = omega arith
le_end ds from (field name t fs) = let f = figure_of ds.figures t in omega (arith, le-next_multiple_of from f.align, le_end ds (next_multiple_of from f.align + f.size) fs)

-- ---- a value of at most four bytes has nothing out of line, so that its depth is 0
module _ (ds : Declarations) (laid : IsLaidOut ds) where
  mutual
    pub no_depth : (t : Term) (v : Value) → IsTyped ds t v → size_of ds t ≤ 4 → depth_of ds t v ≡ 0
    no_depth t absent h s = refl
    no_depth ty.bool (bool b) h s = refl
    no_depth (ty.number kind) (number z) h s = refl
    no_depth (ty.bits kind mask) (number z) h s = refl
    no_depth (ty.enum kind values) (number z) h s = refl
    no_depth (ty.string optional bound) (text bytes) h s = absurd (omega (arith, s))
    no_depth (ty.vector optional bound t) (list vs) h s = absurd (omega (arith, s))
    no_depth (ty.array t n) (list vs) h s = no_depth_elements (resolve ds.terms t) vs h.1 (rw (size_of-resolve ds laid t, h.0) s)
    no_depth (ty.struct fs) (fields vs) h s = no_depth_members fs 0 vs h (omega (arith, s, end_of-le ds fs))
    no_depth (ty.box t) (fields vs) h s = absurd (omega (arith, s))
    no_depth (ty.handle optional subtype rights) (handle i) h s = refl
    no_depth (ty.table rows) (table n ms) h s = absurd (omega (arith, s))
    no_depth (ty.union optional strict rows) (union ordinal m) h s = absurd (omega (arith, s))
    no_depth _ _ h s = absurd h

    no_depth_elements : (t : Term) (vs : Values) → AllTyped ds t vs → size_of ds t * count vs ≤ 4 → elements_depth ds t vs ≡ 0
    no_depth_elements t none h s = refl
    no_depth_elements t (value v vs) h s =
        let s' : size_of ds t * count vs + size_of ds t ≤ 4 = subst (λ k. k ≤ 4) (mul-suc (size_of ds t) (count vs)) s in
        omega (arith, no_depth t v h.0 (omega (arith, s')), no_depth_elements t vs h.1 (omega (arith, s')))

    no_depth_members : (fs : Fields) (from : ℕ) (vs : Values) → EachTyped ds fs vs → end_of ds.figures from fs ≤ 4 → fields_depth ds fs vs ≡ 0
    no_depth_members no_fields from none h s = refl
    no_depth_members (field name t fs) from (value v vs) h s =
        let f = figure_of ds.figures t in
        let at = next_multiple_of from f.align in
        omega (arith, no_depth (resolve ds.terms t) v h.0 (rw (size_of-resolve ds laid t) (omega (arith, s, le_end ds (at + f.size) fs))), no_depth_members fs (at + f.size) vs h.1 s)
    no_depth_members _ from _ h s = absurd h

-- ---- a known member in its envelope

small_test : (n : ℕ) → n ≤ 4 → nat_le n 4 ≡ true
small_test n h = search (rules, h)

large_test : (n : ℕ) → 4 < n → nat_le n 4 ≡ false
large_test n h = search (rules, h)

same_encoding : (a b : Encoding) → a.inline ≡ b.inline → a.out ≡ b.out → a.handles ≡ b.handles → a ≡ b
same_encoding a b p q r i = record { inline = p i; out = q i; handles = r i }

-- an encoding of at most four bytes that has nothing out of line, and the envelope's end behind it
adds_envelope : (a b c : Written) (at : ℕ) (e : Encoding) → Adds a b at e → length e.inline ≤ 4 → e.out ≡ []
    → IsOver b.bytes c.bytes (at + 4) (envelope_end 1 e.handles) → length c.bytes ≡ length b.bytes → c.handles ≡ b.handles
    → Adds a c at (inline_envelope (padded 4 e.inline) e.handles)
adds_envelope a b c at e h small flat over same beside =
    let up = 4 - length e.inline in
    let fill : Adds b b (at + length e.inline) (inline_only (zeros up)) = adds_zeros b (at + length e.inline) up in
    let place : at + 4 ≡ at + length e.inline + length (zeros up) = omega (arith, small, length-replicate {A = ℕ} up 0) in
    let end : Adds b c (at + length e.inline + length (zeros up)) (inline_only (envelope_end 1 e.handles)) =
    adds_inline b c (at + length e.inline + length (zeros up)) (envelope_end 1 e.handles) [] (subst (λ n. IsOver b.bytes c.bytes n (envelope_end 1 e.handles)) place over) same (beside ∙ sym (append-nil b.handles)) in
    let whole = adds_joined a b c at e (joined (inline_only (zeros up)) (inline_only (envelope_end 1 e.handles))) h (adds_joined b b c (at + length e.inline) (inline_only (zeros up)) (inline_only (envelope_end 1 e.handles)) fill end) in
    subst (λ x. Adds a c at x)
    (same_encoding (joined e (joined (inline_only (zeros up)) (inline_only (envelope_end 1 e.handles)))) (inline_envelope (padded 4 e.inline) e.handles)
    (sym (append_assoc e.inline (zeros up) (envelope_end 1 e.handles))) (append-nil e.out ∙ flat) (append-nil e.handles))
    whole

module _ (ds : Declarations) (laid : IsLaidOut ds) (t : Term) (v : Value) (depth at : ℕ) where
  abbrev own : Part
  own = value_part ds (resolve ds.terms t) v

  abbrev held : Part
  held = member_part ds false (Some t) (known v)

  module _ (small : size_of ds t ≤ 4) where
    inline_is : held.encoding ≡ inline_envelope (padded 4 own.encoding.inline) own.encoding.handles
    inline_is = ap (λ b. if b then inline_envelope (padded 4 own.encoding.inline) own.encoding.handles else out_envelope (object own.encoding) own.encoding.handles) (small_test (size_of ds t) small)

    flat_is : held.depth ≡ 0
    flat_is = ap (λ b. if b then 0 else suc own.depth) (small_test (size_of ds t) small)

    size_small : size_of ds (resolve ds.terms t) ≤ 4
    size_small = let e = size_of-resolve ds laid t in omega (arith, e, small)

    pub written_in : (a b c : Written) → IsWritten own depth at a b → IsOver b.bytes c.bytes (at + 4) (envelope_end 1 own.encoding.handles) → length c.bytes ≡ length b.bytes → c.handles ≡ b.handles
        → IsWritten held depth at a c
    written_in a b c w over same beside =
        let long = length-inline ds laid (resolve ds.terms t) v w.typed in
        let e = flat_is in
        record {
          typed = w.typed;
          shallow = omega (arith, e);
          adds = subst (λ x. Adds a c at x) (sym inline_is) (adds_envelope a b c at own.encoding w.adds (omega (arith, long, size_small)) (no_out ds laid (resolve ds.terms t) v w.typed size_small) over same beside);
          within = within_same b c same beside w.within;
        }

    pub refused_in : (a : Written) (f : EncodeFault) → IsRefused own depth a f → IsRefused held depth a f
    refused_in a TooDeep h = λ typed. let n = h typed in let z = no_depth ds laid (resolve ds.terms t) v typed size_small in absurd (omega (arith, n, z))
    refused_in a TooLong h = λ typed.
        let z : length own.encoding.out ≡ 0 = ap length (no_out ds laid (resolve ds.terms t) v typed size_small) in
        let n = h typed in
        omega (arith, n, z)
    refused_in a TooManyHandles h = λ typed.
        let e : length held.encoding.handles ≡ length own.encoding.handles = ap (λ (e : Encoding). length e.handles) inline_is in
        let n = h typed in
        omega (arith, n, e)
    refused_in a Memory h = tt
    refused_in a WrongShape h = λ typed. h typed
    refused_in a OverBound h = h
    refused_in a NotUtf8 h = h
    refused_in a UnknownValue h = h
    refused_in a WrongHandle h = h

  module _ (large : 4 < size_of ds t) where
    pub points_out : Points (to_le_bytes w32 (length (object own.encoding)) ++ envelope_end 0 own.encoding.handles) (size_of ds t) own held
    points_out =
        record {
          from = λ h. h;
          breaks = λ f b. b;
          depth = ap (λ b. if b then 0 else suc own.depth) (large_test (size_of ds t) large);
          encoding = ap (λ b. if b then inline_envelope (padded 4 own.encoding.inline) own.encoding.handles else out_envelope (object own.encoding) own.encoding.handles) (large_test (size_of ds t) large);
          sized = λ h. length-inline ds laid (resolve ds.terms t) v h ∙ size_of-resolve ds laid t;
        }

-- ---- an unknown member

-- bytes and handles alone
abbrev pub raw : List ℕ → List HandleInfo → Part
raw bytes handles = record { Typed = Unit {0}; breaks = λ f. ⊥; depth = 0; encoding = record { inline = bytes; out = []; handles = handles } }

no_padding : (bytes : List ℕ) → length bytes % 8 ≡ 0 → pad8 bytes ++ [] ≡ bytes
no_padding bytes h =
    let none : next_multiple_of (length bytes) 8 - length bytes ≡ 0 = omega (arith, h) in
    append-nil (pad8 bytes) ∙ ap (λ n. bytes ++ zeros n) none ∙ append-nil bytes

pub points_raw : (ds : Declarations) (bytes : List ℕ) (handles : List HandleInfo) → length bytes % 8 ≡ 0
    → Points (to_le_bytes w32 (length bytes) ++ envelope_end 0 handles) (length bytes) (raw bytes handles) (member_part ds false None (unknown false bytes handles))
points_raw ds bytes handles whole =
    record {
      from = λ h. tt;
      breaks = λ f b. absurd b;
      depth = refl;
      encoding =
          same_encoding (out_envelope bytes handles) (pointing (to_le_bytes w32 (length bytes) ++ envelope_end 0 handles) (record { inline = bytes; out = []; handles = handles })) refl (sym (no_padding bytes whole)) refl;
      sized = λ h. refl;
    }

-- the four bytes of an unknown member, and the envelope's end behind them
pub written_unknown_in : (ds : Declarations) (bytes : List ℕ) (handles : List HandleInfo) (depth at : ℕ) (a b c d : Written) → AreBytes bytes → length bytes ≡ 4 → AllByRecursion IsHandle handles
    → b.bytes ≡ a.bytes → b.handles ≡ a.handles ++ handles → IsWithin b
    → IsOver b.bytes c.bytes at bytes → length c.bytes ≡ length b.bytes → c.handles ≡ b.handles
    → IsOver c.bytes d.bytes (at + 4) (envelope_end 1 handles) → length d.bytes ≡ length c.bytes → d.handles ≡ c.handles
    → IsWritten (member_part ds false None (unknown true bytes handles)) depth at a d
written_unknown_in ds bytes handles depth at a b c d raws four infos same beside within over same2 beside2 over2 same3 beside3 =
    let place : at + 4 ≡ at + length bytes = omega (arith, four) in
    let whole = over_both a.bytes c.bytes d.bytes at bytes (envelope_end 1 handles) (subst (λ x. IsOver x c.bytes at bytes) same over) (subst (λ n. IsOver c.bytes d.bytes n (envelope_end 1 handles)) place over2) in
    written_inline (member_part ds false None (unknown true bytes handles)) depth at a d (bytes ++ envelope_end 1 handles) handles (refl, raws, four, infos) refl refl whole
    (same3 ∙ same2 ∙ ap length same) (beside3 ∙ beside2 ∙ beside) (within_same c d same3 beside3 (within_same b c same2 beside2 within))

-- the bytes of an unknown member out of line, and the envelope that counts them
pub written_unknown_out : (ds : Declarations) (bytes : List ℕ) (handles : List HandleInfo) (depth below at : ℕ) (a b c d e : Written) → AreBytes bytes → IsUnknownLength false (length bytes) → AllByRecursion IsHandle handles → depth ≡ suc below
    → b.bytes ≡ a.bytes ++ zeros (next_multiple_of (length bytes) 8) → b.handles ≡ a.handles
    → c.bytes ≡ b.bytes → c.handles ≡ b.handles ++ handles → IsWithin c
    → IsOver c.bytes d.bytes (length a.bytes) bytes → length d.bytes ≡ length c.bytes → d.handles ≡ c.handles
    → IsOver d.bytes e.bytes at (to_le_bytes w32 (length bytes) ++ envelope_end 0 handles) → length e.bytes ≡ length d.bytes → e.handles ≡ d.handles
    → IsWritten (member_part ds false None (unknown false bytes handles)) depth at a e
written_unknown_out ds bytes handles depth below at a b c d e raws sized infos deeper room kept same beside within over same2 beside2 over2 same3 beside3 =
    written_below (to_le_bytes w32 (length bytes) ++ envelope_end 0 handles) (length bytes) (raw bytes handles) (member_part ds false None (unknown false bytes handles)) (points_raw ds bytes handles sized.1) depth a below deeper b room kept d e at
    (λ h. (refl, raws, sized, infos))
    (written_inline (raw bytes handles) below (length a.bytes) b d bytes handles tt refl refl (subst (λ x. IsOver x d.bytes (length a.bytes) bytes) same over) (same2 ∙ ap length same) (beside2 ∙ beside) (within_same c d same2 beside2 within))
    over2 same3 beside3

-- one more record of 32 bits
pub all_more : (hs : List HandleInfo) (i : ℕ) (d : HandleInfo) → i < length hs → AllByRecursion IsHandle (take i hs) → IsHandle (get_or hs i d) → AllByRecursion IsHandle (take (i + 1) hs)
all_more hs i d lt h is = subst (λ n. AllByRecursion IsHandle (take n hs)) (sym (add-one i)) (go hs i lt h is)
  where
    go : (hs : List HandleInfo) (i : ℕ) → i < length hs → AllByRecursion IsHandle (take i hs) → IsHandle (get_or hs i d) → AllByRecursion IsHandle (take (suc i) hs)
    go [] i lt h is = absurd (omega (arith, lt))
    go (x ∷ hs) zero lt h is = (is, tt)
    go (x ∷ hs) (suc i) lt h is = (h.0, go hs i (omega (arith, lt)) h.1 is)

pub are_bytes : (bytes : List ℕ) → ((i : ℕ) → get_or bytes i 0 < 256) → AreBytes bytes
are_bytes [] h = tt
are_bytes (x ∷ bytes) h = (h 0, are_bytes bytes (λ i. h (suc i)))
