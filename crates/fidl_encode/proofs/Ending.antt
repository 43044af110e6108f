-- How the writing of a part ends, by how that of its parts does.
use Rattle.std.proofs.Common.{◌⊎◌, inl, inr, ◌≡◌, ℕ, suc, ◌+◌, ◌-◌, ◌*◌, ◌<◌, ◌≤◌, List, [], ◌++◌, length, max, refl, sym, ap, subst, ◌∙◌, arith, length-append}
use Rattle.std.proofs.Math.ListN.{length-replicate}
use Rattle.std.specs.Int.{next_multiple_of, to_le_bytes, w64}
use Rattle.std.specs.Prelude.{IsUtf8, Bool}
use Rattle.fidl_limits.specs.declared.limits.TheConstants.{MAX_MESSAGE_BYTES, MAX_MESSAGE_HANDLES}
use Rattle.fidl_wire.specs.declared.handle.HandleInfo.{HandleInfo}
use Rattle.fidl_wire.specs.Value.{Value, absent, text}
use Rattle.fidl_wire.specs.Term.{Term}
use Rattle.fidl_wire.specs.Term as ty
use Rattle.fidl_wire.specs.Figure.{Declarations, size_of}
use Rattle.fidl_wire.specs.Typed.{IsTyped, MayBeAbsent}
use Rattle.fidl_wire.specs.Encoding.{Encoding, zeros, pad8, object, inline_only, joined, pointing, present}
use Rattle.fidl_encode.specs.declared.fault.EncodeFault.{EncodeFault}
use Rattle.fidl_encode.specs.declared.fault.EncodeFault.TheVariants.{WrongShape, OverBound, NotUtf8, UnknownValue, WrongHandle, TooDeep, TooLong, TooManyHandles, Memory}
use Rattle.fidl_encode.specs.Writing.{Written, Adds, IsOver, IsWithin}
use Rattle.fidl_encode.specs.Parts.{Part, value_part, IsWritten, IsRefused, HasNoRoom}
use Rattle.fidl_encode.proofs.Adding.{append-nil, adds_zeros, adds_joined, adds_inline, adds_pointing}

-- two parts, the second behind the first
abbrev pub both : Part → Part → Part
both p q = record { Typed = p.Typed × q.Typed; breaks = λ f. p.breaks f ⊎ q.breaks f; depth = max p.depth q.depth; encoding = joined p.encoding q.encoding }

-- zeros, and a part behind them
abbrev pub led : ℕ → Part → Part
led n p = record { Typed = p.Typed; breaks = p.breaks; depth = p.depth; encoding = joined (inline_only (zeros n)) p.encoding }

-- nothing but bytes
abbrev pub plain : List ℕ → Part
plain bytes = record { Typed = Unit {0}; breaks = λ f. ⊥; depth = 0; encoding = inline_only bytes }

-- parts that are written and refused alike
pub record Alike (p q : Part) : Type 0 where
  pub to : p.Typed → q.Typed
  pub from : q.Typed → p.Typed
  pub breaks : (f : EncodeFault) → p.breaks f → q.breaks f
  pub depth : p.depth ≡ q.depth
  pub encoding : p.encoding ≡ q.encoding

pub written_alike : (p q : Part) (depth at : ℕ) (a b : Written) → Alike p q → IsWritten p depth at a b → IsWritten q depth at a b
written_alike p q depth at a b s h =
    record {
      typed = s.to h.typed;
      shallow = let e = s.depth in let n = h.shallow in omega (arith, e, n);
      adds = subst (λ e. Adds a b at e) s.encoding h.adds;
      within = h.within;
    }

pub refused_alike : (p q : Part) (depth : ℕ) (a : Written) → Alike p q → (f : EncodeFault) → IsRefused p depth a f → IsRefused q depth a f
refused_alike p q depth a s TooDeep h = λ t. let e = s.depth in let n = h (s.from t) in omega (arith, e, n)
refused_alike p q depth a s TooLong h = λ t. subst (λ (e : Encoding). MAX_MESSAGE_BYTES < length a.bytes + length e.out) s.encoding (h (s.from t))
refused_alike p q depth a s TooManyHandles h = λ t. subst (λ (e : Encoding). MAX_MESSAGE_HANDLES < length a.handles + length e.handles) s.encoding (h (s.from t))
refused_alike p q depth a s Memory h = tt
refused_alike p q depth a s WrongShape h = λ t. h (s.from t)
refused_alike p q depth a s OverBound h = s.breaks OverBound h
refused_alike p q depth a s NotUtf8 h = s.breaks NotUtf8 h
refused_alike p q depth a s UnknownValue h = s.breaks UnknownValue h
refused_alike p q depth a s WrongHandle h = s.breaks WrongHandle h

module _ (p q : Part) (depth : ℕ) (a : Written) where
  pub written_both : (at : ℕ) (b c : Written) → IsWritten p depth at a b → IsWritten q depth (at + length p.encoding.inline) b c → IsWritten (both p q) depth at a c
  written_both at b c h k =
      record {
        typed = (h.typed, k.typed);
        shallow = let m = h.shallow in let n = k.shallow in omega (arith, m, n);
        adds = adds_joined a b c at p.encoding q.encoding h.adds k.adds;
        within = k.within;
      }

  pub refused_first : (f : EncodeFault) → IsRefused p depth a f → IsRefused (both p q) depth a f
  refused_first TooDeep h = λ t. let n = h t.0 in omega (arith, n)
  refused_first TooLong h = λ t. let n = h t.0 in let s = length-append p.encoding.out q.encoding.out in omega (arith, n, s)
  refused_first TooManyHandles h = λ t. let n = h t.0 in let s = length-append p.encoding.handles q.encoding.handles in omega (arith, n, s)
  refused_first Memory h = tt
  refused_first WrongShape h = λ t. h t.0
  refused_first OverBound h = inl h
  refused_first NotUtf8 h = inl h
  refused_first UnknownValue h = inl h
  refused_first WrongHandle h = inl h

  pub refused_rest : (at : ℕ) (b : Written) → IsWritten p depth at a b → (f : EncodeFault) → IsRefused q depth b f → IsRefused (both p q) depth a f
  refused_rest at b w TooDeep h = λ t. let n = h t.1 in omega (arith, n)
  refused_rest at b w TooLong h = λ t. let n = h t.1 in let s = length-append p.encoding.out q.encoding.out in let l = w.adds.longer in omega (arith, n, s, l)
  refused_rest at b w TooManyHandles h = λ t.
      let n = h t.1 in
      let s = length-append p.encoding.handles q.encoding.handles in
      let l : length b.handles ≡ length a.handles + length p.encoding.handles = ap length w.adds.handles ∙ length-append a.handles p.encoding.handles in
      omega (arith, n, s, l)
  refused_rest at b w Memory h = tt
  refused_rest at b w WrongShape h = λ t. h t.1
  refused_rest at b w OverBound h = inr h
  refused_rest at b w NotUtf8 h = inr h
  refused_rest at b w UnknownValue h = inr h
  refused_rest at b w WrongHandle h = inr h

pub written_led : (n : ℕ) (p : Part) (depth at : ℕ) (a b : Written) → IsWritten p depth (at + n) a b → IsWritten (led n p) depth at a b
written_led n p depth at a b h =
    record {
      typed = h.typed;
      shallow = h.shallow;
      adds = adds_joined a a b at (inline_only (zeros n)) p.encoding (adds_zeros a at n) (subst (λ k. Adds a b (at + k) p.encoding) (sym (length-replicate {A = ℕ} n 0)) h.adds);
      within = h.within;
    }

-- zeros are there already
pub written_zeros : (n depth at : ℕ) (w : Written) → IsWithin w → IsWritten (plain (zeros n)) depth at w w
written_zeros n depth at w h = record { typed = tt; shallow = omega arith; adds = adds_zeros w at n; within = h }

-- bytes that were put, and handles that were added
pub written_inline : (p : Part) (depth at : ℕ) (a b : Written) (bytes : List ℕ) (handles : List HandleInfo) → p.Typed → p.depth ≡ 0
    → p.encoding ≡ record { inline = bytes; out = []; handles = handles } → IsOver a.bytes b.bytes at bytes → length b.bytes ≡ length a.bytes → b.handles ≡ a.handles ++ handles
    → IsWithin b → IsWritten p depth at a b
written_inline p depth at a b bytes handles typed flat is over same beside within =
    record {
      typed = typed;
      shallow = omega (arith, flat);
      adds = subst (λ e. Adds a b at e) (sym is) (adds_inline a b at bytes handles over same beside);
      within = within;
    }

pub written_absent : (ds : Declarations) (t : Term) (v : Value) (depth at : ℕ) (w : Written) → v ≡ absent → MayBeAbsent t → IsWithin w → IsWritten (value_part ds t v) depth at w w
written_absent ds t v depth at w is may h =
    subst (λ u. IsWritten (value_part ds t u) depth at w w) (sym is)
    (record { typed = may_be t may; shallow = omega arith; adds = adds_zeros w at (size_of ds t); within = h })
  where
    may_be : (t : Term) → MayBeAbsent t → IsTyped ds t absent
    may_be t m = m

-- an object is as long as its inline part, padded, and what lies below
pub length_object : (e : Encoding) → length (object e) ≡ next_multiple_of (length e.inline) 8 + length e.out
length_object e =
    let up = next_multiple_of (length e.inline) 8 - length e.inline in
    let a = length-append (pad8 e.inline) e.out in
    let b : length (pad8 e.inline) ≡ length e.inline + up = length-append e.inline (zeros up) ∙ ap (λ n. length e.inline + n) (length-replicate {A = ℕ} up 0) in
    let fits : length e.inline + up ≡ next_multiple_of (length e.inline) 8 = omega arith in
    omega (arith, a, b, fits)

-- a part `q` that is what points to an object `p`, of this inline size, behind all bytes
pub record Points (bytes : List ℕ) (size : ℕ) (p q : Part) : Type 0 where
  pub from : q.Typed → p.Typed
  pub breaks : (f : EncodeFault) → p.breaks f → q.breaks f
  pub depth : q.depth ≡ suc p.depth
  pub encoding : q.encoding ≡ pointing bytes p.encoding
  pub sized : p.Typed → length p.encoding.inline ≡ size

module _ (bytes : List ℕ) (size : ℕ) (p q : Part) (s : Points bytes size p q) (depth : ℕ) (a : Written) where
  pub refused_deep : (f : EncodeFault) → f ≡ TooDeep → depth ≡ 0 → IsRefused q depth a f
  refused_deep f is none = let e = s.depth in subst (λ f. IsRefused q depth a f) (sym is) (λ t. omega (arith, e, none))

  long : q.Typed → length q.encoding.out ≡ next_multiple_of size 8 + length p.encoding.out
  long t = ap (λ (e : Encoding). length e.out) s.encoding ∙ length_object p.encoding ∙ ap (λ n. next_multiple_of n 8 + length p.encoding.out) (s.sized (s.from t))

  pub refused_room : (f : EncodeFault) → HasNoRoom a size f → IsRefused q depth a f
  refused_room TooLong h = λ t. let l = long t in omega (arith, h, l)
  refused_room Memory h = tt
  refused_room _ h = absurd h

  module _ (below : ℕ) (deeper : depth ≡ suc below) (b : Written) (room : b.bytes ≡ a.bytes ++ zeros (next_multiple_of size 8)) (kept : b.handles ≡ a.handles) where
    pub refused_below : (f : EncodeFault) → IsRefused p below b f → IsRefused q depth a f
    refused_below TooDeep h = λ t. let n = h (s.from t) in let e = s.depth in omega (arith, n, e, deeper)
    refused_below TooLong h = λ t.
        let n = h (s.from t) in
        let l = long t in
        let r : length b.bytes ≡ length a.bytes + next_multiple_of size 8 = ap length room ∙ length-append a.bytes (zeros (next_multiple_of size 8)) ∙ ap (λ n. length a.bytes + n) (length-replicate {A = ℕ} (next_multiple_of size 8) 0) in
        omega (arith, n, l, r)
    refused_below TooManyHandles h = λ t.
        let n = h (s.from t) in
        let l : length q.encoding.handles ≡ length p.encoding.handles = ap (λ (e : Encoding). length e.handles) s.encoding in
        let r : length b.handles ≡ length a.handles = ap length kept in
        omega (arith, n, l, r)
    refused_below Memory h = tt
    refused_below WrongShape h = λ t. h (s.from t)
    refused_below OverBound h = s.breaks OverBound h
    refused_below NotUtf8 h = s.breaks NotUtf8 h
    refused_below UnknownValue h = s.breaks UnknownValue h
    refused_below WrongHandle h = s.breaks WrongHandle h

    pub written_below : (c d : Written) (at : ℕ) → (p.Typed → q.Typed) → IsWritten p below (length a.bytes) b c → IsOver c.bytes d.bytes at bytes → length d.bytes ≡ length c.bytes → d.handles ≡ c.handles
        → IsWritten q depth at a d
    written_below c d at to w over same beside =
        let e = s.depth in
        let n = w.shallow in
        let short = w.within.short in
        let few = w.within.few in
        record {
          typed = to w.typed;
          shallow = omega (arith, e, n, deeper);
          adds = subst (λ e. Adds a d at e) (sym s.encoding) (adds_pointing a b c d at bytes p.encoding (room ∙ ap (λ n. a.bytes ++ zeros (next_multiple_of n 8)) (sym (s.sized w.typed))) kept w.adds over same beside);
          within = record { short = omega (arith, same, short); few = subst (λ (l : List HandleInfo). length l ≤ MAX_MESSAGE_HANDLES) (sym beside) few };
        }

-- what has bytes written over zeros is as it was otherwise
pub within_same : (a b : Written) → length b.bytes ≡ length a.bytes → b.handles ≡ a.handles → IsWithin a → IsWithin b
within_same a b same beside h =
    let short = h.short in
    record { short = omega (arith, same, short); few = subst (λ (l : List HandleInfo). length l ≤ MAX_MESSAGE_HANDLES) (sym beside) h.few }

-- a text: its bytes as an object, and its count and marker
pub written_text : (ds : Declarations) (optional : Bool) (bound : ℕ) (bytes : List ℕ) → IsUtf8 bytes → length bytes ≤ bound → (depth below : ℕ) → depth ≡ suc below → (a b c d : Written) (at : ℕ)
    → b.bytes ≡ a.bytes ++ zeros (next_multiple_of (length bytes) 8) → b.handles ≡ a.handles
    → IsOver b.bytes c.bytes (length a.bytes) bytes → length c.bytes ≡ length b.bytes → c.handles ≡ b.handles → IsWithin b
    → IsOver c.bytes d.bytes at (to_le_bytes w64 (length bytes) ++ present) → length d.bytes ≡ length c.bytes → d.handles ≡ c.handles
    → IsWritten (value_part ds (ty.string optional bound) (text bytes)) depth at a d
written_text ds optional bound bytes utf8 small depth below deeper a b c d at room kept put same beside within over same2 beside2 =
    written_below (to_le_bytes w64 (length bytes) ++ present) (length bytes) (plain bytes) (value_part ds (ty.string optional bound) (text bytes))
    (record { from = λ t. tt; breaks = λ f b. absurd b; depth = refl; encoding = refl; sized = λ t. refl }) depth a below deeper b room kept c d at (λ t. (utf8, small))
    (written_inline (plain bytes) below (length a.bytes) b c bytes [] tt refl refl put same (beside ∙ sym (append-nil b.handles)) (within_same b c same beside within))
    over same2 beside2

-- how long a message is with room for an object
pub length_room : (a b : Written) (size : ℕ) → b.bytes ≡ a.bytes ++ zeros (next_multiple_of size 8) → length b.bytes ≡ length a.bytes + next_multiple_of size 8
length_room a b size room = ap length room ∙ length-append a.bytes (zeros (next_multiple_of size 8)) ∙ ap (λ n. length a.bytes + n) (length-replicate {A = ℕ} (next_multiple_of size 8) 0)

-- how many handles there are behind an encoding
pub handles_more : (a b : Written) (at : ℕ) (e : Encoding) → Adds a b at e → length b.handles ≡ length a.handles + length e.handles
handles_more a b at e h = ap length h.handles ∙ length-append a.handles e.handles

-- more envelopes than a message has bytes
pub too_long : (n count : ℕ) → MAX_MESSAGE_BYTES < count → MAX_MESSAGE_BYTES < n + next_multiple_of (8 * count) 8
too_long n count h = omega (arith, h)
