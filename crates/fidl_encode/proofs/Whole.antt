-- A whole message, from what was written.
use Rattle.std.proofs.Common.{◌≡◌, ℕ, ◌+◌, ◌-◌, ◌≤◌, List, [], ◌++◌, length, refl, sym, ap, ◌∙◌, arith, append_assoc}
use Rattle.std.specs.Prelude.{◌≢◌}
use Rattle.std.proofs.lemmas.List.{replicate-append-replicate}
use Rattle.std.specs.Int.{next_multiple_of}
use Rattle.fidl_limits.specs.declared.limits.TheConstants.{MAX_DEPTH}
use Rattle.fidl_wire.specs.declared.handle.HandleInfo.{HandleInfo}
use Rattle.fidl_wire.specs.Value.{Value}
use Rattle.fidl_wire.specs.Term.{Term, resolve}
use Rattle.fidl_wire.specs.Figure.{Declarations}
use Rattle.fidl_wire.specs.Typed.{Typed}
use Rattle.fidl_wire.specs.Encoding.{Encoding, zeros, object, Enc}
use Rattle.fidl_wire.specs.Message.{Message, Encodes}
use Rattle.fidl_encode.specs.declared.fault.EncodeFault.{EncodeFault}
use Rattle.fidl_encode.specs.declared.fault.EncodeFault.TheVariants.{WrongShape, OverBound, NotUtf8, UnknownValue, WrongHandle, TooDeep, TooLong, TooManyHandles, Memory}
use Rattle.fidl_encode.proofs.Excluding.{excluded}
use Rattle.fidl_encode.specs.Writing.{Written, IsWithin}
use Rattle.fidl_encode.specs.Parts.{Part, value_part, IsWritten, IsRefused, HasNoRoom}
use Rattle.fidl_encode.specs.Told.{IsTold}
use Rattle.fidl_encode.proofs.Adding.{append-nil}
use Rattle.fidl_encode.proofs.Ending.{length_object, length_room}

-- nothing is written
abbrev pub nothing : Written
nothing = record { bytes = []; handles = [] }

pub nothing_within : (w : Written) → w.bytes ≡ [] → w.handles ≡ [] → IsWithin w
nothing_within w b h = record { short = omega (arith, ap length b); few = omega (arith, ap length h) }

module _ (ds : Declarations) (t : Term) (v : Value) (size : ℕ) (old room : Written) (empty : old.bytes ≡ []) (bare : old.handles ≡ [])
    (kept : room.bytes ≡ old.bytes ++ zeros (next_multiple_of size 8)) (same : room.handles ≡ old.handles)
    (sized : Typed ds t v → length (Enc ds t v).inline ≡ size) where
  abbrev e : Encoding
  e = Enc ds t v

  abbrev own : Part
  own = value_part ds (resolve ds.terms t) v

  pub encodes : (at : ℕ) (new : Written) → at ≡ length old.bytes → IsWritten own MAX_DEPTH at room new → Encodes ds t v new.bytes new.handles
  encodes at new place w =
      let up = next_multiple_of (length e.inline) 8 - length e.inline in
      let fits : length e.inline + up ≡ next_multiple_of (length e.inline) 8 = omega arith in
      let zero : length {A = ℕ} [] ≡ at = sym (place ∙ ap length empty) in
      let split : room.bytes ≡ zeros (length e.inline) ++ (zeros up ++ []) = kept ∙ ap (λ b. b ++ zeros (next_multiple_of size 8)) empty ∙ ap (λ n. zeros (next_multiple_of n 8)) (sym (sized w.typed)) ∙ ap zeros (sym fits)
      ∙ sym (replicate-append-replicate {A = ℕ} (length e.inline) up 0) ∙ ap (λ z. zeros (length e.inline) ++ z) (sym (append-nil (zeros up))) in
      let wrote : new.bytes ≡ e.inline ++ ((zeros up ++ []) ++ e.out) = w.adds.bytes [] (zeros up ++ []) zero split in
      let whole : new.bytes ≡ object e = wrote ∙ ap (λ z. e.inline ++ (z ++ e.out)) (append-nil (zeros up)) ∙ sym (append_assoc e.inline (zeros up) e.out) in
      let beside : new.handles ≡ e.handles = w.adds.handles ∙ ap (λ h. h ++ e.handles) (same ∙ bare) in
      record {
        typed = w.typed;
        shallow = w.shallow;
        message = λ i. (sym whole i, sym beside i);
        short = w.within.short;
        few = w.within.few;
      }

  long : Typed ds t v → length (Message ds t v).0 ≡ length room.bytes + length e.out
  long typed =
      let r = length_room old room size kept in
      let z : length old.bytes ≡ 0 = ap length empty in
      let s : length (object e) ≡ next_multiple_of size 8 + length e.out = length_object e ∙ ap (λ n. next_multiple_of n 8 + length e.out) (sized typed) in
      omega (arith, r, z, s)

  pub told : (f : EncodeFault) → IsRefused own MAX_DEPTH room f → IsTold ds t v f
  told TooDeep h = h
  told TooLong h = λ typed. let n = h typed in let s = long typed in omega (arith, n, s)
  told TooManyHandles h = λ typed. let n = h typed in let z : length room.handles ≡ 0 = ap length (same ∙ bare) in omega (arith, n, z)
  told Memory h = tt
  told WrongShape h = h
  told OverBound h = h
  told NotUtf8 h = h
  told UnknownValue h = h
  told WrongHandle h = h

-- an inline part always has room
pub told_room : (ds : Declarations) (t : Term) (v : Value) (size : ℕ) (old : Written) → old.bytes ≡ [] → size ≤ 65535 → (f : EncodeFault) → HasNoRoom old size f → IsTold ds t v f
told_room ds t v size old empty small TooLong h = absurd (omega (arith, h, small, ap length empty))
told_room ds t v size old empty small Memory h = tt
told_room ds t v size old empty small _ h = absurd h

-- a refused value has no message
pub no_message : (ds : Declarations) (t : Term) (v : Value) (f : EncodeFault) → IsTold ds t v f → f ≢ Memory → (bytes : List ℕ) (handles : List HandleInfo) → Encodes ds t v bytes handles → ⊥
no_message ds t v TooDeep told other bytes handles x = let n = told x.typed in let s = x.shallow in omega (arith, n, s)
no_message ds t v TooLong told other bytes handles x =
    let n = told x.typed in
    let s = x.short in
    let e : length (Message ds t v).0 ≡ length bytes = ap (λ (m : List ℕ × List HandleInfo). length m.0) x.message in
    omega (arith, n, s, e)
no_message ds t v TooManyHandles told other bytes handles x =
    let n = told x.typed in
    let s = x.few in
    let e : length (Message ds t v).1 ≡ length handles = ap (λ (m : List ℕ × List HandleInfo). length m.1) x.message in
    omega (arith, n, s, e)
no_message ds t v Memory told other bytes handles x = other refl
no_message ds t v WrongShape told other bytes handles x = told x.typed
no_message ds t v OverBound told other bytes handles x = excluded ds OverBound (resolve ds.terms t) v told x.typed
no_message ds t v NotUtf8 told other bytes handles x = excluded ds NotUtf8 (resolve ds.terms t) v told x.typed
no_message ds t v UnknownValue told other bytes handles x = excluded ds UnknownValue (resolve ds.terms t) v told x.typed
no_message ds t v WrongHandle told other bytes handles x = excluded ds WrongHandle (resolve ds.terms t) v told x.typed
