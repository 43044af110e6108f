-- What is left to write, step by step: whoever writes the rest has written the whole, and where the rest is refused, the whole is.
use Rattle.std.proofs.Common.{◌≡◌, ℕ, ◌+◌, length, sym, subst}
use Rattle.std.specs.Prelude.{Result, Ok, Err, IfErr, OnOk, OnErr, Bool, IsTrue, ◌≢◌}
use Rattle.fidl_wire.specs.Value.{Value, absent}
use Rattle.fidl_wire.specs.Term.{Term}
use Rattle.fidl_wire.specs.Figure.{Declarations}
use Rattle.fidl_wire.specs.Typed.{MayBeAbsent}
use Rattle.fidl_encode.specs.declared.fault.EncodeFault.TheVariants.{WrongShape}
use Rattle.std.specs.Result.{IsErrAnd}
use Rattle.fidl_encode.specs.declared.fault.EncodeFault.{EncodeFault}
use Rattle.fidl_encode.specs.Writing.{Written, IsWithin}
use Rattle.fidl_encode.specs.Parts.{Part, value_part, IsWritten, IsRefused}
use Rattle.fidl_encode.proofs.Ending.{both, led, Alike, written_alike, refused_alike, written_both, refused_first, refused_rest, written_led, written_absent}

-- the rest at a place is left of the whole at another
pub record Leaves (whole rest : Part) (depth at place : ℕ) (old now : Written) : Type 0 where
  pub done : (final : Written) → IsWritten rest depth place now final → IsWritten whole depth at old final
  pub refused : (f : EncodeFault) → IsRefused rest depth now f → IsRefused whole depth old f

-- at first all is
pub leaves_all : (whole : Part) (depth at : ℕ) (old : Written) → Leaves whole whole depth at at old old
leaves_all whole depth at old = record { done = λ final w. w; refused = λ f r. r }

module _ (whole : Part) (depth at place : ℕ) (old now : Written) where
  -- a part was written
  pub leaves_rest : (p q : Part) (next : Written) → Leaves whole (both p q) depth at place old now → IsWritten p depth place now next
      → Leaves whole q depth at (place + length p.encoding.inline) old next
  leaves_rest p q next l w =
      record {
        done = λ final r. l.done final (written_both p q depth now place next final w r);
        refused = λ f r. l.refused f (refused_rest p q depth now place next w f r);
      }

  -- a part was refused
  pub leaves_none : (p q : Part) → Leaves whole (both p q) depth at place old now → (f : EncodeFault) → IsRefused p depth now f → IsRefused whole depth old f
  leaves_none p q l f r = l.refused f (refused_first p q depth now f r)

  -- zeros are there already
  pub leaves_led : (n : ℕ) (q : Part) → Leaves whole (led n q) depth at place old now → Leaves whole q depth at (place + n) old now
  leaves_led n q l = record { done = λ final w. l.done final (written_led n q depth place now final w); refused = λ f r. l.refused f r }

  pub leaves_alike : (p q : Part) → Alike q p → Leaves whole p depth at place old now → Leaves whole q depth at place old now
  leaves_alike p q s l =
      record {
        done = λ final w. l.done final (written_alike q p depth place now final s w);
        refused = λ f r. l.refused f (refused_alike q p depth now s f r);
      }

-- a refusal that is handed on
pub handed_on : {T : Type 0} (r : Result T EncodeFault) (f : EncodeFault) (P : EncodeFault → Type 0) → IsErrAnd r (λ g. g ≡ f) → P f → IfErr r P
handed_on (Ok x) f P is h = tt
handed_on (Err g) f P is h = subst P (sym is) h

-- how a call ends is how its caller does
pub on_ok : {T E A B : Type 0} (r : Result T E) → (A → B) → OnOk r A → OnOk r B
on_ok (Ok x) g h = g h
on_ok (Err f) g h = tt

pub if_err : {T : Type 0} (P Q : EncodeFault → Type 0) (r : Result T EncodeFault) → ((f : EncodeFault) → P f → Q f) → IfErr r P → IfErr r Q
if_err P Q (Ok x) g h = tt
if_err P Q (Err f) g h = g f h

-- what is absent, where it may be
pub absent_ok : {T : Type 0} (ds : Declarations) (t : Term) (v : Value) (may : Bool) (r : Result T EncodeFault) (depth at : ℕ) (w : Written) → OnOk r (v ≡ absent) → OnOk r (IsTrue may) → (IsTrue may → MayBeAbsent t) → IsWithin w
    → OnOk r (IsWritten (value_part ds t v) depth at w w)
absent_ok ds t v may (Ok x) depth at w is m may_be h = written_absent ds t v depth at w is (may_be m) h
absent_ok ds t v may (Err f) depth at w is m may_be h = tt

pub absent_refused : {T : Type 0} (p : Part) (depth : ℕ) (a : Written) (v : Value) (may : Bool) (r : Result T EncodeFault) → OnErr r (IsTrue may → v ≢ absent) → IfErr r (λ f. f ≡ WrongShape) → ((IsTrue may → v ≢ absent) → p.Typed → ⊥)
    → IfErr r (IsRefused p depth a)
absent_refused p depth a v may (Ok x) there is not = tt
absent_refused p depth a v may (Err f) there is not = subst (λ f. IsRefused p depth a f) (sym is) (not there)
