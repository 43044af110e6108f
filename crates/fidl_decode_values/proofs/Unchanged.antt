-- What a return says that changes nothing.
use Rattle.std.proofs.Common.{◌≡◌, ℕ, ◌-◌, ◌<◌, ◌≤◌, Bool, false, true, subst, arith}
use Rattle.std.specs.Prelude.{Result, Ok, Err, IfOk, OnOk, Option, Some, None, IfNone}
use Rattle.std.specs.Result.{IsErrAnd, is_err}

-- a `false` is no `true`
pub no_true : false ≡ true → ⊥
no_true e = cc

pub no_false : true ≡ false → ⊥
no_false e = cc

-- steps that are not taken are no fewer
pub same_le : (n : ℕ) → n ≤ n
same_le n = omega arith

-- nor where a `?` passes an error on is there a value of which something would have to hold
pub no_ok : {T E : Type 0} (r : Result T E) (e : E) (P : T → Type 0) → IsErrAnd r (λ y. y ≡ e) → IfOk r P
no_ok (Ok x) e P h = absurd h
no_ok (Err y) e P h = tt

-- what holds anyway holds where there is a value, and where there is none
pub on_ok : {T E : Type 0} (r : Result T E) (P : Type 0) → P → OnOk r P
on_ok (Ok x) P h = h
on_ok (Err e) P h = tt

pub if_none : {T : Type 0} (o : Option T) (P : Type 0) → P → IfNone o P
if_none None P h = h
if_none (Some x) P h = tt

-- what a test says is not so
pub clash : {b : Bool} → b ≡ true → b ≡ false → ⊥
clash is not = cc

-- what the decoder's size says of room is so of the message
pub size_short : {n m : ℕ} → n ≡ m → (k x : ℕ) → n - k < x → m - k < x
size_short e k x h = subst (λ n. n - k < x) e h

pub size_fits : {n m : ℕ} → n ≡ m → (k x : ℕ) → x ≤ n - k → x ≤ m - k
size_fits e k x h = subst (λ n. x ≤ n - k) e h

pub size_room : {n m : ℕ} → n ≡ m → (k : ℕ) → k ≤ m → k ≤ n
size_room e k h = omega (arith, e, h)

-- what no error is has a value
pub not_err : {T E P : Type 0} (r : Result T E) → is_err r ≡ false → OnOk r P → P
not_err (Ok x) e p = p
not_err (Err x) e p = absurd (no_false e)
