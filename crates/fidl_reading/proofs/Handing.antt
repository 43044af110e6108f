-- How a call's refusal is its caller's.
use Rattle.std.proofs.Common.{◌≡◌, sym, subst}
use Rattle.std.specs.Prelude.{Result, Ok, Err, IfErr, IfOk, OnErr}
use Rattle.std.specs.Result.{IsErrAnd}
use Rattle.fidl_reading.specs.declared.fault.NotationFault.{NotationFault}
use Rattle.fidl_reading.specs.declared.fault.NotationFault.TheVariants.{Syntax, UnknownName, OutOfRange, Repeated, Memory}
use Rattle.fidl_reading.specs.Reads.{IfJudged}

-- what holds, a fault may say
pub judged : (Q : Type 0) (f : NotationFault) → Q → IfJudged Q f
judged Q (Syntax at) q = q
judged Q (UnknownName at) q = q
judged Q (OutOfRange at) q = q
judged Q (Repeated at) q = q
judged Q Memory q = tt

-- what follows from what a fault says, it says too
pub follows : (P Q : Type 0) (f : NotationFault) → (P → Q) → IfJudged P f → IfJudged Q f
follows P Q (Syntax at) g p = g p
follows P Q (UnknownName at) g p = g p
follows P Q (OutOfRange at) g p = g p
follows P Q (Repeated at) g p = g p
follows P Q Memory g p = tt

-- a refusal that is handed on
pub handed_on : {T : Type 0} (r : Result T NotationFault) (f : NotationFault) (P : NotationFault → Type 0) → IsErrAnd r (λ g. g ≡ f) → P f → IfErr r P
handed_on (Ok x) f P is h = tt
handed_on (Err g) f P is h = subst P (sym is) h

-- and what it says of the whole
pub refused : {T : Type 0} (r : Result T NotationFault) (f : NotationFault) (P Q : Type 0) → IsErrAnd r (λ g. g ≡ f) → IfJudged P f → (P → Q) → IfErr r (IfJudged Q)
refused r f P Q is p g = handed_on r f (IfJudged Q) is (follows P Q f g p)

-- where no memory is asked for
pub refused_so : {T : Type 0} (r : Result T NotationFault) (f : NotationFault) (Q : Type 0) → IsErrAnd r (λ g. g ≡ f) → Q → IfErr r (IfJudged Q)
refused_so r f Q is q = handed_on r f (IfJudged Q) is (judged Q f q)

-- where nothing is said of memory
pub handed_so : {T : Type 0} (r : Result T NotationFault) (f : NotationFault) (Q : Type 0) → IsErrAnd r (λ g. g ≡ f) → Q → OnErr r Q
handed_so (Ok x) f Q is q = tt
handed_so (Err g) f Q is q = q

-- what follows from how a call ends
pub if_ok : {T E : Type 0} (r : Result T E) (P Q : T → Type 0) → ((x : T) → P x → Q x) → IfOk r P → IfOk r Q
if_ok (Ok x) P Q g h = g x h
if_ok (Err f) P Q g h = tt

pub if_err : {T : Type 0} (r : Result T NotationFault) (P Q : Type 0) → (P → Q) → IfErr r (IfJudged P) → IfErr r (IfJudged Q)
if_err (Ok x) P Q g h = tt
if_err (Err f) P Q g h = follows P Q f g h

pub on_err : {T : Type 0} (r : Result T NotationFault) (P Q : Type 0) → (P → Q) → OnErr r P → IfErr r (IfJudged Q)
on_err (Ok x) P Q g h = tt
on_err (Err f) P Q g h = judged Q f (g h)
