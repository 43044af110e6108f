-- How what a call answers is its caller's answer.
use Rattle.std.proofs.Common.{◌≡◌, sym, subst}
use Rattle.std.specs.Prelude.{Option, Some, None, IfNone, MatchOption, Result, Ok, Err, IfErr}
use Rattle.std.specs.Result.{IsErrAnd}
use Rattle.fidl_script.specs.declared.fault.ScriptFault.{ScriptFault}

-- nothing, where nothing is answered
pub if_none : {A : Type 0} (o : Option A) (Q : Type 0) → o ≡ None → Q → IfNone o Q
if_none None Q e q = q
if_none (Some x) Q e q = tt

-- a refusal that is handed on
pub handed_on : {T : Type 0} (r : Result T ScriptFault) (f : ScriptFault) (P : ScriptFault → Type 0) → IsErrAnd r (λ g. g ≡ f) → P f → IfErr r P
handed_on (Ok x) f P is h = tt
handed_on (Err g) f P is h = subst P (sym is) h

-- what is known where something is answered, and where nothing is
pub match_some : {A : Type 0} (o : Option A) (x : A) (P : Type 0) (Q : A → Type 0) → o ≡ Some x → MatchOption o P Q → Q x
match_some o x P Q e h = subst (λ p. MatchOption p P Q) e h

pub match_none : {A : Type 0} (o : Option A) (P : Type 0) (Q : A → Type 0) → o ≡ None → MatchOption o P Q → P
match_none o P Q e h = subst (λ p. MatchOption p P Q) e h
