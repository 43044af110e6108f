use Rattle.std.proofs.Common.{sym, ◌∙◌}
use Rattle.std.specs.Prelude.{Result, Ok, Err, IfOk, Option, Some, None, IfSome}
use Rattle.std.proofs.lemmas.Slice.Eq.{bytes_eq-Decides}
use Rattle.fidl_tool.proofs.compiling.wanted_at.Goals as goal

known : {T E : Type 0} (P Q : T → Type 0) (r : Result (Option T) E) → ((x : T) → P x → Q x) → IfOk r (λ o. IfSome o P) → IfOk r (λ o. IfSome o Q)
known P Q (Ok None) f h = tt
known P Q (Ok (Some x)) f h = f x h
known P Q (Err e) f h = tt

pub returns-then-at-src : goal.returns-then-at-src
returns-then-at-src c =
    let stage = (bytes_eq-Decides _ _).0 (sym c.eq.ensures ∙ c.if-eq.true) in
    known _ _ c.expected.result (λ w goes_on. record { stage = stage; number = c.if-refusal-eq1.true; goes_on = goes_on }) c.expected.ensures
