use Rattle.std.proofs.Common.{◌≡◌, sym, ap, subst, ◌∙◌, List, [], codes}
use Rattle.std.specs.Prelude.{Option, Some, None, unwrap_or, IfOk, IfErr, option_map, ℕ}
use Rattle.std.specs.List.{AllZip}
use Rattle.clap.proofs.WalkLemmas.{raw_values-rows}
use Rattle.clap.specs.Words.{found_of, rows_of}
use Rattle.fidl_wire.specs.declared.handle.HandleInfo.{HandleInfo}
use Rattle.fidl_command_line.specs.Handles.{IsHandleText}
use Rattle.fidl_command_line.specs.Arguments.{AreNoHandles, handle_texts}
use Rattle.fidl_command_line.proofs.arguments.given_handles.Goals as goal

-- the texts that are there, or none
some_texts : {A : Type 0} (f : A → List (List ℕ)) (o : Option A) (x : A) (all : Option (List (List ℕ))) → o ≡ Some x → option_map f o ≡ all → f x ≡ unwrap_or all []
some_texts f o x all is h = ap (λ (r : Option (List (List ℕ))). unwrap_or r []) (ap (option_map f) (sym is) ∙ h)

no_texts : {A : Type 0} (f : A → List (List ℕ)) (o : Option A) (all : Option (List (List ℕ))) → o ≡ None → option_map f o ≡ all → [] ≡ unwrap_or all []
no_texts f o all is h = ap (λ (r : Option (List (List ℕ))). unwrap_or r []) (ap (option_map f) (sym is) ∙ h)

pub returns-in-Some-clause-ok : goal.returns-in-Some-clause-ok
returns-in-Some-clause-ok c =
    let found = found_of c.args.matches.now in
    let same = some_texts _ _ _ _ c.in-Some.is (c.get_strs.ensures ∙ raw_values-rows found (codes "handle")) in
    subst (λ (texts : List (List ℕ)). IfOk c.read_handles.result (λ handles. AllZip IsHandleText texts handles.items)) same c.read_handles.ensures.ok

pub returns-in-Some-clause-fault_is_true : goal.returns-in-Some-clause-fault_is_true
returns-in-Some-clause-fault_is_true c =
    let found = found_of c.args.matches.now in
    let same = some_texts _ _ _ _ c.in-Some.is (c.get_strs.ensures ∙ raw_values-rows found (codes "handle")) in
    subst (λ (texts : List (List ℕ)). IfErr c.read_handles.result (AreNoHandles texts)) same c.read_handles.ensures.fault_is_true

pub returns-in-None-clause-ok : goal.returns-in-None-clause-ok
returns-in-None-clause-ok c =
    let found = found_of c.args.matches.now in
    let same = no_texts _ _ _ c.in-None.is (c.get_strs.ensures ∙ raw_values-rows found (codes "handle")) in
    let none = subst (λ (texts : List (List ℕ)). AllZip IsHandleText texts []) same tt in
    subst (λ (handles : List HandleInfo). AllZip IsHandleText (handle_texts (rows_of found)) handles) (sym c.new.ensures.items) none
