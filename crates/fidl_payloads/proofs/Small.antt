-- Small members and files, for the worked facts.
use Rattle.std.proofs.Common.{◌≡◌, ◌∙◌, ℕ, true, List, [], ◌∷◌, Option, None, Some, sym, subst, inl, inr}
use Rattle.std.specs.Prelude.{slice_get}
use Rattle.std.specs.List.{Contains}
use Rattle.std.proofs.lemmas.Option.{same_Some}
use Rattle.fidl_span.specs.declared.words.Span.{Span}
use Rattle.fidl_tree.specs.Syntax.{TypeUse, Response, Declaration, ProtocolMember}
use Rattle.fidl_tree.specs.Views.{file_view}
use Rattle.fidl_tree.specs.declared.file.File.{File}
use Rattle.fidl_consts.proofs.Among.{among_none, among_cases}
use Rattle.fidl_declarations.specs.declared.step.Step.{Step}
use Rattle.fidl_declarations.specs.Sites.{has_result}
use Rattle.fidl_payloads.specs.declared.payload.Payload.{Payload}
use Rattle.fidl_payloads.specs.Payloads.{PartIs, AnswerIs, MethodAnswers}
use Rattle.fidl_payloads.specs.Members.{IsMemberOf}

pub only_one : {X : Type 0} (x y : X) → Contains (x ∷ []) y → x ≡ y
only_one x y h = elim (among_cases x y [] h) [ inl is ↦ is | inr rest ↦ absurd (among_none y rest) ]

-- the only declaration of a file
pub its_declaration : (files : List File) (number : ℕ) (f : File) (d : Declaration) (protocol : Span) (m : ProtocolMember) → slice_get files number ≡ Some f → (file_view f).declarations ≡ d ∷ [] → (h : IsMemberOf files number protocol m) → d ≡ h.declaration
its_declaration files number f d protocol m at is h =
    let there = subst (λ (x : File). Contains (file_view x).declarations h.declaration) (same_Some h.file f (sym h.at ∙ at)) h.declared in
    only_one d h.declaration (subst (λ (l : List Declaration). Contains l h.declaration) is there)

-- a strict method without `error`
module _ (files : List File) (number : ℕ) (path : List Step) (r : Response) (none : r.error ≡ None) where
  pub strict_answers : (o : Option TypeUse) (p : Payload) → r.payload ≡ o → PartIs files number o p → MethodAnswers files number path true (Some r) p
  strict_answers o p is h = subst (λ (e : Option TypeUse). AnswerIs files number path r.payload (has_result true e) p) (sym none) (subst (λ (w : Option TypeUse). PartIs files number w p) (sym is) h)

  pub strict_part : (o : Option TypeUse) (p : Payload) → r.payload ≡ o → MethodAnswers files number path true (Some r) p → PartIs files number o p
  strict_part o p is h = subst (λ (w : Option TypeUse). PartIs files number w p) is (subst (λ (e : Option TypeUse). AnswerIs files number path r.payload (has_result true e) p) none h)
