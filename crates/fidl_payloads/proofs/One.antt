-- A member has one request and one response.
use Rattle.std.proofs.Common.{◌≡◌, ℕ, Bool, true, false, List, Option, Some, None, ap, sym, ◌∙◌, inl, inr, arith}
use Rattle.std.proofs.lemmas.Bool.{cases_lt}
use Rattle.fidl_span.specs.declared.words.Span.{Span}
use Rattle.fidl_tree.specs.Syntax.{TypeUse, Response, ProtocolMember, compose_member, method_member, event_member}
use Rattle.fidl_tree.specs.declared.file.File.{File}
use Rattle.fidl_declarations.specs.declared.step.Step.{Step}
use Rattle.fidl_declarations.specs.Forms.{Form}
use Rattle.fidl_declarations.specs.Sites.{has_result}
use Rattle.fidl_wire.specs.Term as ty
use Rattle.fidl_lower_types.specs.Numbers.{all_forms}
use Rattle.fidl_lower_types.proofs.OneTerm.{one_term}
use Rattle.fidl_payloads.specs.declared.payload.Payload.{Payload}
use Rattle.fidl_payloads.specs.declared.payload.Payload.TheVariants as payload
use Rattle.fidl_payloads.specs.Kinds.{IsPayload}
use Rattle.fidl_payloads.specs.Results.{IsFirstResult}
use Rattle.fidl_payloads.specs.Payloads.{PartIs, result_path, AnswerIs, MethodAnswers, RequestIs, ResponseIs}

one_first : (forms : List Form) (number : ℕ) (path : List Step) (i j : ℕ) → IsFirstResult forms number path i → IsFirstResult forms number path j → i ≡ j
one_first forms number path i j h k = elim (cases_lt i j) [
  | inl lt ↦ absurd (k.first i h.form lt h.at h.is)
  | inr ge ↦ elim (cases_lt j i) [
    | inl lt ↦ absurd (h.first j k.form lt k.at k.is)
    | inr le ↦ omega (arith, ge, le)
  ]
]

module _ (files : List File) (number : ℕ) where
  pub one_number : (t : TypeUse) (i j : ℕ) → IsPayload files number t i → IsPayload files number t j → i ≡ j
  one_number t i j h k = let terms : ty.named i ≡ ty.named j = one_term files number t (ty.named i) (ty.named j) h.term k.term in cc

  one_part : (written : Option TypeUse) (p q : Payload) → PartIs files number written p → PartIs files number written q → p ≡ q
  one_part None p q h k = h ∙ sym k
  one_part (Some t) p q h k = h.2 ∙ ap payload.«Type» (one_number t h.0 k.0 h.1 k.1) ∙ sym k.2

  module _ (path : List Step) where
    one_answer : (written : Option TypeUse) (b : Bool) (p q : Payload) → AnswerIs files number path written b p → AnswerIs files number path written b q → p ≡ q
    one_answer written true p q h k = h.2 ∙ ap payload.«Type» (one_first (all_forms files) number path h.0 k.0 h.1 k.1) ∙ sym k.2
    one_answer written false p q h k = one_part written p q h k

    one_method : (strict : Bool) (r : Option Response) (p q : Payload) → MethodAnswers files number path strict r p → MethodAnswers files number path strict r q → p ≡ q
    one_method strict None p q h k = h ∙ sym k
    one_method strict (Some r) p q h k = one_answer r.payload (has_result strict r.error) p q h k

  pub one_request : (m : ProtocolMember) (p q : Payload) → RequestIs files number m p → RequestIs files number m q → p ≡ q
  one_request (compose_member attributes name) p q h k = h ∙ sym k
  one_request (method_member attributes strict name request response) p q h k = one_part request p q h k
  one_request (event_member attributes strict name written) p q h k = h ∙ sym k

  pub one_response : (protocol : Span) (m : ProtocolMember) (p q : Payload) → ResponseIs files number protocol m p → ResponseIs files number protocol m q → p ≡ q
  one_response protocol (compose_member attributes name) p q h k = h ∙ sym k
  one_response protocol (method_member attributes strict name request response) p q h k = one_method (result_path protocol name) strict response p q h k
  one_response protocol (event_member attributes strict name written) p q h k = one_part written p q h k
