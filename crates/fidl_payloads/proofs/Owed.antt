-- The types written as payloads of a member, of which each owes the same.
use Rattle.std.proofs.Common.{◌≡◌, ℕ, Bool, true, false, List, [], ◌∷◌, ◌++◌, Option, Some, None, refl, sym, subst}
use Rattle.std.specs.List.{Contains}
use Rattle.std.proofs.lemmas.List.Elements.{Contains-append_left, Contains-append_right}
use Rattle.fidl_span.specs.declared.words.Span.{Span}
use Rattle.fidl_tree.specs.Syntax.{TypeUse, Response}
use Rattle.fidl_tree.specs.declared.file.File.{File}
use Rattle.fidl_consts.proofs.Among.{among_first}
use Rattle.fidl_consts.specs.Refusals.{type_span}
use Rattle.fidl_declarations.specs.declared.step.Step.{Step}
use Rattle.fidl_declarations.specs.Sites.{has_result}
use Rattle.fidl_payloads.specs.declared.fault.PayloadFault.{PayloadFault}
use Rattle.fidl_payloads.specs.declared.fault.PayloadFault.TheVariants.{BadPayload, Memory}
use Rattle.fidl_payloads.specs.declared.payload.Payload.{Payload}
use Rattle.fidl_payloads.specs.declared.payload.Payload.TheVariants as payload
use Rattle.fidl_payloads.specs.Kinds.{IsPayload}
use Rattle.fidl_payloads.specs.Results.{IsResultNumber}
use Rattle.fidl_payloads.specs.Payloads.{PartIs, AnswerIs, MethodAnswers}
use Rattle.fidl_payloads.specs.Members.{part_types, TypesHold, TypesBreak, IsReportIn}

module _ (files : List File) (number : ℕ) where
  -- what a message carries may be a payload
  pub part_holds : (o : Option TypeUse) (p : Payload) → PartIs files number o p → TypesHold files number (part_types o)
  part_holds None p h = tt
  part_holds (Some t) p h = ((h.0, h.1), tt)

  pub hold_both : (ts us : List TypeUse) → TypesHold files number ts → TypesHold files number us → TypesHold files number (ts ++ us)
  hold_both [] us h k = k
  hold_both (t ∷ ts) us h k = (h.0, hold_both ts us h.1 k)

  pub alone_breaks : (t : TypeUse) (span : Span) → span ≡ type_span t → ((i : ℕ) → IsPayload files number t i → ⊥) → TypesBreak files number (t ∷ []) span
  alone_breaks t span there wrong = record { one = t; among = among_first t []; wrong = wrong; place = there }

  report_more : (ts us : List TypeUse) → ((t : TypeUse) → Contains ts t → Contains us t) → (fault : PayloadFault) → IsReportIn number (TypesBreak files number ts) fault → IsReportIn number (TypesBreak files number us) fault
  report_more ts us within (BadPayload place) h = (h.0, record { one = h.1.one; among = within h.1.one h.1.among; wrong = h.1.wrong; place = h.1.place })
  report_more ts us within Memory h = tt

  -- what a refusal says of one of two lists
  pub report_left : (ts us : List TypeUse) (fault : PayloadFault) → IsReportIn number (TypesBreak files number ts) fault → IsReportIn number (TypesBreak files number (ts ++ us)) fault
  report_left ts us = report_more ts (ts ++ us) (λ t h. Contains-append_left ts us t h)

  pub report_right : (ts us : List TypeUse) (fault : PayloadFault) → IsReportIn number (TypesBreak files number us) fault → IsReportIn number (TypesBreak files number (ts ++ us)) fault
  report_right ts us = report_more us (ts ++ us) (λ t h. Contains-append_right ts us t h)

  -- what a two-way method answers
  module _ (path : List Step) (strict : Bool) (r : Response) where
    pub answers_part : has_result strict r.error ≡ false → (p : Payload) → PartIs files number r.payload p → MethodAnswers files number path strict (Some r) p
    answers_part has p h = subst (λ (b : Bool). AnswerIs files number path r.payload b p) (sym has) h

    pub answers_result : has_result strict r.error ≡ true → (i : ℕ) → IsResultNumber files number path i → MethodAnswers files number path strict (Some r) (payload.«Type» i)
    answers_result has i h = subst (λ (b : Bool). AnswerIs files number path r.payload b (payload.«Type» i)) (sym has) (i, h, refl)
