-- What the messages of a member of a protocol carry (docs/language.md, "Payloads").
use Rattle.std.specs.Prelude.{ℕ, ◌≡◌, Bool, true, false, List, [], ◌∷◌, Option, Some, None}
use Rattle.fidl_span.specs.declared.words.Span.{Span}
use Rattle.fidl_tree.specs.Syntax.{TypeUse, Response}
use Rattle.fidl_tree.specs.Syntax.{ProtocolMember, compose_member, method_member, event_member}
use Rattle.fidl_tree.specs.declared.file.File.{File}
use Rattle.fidl_declarations.specs.declared.step.Step.{Step}
use Rattle.fidl_declarations.specs.declared.step.Step.TheVariants as step
use Rattle.fidl_declarations.specs.Sites.{has_result}
use Rattle.fidl_payloads.specs.declared.payload.Payload.{Payload}
use Rattle.fidl_payloads.specs.declared.payload.Payload.TheVariants.{Missing, Empty}
use Rattle.fidl_payloads.specs.declared.payload.Payload.TheVariants as payload
use Rattle.fidl_payloads.specs.Kinds.{IsPayload}
use Rattle.fidl_payloads.specs.Results.{IsResultNumber}

-- a message carries what is written in parentheses: nothing, or the definition of a type
abbrev pub PartIs : List File → (number : ℕ) → (written : Option TypeUse) → Payload → Type 0
PartIs files number None p = p ≡ Empty
PartIs files number (Some t) p = (i : ℕ) × IsPayload files number t i × (p ≡ payload.«Type» i)

-- the path of the result of a method
abbrev pub result_path : (protocol method : Span) → List Step
result_path protocol method = step.Name protocol ∷ step.Name method ∷ step.Result ∷ []

-- it carries the result at this path where the method has one, and else what is written
abbrev pub AnswerIs : List File → (number : ℕ) → (path : List Step)
    → (written : Option TypeUse) → (has_result : Bool) → Payload → Type 0
AnswerIs files number path written true p =
    (i : ℕ) × IsResultNumber files number path i × (p ≡ payload.«Type» i)
AnswerIs files number path written false p = PartIs files number written p

-- the response of a method whose result has this path; a one-way method has none
abbrev pub MethodAnswers : List File → (number : ℕ) → (path : List Step) → (strict : Bool)
    → Option Response → Payload → Type 0
MethodAnswers files number path strict None p = p ≡ Missing
MethodAnswers files number path strict (Some r) p =
    AnswerIs files number path r.payload (has_result strict r.error) p

-- the request of a member of a protocol in the file of this number; an event has none
abbrev pub RequestIs : List File → (number : ℕ) → ProtocolMember → Payload → Type 0
RequestIs files number (compose_member attributes name) p = p ≡ Missing
RequestIs files number (method_member attributes strict name request response) p =
    PartIs files number request p
RequestIs files number (event_member attributes strict name written) p = p ≡ Missing

-- the response of a member of the protocol of this name, and the payload of an event
abbrev pub ResponseIs : List File → (number : ℕ) → (protocol : Span) → ProtocolMember → Payload
    → Type 0
ResponseIs files number protocol (compose_member attributes name) p = p ≡ Missing
ResponseIs files number protocol (method_member attributes strict name request response) p =
    MethodAnswers files number (result_path protocol name) strict response p
ResponseIs files number protocol (event_member attributes strict name written) p =
    PartIs files number written p
