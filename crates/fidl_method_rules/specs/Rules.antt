-- When the members of a protocol are proper, and what each refusal says (docs/language.md,
-- "Methods").
use Rattle.std.specs.Prelude.{ℕ, ◌≡◌, ◌≢◌, List, Some}
use Rattle.std.specs.List.{Contains, AllByRecursion}
use Rattle.fidl_span.specs.declared.words.Span.{Span}
use Rattle.fidl_tree.specs.Syntax.{File, Openness, ProtocolMember}
use Rattle.fidl_named.specs.declared.place.Place.{Place}
use Rattle.fidl_method_rules.specs.declared.fault.MethodFault.{MethodFault}
use Rattle.fidl_method_rules.specs.declared.fault.MethodFault.TheVariants.{NotStrict, BadSelector}
use Rattle.fidl_method_rules.specs.declared.fault.MethodFault.TheVariants.{ZeroOrdinal, Memory}
use Rattle.fidl_method_rules.specs.Selectors.{SelectorsBreak}
use Rattle.fidl_method_rules.specs.Methods.{Method, method_of, MayStand, OrdinalIs}

-- What protocols owe.

-- a method may stand in a protocol of this openness and name, and has an ordinal that is not 0
pub record MethodHolds (f : File) (openness : Openness) (protocol : Span) (m : Method) : Type 0
  where
    pub stands : MayStand openness m
    pub number : ℕ
    pub ordinal : OrdinalIs f protocol m number
    pub other : number ≢ 0

-- so does a member, where it is one; a composition owes nothing here
abbrev pub MemberHolds : File → Openness → (protocol : Span) → ProtocolMember → Type 0
MemberHolds f openness protocol member =
    (m : Method) → method_of member ≡ Some m → MethodHolds f openness protocol m

-- all members of a protocol
abbrev pub ProtocolHolds : File → Openness → (protocol : Span) → List ProtocolMember → Type 0
ProtocolHolds f openness protocol members =
    AllByRecursion (MemberHolds f openness protocol) members

-- What refusals say.

pub data Rule : Type 0 where
  strict_rule : Rule
  selector_rule : Rule
  ordinal_rule : Rule

-- a method breaks a rule at this span: its name, or that of a selector
abbrev pub MethodBreaks : File → Openness → (protocol : Span) → Method → Rule → Span → Type 0
MethodBreaks f openness protocol m strict_rule span =
    (MayStand openness m → ⊥) × (span ≡ m.name)
MethodBreaks f openness protocol m selector_rule span =
    SelectorsBreak f.source m.attributes span
MethodBreaks f openness protocol m ordinal_rule span =
    OrdinalIs f protocol m 0 × (span ≡ m.name)

-- a member does
pub record MemberBreaks (f : File) (openness : Openness) (protocol : Span)
    (member : ProtocolMember) (rule : Rule) (span : Span) : Type 0 where
  pub method : Method
  pub is : method_of member ≡ Some method
  pub breaks : MethodBreaks f openness protocol method rule span

-- one of the members of a protocol does
pub record ProtocolBreaks (f : File) (openness : Openness) (protocol : Span)
    (members : List ProtocolMember) (rule : Rule) (span : Span) : Type 0 where
  pub one : ProtocolMember
  pub among : Contains members one
  pub breaks : MemberBreaks f openness protocol one rule span

-- what a refusal says, by what it is to break a rule at a place; nothing where memory ran out
abbrev pub IsReport : (Breaks : Rule → Place → Type 0) → MethodFault → Type 0
IsReport Breaks (NotStrict place) = Breaks strict_rule place
IsReport Breaks (BadSelector place) = Breaks selector_rule place
IsReport Breaks (ZeroOrdinal place) = Breaks ordinal_rule place
IsReport Breaks Memory = Unit {0}

-- of a part of the file of this number
abbrev pub IsReportIn : (number : ℕ) → (Breaks : Rule → Span → Type 0) → MethodFault → Type 0
IsReportIn number Breaks =
    IsReport (λ rule place. (place.file ≡ number) × Breaks rule place.span)
