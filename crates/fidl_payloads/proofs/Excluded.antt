-- A member of which a refusal is true has a type that may not be a payload.
use Rattle.std.proofs.Common.{ℕ, List, refl, subst}
use Rattle.std.specs.Prelude.{◌≢◌}
use Rattle.std.proofs.lemmas.List.Elements.{All-from_recursion}
use Rattle.fidl_span.specs.declared.words.Span.{Span}
use Rattle.fidl_tree.specs.Syntax.{TypeUse, ProtocolMember}
use Rattle.fidl_tree.specs.declared.file.File.{File}
use Rattle.fidl_payloads.specs.declared.fault.PayloadFault.{PayloadFault}
use Rattle.fidl_payloads.specs.declared.fault.PayloadFault.TheVariants.{BadPayload, Memory}
use Rattle.fidl_payloads.specs.Kinds.{IsPayload}
use Rattle.fidl_payloads.specs.Members.{payload_types, MemberHolds, MemberBreaks, IsReportIn}

module _ (files : List File) (number : ℕ) (m : ProtocolMember) where
  abbrev MayBe : TypeUse → Type 0
  MayBe t = (i : ℕ) × IsPayload files number t i

  pub member_not : (span : Span) → MemberBreaks files number m span → MemberHolds files number m → ⊥
  member_not span b holds =
      let its : MayBe b.one = subst MayBe b.among.2 (All-from_recursion MayBe (payload_types m) holds b.among.0 b.one b.among.1) in
      b.wrong its.0 its.1

  pub refused_not : (fault : PayloadFault) → fault ≢ Memory → IsReportIn number (MemberBreaks files number m) fault → MemberHolds files number m → ⊥
  refused_not (BadPayload place) other h holds = member_not place.span h.1 holds
  refused_not Memory other h holds = other refl
