-- What a refusal says of a whole, from what it says of a part.
use Rattle.std.proofs.Common.{◌≡◌, ℕ, List, Some}
use Rattle.std.specs.List.{Contains}
use Rattle.fidl_span.specs.declared.words.Span.{Span}
use Rattle.fidl_tree.specs.Syntax.{File, Openness, ProtocolMember}
use Rattle.fidl_method_rules.specs.declared.fault.MethodFault.{MethodFault}
use Rattle.fidl_method_rules.specs.declared.fault.MethodFault.TheVariants.{NotStrict, BadSelector, ZeroOrdinal, Memory}
use Rattle.fidl_method_rules.specs.Methods.{Method, method_of}
use Rattle.fidl_method_rules.specs.Rules.{Rule, strict_rule, selector_rule, ordinal_rule, MethodBreaks, MemberBreaks, ProtocolBreaks, IsReportIn}

module _ (number : ℕ) (P Q : Rule → Span → Type 0) (wider : (rule : Rule) (span : Span) → P rule span → Q rule span) where
  pub report_in : (fault : MethodFault) → IsReportIn number P fault → IsReportIn number Q fault
  report_in (NotStrict place) h = (h.0, wider strict_rule place.span h.1)
  report_in (BadSelector place) h = (h.0, wider selector_rule place.span h.1)
  report_in (ZeroOrdinal place) h = (h.0, wider ordinal_rule place.span h.1)
  report_in Memory h = tt

module _ (number : ℕ) (f : File) (openness : Openness) (protocol : Span) where
  -- of the method that a member is
  pub report_method : (member : ProtocolMember) (m : Method) → method_of member ≡ Some m → (fault : MethodFault) → IsReportIn number (MethodBreaks f openness protocol m) fault → IsReportIn number (MemberBreaks f openness protocol member) fault
  report_method member m is = report_in number (MethodBreaks f openness protocol m) (MemberBreaks f openness protocol member) (λ rule span h. record { method = m; is = is; breaks = h })

  -- of one of several members
  pub report_member : (members : List ProtocolMember) (member : ProtocolMember) → Contains members member → (fault : MethodFault) → IsReportIn number (MemberBreaks f openness protocol member) fault → IsReportIn number (ProtocolBreaks f openness protocol members) fault
  report_member members member among = report_in number (MemberBreaks f openness protocol member) (ProtocolBreaks f openness protocol members) (λ rule span h. record { one = member; among = among; breaks = h })
