-- What a refusal says of a whole, from what it says of a part.
use Rattle.std.proofs.Common.{◌≡◌, ℕ, List, Some, subst, sym}
use Rattle.std.specs.Prelude.{slice_get}
use Rattle.std.specs.List.{Contains}
use Rattle.fidl_span.specs.declared.words.Span.{Span}
use Rattle.fidl_tree.specs.declared.file.File.{File}
use Rattle.fidl_named.specs.declared.place.Place.{Place}
use Rattle.fidl_declarations.specs.Sites.{Site}
use Rattle.fidl_member_rules.specs.declared.value_fault.ValuesFault.{ValuesFault}
use Rattle.fidl_member_rules.specs.declared.value_fault.ValuesFault.TheVariants.{DuplicateValue, NotPowerOfTwo, Memory}
use Rattle.fidl_member_rules.specs.ValueRules.{Rule, duplicate_rule, power_rule, SiteBreaks, OneBreaks, FileBreaks, BreaksAt, IsReport, IsReportIn}

module _ (P Q : Rule → Place → Type 0) (wider : (rule : Rule) (place : Place) → P rule place → Q rule place) where
  pub report_more : (fault : ValuesFault) → IsReport P fault → IsReport Q fault
  report_more (DuplicateValue place) h = wider duplicate_rule place h
  report_more (NotPowerOfTwo place) h = wider power_rule place h
  report_more Memory h = tt

module _ (number : ℕ) (P Q : Rule → Span → Type 0) (wider : (rule : Rule) (span : Span) → P rule span → Q rule span) where
  -- the same in the file of this number
  pub report_in : (fault : ValuesFault) → IsReportIn number P fault → IsReportIn number Q fault
  report_in = report_more (λ rule place. (place.file ≡ number) × P rule place.span) (λ rule place. (place.file ≡ number) × Q rule place.span) (λ rule place h. (h.0, wider rule place.span h.1))

-- of one of several sites
pub report_one : (files : List File) (f : File) (sites : List Site) (site : Site) → Contains sites site → (number : ℕ) (fault : ValuesFault) → IsReportIn number (SiteBreaks files f site) fault → IsReportIn number (OneBreaks files f sites) fault
report_one files f sites site among number = report_in number (SiteBreaks files f site) (OneBreaks files f sites) (λ rule span h. record { site = site; among = among; breaks = h })

-- of a file of several
pub report_file : (files : List File) (number : ℕ) (f : File) → slice_get files number ≡ Some f → (fault : ValuesFault) → IsReportIn number (FileBreaks files f) fault → IsReport (BreaksAt files) fault
report_file files number f at = report_more (λ rule place. (place.file ≡ number) × FileBreaks files f rule place.span) (BreaksAt files) (λ rule place h. record {
  f = f;
  file_at = subst (λ n. slice_get files n ≡ Some f) (sym h.0) at;
  breaks = h.1;
})

-- of what breaks a rule at this place of the file of this number
pub report_here : (number : ℕ) (s : Span) (here : Place) → here.file ≡ number → here.span ≡ s → (own : Rule) (P : Type 0) (Q : Rule → Span → Type 0) → (P → Q own s) → (fault : ValuesFault)
    → IsReport (λ rule at. (rule ≡ own) × (at ≡ here) × P) fault → IsReportIn number Q fault
report_here number s here in_file at_span own P Q wider = report_more (λ rule at. (rule ≡ own) × (at ≡ here) × P) (λ rule place. (place.file ≡ number) × Q rule place.span)
    (λ rule place h. subst (λ (p : Place). (p.file ≡ number) × Q rule p.span) (sym h.1) (in_file, subst (λ r. Q r here.span) (sym h.0) (subst (Q own) (sym at_span) (wider h.2))))
