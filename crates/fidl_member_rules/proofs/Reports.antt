-- What a refusal says of a whole, from what it says of a part.
use Rattle.std.proofs.Common.{◌≡◌, ℕ, List, Some, subst, sym}
use Rattle.std.specs.Prelude.{slice_get}
use Rattle.std.specs.List.{Contains}
use Rattle.fidl_span.specs.declared.words.Span.{Span}
use Rattle.fidl_tree.specs.Syntax.{Layout, File}
use Rattle.fidl_named.specs.declared.place.Place.{Place}
use Rattle.fidl_member_rules.specs.declared.fault.RuleFault.{RuleFault}
use Rattle.fidl_member_rules.specs.declared.fault.RuleFault.TheVariants.{BadOrdinal, DuplicateOrdinal, EmptyStrict, OutOfProfile, Memory}
use Rattle.fidl_member_rules.specs.Ordinals.{layout_ordinals, last_ordinal}
use Rattle.fidl_member_rules.specs.Rules.{Rule, ordinal_rule, duplicate_rule, members_rule, profile_rule, OrdinalsBreak, LayoutBreaks, OneBreaks, FileBreaks, BreaksAt, IsReport, IsReportIn}

module _ (P Q : Rule → Place → Type 0) (wider : (rule : Rule) (place : Place) → P rule place → Q rule place) where
  pub report_more : (fault : RuleFault) → IsReport P fault → IsReport Q fault
  report_more (BadOrdinal place) h = wider ordinal_rule place h
  report_more (DuplicateOrdinal place) h = wider duplicate_rule place h
  report_more (EmptyStrict place) h = wider members_rule place h
  report_more (OutOfProfile place) h = wider profile_rule place h
  report_more Memory h = tt

module _ (number : ℕ) (P Q : Rule → Span → Type 0) (wider : (rule : Rule) (span : Span) → P rule span → Q rule span) where
  -- the same in the file of this number
  pub report_in : (fault : RuleFault) → IsReportIn number P fault → IsReportIn number Q fault
  report_in = report_more (λ rule place. (place.file ≡ number) × P rule place.span) (λ rule place. (place.file ≡ number) × Q rule place.span) (λ rule place h. (h.0, wider rule place.span h.1))

-- of one of several things
pub report_one : {X : Type 0} (Breaks : X → Rule → Span → Type 0) (xs : List X) (x : X) → Contains xs x → (number : ℕ) (fault : RuleFault) → IsReportIn number (Breaks x) fault → IsReportIn number (OneBreaks Breaks xs) fault
report_one Breaks xs x among number = report_in number (Breaks x) (OneBreaks Breaks xs) (λ rule span h. record { one = x; among = among; breaks = h })

-- of the ordinals of a layout
pub report_ordinals : (src : List ℕ) (l : Layout) (number : ℕ) (fault : RuleFault) → IsReportIn number (OrdinalsBreak src (last_ordinal l) (layout_ordinals l)) fault → IsReportIn number (LayoutBreaks src l) fault
report_ordinals src l number = report_in number (OrdinalsBreak src (last_ordinal l) (layout_ordinals l)) (LayoutBreaks src l) wider
  where
    wider : (rule : Rule) (span : Span) → OrdinalsBreak src (last_ordinal l) (layout_ordinals l) rule span → LayoutBreaks src l rule span
    wider ordinal_rule span h = h
    wider duplicate_rule span h = h
    wider members_rule span h = absurd h
    wider profile_rule span h = absurd h

-- of a file of several
pub report_file : (files : List File) (number : ℕ) (f : File) → slice_get files number ≡ Some f → (fault : RuleFault) → IsReportIn number (FileBreaks f) fault → IsReport (BreaksAt files) fault
report_file files number f at = report_more (λ rule place. (place.file ≡ number) × FileBreaks f rule place.span) (BreaksAt files) (λ rule place h. record {
  f = f;
  file_at = subst (λ n. slice_get files n ≡ Some f) (sym h.0) at;
  breaks = h.1;
})
