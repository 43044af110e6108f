-- What a refusal says of a whole, from what it says of a part.
use Rattle.std.proofs.Common.{◌≡◌, ℕ, List, Some, subst, sym}
use Rattle.std.specs.Prelude.{slice_get}
use Rattle.std.specs.List.{Contains}
use Rattle.fidl_span.specs.declared.words.Span.{Span}
use Rattle.fidl_tree.specs.declared.file.File.{File}
use Rattle.fidl_tree.specs.declared.declaration.Declaration.{Declaration}
use Rattle.fidl_tree.specs.Views.{type_view}
use Rattle.fidl_tree.specs.declared.declaration.Property.{Property}
use Rattle.fidl_named.specs.declared.place.Place.{Place}
use Rattle.fidl_consts.specs.Refusals.{type_span}
use Rattle.fidl_resource_rules.specs.declared.fault.ResourceFault.{ResourceFault}
use Rattle.fidl_resource_rules.specs.declared.fault.ResourceFault.TheVariants.{BadConstraint, Memory}
use Rattle.fidl_resource_rules.specs.Resources.{PropertyHolds, PropertyBreaks, BodyBreaks, OneBreaks, BreaksAt, IsReport, IsReportIn}

module _ (P Q : Place → Type 0) (wider : (place : Place) → P place → Q place) where
  report_more : (fault : ResourceFault) → IsReport P fault → IsReport Q fault
  report_more (BadConstraint place) h = wider place h
  report_more Memory h = tt

module _ (number : ℕ) (P Q : Span → Type 0) (wider : (span : Span) → P span → Q span) where
  -- the same in the file of this number
  pub report_in : (fault : ResourceFault) → IsReportIn number P fault → IsReportIn number Q fault
  report_in = report_more (λ place. (place.file ≡ number) × P place.span) (λ place. (place.file ≡ number) × Q place.span) (λ place h. (h.0, wider place.span h.1))

module _ (files : List File) (number : ℕ) (f : File) where
  -- of one of several properties
  pub report_property : (ps : List Property) (p : Property) → Contains ps p → (fault : ResourceFault)
      → IsReportIn number (λ span. (PropertyHolds files number f p → ⊥) × (span ≡ type_span (type_view p.constructor))) fault → IsReportIn number (PropertyBreaks files number f ps) fault
  report_property ps p among = report_in number (λ span. (PropertyHolds files number f p → ⊥) × (span ≡ type_span (type_view p.constructor))) (PropertyBreaks files number f ps)
      (λ span h. record { one = p; among = among; wrong = h.0; place = h.1 })

  -- of one of several declarations
  pub report_one : (ds : List Declaration) (d : Declaration) → Contains ds d → (fault : ResourceFault) → IsReportIn number (BodyBreaks files number f d.body) fault → IsReportIn number (OneBreaks files number f ds) fault
  report_one ds d among = report_in number (BodyBreaks files number f d.body) (OneBreaks files number f ds) (λ span h. record { one = d; among = among; breaks = h })

  -- of a file of several
  pub report_file : slice_get files number ≡ Some f → (fault : ResourceFault) → IsReportIn number (OneBreaks files number f f.declarations.items) fault → IsReport (BreaksAt files) fault
  report_file at = report_more (λ place. (place.file ≡ number) × OneBreaks files number f f.declarations.items place.span) (BreaksAt files) (λ place h. record {
    f = f;
    file_at = subst (λ (n : ℕ). slice_get files n ≡ Some f) (sym h.0) at;
    breaks = subst (λ (n : ℕ). OneBreaks files n f f.declarations.items place.span) (sym h.0) h.1;
  })
