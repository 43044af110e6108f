-- Files of which a refusal is true have a type that breaks a rule.
use Rattle.std.proofs.Common.{◌≡◌, ◌∙◌, ℕ, false, true≢false, List, refl, sym, subst}
use Rattle.std.specs.Prelude.{◌≢◌}
use Rattle.std.proofs.lemmas.List.Elements.{All-from_recursion}
use Rattle.fidl_span.specs.declared.words.Span.{Span}
use Rattle.fidl_tree.specs.Syntax.{TypeUse}
use Rattle.fidl_tree.specs.Views.{file_view}
use Rattle.fidl_tree.specs.declared.file.File.{File}
use Rattle.fidl_named.specs.declared.place.Place.{Place}
use Rattle.fidl_constraints.specs.Behind.{Core}
use Rattle.fidl_constraints.specs.declared.parts.Part.{Part}
use Rattle.fidl_constraints.proofs.OneGathered.{one_gathered}
use Rattle.fidl_declarations.specs.Sites.{Role, Site, type_site, layout_site, result_site, empty_response_site, attributes_site, file_sites}
use Rattle.fidl_type_rules.specs.declared.fault.UseFault.{UseFault}
use Rattle.fidl_type_rules.specs.declared.fault.UseFault.TheVariants.{BadConstraint, BadBox, OptionalMember, OutOfProfile, Memory}
use Rattle.fidl_type_rules.specs.Places.{presence_suits}
use Rattle.fidl_type_rules.specs.Uses.{UseHolds, SiteHolds, UsesHold, Rule, constraint_rule, box_rule, member_rule, profile_rule, IsOptionalMember, UseBreaks, SiteBreaks, BreaksAt, IsTrueOfUses}
use Rattle.fidl_type_rules.proofs.Named.{left_out_not, boxes_not}

module _ (files : List File) (number : ℕ) (role : Role) (t : TypeUse) where
  optional_not : IsOptionalMember files number role t → UseHolds files number role t → ⊥
  optional_not h holds =
      let same = one_gathered files number t h.core holds.core h.parts holds.parts h.gathered holds.proper.gathered in
      let absent = subst (λ (c : Core). presence_suits role c.head h.parts ≡ false) same.0 h.absent in
      let there = subst (λ (ps : List Part). presence_suits role holds.core.head ps ≡ false) same.1 absent in
      true≢false (sym holds.present ∙ there)

  use_not : (rule : Rule) (span : Span) → UseBreaks files number role t rule span → UseHolds files number role t → ⊥
  use_not constraint_rule span h holds = h.0.improper holds.core holds.parts holds.proper
  use_not box_rule span h holds = boxes_not files number t holds.proper.term holds.proper.term_is h.content h.boxes
  use_not member_rule span h holds = optional_not h.0 holds
  use_not profile_rule span h holds = left_out_not files number t holds.proper.term holds.proper.term_is h.0

site_not : (files : List File) (number : ℕ) (site : Site) (rule : Rule) (span : Span) → SiteBreaks files number site rule span → SiteHolds files number site → ⊥
site_not files number (type_site role t) rule span h holds = use_not files number role t rule span h.1 (holds h.0)
site_not files number (layout_site path l) rule span h holds = absurd h
site_not files number (result_site path strict r) rule span h holds = absurd h
site_not files number (empty_response_site path) rule span h holds = absurd h
site_not files number (attributes_site attributes) rule span h holds = absurd h

files_not : (files : List File) (rule : Rule) (place : Place) → BreaksAt files rule place → UsesHold files → ⊥
files_not files rule place h holds =
    let sites = file_sites (file_view h.f) in
    let P = SiteHolds files place.file in
    let b = h.breaks in
    let its : P b.one = subst P b.among.2 (All-from_recursion P sites (holds place.file h.f h.file_at) b.among.0 b.one b.among.1) in
    site_not files place.file b.one rule place.span b.breaks its

pub refused_not : (files : List File) (fault : UseFault) → fault ≢ Memory → IsTrueOfUses files fault → UsesHold files → ⊥
refused_not files (BadConstraint place) other h holds = files_not files constraint_rule place h holds
refused_not files (BadBox place) other h holds = files_not files box_rule place h holds
refused_not files (OptionalMember place) other h holds = files_not files member_rule place h holds
refused_not files (OutOfProfile place) other h holds = files_not files profile_rule place h holds
refused_not files Memory other h holds = other refl
