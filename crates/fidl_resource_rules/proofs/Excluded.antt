-- Files of which a refusal is true have a resource definition that is not proper.
use Rattle.std.proofs.Common.{ℕ, List, refl, subst}
use Rattle.std.specs.Prelude.{◌≢◌}
use Rattle.std.proofs.lemmas.List.Elements.{All-from_recursion}
use Rattle.fidl_span.specs.declared.words.Span.{Span}
use Rattle.fidl_tree.specs.declared.file.File.{File}
use Rattle.fidl_tree.specs.declared.declaration.DeclarationBody.{DeclarationBody}
use Rattle.fidl_tree.specs.declared.declaration.DeclarationBody.TheVariants as body
use Rattle.fidl_tree.specs.declared.declaration.ResourceDefinition.{ResourceDefinition}
use Rattle.fidl_named.specs.declared.place.Place.{Place}
use Rattle.fidl_resource_rules.specs.declared.fault.ResourceFault.{ResourceFault}
use Rattle.fidl_resource_rules.specs.declared.fault.ResourceFault.TheVariants.{BadConstraint, Memory}
use Rattle.fidl_resource_rules.specs.Resources.{PropertyHolds, ResourceHolds, BodyHolds, DeclarationHolds, ResourcesHold, ResourceBreaks, BodyBreaks, BreaksAt, IsTrueOfResources}

module _ (files : List File) (number : ℕ) (f : File) where
  resource_not : (d : ResourceDefinition) (span : Span) → ResourceBreaks files number f d span → ResourceHolds files number f d → ⊥
  resource_not d span (ResourceBreaks.by_underlying wrong place) holds = wrong holds.uint32
  resource_not d span (ResourceBreaks.by_property b) holds =
      let P = PropertyHolds files number f in
      b.wrong (subst P b.among.2 (All-from_recursion P d.properties.members.items holds.properties b.among.0 b.one b.among.1))
  resource_not d span (ResourceBreaks.by_lack wrong place) holds = wrong holds.subtype

  body_not : (d : DeclarationBody) (span : Span) → BodyBreaks files number f d span → BodyHolds files number f d → ⊥
  body_not (body.Resource d) span h holds = resource_not d span h holds
  body_not (body.Const d) span h holds = absurd h
  body_not (body.Alias d) span h holds = absurd h
  body_not (body.«Type» d) span h holds = absurd h
  body_not (body.Protocol d) span h holds = absurd h
  body_not (body.Service d) span h holds = absurd h

files_not : (files : List File) (place : Place) → BreaksAt files place → ResourcesHold files → ⊥
files_not files place h holds =
    let b = h.breaks in
    let P = DeclarationHolds files place.file h.f in
    let its : P b.one = subst P b.among.2 (All-from_recursion P h.f.declarations.items (holds place.file h.f h.file_at) b.among.0 b.one b.among.1) in
    body_not files place.file h.f b.one.body place.span b.breaks its

pub refused_not : (files : List File) (fault : ResourceFault) → fault ≢ Memory → IsTrueOfResources files fault → ResourcesHold files → ⊥
refused_not files (BadConstraint place) other h holds = files_not files place h holds
refused_not files Memory other h holds = other refl
