-- Files of which a refusal is true break a rule of protocols.
use Rattle.std.proofs.Common.{◌≡◌, ℕ, List, refl, subst, inl, inr, arith}
use Rattle.std.specs.Prelude.{◌≢◌}
use Rattle.std.specs.List.{Contains}
use Rattle.std.proofs.lemmas.List.Elements.{All-contains, All-from_recursion}
use Rattle.fidl_tree.specs.Views.{file_view}
use Rattle.fidl_tree.specs.declared.file.File.{File}
use Rattle.fidl_named.specs.declared.place.Place.{Place}
use Rattle.fidl_wire.specs.Term.{Term}
use Rattle.fidl_lower_layouts.specs.Definitions.{DefinitionsAre}
use Rattle.fidl_lower_layouts.proofs.One.{one_definitions}
use Rattle.fidl_reachable_types.specs.Reached.{IsReached, root, part}
use Rattle.fidl_reachable_types.proofs.Members.{at_most}
use Rattle.fidl_composition.specs.declared.fault.ComposeFault.TheVariants as compose
use Rattle.fidl_composition.proofs.Excluded.{refused_not as compositions_not}
use Rattle.fidl_method_rules.specs.Rules.{Rule, strict_rule, selector_rule, ordinal_rule}
use Rattle.fidl_method_rules.proofs.Excluded.{protocol_excluded}
use Rattle.fidl_payloads.specs.Members.{MemberHolds}
use Rattle.fidl_payloads.proofs.Excluded.{member_not}
use Rattle.fidl_protocol.specs.declared.fault.ProtocolFault.{ProtocolFault}
use Rattle.fidl_protocol.specs.declared.fault.ProtocolFault.TheVariants.{NotStrict, BadCompose, DuplicateMethod, DuplicateMethodOrdinal, ZeroOrdinal, BadPayload, ComposeCycle, BadSelector, TooManyTypes, Memory}
use Rattle.fidl_protocol.specs.Methods.{HaveOneName}
use Rattle.fidl_protocol.specs.Starts.{AreStarts, StartsFit}
use Rattle.fidl_protocol.specs.Checked.{ProtocolsHold}
use Rattle.fidl_protocol.specs.Faults.{MethodBreaksAt, PayloadBreaksAt, TwoAreAlike, HaveOneOrdinal, TypesAreTooMany, IsTrueOfProtocols}

-- what starts reach is reached from more
more_starts : (terms : List Term) (starts others : List ℕ) → ((i : ℕ) → Contains starts i → Contains others i) → (t : Term) → IsReached terms starts t → IsReached terms others t
more_starts terms starts others more t (root i h) = root i (more i h)
more_starts terms starts others more u (part t v h k) = part t v (more_starts terms starts others more t h) k

module _ (files : List File) (holds : ProtocolsHold files) where
  no_method : (rule : Rule) (place : Place) → MethodBreaksAt files rule place → ⊥
  no_method rule place h = protocol_excluded (file_view h.file) h.name h.openness h.members rule place.span h.breaks ((holds.members h.id).methods h.file h.openness h.name h.members h.at)

  no_payload : (place : Place) → PayloadBreaksAt files place → ⊥
  no_payload place h =
      let all = (holds.members h.id).payloads h.file h.openness h.name h.members h.at in
      member_not files h.id.file h.member place.span h.breaks (All-contains (MemberHolds files h.id.file) h.members h.member (All-from_recursion (MemberHolds files h.id.file) h.members all) h.among)

  no_name : (place : Place) → TwoAreAlike files (HaveOneName files) place → ⊥
  no_name place h = h.differ ((holds.methods h.protocol).names h.one h.other h.has_one h.has_other h.alike)

  no_ordinal : (place : Place) → TwoAreAlike files HaveOneOrdinal place → ⊥
  no_ordinal place h = h.differ ((holds.methods h.protocol).ordinals h.one h.other h.has_one h.has_other h.alike)

  same_starts : (one other : List ℕ) → AreStarts files one → AreStarts files other → (i : ℕ) → Contains one i → Contains other i
  same_starts one other a b i c = elim (a.sound i c) [ inl r ↦ b.roots i r | inr p ↦ b.payloads i p ]

  module _ (terms : List Term) (definitions : DefinitionsAre files terms) (fit : StartsFit files terms) where
    no_types : (place : Place) → TypesAreTooMany files place → ⊥
    no_types place h =
        let same : h.terms ≡ terms = one_definitions files h.terms terms h.definitions definitions in
        let sound : (u : Term) → Contains h.many.types u → IsReached terms fit.starts u = λ u k. more_starts terms h.starts fit.starts (same_starts h.starts fit.starts h.are fit.are) u (subst (λ us. IsReached us h.starts u) same (h.many.sound u k)) in
        let fewer = at_most h.many.types fit.types h.many.distinct (λ u k. fit.reached.complete u (sound u k)) in
        let many = h.many.many in
        let few = fit.few in
        omega (arith, fewer, many, few)

    pub refused_not : (fault : ProtocolFault) → fault ≢ Memory → IsTrueOfProtocols files fault → ⊥
    refused_not (NotStrict place) other h = no_method strict_rule place h
    refused_not (BadCompose place) other h = compositions_not files (compose.BadCompose place) (λ e. cc) h holds.compositions
    refused_not (DuplicateMethod place) other h = no_name place h
    refused_not (DuplicateMethodOrdinal place) other h = no_ordinal place h
    refused_not (ZeroOrdinal place) other h = no_method ordinal_rule place h
    refused_not (BadPayload place) other h = no_payload place h
    refused_not (ComposeCycle place) other h = compositions_not files (compose.ComposeCycle place) (λ e. cc) h holds.compositions
    refused_not (BadSelector place) other h = no_method selector_rule place h
    refused_not (TooManyTypes place) other h = no_types place h
    refused_not Memory other h = other refl
