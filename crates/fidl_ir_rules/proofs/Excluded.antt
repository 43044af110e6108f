-- Definitions of which a refusal is true don't keep both rules.
use Rattle.std.proofs.Common.{◌≡◌, ◌∙◌, ℕ, List, get_or, false, true≢false, refl, sym, subst}
use Rattle.std.specs.Prelude.{◌≢◌}
use Rattle.std.proofs.lemmas.List.Elements.{All-from_recursion}
use Rattle.std.proofs.lemmas.Option.{slice_get_within, get_or_from_slice_get}
use Rattle.fidl_wire.specs.Term.{Term, nothing}
use Rattle.fidl_ir.specs.Members.{member_types}
use Rattle.fidl_ir_rules.specs.declared.fault.DefinitionFault.{DefinitionFault}
use Rattle.fidl_ir_rules.specs.declared.fault.DefinitionFault.TheVariants.{NotResource, InlineCycle, Memory}
use Rattle.fidl_ir_rules.specs.declared.mark.Mark.{Mark}
use Rattle.fidl_ir_rules.specs.declared.mark.Mark.TheVariants.{Value}
use Rattle.fidl_ir_rules.specs.Resources.{bears, is_resource, MembersHold, AllResourcesMarked, HoldsResource}
use Rattle.fidl_ir_rules.specs.Faults.{IsTrueOf, RulesHold}
use Rattle.fidl_ir_rules.proofs.Targets.{stands_in_itself}

-- definitions of which all that isn't marked holds no resource
pub holds_not : (terms : List Term) (marks : List Mark) (i m : ℕ) → AllResourcesMarked terms marks → HoldsResource terms marks (is_resource terms marks) i m → ⊥
holds_not terms marks i m marked h =
    let R = is_resource terms marks in
    let P = λ (t : Term). bears R t ≡ false in
    let types = member_types h.definition in
    let of_value = subst (λ (k : Mark). MembersHold R k (get_or terms i nothing)) h.unmarked (marked i) in
    let of_its = subst (λ (d : Term). MembersHold R Value d) (get_or_from_slice_get terms i h.definition nothing h.stands) of_value in
    let its = All-from_recursion P types of_its m h.member (slice_get_within types m h.member h.among) in
    let none = subst P (get_or_from_slice_get types m h.member h.member h.among) its in
    true≢false (sym h.resource ∙ none)

pub refused_not : (terms : List Term) (marks : List Mark) (fault : DefinitionFault) → fault ≢ Memory → IsTrueOf terms marks fault → RulesHold terms marks → ⊥
refused_not terms marks (NotResource i m) other h holds = holds_not terms marks i m holds.marked h
refused_not terms marks (InlineCycle i) other h holds = holds.apart i (stands_in_itself terms i h)
refused_not terms marks Memory other h holds = other refl
