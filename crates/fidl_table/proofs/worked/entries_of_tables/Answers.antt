use Rattle.std.proofs.Common.{◌≡◌, ◌∙◌, ℕ, List, [], ◌∷◌, ◌++◌, flat_map, map, length, refl, ap, subst, arith}
use Rattle.std.proofs.lemmas.Option.{none-some}
use Rattle.fidl_wire.specs.Term.{Term}
use Rattle.fidl_wire.specs.Term as ty
use Rattle.fidl_reachable_types.specs.Reached.{held, IsReached, AreReached, parts_of}
use Rattle.fidl_composition.proofs.Lists.{here}
use Rattle.fidl_protocol.specs.declared.method.Protocol.{Protocol}
use Rattle.fidl_protocol.specs.Gathered.{protocol_payloads}
use Rattle.fidl_table_build.proofs.Small.{none_reached, reach_none, first_joined}
use Rattle.fidl_table.proofs.worked.entries_of_tables.Goals as goal

pub returns-clause-none : goal.returns-clause-none
returns-clause-none c = λ ds. record {
  roots = [];
  roots_are = record { count = refl; each = λ root definition at. absurd (none-some definition at) };
  protocols = [];
  protocols_are = record { count = refl; each = λ number p at. absurd (none-some p at) };
  types = [];
  reached = reach_none ds.terms;
  entries = record { count = refl; levels = λ number t at. absurd (none-some t at) };
}

pub returns-clause-first_root_first : goal.returns-clause-first_root_first
returns-clause-first_root_first c = λ files ds library bytes i others e roots.
    let payloads : List ℕ = flat_map protocol_payloads e.protocols in
    let rest : List Term = map ty.named (others ++ payloads) ++ flat_map (held ds.terms) e.types in
    first_joined (ty.named i) rest (parts_of ds.terms (e.roots ++ payloads) e.types) e.types (ap (λ (r : List ℕ). parts_of ds.terms (r ++ payloads) e.types) roots) e.reached.order

empty : {X : Type 0} (xs : List X) → 0 ≡ length xs → xs ≡ []
empty [] is = refl
empty (x ∷ xs) is = absurd (omega (arith, is))

-- without starts there are no types
no_types : (terms : List Term) (starts : List ℕ) (types : List Term) → starts ≡ [] → AreReached terms starts types → 1 ≡ length types → ⊥
no_types terms starts [] none r one = omega (arith, one)
no_types terms starts (t ∷ types) none r one = none_reached terms t (subst (λ (l : List ℕ). IsReached terms l t) none (r.sound t (here t types)))

pub returns-clause-more_entries : goal.returns-clause-more_entries
returns-clause-more_entries c = λ files ds library e.
    let roots : e.roots ≡ [] = empty e.roots e.roots_are.count in
    let protocols : e.protocols ≡ [] = empty e.protocols e.protocols_are.count in
    let starts : e.roots ++ flat_map protocol_payloads e.protocols ≡ [] = ap (λ (l : List ℕ). l ++ flat_map protocol_payloads e.protocols) roots ∙ ap (λ (ps : List Protocol). flat_map protocol_payloads ps) protocols in
    no_types ds.terms (e.roots ++ flat_map protocol_payloads e.protocols) e.types starts e.reached e.entries.count
