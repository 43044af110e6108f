use Rattle.std.proofs.Common.{◌≡◌, ◌∙◌, ℕ, zero, suc, List, [], ◌∷◌, ◌++◌, flat_map, map, Some, slice_get, get_or, length, codes, refl, ap, sym, subst, arith}
use Rattle.std.proofs.lemmas.Option.{none-some, same_Some}
use Rattle.fidl_wire.specs.Term.{Term, nothing}
use Rattle.fidl_wire.specs.Term as ty
use Rattle.fidl_wire.specs.Figure.{Figure}
use Rattle.fidl_ir.specs.Terms.{definitions_view}
use Rattle.fidl_equivalence.specs.Alike.{Alike, AreNumbered, IsNumbered}
use Rattle.fidl_equivalence.specs.Alike as like
use Rattle.fidl_table_format.specs.Terms.{declarations_of}
use Rattle.fidl_table_check.specs.Numbered.{HaveNames}
use Rattle.fidl_table_build.specs.Assembled.{names_of}
use Rattle.fidl_reachable_types.specs.Reached.{held, AreReached, parts_of}
use Rattle.fidl_table_build.specs.declared.listing.ProtocolEntry.{ProtocolEntry}
use Rattle.fidl_table_build.specs.Starts.{starts_of, protocol_numbers}
use Rattle.fidl_table_build.specs.Roots.{ShowsRoot}
use Rattle.fidl_table_build.proofs.Small.{reach_none, reach_one, first_joined}
use Rattle.fidl_table_build.specs.Samples.{one_struct}
use Rattle.fidl_table_build.proofs.worked.tables_of_listings.Goals as goal

abbrev one_type : List Term
one_type = ty.named 0 ∷ []

-- the struct of a listing is that of the entry
levels : (terms : List Term) (figures : List Figure) → terms ≡ ty.struct ty.no_fields ∷ [] → AreNumbered (record { terms = terms; figures = figures }) (declarations_of (one_struct 97 97)) one_type
levels terms figures is zero t at = subst (λ t. Alike (λ t u. IsNumbered one_type t u) (ty.resolve terms t) (ty.struct ty.no_fields)) (same_Some (ty.named 0) t at)
    (subst (λ ts. Alike (λ t u. IsNumbered one_type t u) (get_or ts 0 nothing) (ty.struct ty.no_fields)) (sym is) (like.struct like.no_fields))
levels terms figures is (suc n) t at = absurd (none-some t at)

same_number : (i : ℕ) → ty.named 0 ≡ ty.named i → 0 ≡ i
same_number i e = cc

named : (names : List (List ℕ)) → names ≡ codes "a" ∷ [] → HaveNames names one_type (one_struct 97 97)
named names is zero i at = subst (λ i. slice_get names i ≡ Some (codes "a")) (same_number i (same_Some (ty.named 0) (ty.named i) at)) (ap (λ ns. slice_get ns 0) is)
named names is (suc n) i at = absurd (none-some (ty.named i) at)

rooted : (names : List (List ℕ)) → names ≡ codes "a" ∷ [] → (k i : ℕ) → slice_get (0 ∷ []) k ≡ Some i → ShowsRoot names one_type (one_struct 97 97) i k
rooted names is zero i at = subst (λ i. ShowsRoot names one_type (one_struct 97 97) i 0) (same_Some 0 i at) (record { name = ap (λ ns. slice_get ns 0) is; entry = refl })
rooted names is (suc k) i at = absurd (none-some i at)

pub returns-clause-none : goal.returns-clause-none
returns-clause-none c = λ l roots protocols. record {
  types = [];
  reached = subst (λ (r : List ℕ). AreReached (definitions_view l.definitions.now) r []) (sym (ap (λ (r : List ℕ). r ++ flat_map protocol_numbers l.protocols.now) roots ∙ ap (flat_map protocol_numbers) protocols)) (reach_none (definitions_view l.definitions.now));
  entries = λ figures. record { count = refl; levels = λ number t at. absurd (none-some t at) };
  names = λ number i at. absurd (none-some (ty.named i) at);
  roots = record { count = ap length (sym roots); each = λ k i at. absurd (none-some i (ap (λ (rs : List ℕ). slice_get rs k) (sym roots) ∙ at)) };
  protocols = record { count = ap length (sym protocols); each = λ k p at. absurd (none-some p (ap (λ (ps : List ProtocolEntry). slice_get ps k) (sym protocols) ∙ at)) };
}

pub returns-clause-a_struct : goal.returns-clause-a_struct
returns-clause-a_struct c = λ l definitions names roots protocols. record {
  types = one_type;
  reached = subst (λ (ts : List Term). AreReached ts (starts_of l) one_type) (sym definitions) (subst (λ (r : List ℕ). AreReached (ty.struct ty.no_fields ∷ []) r one_type) (sym (ap (λ (r : List ℕ). r ++ flat_map protocol_numbers l.protocols.now) roots ∙ ap (λ (ps : List ProtocolEntry). 0 ∷ flat_map protocol_numbers ps) protocols)) reach_one);
  entries = λ figures. record { count = refl; levels = levels (definitions_view l.definitions.now) figures definitions };
  names = named (names_of l) names;
  roots = record {
    count = ap length (sym roots);
    each = λ k i at. rooted (names_of l) names k i (ap (λ rs. slice_get rs k) (sym roots) ∙ at);
  };
  protocols = record {
    count = ap length (sym protocols);
    each = λ k p at. absurd (none-some p (ap (λ ps. slice_get ps k) (sym protocols) ∙ at));
  };
}

no_table : {R : Term → Term → Type 0} → Alike R (ty.table ty.no_rows) (ty.struct ty.no_fields) → ⊥
no_table h = elim h [ ]

pub returns-clause-other_type : goal.returns-clause-other_type
returns-clause-other_type c = λ l definitions roots a.
    let root = a.roots.each 0 0 (ap (λ rs. slice_get rs 0) roots) in
    let level = (a.entries []).levels 0 (ty.named 0) root.entry in
    no_table (subst (λ ts. Alike (λ t u. IsNumbered a.types t u) (get_or ts 0 nothing) (ty.struct ty.no_fields)) definitions level)

pub returns-clause-other_entry_name : goal.returns-clause-other_entry_name
returns-clause-other_entry_name c = λ l names roots a.
    let root = a.roots.each 0 0 (ap (λ rs. slice_get rs 0) roots) in
    let never : 97 ≡ 98 = ap (λ l. get_or l 0 0) (same_Some (97 ∷ []) (98 ∷ []) (ap (λ ns. slice_get ns 0) (sym names) ∙ a.names 0 0 root.entry)) in
    absurd (omega (arith, never))

pub returns-clause-other_root_name : goal.returns-clause-other_root_name
returns-clause-other_root_name c = λ l names roots a.
    let root = a.roots.each 0 0 (ap (λ rs. slice_get rs 0) roots) in
    let never : 97 ≡ 98 = ap (λ l. get_or l 0 0) (same_Some (97 ∷ []) (98 ∷ []) (ap (λ ns. slice_get ns 0) (sym names) ∙ root.name)) in
    absurd (omega (arith, never))

pub returns-clause-first_root_first : goal.returns-clause-first_root_first
returns-clause-first_root_first c = λ l bytes i others roots a.
    let terms = definitions_view l.definitions.now in
    let rest : List Term = map ty.named (others ++ flat_map protocol_numbers l.protocols.now) ++ flat_map (held terms) a.types in
    first_joined (ty.named i) rest (parts_of terms (starts_of l) a.types) a.types (ap (λ (r : List ℕ). parts_of terms (r ++ flat_map protocol_numbers l.protocols.now) a.types) roots) a.reached.order
