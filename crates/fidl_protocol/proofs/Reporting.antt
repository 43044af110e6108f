-- Where one of two alike methods of a protocol is reported.
use Rattle.std.proofs.Common.{◌≡◌, ◌∙◌, ◌<◌, ◌≤◌, ◌⊎◌, ℕ, List, inl, inr, refl, sym, subst, arith}
use Rattle.std.specs.Prelude.{◌≢◌}
use Rattle.std.proofs.lemmas.Bool.{cases_lt}
use Rattle.fidl_tree.specs.declared.file.File.{File}
use Rattle.fidl_named.specs.declared.place.Place.{Place}
use Rattle.fidl_named.specs.declared.place.DeclarationId.{DeclarationId}
use Rattle.fidl_cycles.specs.Cycles.{Leads, step, further}
use Rattle.fidl_composition.specs.Compositions.{Composes, Reaches, IsWay}
use Rattle.fidl_protocol.specs.declared.alike.Pair.{Pair}
use Rattle.fidl_protocol.specs.declared.method.Method.{Method}
use Rattle.fidl_protocol.specs.Methods.{HaveOneName}
use Rattle.fidl_protocol.specs.Faults.{IsReported, TwoAreAlike, HaveOneOrdinal}
use Rattle.fidl_protocol.specs.Gathered.{ArePair, IsLaterOwn}
use Rattle.fidl_protocol.proofs.Nodes.{one_method}

module _ (files : List File) where
  -- what leads to another composes one that reaches it
  first_step : (p q : DeclarationId) → Leads (Composes files) p q → (r : DeclarationId) × (Composes files p r × Reaches files r q)
  first_step _ _ (step p q h) = (q, (h, inl refl))
  first_step _ _ (further p r q h rest) = (r, (h, inr rest))

  pub goes_on : (p q : DeclarationId) → Reaches files p q → q ≢ p → (r : DeclarationId) × (Composes files p r × Reaches files r q)
  goes_on p q (inl same) apart = absurd (apart (sym same))
  goes_on p q (inr leads) apart = first_step p q leads

  module _ (id : DeclarationId) (pair : Pair) (h : ArePair files id pair) where
    -- where neither is the later own one, none is the protocol's own
    members_differ : pair.one.protocol ≡ id → pair.other.protocol ≡ id → pair.one.own.member ≡ pair.other.own.member → ⊥
    members_differ a b same = h.differ (one_method files pair.one pair.other h.has_one.declared h.has_other.declared (a ∙ sym b) same)

    module _ (not_other : IsLaterOwn id pair.other pair.one → ⊥) (not_one : IsLaterOwn id pair.one pair.other → ⊥) where
      pub other_composed : pair.other.protocol ≢ id
      other_composed b = not_other (record {
        own = b;
        later = λ a. let differ = members_differ a b in elim (cases_lt pair.one.own.member pair.other.own.member) [
          | inl lt ↦ lt
          | inr le ↦ absurd (not_one (record {
            own = a;
            later = λ _. elim (cases_lt pair.other.own.member pair.one.own.member) [
              | inl lt ↦ lt
              | inr ge ↦ absurd (differ (omega (arith, le, ge)))
            ];
          }))
        ];
      })

      pub one_composed : pair.one.protocol ≢ id
      one_composed a = not_one (record { own = a; later = λ b. absurd (other_composed b) })

    -- two alike methods, of which one is reported
    pub two_alike : (Alike : Method → Method → Type 0) → ((one other : Method) → Alike one other → Alike other one) → Alike pair.one pair.other → (place : Place) → IsReported files id pair.other pair.one place ⊎ IsReported files id pair.one pair.other place → TwoAreAlike files Alike place
    two_alike Alike turned alike place (inl reported) = record {
      protocol = id;
      one = pair.one;
      other = pair.other;
      has_one = h.has_one;
      has_other = h.has_other;
      differ = h.differ;
      alike = alike;
      reported = reported;
    }
    two_alike Alike turned alike place (inr reported) = record {
      protocol = id;
      one = pair.other;
      other = pair.one;
      has_one = h.has_other;
      has_other = h.has_one;
      differ = λ e. h.differ (sym e);
      alike = turned pair.one pair.other alike;
      reported = reported;
    }

-- to be alike is the same both ways
pub names_turned : (files : List File) (one other : Method) → HaveOneName files one other → HaveOneName files other one
names_turned files one other h = record { name = h.name; one_is = h.other_is; other_is = h.one_is }

pub ordinals_turned : (one other : Method) → HaveOneOrdinal one other → HaveOneOrdinal other one
ordinals_turned one other h = sym h
