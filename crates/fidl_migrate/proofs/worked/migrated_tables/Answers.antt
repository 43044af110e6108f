use Rattle.std.proofs.Common.{◌≡◌, ℕ, length, get_or, Some, refl, ap, arith, rules, below_none, below_more}
use Rattle.fidl_wire.specs.Term.{Term, nothing}
use Rattle.fidl_wire.specs.Term as ty
use Rattle.fidl_wire.specs.Figure.{Declarations}
use Rattle.fidl_table_format.specs.Terms.{span}
use Rattle.fidl_table_format.specs.Samples.{one_two_four, one_two_and_four}
use Rattle.fidl_migrate.proofs.Kept.{all_kept, kept_itself}
use Rattle.fidl_migrate.proofs.worked.migrated_tables.Goals as goal

-- how many values the first entry declares
abbrev value_count : Term → ℕ
value_count (ty.enum k (Some zs)) = length zs
value_count t = 0

abbrev first_count : Declarations → ℕ
first_count d = value_count (get_or d.terms 0 nothing)

pub returns-clause-joined : goal.returns-clause-joined
unfolding span
returns-clause-joined c = record {
  well_formed = c.tables_of_both_versions.ensures.two;
  version = refl;
  kept = all_kept (one_two_four 1) (one_two_and_four 2 4) c.tables_of_both_versions.ensures.one (search rules) (λ index p. absurd (omega (arith, p)))
      (below_more _ 0 (below_none _) (record {
        fields = search rules;
        first = λ off. refl;
        count = λ off. absurd (cc off);
        values = λ on. refl;
      })) refl;
  own = λ two. absurd (omega (arith, two));
}

pub returns-clause-own : goal.returns-clause-own
returns-clause-own c = record {
  well_formed = c.tables_of_both_versions.ensures.two;
  version = refl;
  kept = kept_itself (one_two_and_four 2 4);
  own = λ two. refl;
}

pub returns-clause-gap_joined : goal.returns-clause-gap_joined
unfolding span
returns-clause-gap_joined c = λ m. let never : 4 ≡ 3 = ap first_count m.kept.declarations in absurd (omega (arith, never))

pub returns-clause-last_dropped : goal.returns-clause-last_dropped
unfolding span
returns-clause-last_dropped c = λ m. let never : 2 ≡ 3 = ap first_count m.kept.declarations in absurd (omega (arith, never))

pub returns-clause-name_changed : goal.returns-clause-name_changed
returns-clause-name_changed c = λ m. let never : 70 ≡ 69 = ap (λ l. get_or l 2 0) (m.kept.names.text 3 3) in absurd (omega (arith, never))

pub returns-clause-not_written : goal.returns-clause-not_written
returns-clause-not_written c = λ m. let never : 1 ≡ 2 = m.version in absurd (omega (arith, never))

pub returns-clause-not_own : goal.returns-clause-not_own
returns-clause-not_own c = λ m. let never : 1 ≡ 2 = m.version in absurd (omega (arith, never))
