use Rattle.std.proofs.Common.{◌≡◌, ◌∙◌, List, ℕ, true, false, refl, sym, subst}
use Rattle.std.proofs.lemmas.Result.{IfOk-weaker}
use Rattle.fidl_table_format.specs.Section.{header_of}
use Rattle.fidl_table_format.specs.WellFormed.{WellFormed}
use Rattle.fidl_migrate.specs.Migrated.{IsMigrated}
use Rattle.fidl_migrate.proofs.Kept.{kept_itself}
use Rattle.fidl_migrate.proofs.migrating.migrate.Goals as goal

-- a table of version 2 that stays as it is
own : (old new : List ℕ) → WellFormed old → (header_of old).version ≡ 2 → new ≡ old → IsMigrated old new
own old new well version same = subst (IsMigrated old) (sym same) (record {
  well_formed = well;
  version = version;
  kept = kept_itself old;
  own = λ two. refl;
})

pub returns-then-is_written-clause-migrated : goal.returns-then-is_written-clause-migrated
returns-then-is_written-clause-migrated c =
    let old = c.args.table.now in
    IfOk-weaker c.own_bytes.result (λ bytes. bytes.items ≡ old) (λ bytes. IsMigrated old bytes.items)
    (λ bytes same. own old bytes.items c.own_bytes.ensures.well_formed (c.is_written.ensures.0 c.if-is_written.true) same) c.own_bytes.ensures.same

pub returns-clause-migrated : goal.returns-clause-migrated
returns-clause-migrated c =
    let old = c.args.table.now in
    let new : List ℕ = c.in-Ok.migrated in
    subst (IsMigrated old) (c.in-Ok.ensures.value ∙ c.deref.ensures.value) (record {
      well_formed = subst WellFormed (sym c.in-Ok.ensures.value) c.in-Ok.ensures.ok;
      version = c.is_written-2.ensures.0 c.if-not-is_written.false;
      kept = c.is_kept.ensures c.if-not-is_kept.false;
      own = λ two. absurd (let never : true ≡ false = sym (c.is_written.ensures.1 two) ∙ c.if-is_written.false in cc);
    })
