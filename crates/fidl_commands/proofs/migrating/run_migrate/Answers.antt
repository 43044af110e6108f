use Rattle.std.proofs.Common.{◌≡◌, ℕ, List, ap, subst, ◌∙◌, inr}
use Rattle.std.specs.Prelude.{Option, Some, None, IfSome}
use Rattle.fidl_table_format.specs.Section.{header_of}
use Rattle.fidl_table_format.specs.WellFormed.{WellFormed}
use Rattle.fidl_migrate.specs.Migrated.{IsMigrated}
use Rattle.fidl_text.proofs.Written.{appends_as, front_as}
use Rattle.fidl_commands.specs.Files.{IsWritten, NamesFile}
use Rattle.fidl_commands.specs.Migrating.{IsVersion2Of, IsMigratedTo, IsMigratedInPart}
use Rattle.fidl_commands.specs.Summary.{summary_line}
use Rattle.fidl_commands.proofs.migrating.run_migrate.Goals as goal

-- what holds of the bytes that were read holds of those that are known
of_known : (known : Option (List ℕ)) (read : List ℕ) (Holds : List ℕ → Type 0) → IfSome known (λ bytes. read ≡ bytes) → Holds read → IfSome known Holds
of_known None read Holds same h = tt
of_known (Some bytes) read Holds same h = subst Holds same h

version_of : (taken read bytes : List ℕ) → taken ≡ read → WellFormed taken → IsMigrated taken bytes → ((header_of taken).version ≡ 2 → bytes ≡ taken) → IsVersion2Of read bytes
version_of taken read bytes same well is own = record {
  accepted = subst WellFormed same well;
  migrated = subst (λ (table : List ℕ). IsMigrated table bytes) same is;
  same = subst (λ (table : List ℕ). (header_of table).version ≡ 2 → bytes ≡ table) same own;
}

pub returns-in-Ok-write-clause-done : goal.returns-in-Ok-write-clause-done
returns-in-Ok-write-clause-done g c q =
    let given = c.args.arguments.now in
    let before = g.F.Files.written c.args.files.now in
    let after = g.F.Files.written c.write.new.self in
    let bytes = c.in-Ok-migrated.new.items in
    of_known (g.F.Files.bytes_of c.args.files.now given.table.now) c.in-Ok.bytes.items
    (λ table. IsMigratedTo given.out.now table (g.W.Write.contents c.args.out.now.writer) (g.W.Write.contents c.summarize.new.out.writer) before after) c.in-Ok.ensures.bytes
    (record {
      bytes = bytes;
      version = version_of _ c.in-Ok.bytes.items bytes c.deref.ensures.value c.in-Ok-migrated.ensures.accepted c.in-Ok-migrated.ensures.migrated c.in-Ok-migrated.ensures.same;
      written = subst (λ (l : List ℕ). IsWritten before after given.out.now l) c.deref-2.ensures.value c.in-Ok-write.ensures.ok;
      printed = appends_as _ _ (summary_line c.deref-in-Ok-write.result.now) (summary_line bytes) (ap summary_line c.deref-in-Ok-write.ensures.value) (c.summarize.ensures.done q);
    })

pub returns-in-Ok-write-clause-front : goal.returns-in-Ok-write-clause-front
returns-in-Ok-write-clause-front g c q =
    let given = c.args.arguments.now in
    let before = g.F.Files.written c.args.files.now in
    let after = g.F.Files.written c.write.new.self in
    let bytes = c.in-Ok-migrated.new.items in
    inr (of_known (g.F.Files.bytes_of c.args.files.now given.table.now) c.in-Ok.bytes.items
    (λ table. IsMigratedInPart given.out.now table (g.W.Write.contents c.args.out.now.writer) (g.W.Write.contents c.summarize.new.out.writer) before after) c.in-Ok.ensures.bytes
    (record {
      bytes = bytes;
      version = version_of _ c.in-Ok.bytes.items bytes c.deref.ensures.value c.in-Ok-migrated.ensures.accepted c.in-Ok-migrated.ensures.migrated c.in-Ok-migrated.ensures.same;
      written = subst (λ (l : List ℕ). IsWritten before after given.out.now l) c.deref-2.ensures.value c.in-Ok-write.ensures.ok;
      front = front_as _ _ (summary_line c.deref-in-Ok-write.result.now) (summary_line bytes) (ap summary_line c.deref-in-Ok-write.ensures.value) (c.summarize.ensures.front q);
    }))

pub returns-clause-no_file : goal.returns-clause-no_file
returns-clause-no_file g c q =
    let given = c.args.arguments.now in
    let bytes = c.in-Ok-migrated.new.items in
    let version = version_of _ c.in-Ok.bytes.items bytes c.deref.ensures.value c.in-Ok-migrated.ensures.accepted c.in-Ok-migrated.ensures.migrated c.in-Ok-migrated.ensures.same in
    let quiet = ap (λ e. g.E.Write.contents e.writer) (c.in-Ok-migrated.ensures.kept ∙ c.in-Ok.ensures.kept) in
    inr (record {
      migrated = of_known (g.F.Files.bytes_of c.args.files.now given.table.now) c.in-Ok.bytes.items (λ table. (new : List ℕ) × IsVersion2Of table new) c.in-Ok.ensures.bytes (bytes, version);
      unwritten = c.in-Err-write.ensures.fault (c.tell_no_file.ensures.no_file q);
      named = subst (λ (old : Option (List ℕ)). NamesFile given.out.now old (g.E.Write.contents c.tell_no_file.new.errors.writer)) quiet (c.tell_no_file.ensures.line q);
    })
