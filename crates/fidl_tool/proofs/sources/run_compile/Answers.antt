use Rattle.std.proofs.Common.{◌≡◌, List, ℕ, map, ap, subst, ◌∙◌, inr}
use Rattle.std.specs.Prelude.{Err, Option}
use Rattle.fidl_table_format.specs.WellFormed.{WellFormed}
use Rattle.fidl_compile.specs.Sources.{IsTableOf}
use Rattle.fidl_tool.specs.Compiling.{Named, named_of, texts_of, IsSourceRefusal}
use Rattle.fidl_commands.specs.Summary.{summary_line}
use Rattle.fidl_commands.specs.Files.{IsWritten, NamesFile}
use Rattle.fidl_commands.specs.Outputs.{AppendsOne}
use Rattle.fidl_tool.specs.Running.{AreRead, IsCompiled, stored_as}
use Rattle.fidl_tool.proofs.NamedFiles.{files_read}
use Rattle.fidl_text.proofs.Written.{appends_as, front_as}
use Rattle.fidl_tool.proofs.sources.run_compile.Goals as goal

-- the table of the files that were read is that of the files that are known
compiled_as : (made files : List Named) (table : List ℕ) → made ≡ files → WellFormed table → IsTableOf (texts_of made) table → IsCompiled files table
compiled_as made files table same well shows = record {
  well_formed = well;
  shows = subst (λ (fs : List Named). IsTableOf (texts_of fs) table) same shows;
}

pub returns-in-Err-compile-clause-refused : goal.returns-in-Err-compile-clause-refused
returns-in-Err-compile-clause-refused g c q files known =
    let sources = c.in-Ok.sources.items in
    let names = ap (map (λ n. n.now)) c.deref.ensures.value in
    let read = subst (λ (ns : List (List ℕ)). AreRead (g.F.Files.bytes_of c.args.files.now) ns (map stored_as sources)) names c.in-Ok.ensures.read in
    let made : named_of c.in-Ok-files_of.named.items ≡ map stored_as sources = c.in-Ok-files_of.ensures ∙ ap (map stored_as) c.deref-2.ensures.value in
    let same : named_of c.deref-3.result.now ≡ files = ap named_of c.deref-3.ensures.value ∙ files_read (g.F.Files.bytes_of c.args.files.now) _ sources c.in-Ok-files_of.named.items files read made known in
    let refused = c.in-Err-compile.ensures.refused (ap (λ o. Err o) q) in
    let after = g.E.Write.contents c.compile.new.errors.writer in
    let of_files = subst (λ (fs : List Named). AppendsOne (IsSourceRefusal c.args.arguments.now.snippet fs) (g.E.Write.contents c.read_all.new.errors.writer) after) same refused in
    subst (λ errors. AppendsOne (IsSourceRefusal c.args.arguments.now.snippet files) (g.E.Write.contents errors.writer) after) c.in-Ok.ensures.kept of_files

pub returns-in-Ok-write-clause-done : goal.returns-in-Ok-write-clause-done
returns-in-Ok-write-clause-done g c q files known =
    let sources = c.in-Ok.sources.items in
    let table = c.in-Ok-compile.table.items in
    let names = ap (map (λ n. n.now)) c.deref.ensures.value in
    let read = subst (λ (ns : List (List ℕ)). AreRead (g.F.Files.bytes_of c.args.files.now) ns (map stored_as sources)) names c.in-Ok.ensures.read in
    let made : named_of c.in-Ok-files_of.named.items ≡ map stored_as sources = c.in-Ok-files_of.ensures ∙ ap (map stored_as) c.deref-2.ensures.value in
    let same : named_of c.deref-3.result.now ≡ files = ap named_of c.deref-3.ensures.value ∙ files_read (g.F.Files.bytes_of c.args.files.now) _ sources c.in-Ok-files_of.named.items files read made known in
    record {
      table = table;
      compiled = compiled_as _ files table same c.in-Ok-compile.ensures.well_formed c.in-Ok-compile.ensures.shows;
      written = subst (λ (bytes : List ℕ). IsWritten (g.F.Files.written c.args.files.now) (g.F.Files.written c.write.new.self) c.args.arguments.now.out.now bytes) c.deref-4.ensures.value c.in-Ok-write.ensures.ok;
      printed = appends_as _ _ (summary_line c.deref-in-Ok-write.result.now) (summary_line table) (ap summary_line c.deref-in-Ok-write.ensures.value) (c.summarize.ensures.done q);
    }

pub returns-in-Ok-write-clause-front : goal.returns-in-Ok-write-clause-front
returns-in-Ok-write-clause-front g c q = inr (λ files known.
    let sources = c.in-Ok.sources.items in
    let table = c.in-Ok-compile.table.items in
    let names = ap (map (λ n. n.now)) c.deref.ensures.value in
    let read = subst (λ (ns : List (List ℕ)). AreRead (g.F.Files.bytes_of c.args.files.now) ns (map stored_as sources)) names c.in-Ok.ensures.read in
    let made : named_of c.in-Ok-files_of.named.items ≡ map stored_as sources = c.in-Ok-files_of.ensures ∙ ap (map stored_as) c.deref-2.ensures.value in
    let same : named_of c.deref-3.result.now ≡ files = ap named_of c.deref-3.ensures.value ∙ files_read (g.F.Files.bytes_of c.args.files.now) _ sources c.in-Ok-files_of.named.items files read made known in
    record {
      table = table;
      compiled = compiled_as _ files table same c.in-Ok-compile.ensures.well_formed c.in-Ok-compile.ensures.shows;
      written = subst (λ (bytes : List ℕ). IsWritten (g.F.Files.written c.args.files.now) (g.F.Files.written c.write.new.self) c.args.arguments.now.out.now bytes) c.deref-4.ensures.value c.in-Ok-write.ensures.ok;
      front = front_as _ _ (summary_line c.deref-in-Ok-write.result.now) (summary_line table) (ap summary_line c.deref-in-Ok-write.ensures.value) (c.summarize.ensures.front q);
    })

pub returns-clause-no_file : goal.returns-clause-no_file
returns-clause-no_file g c q =
    let sources = c.in-Ok.sources.items in
    let table = c.in-Ok-compile.table.items in
    let names = ap (map (λ n. n.now)) c.deref.ensures.value in
    let read = subst (λ (ns : List (List ℕ)). AreRead (g.F.Files.bytes_of c.args.files.now) ns (map stored_as sources)) names c.in-Ok.ensures.read in
    let made : named_of c.in-Ok-files_of.named.items ≡ map stored_as sources = c.in-Ok-files_of.ensures ∙ ap (map stored_as) c.deref-2.ensures.value in
    let quiet = ap (λ e. g.E.Write.contents e.writer) (c.in-Ok-compile.ensures.kept ∙ c.in-Ok.ensures.kept) in
    inr (record {
      compiled = λ files known.
          let same : named_of c.deref-3.result.now ≡ files = ap named_of c.deref-3.ensures.value ∙ files_read (g.F.Files.bytes_of c.args.files.now) _ sources c.in-Ok-files_of.named.items files read made known in
          (table, compiled_as _ files table same c.in-Ok-compile.ensures.well_formed c.in-Ok-compile.ensures.shows);
      unwritten = c.in-Err-write.ensures.fault (c.tell_no_file.ensures.no_file q);
      named = subst (λ (old : Option (List ℕ)). NamesFile c.args.arguments.now.out.now old (g.E.Write.contents c.tell_no_file.new.errors.writer)) quiet (c.tell_no_file.ensures.line q);
    })
