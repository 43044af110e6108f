use Rattle.std.proofs.Common.{ℕ, List, sym, ap, subst, ◌∙◌, inl, inr}
use Rattle.std.specs.Prelude.{Ok, Err}
use Rattle.fidl_script.specs.Faults.{IsTold}
use Rattle.fidl_serve.specs.Served.{is_write_fault}
use Rattle.fidl_commands.specs.Listing.{CanEndVerified}
use Rattle.fidl_serve.specs.declared.fault.ServeFault.TheVariants as fault
use Rattle.fidl_requests.specs.declared.ended.Ended.TheVariants.{EndOfInput}
use Rattle.fidl_stream_commands.specs.Serving.{reading, of_script, script_line, line_of}
use Rattle.fidl_stream_commands.proofs.Results.{result_done, result_unread, result_memory, result_cut, refused_by, table_refused, served_by, served_as, line_from, line_as, failed_now, reported, none_or}
use Rattle.fidl_stream_commands.proofs.serving.serve.Goals as goal

pub returns-in-Err-clause-refused : goal.returns-in-Err-clause-refused
returns-in-Err-clause-refused g c q =
    let told = c.in-Err.ensures.refused (ap (λ o. Err o) q) in
    (told.0, table_refused _ _ _ _ _ told.0 told.1, told.2)

pub returns-in-Err-clause-accepted : goal.returns-in-Err-clause-accepted
returns-in-Err-clause-accepted g c q = absurd (subst CanEndVerified q c.in-Err.ensures.ends)

pub returns-in-Err-read-clause-refused : goal.returns-in-Err-read-clause-refused
returns-in-Err-read-clause-refused g c q =
    let f = c.in-Err-read.fault in
    let quiet = ap (λ x. g.E.Write.contents x.writer) c.in-Ok.ensures.kept in
    let told = subst (λ (t : List ℕ). IsTold t c.args.files.now.script.bytes.now f) c.in-Ok.ensures.value c.in-Err-read.ensures.fault_is_true in
    let line = line_from (g.E.Write.contents c.args.errors.now.writer) (g.E.Write.contents c.verified.new.errors.writer) (g.E.Write.contents c.refuse_script.new.errors.writer) (script_line f) quiet (c.refuse_script.ensures.refused q) in
    (script_line f, of_script f c.in-Ok.ensures.well_formed (c.refuse_script.ensures.judged q) told, line)

pub returns-clause-done : goal.returns-clause-done
returns-clause-done g c q =
    let s = c.serve-served.result in
    let e = c.serve-served.ensures in
    let r = reading g.R.Source.remaining g.R.Source.reads g.R.Source.failures c.args.reader.now c.serve-served.new.reader in
    let old = g.W.Write.contents c.args.out.now.writer in
    let new = g.W.Write.contents c.serve-served.new.writer.writer in
    let files = c.args.files.now in
    let formed = c.in-Ok.ensures in
    let made = e.reads in
    let ran = served_by c.in-Ok.table files.table.bytes.now files.script.bytes.now c.in-Ok-read.script r old new s made.0 formed.value formed.well_formed c.in-Ok-read.ensures.ok e.serves e.whole made.1 made.2 made.3 e.read_failures in
    served_as files.table.bytes.now files.script.bytes.now r old new s (Ok EndOfInput) (result_done s (sym (c.tell_end.ensures.outcome (λ u. cc)) ∙ q)) ran

pub returns-clause-refused : goal.returns-clause-refused
returns-clause-refused g c q =
    let s = c.serve-served.result in
    let e = c.serve-served.ensures in
    let r = reading g.R.Source.remaining g.R.Source.reads g.R.Source.failures c.args.reader.now c.serve-served.new.reader in
    let old = g.W.Write.contents c.args.out.now.writer in
    let new = g.W.Write.contents c.serve-served.new.writer.writer in
    let files = c.args.files.now in
    let formed = c.in-Ok.ensures in
    let made = e.reads in
    let ran = served_by c.in-Ok.table files.table.bytes.now files.script.bytes.now c.in-Ok-read.script r old new s made.0 formed.value formed.well_formed c.in-Ok-read.ensures.ok e.serves e.whole made.1 made.2 made.3 e.read_failures in
    let quiet = ap (λ x. g.E.Write.contents x.writer) c.in-Ok.ensures.kept in
    let was = g.E.Write.contents c.args.errors.now.writer in
    let before = g.E.Write.contents c.verified.new.errors.writer in
    let after = g.E.Write.contents c.tell_end.new.errors.writer in
    let line = c.tell_end.ensures.line (λ u. cc) in
    (line_of s, refused_by files.table.bytes.now files.script.bytes.now r old new s (sym (c.tell_end.ensures.outcome (λ u. cc)) ∙ q) ran, line_from was before after (line_of s) quiet line)

pub returns-clause-unread : goal.returns-clause-unread
returns-clause-unread g c q =
    let s = c.serve-served.result in
    let e = c.serve-served.ensures in
    let r = reading g.R.Source.remaining g.R.Source.reads g.R.Source.failures c.args.reader.now c.serve-served.new.reader in
    let old = g.W.Write.contents c.args.out.now.writer in
    let new = g.W.Write.contents c.serve-served.new.writer.writer in
    let files = c.args.files.now in
    let formed = c.in-Ok.ensures in
    let made = e.reads in
    let ran = served_by c.in-Ok.table files.table.bytes.now files.script.bytes.now c.in-Ok-read.script r old new s made.0 formed.value formed.well_formed c.in-Ok-read.ensures.ok e.serves e.whole made.1 made.2 made.3 e.read_failures in
    served_as files.table.bytes.now files.script.bytes.now r old new s (Err fault.Read) (result_unread s (sym (c.tell_end.ensures.outcome (λ u. cc)) ∙ q)) ran

pub returns-clause-unread_line : goal.returns-clause-unread_line
returns-clause-unread_line g c q =
    let s = c.serve-served.result in
    let quiet = ap (λ x. g.E.Write.contents x.writer) c.in-Ok.ensures.kept in
    let was = g.E.Write.contents c.args.errors.now.writer in
    let before = g.E.Write.contents c.verified.new.errors.writer in
    let after = g.E.Write.contents c.tell_end.new.errors.writer in
    let line = c.tell_end.ensures.line (λ u. cc) in
    line_as was before after s (Err fault.Read) quiet (result_unread s (sym (c.tell_end.ensures.outcome (λ u. cc)) ∙ q)) line

pub returns-clause-memory : goal.returns-clause-memory
returns-clause-memory g c q =
    let s = c.serve-served.result in
    c.serve-served.ensures.untouched (result_memory s (sym (c.tell_end.ensures.outcome (λ u. cc)) ∙ q))

pub returns-clause-memory_line : goal.returns-clause-memory_line
returns-clause-memory_line g c q =
    let s = c.serve-served.result in
    let quiet = ap (λ x. g.E.Write.contents x.writer) c.in-Ok.ensures.kept in
    let was = g.E.Write.contents c.args.errors.now.writer in
    let before = g.E.Write.contents c.verified.new.errors.writer in
    let after = g.E.Write.contents c.tell_end.new.errors.writer in
    let line = c.tell_end.ensures.line (λ u. cc) in
    line_as was before after s (Err fault.Memory) quiet (result_memory s (sym (c.tell_end.ensures.outcome (λ u. cc)) ∙ q)) line

pub returns-clause-unwritten : goal.returns-clause-unwritten
returns-clause-unwritten g c o p =
    let s = c.serve-served.result in
    let e = c.serve-served.ensures in
    let was = c.args.out.now in
    let is = c.serve-served.new.writer in
    let fails = failed_now (is_write_fault s) was.failure is.failure was.failures is.failures was.told is.told e.write_failures o in
    reported (is_write_fault s) c.tell_end.result is.failure c.tell_end.new.errors.failure fails (c.tell_end.ensures.unwritten (ap (λ x. x.failure) c.in-Ok.ensures.kept ∙ p))

pub returns-clause-cut : goal.returns-clause-cut
returns-clause-cut g c o f =
    let s = c.serve-served.result in
    let e = c.serve-served.ensures in
    let r = reading g.R.Source.remaining g.R.Source.reads g.R.Source.failures c.args.reader.now c.serve-served.new.reader in
    let old = g.W.Write.contents c.args.out.now.writer in
    let new = g.W.Write.contents c.serve-served.new.writer.writer in
    let files = c.args.files.now in
    let formed = c.in-Ok.ensures in
    let made = e.reads in
    let ran = served_by c.in-Ok.table files.table.bytes.now files.script.bytes.now c.in-Ok-read.script r old new s made.0 formed.value formed.well_formed c.in-Ok-read.ensures.ok e.serves e.whole made.1 made.2 made.3 e.read_failures in
    let was = c.args.out.now in
    let is = c.serve-served.new.writer in
    let fails = failed_now (is_write_fault s) was.failure is.failure was.failures is.failures was.told is.told e.write_failures o in
    let cut = result_cut s (fails.0 f) in
    (cut.0, served_as files.table.bytes.now files.script.bytes.now r old new s (Err (fault.Write cut.0)) cut.1 ran)

pub returns-clause-cut_line : goal.returns-clause-cut_line
returns-clause-cut_line g c q p n =
    let s = c.serve-served.result in
    let e = c.serve-served.ensures in
    let quiet = ap (λ x. g.E.Write.contents x.writer) c.in-Ok.ensures.kept in
    let was = g.E.Write.contents c.args.errors.now.writer in
    let before = g.E.Write.contents c.verified.new.errors.writer in
    let after = g.E.Write.contents c.tell_end.new.errors.writer in
    let why = (c.tell_end.ensures.unwritten (ap (λ x. x.failure) c.in-Ok.ensures.kept ∙ p)).0 q in
    let line = c.tell_end.ensures.cut_line n in
    elim why [
      | inl t ↦ let cut = result_cut s t in line_as was before after s (Err (fault.Write cut.0)) quiet cut.1 line
      | inr f ↦ none_or c.tell_end.new.errors.failure n f
    ]

pub returns-clause-front : goal.returns-clause-front
returns-clause-front g c q =
    let s = c.serve-served.result in
    let e = c.serve-served.ensures in
    let r = reading g.R.Source.remaining g.R.Source.reads g.R.Source.failures c.args.reader.now c.serve-served.new.reader in
    let old = g.W.Write.contents c.args.out.now.writer in
    let new = g.W.Write.contents c.serve-served.new.writer.writer in
    let files = c.args.files.now in
    let formed = c.in-Ok.ensures in
    let made = e.reads in
    let ran = served_by c.in-Ok.table files.table.bytes.now files.script.bytes.now c.in-Ok-read.script r old new s made.0 formed.value formed.well_formed c.in-Ok-read.ensures.ok e.serves e.whole made.1 made.2 made.3 e.read_failures in
    inr (s, λ x. let done = (c.tell_end.ensures.quiet x).0 in cc, ran)

pub returns-clause-untouched : goal.returns-clause-untouched
returns-clause-untouched g c none =
    let s = c.serve-served.result in
    let e = c.serve-served.ensures in
    let r = reading g.R.Source.remaining g.R.Source.reads g.R.Source.failures c.args.reader.now c.serve-served.new.reader in
    let old = g.W.Write.contents c.args.out.now.writer in
    let new = g.W.Write.contents c.serve-served.new.writer.writer in
    let files = c.args.files.now in
    let formed = c.in-Ok.ensures in
    let made = e.reads in
    let ran = served_by c.in-Ok.table files.table.bytes.now files.script.bytes.now c.in-Ok-read.script r old new s made.0 formed.value formed.well_formed c.in-Ok-read.ensures.ok e.serves e.whole made.1 made.2 made.3 e.read_failures in
    absurd (none ran.given)

pub returns-clause-errors : goal.returns-clause-errors
returns-clause-errors g c q =
    let s = c.serve-served.result in
    let kept = (c.tell_end.ensures.quiet (result_done s (sym (c.tell_end.ensures.outcome (λ u. cc)) ∙ q))).1 in
    ap (λ x. g.E.Write.contents x.writer) (kept ∙ c.in-Ok.ensures.kept)
