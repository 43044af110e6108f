use Rattle.std.proofs.Common.{ℕ, List, ap, subst, ◌∙◌, inl, inr}
use Rattle.std.specs.Prelude.{Ok, Err, Option}
use Rattle.std.specs.Io.KnownBytes.{Appends}
use Rattle.fidl_requests.specs.declared.ended.Ended.TheVariants.{EndOfInput}
use Rattle.fidl_serve.specs.declared.fault.ServeFault.TheVariants.{Read}
use Rattle.fidl_commands.specs.Outputs.{AppendsOne}
use Rattle.fidl_stream_commands.specs.Running.{IsServedFrom, IsServeRefusalFrom, IsCutFrom, IsBrokenOffFrom}
use Rattle.fidl_stream_commands.proofs.Files.{of_files}
use Rattle.fidl_stream_commands.proofs.running.run_serve.Goals as goal

pub returns-in-Ok-open_input-clause-done : goal.returns-in-Ok-open_input-clause-done
returns-in-Ok-open_input-clause-done g c q =
    let input = g.F.Files.input c.args.files.now in
    let old = g.W.Write.contents c.args.out.now.writer in
    let new = g.W.Write.contents c.serve.new.out.writer in
    let known = g.F.Files.bytes_of c.args.files.now in
    let table_known = known c.args.arguments.now.table.now in
    let script_known = known c.args.arguments.now.script.now in
    let t = c.as_slice.ensures.value in
    let s = c.as_slice-2.ensures.value in
    of_files table_known script_known c.as_slice.result.now c.in-Ok.table.items c.as_slice-2.result.now c.in-Ok-file_bytes.script.items
    (λ (table text : List ℕ). IsServedFrom input table text old new (Ok EndOfInput)) t s c.in-Ok.ensures.bytes c.in-Ok-file_bytes.ensures.bytes (_, c.in-Ok-open_input.ensures, c.serve.ensures.done q)

pub returns-in-Ok-open_input-clause-refused : goal.returns-in-Ok-open_input-clause-refused
returns-in-Ok-open_input-clause-refused g c q =
    let input = g.F.Files.input c.args.files.now in
    let old = g.W.Write.contents c.args.out.now.writer in
    let new = g.W.Write.contents c.serve.new.out.writer in
    let known = g.F.Files.bytes_of c.args.files.now in
    let table_known = known c.args.arguments.now.table.now in
    let script_known = known c.args.arguments.now.script.now in
    let t = c.as_slice.ensures.value in
    let s = c.as_slice-2.ensures.value in
    let quiet = ap (λ x. g.E.Write.contents x.writer) (c.in-Ok-file_bytes.ensures.kept ∙ c.in-Ok.ensures.kept) in
    let before = g.E.Write.contents c.args.errors.now.writer in
    let after = g.E.Write.contents c.serve.new.errors.writer in
    let told = c.serve.ensures.refused q in
    let line = subst (λ (l : Option (List ℕ)). Appends l after told.0) quiet told.2 in
    of_files table_known script_known c.as_slice.result.now c.in-Ok.table.items c.as_slice-2.result.now c.in-Ok-file_bytes.script.items
    (λ (table text : List ℕ). AppendsOne (IsServeRefusalFrom input table text old new) before after) t s c.in-Ok.ensures.bytes c.in-Ok-file_bytes.ensures.bytes (told.0, (_, c.in-Ok-open_input.ensures, told.1), line)

pub returns-in-Ok-open_input-clause-unread : goal.returns-in-Ok-open_input-clause-unread
returns-in-Ok-open_input-clause-unread g c q =
    let input = g.F.Files.input c.args.files.now in
    let old = g.W.Write.contents c.args.out.now.writer in
    let new = g.W.Write.contents c.serve.new.out.writer in
    let known = g.F.Files.bytes_of c.args.files.now in
    let table_known = known c.args.arguments.now.table.now in
    let script_known = known c.args.arguments.now.script.now in
    let t = c.as_slice.ensures.value in
    let s = c.as_slice-2.ensures.value in
    of_files table_known script_known c.as_slice.result.now c.in-Ok.table.items c.as_slice-2.result.now c.in-Ok-file_bytes.script.items
    (λ (table text : List ℕ). IsServedFrom input table text old new (Err Read)) t s c.in-Ok.ensures.bytes c.in-Ok-file_bytes.ensures.bytes (_, c.in-Ok-open_input.ensures, c.serve.ensures.unread q)

pub returns-in-Ok-open_input-clause-cut : goal.returns-in-Ok-open_input-clause-cut
returns-in-Ok-open_input-clause-cut g c o f =
    let input = g.F.Files.input c.args.files.now in
    let old = g.W.Write.contents c.args.out.now.writer in
    let new = g.W.Write.contents c.serve.new.out.writer in
    let known = g.F.Files.bytes_of c.args.files.now in
    let table_known = known c.args.arguments.now.table.now in
    let script_known = known c.args.arguments.now.script.now in
    let t = c.as_slice.ensures.value in
    let s = c.as_slice-2.ensures.value in
    of_files table_known script_known c.as_slice.result.now c.in-Ok.table.items c.as_slice-2.result.now c.in-Ok-file_bytes.script.items
    (λ (table text : List ℕ). IsCutFrom input table text old new) t s c.in-Ok.ensures.bytes c.in-Ok-file_bytes.ensures.bytes (_, c.in-Ok-open_input.ensures, c.serve.ensures.cut o f)

pub returns-in-Ok-open_input-clause-front : goal.returns-in-Ok-open_input-clause-front
returns-in-Ok-open_input-clause-front g c q =
    let input = g.F.Files.input c.args.files.now in
    let old = g.W.Write.contents c.args.out.now.writer in
    let new = g.W.Write.contents c.serve.new.out.writer in
    let known = g.F.Files.bytes_of c.args.files.now in
    let table_known = known c.args.arguments.now.table.now in
    let script_known = known c.args.arguments.now.script.now in
    let t = c.as_slice.ensures.value in
    let s = c.as_slice-2.ensures.value in
    elim (c.serve.ensures.front q) [
      | inl e ↦ inl e
      | inr h ↦ inr (of_files table_known script_known c.as_slice.result.now c.in-Ok.table.items c.as_slice-2.result.now c.in-Ok-file_bytes.script.items
          (λ (table text : List ℕ). IsBrokenOffFrom input table text old new) t s c.in-Ok.ensures.bytes c.in-Ok-file_bytes.ensures.bytes (_, c.in-Ok-open_input.ensures, h))
    ]

pub returns-in-Ok-open_input-clause-untouched : goal.returns-in-Ok-open_input-clause-untouched
returns-in-Ok-open_input-clause-untouched g c =
    let known = g.F.Files.bytes_of c.args.files.now in
    let table_known = known c.args.arguments.now.table.now in
    let script_known = known c.args.arguments.now.script.now in
    let t = c.as_slice.ensures.value in
    let s = c.as_slice-2.ensures.value in
    of_files table_known script_known c.as_slice.result.now c.in-Ok.table.items c.as_slice-2.result.now c.in-Ok-file_bytes.script.items
    _ t s c.in-Ok.ensures.bytes c.in-Ok-file_bytes.ensures.bytes (λ none. (c.serve.ensures.untouched none).1)
