use Rattle.std.proofs.Common.{ℕ, List, ◌++◌, ap, subst, ◌∙◌, inl, inr}
use Rattle.std.specs.Prelude.{codes}
use Rattle.fidl_wire.specs.Term as ty
use Rattle.fidl_wire.specs.Text.{Text}
use Rattle.fidl_table_format.specs.Terms.{declarations_of}
use Rattle.fidl_decode_model.specs.Faults as message_faults
use Rattle.fidl_commands.specs.declared.outcome.Outcome.TheVariants as outcome
use Rattle.fidl_commands.specs.Decoding.{CanEndDecodeAs, refusal_line, message_line, value, of_message}
use Rattle.fidl_text.proofs.Written.{appends_as, front_as}
use Rattle.fidl_commands.proofs.Told.{told_written, told_never, only_unwritten, encodes_as, text_as}
use Rattle.std.proofs.Common.{sym}
use Rattle.fidl_commands.proofs.decoding.decode_as.Goals as goal

pub returns-in-Err-decode-clause-refused : goal.returns-in-Err-decode-clause-refused
returns-in-Err-decode-clause-refused g c q =
    let f = c.in-Err-decode.fault in
    let same = ap (λ n. refusal_line (codes "decode") n c.name.result.now c.at.result) c.number.ensures
    ∙ ap (λ (l : List ℕ). refusal_line (codes "decode") (message_faults.number_of f) l c.at.result) c.name.ensures
    ∙ ap (λ k. refusal_line (codes "decode") (message_faults.number_of f) (message_faults.name_of f) k) c.at.ensures in
    let written = told_written c.write_refusal-written.result outcome.Refused c.where_written-in-Err-decode.result c.where_written-in-Err-decode.ensures q (λ e. cc) c.write_refusal-written.ensures.line in
    (message_line f, of_message c.args.entry f c.requires.root c.in-Err-decode.ensures.err c.in-Err-decode.ensures.fault_is_true, appends_as (g.E.Write.contents c.args.errors.now.writer) (g.E.Write.contents c.write_refusal-written.new.errors.writer) _ (message_line f) same written)

pub returns-in-Ok-write_message-clause-done : goal.returns-in-Ok-write_message-clause-done
returns-in-Ok-write_message-clause-done g c q =
    let table = c.args.table.now in
    let entry = c.args.entry in
    let message = c.args.message in
    let d = c.in-Ok-decode.decoded in
    let x = c.in-Ok-decode.ensures.ok in
    let here = encodes_as d table message.bytes.now entry message.handles.now x.0 c.in-Ok-decode.ensures.table c.in-Ok-decode.ensures.entry c.in-Ok-decode.ensures.bytes c.in-Ok-decode.ensures.handles x.1 in
    let same = ap (λ (l : List ℕ). l ++ codes "\n") (text_as d table entry x.0 c.in-Ok-decode.ensures.table c.in-Ok-decode.ensures.entry) in
    let line = Text (declarations_of table) (ty.named entry) x.0 ++ codes "\n" in
    (line, value entry x.0 c.requires.root x.1, appends_as (g.W.Write.contents c.args.out.now.writer) (g.W.Write.contents c.write_message.new.out.writer) _ line same (c.in-Ok-write_message.ensures.text x.0 here))

pub returns-clause-front : goal.returns-clause-front
returns-clause-front g c q =
    let table = c.args.table.now in
    let entry = c.args.entry in
    let message = c.args.message in
    let d = c.in-Ok-decode.decoded in
    let x = c.in-Ok-decode.ensures.ok in
    let here = encodes_as d table message.bytes.now entry message.handles.now x.0 c.in-Ok-decode.ensures.table c.in-Ok-decode.ensures.entry c.in-Ok-decode.ensures.bytes c.in-Ok-decode.ensures.handles x.1 in
    let same = ap (λ (l : List ℕ). l ++ codes "\n") (text_as d table entry x.0 c.in-Ok-decode.ensures.table c.in-Ok-decode.ensures.entry) in
    let line = Text (declarations_of table) (ty.named entry) x.0 ++ codes "\n" in
    inr (line, value entry x.0 c.requires.root x.1, front_as (g.W.Write.contents c.args.out.now.writer) (g.W.Write.contents c.write_message.new.out.writer) _ line same (c.in-Err-write_message.ensures.text x.0 here))

pub returns-clause-ends : goal.returns-clause-ends
returns-clause-ends g c = subst CanEndDecodeAs (sym (only_unwritten c.write_no_output.result c.where_written-in-Err-write_message.result c.where_written-in-Err-write_message.ensures)) tt

pub returns-clause-done : goal.returns-clause-done
returns-clause-done g c q = told_never c.write_no_output.result outcome.Unwritten outcome.Done c.where_written-in-Err-write_message.result c.where_written-in-Err-write_message.ensures q (λ e. cc) (λ e. cc)

pub returns-clause-refused : goal.returns-clause-refused
returns-clause-refused g c q = told_never c.write_no_output.result outcome.Unwritten outcome.Refused c.where_written-in-Err-write_message.result c.where_written-in-Err-write_message.ensures q (λ e. cc) (λ e. cc)

pub returns-clause-memory_line : goal.returns-clause-memory_line
returns-clause-memory_line g c q = told_never c.write_no_output.result outcome.Unwritten outcome.NoMemory c.where_written-in-Err-write_message.result c.where_written-in-Err-write_message.ensures q (λ e. cc) (λ e. cc)

pub returns-clause-unwritten : goal.returns-clause-unwritten
returns-clause-unwritten g c o e = (λ q. inl c.in-Err-write_message.ensures.failed, λ f. only_unwritten c.write_no_output.result c.where_written-in-Err-write_message.result c.where_written-in-Err-write_message.ensures)

pub returns-clause-out : goal.returns-clause-out
returns-clause-out g c a b = absurd (b (only_unwritten c.write_no_output.result c.where_written-in-Err-write_message.result c.where_written-in-Err-write_message.ensures))

pub returns-clause-errors : goal.returns-clause-errors
returns-clause-errors g c q = told_never c.write_no_output.result outcome.Unwritten outcome.Done c.where_written-in-Err-write_message.result c.where_written-in-Err-write_message.ensures q (λ e. cc) (λ e. cc)
