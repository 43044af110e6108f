use Rattle.std.proofs.Common.{refl, ap, subst, ◌∙◌, inl, inr}
use Rattle.std.specs.Prelude.{Err}
use Rattle.fidl_commands.proofs.Told.{told_failed}
use Rattle.fidl_commands.specs.Decoding.{no_memory_line}
use Rattle.fidl_commands.specs.declared.outcome.Outcome.TheVariants as outcome
use Rattle.fidl_stream_commands.specs.Dumping.{frame_line, of_frame, CanEndDumpBy}
use Rattle.fidl_stream_commands.proofs.Dumps.{table_undumped, protocol_named, no_protocol_of, ends_dump}
use Rattle.fidl_stream_commands.proofs.Results.{line_from}
use Rattle.fidl_stream_commands.proofs.dumping.dump.Goals as goal

pub returns-in-Err-clause-refused : goal.returns-in-Err-clause-refused
returns-in-Err-clause-refused g c q =
    let told = c.in-Err.ensures.refused (ap (λ o. Err o) q) in
    (told.0, table_undumped _ _ _ _ _ _ told.0 told.1 refl, told.2)

pub returns-in-Some-clause-ends : goal.returns-in-Some-clause-ends
returns-in-Some-clause-ends g c = ends_dump c.dump_by.result c.dump_by.ensures.ends

pub returns-in-Some-clause-done : goal.returns-in-Some-clause-done
returns-in-Some-clause-done g c q =
    let formed = c.in-Ok.ensures in
    let p = c.in-Some.protocol in
    let named = protocol_named c.args.file.now.bytes.now c.in-Ok.table c.args.recorded.protocol.now c.as_bytes.result.now p formed.value c.in-Some.ensures.table c.as_bytes.ensures.value formed.well_formed c.in-Some.ensures.found in
    record { protocol = p; named = named; whole = c.dump_by.ensures.whole q; lines = c.dump_by.ensures.done q }

pub returns-in-Some-clause-refused : goal.returns-in-Some-clause-refused
returns-in-Some-clause-refused g c q =
    let formed = c.in-Ok.ensures in
    let p = c.in-Some.protocol in
    let named = protocol_named c.args.file.now.bytes.now c.in-Ok.table c.args.recorded.protocol.now c.as_bytes.result.now p formed.value c.in-Some.ensures.table c.as_bytes.ensures.value formed.well_formed c.in-Some.ensures.found in
    let quiet = ap (λ x. g.E.Write.contents x.writer) formed.kept in
    let r = c.dump_by.ensures.refused q in
    (frame_line r.0 r.1, of_frame p r.0 r.1 named r.2, line_from _ _ _ (frame_line r.0 r.1) quiet r.3)

pub returns-in-Some-clause-memory_line : goal.returns-in-Some-clause-memory_line
returns-in-Some-clause-memory_line g c q =
    let quiet = ap (λ x. g.E.Write.contents x.writer) c.in-Ok.ensures.kept in
    line_from _ _ _ no_memory_line quiet (c.dump_by.ensures.memory_line q)

pub returns-in-Some-clause-unwritten : goal.returns-in-Some-clause-unwritten
returns-in-Some-clause-unwritten g c o p = c.dump_by.ensures.unwritten o (ap (λ x. x.failure) c.in-Ok.ensures.kept ∙ p)

pub returns-in-Some-clause-front : goal.returns-in-Some-clause-front
returns-in-Some-clause-front g c q =
    let formed = c.in-Ok.ensures in
    let p = c.in-Some.protocol in
    let named = protocol_named c.args.file.now.bytes.now c.in-Ok.table c.args.recorded.protocol.now c.as_bytes.result.now p formed.value c.in-Some.ensures.table c.as_bytes.ensures.value formed.well_formed c.in-Some.ensures.found in
    elim (c.dump_by.ensures.front q) [
      | inl e ↦ inl e
      | inr h ↦ inr (record { protocol = p; named = named; count = h.0; front = h.1 })
    ]

pub returns-in-Some-clause-out : goal.returns-in-Some-clause-out
returns-in-Some-clause-out g c w = elim w [
  | inl n ↦ absurd (subst CanEndDumpBy n c.dump_by.ensures.ends)
  | inr m ↦ c.dump_by.ensures.out m
]

pub returns-in-Some-clause-errors : goal.returns-in-Some-clause-errors
returns-in-Some-clause-errors g c q = c.dump_by.ensures.errors q ∙ ap (λ x. g.E.Write.contents x.writer) c.in-Ok.ensures.kept

pub returns-in-None-clause-no_protocol : goal.returns-in-None-clause-no_protocol
returns-in-None-clause-no_protocol g c q = no_protocol_of c.args.file.now.bytes.now c.in-Ok.table c.args.recorded.protocol.now c.as_bytes.result.now c.in-Ok.ensures.value c.as_bytes.ensures.value c.in-Ok.ensures.well_formed c.in-None.ensures.none

pub returns-in-None-clause-unwritten : goal.returns-in-None-clause-unwritten
returns-in-None-clause-unwritten g c o p =
    let written = c.write_unnamed-written.ensures in
    told_failed c.write_unnamed-written.result outcome.NoProtocol c.where_written.result _ _ _ c.where_written.ensures (λ n. cc) written.kept written.failed o (ap (λ x. x.failure) c.in-Ok.ensures.kept ∙ p)
