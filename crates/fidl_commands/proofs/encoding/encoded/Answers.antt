use Rattle.std.proofs.Common.{◌≡◌, ◌≢◌, ℕ, List, refl, sym, ap, subst, ◌∙◌}
use Rattle.fidl_wire.specs.Views.{value_view}
use Rattle.fidl_reading.specs.Faults.{place_of}
use Rattle.fidl_reading.specs.declared.fault.NotationFault.{NotationFault}
use Rattle.fidl_reading.specs.declared.fault.NotationFault.TheVariants.{Syntax, UnknownName, OutOfRange, Repeated, Memory}
use Rattle.fidl_reading.specs.Reads.{IfJudged}
use Rattle.fidl_commands.specs.declared.outcome.Outcome.TheVariants as outcome
use Rattle.fidl_commands.specs.Encoding.{IsTextLine, at_place, IsMessageOf, message, of_text, of_value}
use Rattle.fidl_commands.proofs.Told.{told_alone}
use Rattle.fidl_commands.proofs.encoding.encoded.Goals as goal

-- a fault that has a place is not that memory ran out
placed : (fault : NotationFault) (line : List ℕ) → IsTextLine fault line → fault ≢ Memory
placed fault line (at_place place e) m = let bad = sym (ap place_of m) ∙ e in cc

-- what such a fault says holds
spoken : (Q : Type 0) (fault : NotationFault) → fault ≢ Memory → IfJudged Q fault → Q
spoken Q (Syntax at) n h = h
spoken Q (UnknownName at) n h = h
spoken Q (OutOfRange at) n h = h
spoken Q (Repeated at) n h = h
spoken Q Memory n h = absurd (n refl)

pub returns-in-Err-clause-refused : goal.returns-in-Err-clause-refused
returns-in-Err-clause-refused g c q =
    let refused : c.refuse_text.result ≡ outcome.Refused = cc in
    let told = c.refuse_text.ensures.refused refused in
    (told.0, of_text c.in-Err.fault told.0 told.1 (spoken _ c.in-Err.fault (placed c.in-Err.fault told.0 told.1) c.in-Err.ensures.fault_is_true), told.2)

pub returns-in-Err-encode-clause-refused : goal.returns-in-Err-encode-clause-refused
returns-in-Err-encode-clause-refused g c q =
    let refused : c.refuse_value.result ≡ outcome.Refused = cc in
    let told = c.refuse_value.ensures.refused refused in
    (told.0, of_value (value_view c.in-Ok.value) c.in-Err-encode.fault told.0 told.1 c.in-Ok.ensures.ok c.in-Err-encode.ensures.fault_is_true, told.2)

pub returns-in-Ok-message_text-clause-ok : goal.returns-in-Ok-message_text-clause-ok
returns-in-Ok-message_text-clause-ok g c =
    let m = c.in-Ok-encode.message in
    subst (λ (l : List ℕ). IsMessageOf c.args.table.now c.args.entry c.args.text.now l) (sym c.in-Ok-message_text.ensures)
    (message (value_view c.in-Ok.value) m.bytes.items m.handles.items c.in-Ok.ensures.ok c.in-Ok-encode.ensures.ok)

pub returns-clause-unwritten : goal.returns-clause-unwritten
returns-clause-unwritten g c =
    told_alone c.write_no_memory.result outcome.NoMemory c.where_written.result _ _ c.where_written.ensures (λ e. cc) c.write_no_memory.ensures.kept c.write_no_memory.ensures.failed
