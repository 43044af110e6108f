-- What the command `serve` answers (docs/program.md, "serve").
use Rattle.std.specs.Prelude.{◌≡◌, ◌≢◌, ⊤, ℕ, ◌≤◌, List, [], Option, Some, None, Result, Ok, Err}
use Rattle.std.specs.Prelude.{IfSome, codes}
use Rattle.fidl_limits.specs.declared.limits.TheConstants.{MAX_SERVICE_READS}
use Rattle.fidl_streams.specs.Counts.{add_count, count_when}
use Rattle.fidl_table_format.specs.WellFormed.{WellFormed}
use Rattle.fidl_verify.specs.Faults.{Breaks}
use Rattle.fidl_verify.specs.Lookups.{TableProtocol}
use Rattle.fidl_verify.specs.declared.fault.TableFault.{TableFault}
use Rattle.fidl_script.specs.Script.{Script}
use Rattle.fidl_script.specs.Text.{IsScript}
use Rattle.fidl_script.specs.Faults.{IsTold}
use Rattle.fidl_script.specs.Faults as script_faults
use Rattle.fidl_script.specs.declared.fault.ScriptFault.{ScriptFault}
use Rattle.fidl_script.specs.declared.fault.ScriptFault.TheVariants as script_fault
use Rattle.fidl_requests.specs.Endings as endings
use Rattle.fidl_requests.specs.declared.ended.Ended.{Ended}
use Rattle.fidl_requests.specs.declared.ended.Ended.TheVariants.{EndOfInput}
use Rattle.fidl_serve.specs.Served.{Serves, WritesAll, is_read_fault}
use Rattle.fidl_serve.specs.Faults as serve_faults
use Rattle.fidl_serve.specs.declared.fault.ServeFault.{ServeFault}
use Rattle.fidl_serve.specs.declared.fault.ServeFault.TheVariants as fault
use Rattle.fidl_commands.specs.Decoding.{refusal_line, placeless_line, table_line, no_memory_line}
use Rattle.fidl_commands.specs.declared.outcome.Outcome.{Outcome}
use Rattle.fidl_commands.specs.declared.outcome.Outcome.TheVariants.{Done, Refused, Unread}
use Rattle.fidl_commands.specs.declared.outcome.Outcome.TheVariants.{Unwritten, NoMemory}
use Rattle.fidl_stream_commands.specs.declared.serving.ServedFiles.{ServedFiles}

-- a reader before and after a service: the bytes that it still gives, where they are known, how
-- many reads were made of it, and how many of these failed
pub record Reading : Type 0 where
  pub has : Option (List ℕ)
  pub left : Option (List ℕ)
  pub reads_before : ℕ
  pub reads_after : ℕ
  pub failures_before : ℕ
  pub failures_after : ℕ

abbrev pub reading : {R : Type 0} → (remaining : R → Option (List ℕ)) → (reads failures : R → ℕ)
    → (old new : R) → Reading
reading remaining reads failures old new = record {
  has = remaining old;
  left = remaining new;
  reads_before = reads old;
  reads_after = reads new;
  failures_before = failures old;
  failures_after = failures new;
}

-- the table is accepted, and the text is a script for one of its protocols
pub record HasScript (table text : List ℕ) : Type 0 where
  pub well_formed : WellFormed table
  pub protocol : TableProtocol
  pub of_table : protocol.table ≡ table
  pub script : Script
  pub is : IsScript protocol text script

-- the service of such a script was run, with this result. What was read, and what was written on
-- the output, is what the result says of the replies of the script. All reads allowed were made
-- where it is NeverEnds, and one read failed where it is Read, and else none
pub record IsServed (table text : List ℕ) (r : Reading) (old new : Option (List ℕ))
    (result : Result Ended ServeFault) : Type 0 where
  pub given : HasScript table text
  pub serves : Serves given.protocol given.script r.has r.left old new result
  pub whole : IfSome r.has (λ input. WritesAll given.protocol given.script input old new result)
  pub made : ℕ
  pub within : made ≤ MAX_SERVICE_READS
  pub reads : r.reads_after ≡ add_count r.reads_before made
  pub all_reads : result ≡ Err fault.NeverEnds → made ≡ MAX_SERVICE_READS
  pub failures : r.failures_after ≡ count_when r.failures_before (is_read_fault result)

-- the service was run, and broken off by a write that failed, after so many whole replies
abbrev pub IsCut : (table text : List ℕ) → Reading → (old new : Option (List ℕ)) → Type 0
IsCut table text r old new =
    (frames : ℕ) × IsServed table text r old new (Err (fault.Write frames))

-- the service was run, and its input did not end between frames
abbrev pub IsBrokenOff : (table text : List ℕ) → Reading → (old new : Option (List ℕ)) → Type 0
IsBrokenOff table text r old new = (result : Result Ended ServeFault)
    × (result ≢ Ok EndOfInput) × IsServed table text r old new result

-- the line of a script's fault, with the number of the script's line where it reports one
abbrev pub script_line_at : ScriptFault → (number : Option ℕ) → List ℕ
script_line_at f (Some number) =
    refusal_line (codes "script") (script_faults.number_of f) (script_faults.name_of f) number
script_line_at f None =
    placeless_line (codes "script") (script_faults.number_of f) (script_faults.name_of f)

abbrev pub script_line : ScriptFault → List ℕ
script_line f = script_line_at f (script_faults.line_of f)

-- the line of an end of the service, and of its fault
abbrev pub end_line : Ended → List ℕ
end_line e = placeless_line (codes "ended") (endings.number_of e) (endings.name_of e)

abbrev pub fault_line : ServeFault → List ℕ
fault_line f = placeless_line (codes "serve") (serve_faults.number_of f) (serve_faults.name_of f)

-- what happens to the command by the result of its service
abbrev pub outcome_of : Result Ended ServeFault → Outcome
outcome_of (Ok EndOfInput) = Done
outcome_of (Ok _) = Refused
outcome_of (Err fault.Read) = Unread
outcome_of (Err (fault.Write frames)) = Unwritten
outcome_of (Err fault.Memory) = NoMemory
outcome_of (Err fault.NeverEnds) = Refused

-- what is then printed on the errors
abbrev pub line_of : Result Ended ServeFault → List ℕ
line_of (Ok EndOfInput) = []
line_of (Ok ended) = end_line ended
line_of (Err fault.Read) = fault_line fault.Read
line_of (Err (fault.Write frames)) = fault_line (fault.Write frames)
line_of (Err fault.Memory) = no_memory_line
line_of (Err fault.NeverEnds) = fault_line fault.NeverEnds

-- the lines that are true refusals: of a table, which is told by a rule that it breaks; of a text,
-- which is told by what makes it no script; of a request, or of an input that goes on after all
-- reads allowed. In the last two cases the replies before are written
pub data IsServeRefusal (table text : List ℕ) (r : Reading) (old new : Option (List ℕ))
    : List ℕ → Type 0 where
  of_table : (f : TableFault) → ¬ WellFormed table → Breaks table f
      → IsServeRefusal table text r old new (table_line f)
  of_script : (f : ScriptFault) → WellFormed table → f ≢ script_fault.Memory → IsTold table text f
      → IsServeRefusal table text r old new (script_line f)
  of_end : (ended : Ended) → ended ≢ EndOfInput → IsServed table text r old new (Ok ended)
      → IsServeRefusal table text r old new (end_line ended)
  of_reads : IsServed table text r old new (Err fault.NeverEnds)
      → IsServeRefusal table text r old new (fault_line fault.NeverEnds)

-- the same of the bytes of files
abbrev pub HasScriptOf : ServedFiles → Type 0
HasScriptOf f = HasScript f.table.bytes.now f.script.bytes.now

abbrev pub IsServedOf : ServedFiles → Reading → (old new : Option (List ℕ))
    → Result Ended ServeFault → Type 0
IsServedOf f = IsServed f.table.bytes.now f.script.bytes.now

abbrev pub IsCutOf : ServedFiles → Reading → (old new : Option (List ℕ)) → Type 0
IsCutOf f = IsCut f.table.bytes.now f.script.bytes.now

abbrev pub IsBrokenOffOf : ServedFiles → Reading → (old new : Option (List ℕ)) → Type 0
IsBrokenOffOf f = IsBrokenOff f.table.bytes.now f.script.bytes.now

abbrev pub IsServeRefusalOf : ServedFiles → Reading → (old new : Option (List ℕ)) → List ℕ
    → Type 0
IsServeRefusalOf f = IsServeRefusal f.table.bytes.now f.script.bytes.now

-- what can happen to `serve`
abbrev pub CanEndServe : Outcome → Type 0
CanEndServe Done = ⊤
CanEndServe Refused = ⊤
CanEndServe Unread = ⊤
CanEndServe Unwritten = ⊤
CanEndServe NoMemory = ⊤
CanEndServe _ = ⊥

-- what can happen where a text is no script, or memory runs out over it
abbrev pub CanEndScript : Outcome → Type 0
CanEndScript Refused = ⊤
CanEndScript Unwritten = ⊤
CanEndScript NoMemory = ⊤
CanEndScript _ = ⊥
