-- What the result of a service says of its outcome, of its line, and of the writer's failures.
use Rattle.std.proofs.Common.{◌≡◌, ◌↔◌, ℕ, List, ◌≤◌, refl, sym, ap, subst, ◌∙◌, inl, inr, arith}
use Rattle.std.specs.Prelude.{Bool, true, false, Result, Ok, Err, Option, Some, None, IsSome, IsTrue, ◌⊎◌, IfSome}
use Rattle.std.specs.Io.KnownBytes.{Appends}
use Rattle.fidl_streams.specs.Counts.{add_count, count_when}
use Rattle.fidl_requests.specs.declared.ended.Ended.{Ended}
use Rattle.fidl_requests.specs.declared.ended.Ended.TheVariants as ended
use Rattle.fidl_serve.specs.Served.{is_write_fault}
use Rattle.fidl_serve.specs.declared.fault.ServeFault.{ServeFault}
use Rattle.fidl_serve.specs.declared.fault.ServeFault.TheVariants as fault
use Rattle.fidl_commands.specs.declared.outcome.Outcome.{Outcome}
use Rattle.fidl_commands.specs.declared.outcome.Outcome.TheVariants as outcome
use Rattle.fidl_stream_commands.specs.Serving.{Reading, IsServed, IsServeRefusal, of_table, of_end, of_reads, outcome_of, line_of}
use Rattle.fidl_commands.specs.Listing.{IsTableRefusal, of_fault}
use Rattle.fidl_limits.specs.declared.limits.TheConstants.{MAX_SERVICE_READS}
use Rattle.fidl_table_format.specs.WellFormed.{WellFormed}
use Rattle.fidl_verify.specs.Lookups.{TableProtocol}
use Rattle.fidl_script.specs.Script.{Script}
use Rattle.fidl_script.specs.Text.{IsScript}
use Rattle.fidl_serve.specs.Served.{ByProtocol, Serves, WritesAll, is_read_fault}

-- the result by what happens to the command
pub result_done : (s : Result Ended ServeFault) → outcome_of s ≡ outcome.Done → s ≡ Ok ended.EndOfInput
result_done (Ok ended.EndOfInput) e = refl
result_done (Ok ended.StrictUnknown) e = cc
result_done (Ok ended.BadMessage) e = cc
result_done (Ok ended.BadFrame) e = cc
result_done (Err fault.Read) e = cc
result_done (Err (fault.Write n)) e = cc
result_done (Err fault.Memory) e = cc
result_done (Err fault.NeverEnds) e = cc

pub result_unread : (s : Result Ended ServeFault) → outcome_of s ≡ outcome.Unread → s ≡ Err fault.Read
result_unread (Ok ended.EndOfInput) e = cc
result_unread (Ok ended.StrictUnknown) e = cc
result_unread (Ok ended.BadMessage) e = cc
result_unread (Ok ended.BadFrame) e = cc
result_unread (Err fault.Read) e = refl
result_unread (Err (fault.Write n)) e = cc
result_unread (Err fault.Memory) e = cc
result_unread (Err fault.NeverEnds) e = cc

pub result_memory : (s : Result Ended ServeFault) → outcome_of s ≡ outcome.NoMemory → s ≡ Err fault.Memory
result_memory (Ok ended.EndOfInput) e = cc
result_memory (Ok ended.StrictUnknown) e = cc
result_memory (Ok ended.BadMessage) e = cc
result_memory (Ok ended.BadFrame) e = cc
result_memory (Err fault.Read) e = cc
result_memory (Err (fault.Write n)) e = cc
result_memory (Err fault.Memory) e = refl
result_memory (Err fault.NeverEnds) e = cc

pub result_cut : (s : Result Ended ServeFault) → IsTrue (is_write_fault s) → (frames : ℕ) × (s ≡ Err (fault.Write frames))
result_cut (Ok x) e = let never : false ≡ true = e in cc
result_cut (Err fault.Read) e = let never : false ≡ true = e in cc
result_cut (Err (fault.Write n)) e = (n, refl)
result_cut (Err fault.Memory) e = let never : false ≡ true = e in cc
result_cut (Err fault.NeverEnds) e = let never : false ≡ true = e in cc

-- a refusal of a service is true
pub refused_by : (table text : List ℕ) (r : Reading) (old new : Option (List ℕ)) (s : Result Ended ServeFault) → outcome_of s ≡ outcome.Refused
    → IsServed table text r old new s → IsServeRefusal table text r old new (line_of s)
refused_by table text r old new (Ok ended.EndOfInput) e h = cc
refused_by table text r old new (Ok ended.StrictUnknown) e h = of_end ended.StrictUnknown (λ q. cc) h
refused_by table text r old new (Ok ended.BadMessage) e h = of_end ended.BadMessage (λ q. cc) h
refused_by table text r old new (Ok ended.BadFrame) e h = of_end ended.BadFrame (λ q. cc) h
refused_by table text r old new (Err fault.Read) e h = cc
refused_by table text r old new (Err (fault.Write n)) e h = cc
refused_by table text r old new (Err fault.Memory) e h = cc
refused_by table text r old new (Err fault.NeverEnds) e h = of_reads h

-- a writer that counts its failures, and had none, has one now exactly where a write failed
pub failed_now : {F : Type 0} (b : Bool) (old new : Option F) (m n : ℕ) → (m ≡ 0) ↔ (old ≡ None) → (n ≡ 0) ↔ (new ≡ None) → n ≡ count_when m b → old ≡ None → (IsSome new) ↔ (IsTrue b)
failed_now true old (Some x) m n before after e o = (λ s. refl, λ t. refl)
failed_now true old None m n before after e o =
    let none : n ≡ 0 = after.1 refl in
    let one : m ≡ 0 = before.1 o in
    let count : n ≡ count_when 0 true = e ∙ ap (λ k. count_when k true) one in
    let never : 1 ≡ 0 = sym count ∙ none in
    absurd (omega (arith, never))
failed_now false old new m n before after e o =
    let none : new ≡ None = after.0 (e ∙ before.1 o) in
    (λ s. let never : false ≡ true = subst IsSome none s in cc, λ t. let never : false ≡ true = t in cc)

-- the failures that are reported
pub reported : {F G : Type 0} (b : Bool) (r : Outcome) (out : Option F) (errors : Option G) → (IsSome out) ↔ (IsTrue b) → (r ≡ outcome.Unwritten) ↔ (IsTrue b ⊎ IsSome errors) → (r ≡ outcome.Unwritten) ↔ (IsSome out ⊎ IsSome errors)
reported b r out errors f t = (
  λ u. elim (t.0 u) [ inl x ↦ inl (f.1 x) | inr x ↦ inr x ],
  λ some. elim some [ inl x ↦ t.1 (inl (f.0 x)) | inr x ↦ t.1 (inr x) ],
)

-- a table that is refused
pub table_refused : (table text : List ℕ) (r : Reading) (old new : Option (List ℕ)) (line : List ℕ) → IsTableRefusal table line → IsServeRefusal table text r old new line
table_refused table text r old new line (of_fault f a b) = of_table f a b

-- a service that was run
pub served_by : (bytes table text : List ℕ) (script : Script) (r : Reading) (old new : Option (List ℕ)) (s : Result Ended ServeFault) (made : ℕ) → bytes ≡ table → WellFormed table
    → (read : (p : TableProtocol) × (p.table ≡ bytes) × IsScript p text script)
    → ByProtocol bytes script (λ p. Serves p script r.has r.left old new s)
    → ByProtocol bytes script (λ p. IfSome r.has (λ input. WritesAll p script input old new s))
    → made ≤ MAX_SERVICE_READS → r.reads_after ≡ add_count r.reads_before made → (s ≡ Err fault.NeverEnds → made ≡ MAX_SERVICE_READS)
    → r.failures_after ≡ count_when r.failures_before (is_read_fault s) → IsServed table text r old new s
served_by bytes table text script r old new s made same formed read serves whole within reads all failures = record {
  given = record { well_formed = formed; protocol = read.0; of_table = read.1 ∙ same; script = script; is = read.2 };
  serves = serves read.0 read.1 read.2.of_table;
  whole = whole read.0 read.1 read.2.of_table;
  made = made;
  within = within;
  reads = reads;
  all_reads = all;
  failures = failures;
}

pub served_as : (table text : List ℕ) (r : Reading) (old new : Option (List ℕ)) (s t : Result Ended ServeFault) → s ≡ t → IsServed table text r old new s → IsServed table text r old new t
served_as table text r old new s t e h = subst (λ (x : Result Ended ServeFault). IsServed table text r old new x) e h

-- the line of a result, behind what was on the errors before
pub line_from : (was before after : Option (List ℕ)) (line : List ℕ) → before ≡ was → Appends before after line → Appends was after line
line_from was before after line e h = subst (λ (x : Option (List ℕ)). Appends x after line) e h

pub line_as : (was before after : Option (List ℕ)) (s t : Result Ended ServeFault) → before ≡ was → s ≡ t → Appends before after (line_of s) → Appends was after (line_of t)
line_as was before after s t e f h = line_from was before after (line_of t) e (subst (λ (x : Result Ended ServeFault). Appends before after (line_of x)) f h)

-- what is none is not some
pub none_or : {F P : Type 0} (x : Option F) → x ≡ None → IsSome x → P
none_or x e f = let never : false ≡ true = subst IsSome e f in cc
