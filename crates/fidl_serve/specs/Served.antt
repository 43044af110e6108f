-- What a run of a service has read and written (docs/service.md, "Output and ends").
use Rattle.std.specs.Prelude.{◌≡◌, ℕ, ◌+◌, ◌<◌, ◌≤◌, Bool, true, false, List, ◌++◌, length, take}
use Rattle.std.specs.Prelude.{drop, Option, Result, Ok, Err, OnOk}
use Rattle.std.specs.Io.KnownBytes.{Appends, Consumes, IsAtEnd}
use Rattle.std.specs.List.{concat}
use Rattle.fidl_verify.specs.Lookups.{TableProtocol}
use Rattle.fidl_requests.specs.declared.ended.Ended.{Ended}
use Rattle.fidl_script.specs.Script.{Script, IsScriptFor}
use Rattle.fidl_serve.specs.Output.{Output, IsOutput}
use Rattle.fidl_serve.specs.declared.fault.ServeFault.{ServeFault}
use Rattle.fidl_serve.specs.declared.fault.ServeFault.TheVariants.{Read, Write, Memory, NeverEnds}

-- the script is one of a protocol of the table
abbrev pub HasProtocol : (table : List ℕ) → Script → Type 0
HasProtocol table script = (p : TableProtocol) × (p.table ≡ table) × IsScriptFor p script

-- what holds of the protocol of the script
abbrev pub ByProtocol : (table : List ℕ) → Script → (TableProtocol → Type 0) → Type 0
ByProtocol table script P = (p : TableProtocol) → p.table ≡ table → IsScriptFor p script → P p

-- the bytes that were taken where the reply after `sent` whole ones failed: a front of it that is
-- not all, or all of it, and then its flush failed
pub record IsCutReply (replies : List (List ℕ)) (taken : List ℕ) (sent : ℕ) : Type 0 where
  pub front : List ℕ
  pub rest : List ℕ
  pub written : taken ≡ concat (take sent replies) ++ front
  pub next : concat (drop sent replies) ≡ front ++ rest
  pub last : length replies ≤ sent + 1
  pub part : sent < length replies → 0 < length rest

-- the bytes that were taken at each result, by the output of what was read; `sent` replies were
-- written before
abbrev pub HasWritten : (sent : ℕ) → Output → (taken : List ℕ) → Result Ended ServeFault
    → Type 0
HasWritten sent output taken (Ok ended) = (taken ≡ concat output.replies) × (ended ≡ output.end)
HasWritten sent output taken (Err Read) =
    (taken ≡ concat output.replies) × (output.is_open ≡ true)
HasWritten sent output taken (Err NeverEnds) =
    (taken ≡ concat output.replies) × (output.is_open ≡ true)
HasWritten sent output taken (Err (Write frames)) =
    (more : ℕ) × (frames ≡ sent + more) × IsCutReply output.replies taken more
HasWritten sent output taken (Err Memory) = ⊥

-- what was read and written from where `sent` replies were written and this is left of the script.
-- The reader has these bytes and then those left; the writer had taken the old ones, and then the
-- new ones
pub record Served (p : TableProtocol) (script : Script) (sent : ℕ) (has left : Option (List ℕ))
    (old new : Option (List ℕ)) (result : Result Ended ServeFault) : Type 0 where
  pub given : List ℕ
  pub taken : List ℕ
  pub reads : Consumes has left given
  pub writes : Appends old new taken
  pub output : Output
  pub is : IsOutput p script given output
  pub wrote : HasWritten sent output taken result
  pub at_end : output.is_open ≡ true → OnOk result (IsAtEnd left)

-- a whole run; where memory ran out nothing was read or written
abbrev pub Serves : TableProtocol → Script → (has left old new : Option (List ℕ))
    → Result Ended ServeFault → Type 0
Serves p script has left old new (Ok ended) = Served p script 0 has left old new (Ok ended)
Serves p script has left old new (Err Read) = Served p script 0 has left old new (Err Read)
Serves p script has left old new (Err (Write n)) =
    Served p script 0 has left old new (Err (Write n))
Serves p script has left old new (Err Memory) = (left ≡ has) × (new ≡ old)
Serves p script has left old new (Err NeverEnds) =
    Served p script 0 has left old new (Err NeverEnds)

-- a front of the bytes was taken
pub record AppendsFront (old new : Option (List ℕ)) (bytes : List ℕ) : Type 0 where
  pub front : List ℕ
  pub rest : List ℕ
  pub whole : bytes ≡ front ++ rest
  pub taken : Appends old new front

-- a run over a whole input that is known: its output is written, and its end answered; at a fault a
-- front of its output is written
abbrev pub WritesAll : TableProtocol → Script → (input : List ℕ) → (old new : Option (List ℕ))
    → Result Ended ServeFault → Type 0
WritesAll p script input old new (Ok ended) =
    (output : Output) × IsOutput p script input output
    × Appends old new (concat output.replies) × (ended ≡ output.end)
WritesAll p script input old new (Err fault) =
    (output : Output) → IsOutput p script input output
    → AppendsFront old new (concat output.replies)

-- whether a read failed
abbrev pub is_read_fault : {T : Type 0} → Result T ServeFault → Bool
is_read_fault (Ok x) = false
is_read_fault (Err Read) = true
is_read_fault (Err (Write n)) = false
is_read_fault (Err Memory) = false
is_read_fault (Err NeverEnds) = false

-- whether a write or a flush failed
abbrev pub is_write_fault : {T : Type 0} → Result T ServeFault → Bool
is_write_fault (Ok x) = false
is_write_fault (Err Read) = false
is_write_fault (Err (Write n)) = true
is_write_fault (Err Memory) = false
is_write_fault (Err NeverEnds) = false
