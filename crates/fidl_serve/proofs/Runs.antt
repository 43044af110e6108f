-- A whole run, by the protocol of the script.
use Rattle.std.proofs.Common.{◌≡◌, ℕ, List, sym, subst}
use Rattle.std.specs.Prelude.{Option, Result, IfSome}
use Rattle.fidl_table_format.specs.Section.{header_of}
use Rattle.fidl_table_format.specs.Protocol.{IsFirstProtocol}
use Rattle.fidl_table_format.specs.WellFormed.{WellFormed}
use Rattle.fidl_verify.specs.Lookups.{TableProtocol, IsProtocolOfTable}
use Rattle.fidl_requests.proofs.One.{one_verdict}
use Rattle.fidl_requests.specs.declared.ended.Ended.{Ended}
use Rattle.fidl_script.specs.Script.{Script}
use Rattle.fidl_serve.specs.Served.{ByProtocol, Served, Serves, WritesAll}
use Rattle.fidl_serve.specs.declared.fault.ServeFault.{ServeFault}
use Rattle.fidl_serve.proofs.Going.{serves}
use Rattle.fidl_serve.proofs.Whole.{writes_all}
use Rattle.fidl_serve.proofs.Protocols.{by_protocol}

-- a run from the script's beginning
pub run_serves : (q : TableProtocol) (s start : Script) (has left old new : Option (List ℕ)) (result : Result Ended ServeFault) → start ≡ s → Served q start 0 has left old new result → Serves q s has left old new result
run_serves q s start has left old new result e r = serves q s has left old new result (subst (λ (x : Script). Served q x 0 has left old new result) e r)

pub serves_by : (table : List ℕ) (s : Script) (q : TableProtocol) (has left old new : Option (List ℕ)) (result : Result Ended ServeFault) → q.table ≡ table → IsFirstProtocol table (header_of table) s.protocol q.number → Serves q s has left old new result
    → ByProtocol table s (λ p. Serves p s has left old new result)
serves_by table s q has left old new result e f r = by_protocol table s (λ p. Serves p s has left old new result) q e f r

-- the protocol that was found is one of the table
of_table : (table name : List ℕ) (q : TableProtocol) → WellFormed table → q.table ≡ table → IsFirstProtocol table (header_of table) name q.number → IsProtocolOfTable q
of_table table name q w e f = subst (λ (t : List ℕ). IsProtocolOfTable (record { table = t; number = q.number })) (sym e) (record { well_formed = w; within = f.within })

pub whole_by : (table : List ℕ) (s : Script) (q : TableProtocol) (has left old new : Option (List ℕ)) (result : Result Ended ServeFault) → WellFormed table → q.table ≡ table → IsFirstProtocol table (header_of table) s.protocol q.number → Serves q s has left old new result
    → ByProtocol table s (λ p. IfSome has (λ input. WritesAll p s input old new result))
whole_by table s q has left old new result w e f r =
    by_protocol table s (λ p. IfSome has (λ input. WritesAll p s input old new result)) q e f
    (writes_all q (one_verdict q (of_table table s.protocol q w e f)) s has left old new result r)
