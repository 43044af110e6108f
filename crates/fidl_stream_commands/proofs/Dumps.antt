-- What the command `dump` says of its line, of its table and of its protocol.
use Rattle.std.proofs.Common.{◌≡◌, ℕ, ◌-◌, List, ◌++◌, ap, sym, subst, ◌∙◌, inl, inr}
use Rattle.std.specs.Prelude.{Result, Ok, Err, OnOk, Option}
use Rattle.std.specs.Io.KnownBytes.{Appends}
use Rattle.fidl_table_format.specs.Section.{header_of}
use Rattle.fidl_table_format.specs.Protocol.{IsFirstProtocol, HasNoProtocol}
use Rattle.fidl_table_format.specs.WellFormed.{WellFormed}
use Rattle.fidl_verify.specs.Lookups.{TableProtocol}
use Rattle.fidl_text.proofs.Written.{appends_then, appends_as}
use Rattle.fidl_commands.specs.Listing.{IsTableRefusal, of_fault, CanEndVerified}
use Rattle.fidl_commands.specs.declared.outcome.Outcome.{Outcome}
use Rattle.fidl_commands.specs.declared.outcome.Outcome.TheVariants as outcome
use Rattle.fidl_dump.specs.declared.direction.Direction.{Direction}
use Rattle.fidl_stream_commands.specs.Dumping.{IsProtocolNamed, LacksProtocol, IsDumpRefusal, of_table, CanEndDump, CanEndDumpBy}

-- a line is written behind another text
pub line_behind : {T E : Type 0} (a b c : Option (List ℕ)) (front line told : List ℕ) (r : Result T E) → line ≡ told → Appends a b front → OnOk r (Appends b c line) → OnOk r (Appends a c (front ++ told))
line_behind a b c front line told (Ok x) e f h = appends_then a b c front told f (appends_as b c line told e h)
line_behind a b c front line told (Err x) e f h = tt

-- a table that is refused refuses each dump
pub table_undumped : (table name : List ℕ) (direction : Direction) (input : List ℕ) (old new : Option (List ℕ)) (line : List ℕ) → IsTableRefusal table line → new ≡ old → IsDumpRefusal table name direction input old new line
table_undumped table name direction input old new line (of_fault f none breaks) same = of_table f none breaks same

-- the protocol that a table has by a name
pub protocol_named : (bytes table name given : List ℕ) (p : TableProtocol) → table ≡ bytes → p.table ≡ table → given ≡ name → WellFormed bytes → IsFirstProtocol table (header_of table) given p.number → IsProtocolNamed bytes name p
protocol_named bytes table name given p t of n w first = record {
  well_formed = w;
  of_table = of ∙ t;
  first = subst (λ (b : List ℕ). IsFirstProtocol b (header_of b) name p.number) t (subst (λ (l : List ℕ). IsFirstProtocol table (header_of table) l p.number) n first);
}

pub no_protocol_of : (bytes table name given : List ℕ) → table ≡ bytes → given ≡ name → WellFormed bytes → HasNoProtocol table (header_of table) given → LacksProtocol bytes name
no_protocol_of bytes table name given t n w none = record {
  well_formed = w;
  none = subst (λ (b : List ℕ). HasNoProtocol b (header_of b) name) t (subst (λ (l : List ℕ). HasNoProtocol table (header_of table) l) n none);
}

-- what ends the dump of a protocol's frames can end the command
pub ends_dump : (r : Outcome) → CanEndDumpBy r → CanEndDump r
ends_dump outcome.Done e = tt
ends_dump outcome.Refused e = tt
ends_dump outcome.Unwritten e = tt
ends_dump outcome.NoMemory e = tt
ends_dump outcome.Asked e = absurd e
ends_dump outcome.WrongLine e = absurd e
ends_dump outcome.NoRoot e = absurd e
ends_dump outcome.NoProtocol e = absurd e
ends_dump outcome.NoFault e = absurd e
ends_dump outcome.WrongText e = absurd e
ends_dump outcome.NoFile e = absurd e
ends_dump outcome.Unread e = absurd e
