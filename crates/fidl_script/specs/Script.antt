-- What a service holds of a script (docs/service.md, "Scripts").
use Rattle.std.specs.Prelude.{◌≡◌, ℕ, ◌+◌, ◌<◌, ◌≤◌, ◌&&◌, Bool, not, IsTrue, List, [], ◌∷◌, length}
use Rattle.std.specs.List.{AllByRecursion, AllPairs, Contains}
use Rattle.fidl_limits.specs.declared.limits.TheConstants.{MAX_MESSAGE_BYTES}
use Rattle.fidl_wire.specs.declared.handle.HandleInfo.{HandleInfo}
use Rattle.fidl_wire.specs.Term as ty
use Rattle.fidl_wire.specs.Message.{IsEncoding}
use Rattle.fidl_table_format.specs.declared.record.MethodRecord.{MethodRecord}
use Rattle.fidl_table_format.specs.Section.{header_of, method_at}
use Rattle.fidl_table_format.specs.Terms.{declarations_of}
use Rattle.fidl_table_format.specs.Protocol.{IsFirstProtocol}
use Rattle.fidl_table_format.specs.Method.{is_strict, has_request, has_response, method_number}
use Rattle.fidl_verify.specs.Lookups.{response_of, TableProtocol, protocol_record}
use Rattle.fidl_verify.specs.declared.method.Payload.{Payload}
use Rattle.fidl_verify.specs.declared.method.Payload.TheVariants.{Missing, Empty, Entry}

-- what stands behind the header of a reply, and its handles
pub record Body : Type 0 where
  pub bytes : List ℕ
  pub handles : List HandleInfo

-- a two-way method, with the replies that it has left: the next one, and those after it
pub record Replies : Type 0 where
  pub ordinal : ℕ
  pub flexible : Bool
  pub next : Body
  pub later : List Body

-- a script: the name of its protocol, and the replies of its methods by rising ordinal
pub record Script : Type 0 where
  pub protocol : List ℕ
  pub methods : List Replies

-- the body without bytes and handles
abbrev pub empty_body : Body
empty_body = record { bytes = []; handles = [] }

-- all replies that a method has left
abbrev pub bodies_of : Replies → List Body
bodies_of r = r.next ∷ r.later

-- the message of a body has at most the limit of bytes together with a header of 16 bytes
abbrev pub FitsBehindHeader : Body → Type 0
FitsBehindHeader body = 16 + length body.bytes ≤ MAX_MESSAGE_BYTES

-- the body is the message of what a response carries, and fits behind a header
abbrev pub IsReplyOf : (table : List ℕ) → Payload → Body → Type 0
IsReplyOf table Missing body = ⊥
IsReplyOf table Empty body = body ≡ empty_body
IsReplyOf table (Entry e) body =
    IsEncoding (declarations_of table) (ty.named e) body.bytes body.handles × FitsBehindHeader body

-- the record of the method at a place of a protocol
abbrev pub method_of : TableProtocol → (place : ℕ) → MethodRecord
method_of p place = method_at p.table (header_of p.table)
    (method_number p.table (header_of p.table) p.number place)

-- the method is two-way: it has a request and a response, so it is no event
abbrev pub has_both : MethodRecord → Bool
has_both m = has_request m && has_response m

-- the protocol has a two-way method at this place
pub record IsTwoWay (p : TableProtocol) (place : ℕ) : Type 0 where
  pub within : place < (protocol_record p).methods
  pub messages : IsTrue (has_both (method_of p place))

-- the replies are those of the two-way method at this place of the protocol
pub record AreRepliesOf (p : TableProtocol) (place : ℕ) (r : Replies) : Type 0 where
  pub two_way : IsTwoWay p place
  pub ordinal : r.ordinal ≡ (method_of p place).ordinal
  pub flexible : r.flexible ≡ not (is_strict (method_of p place))
  pub bodies : AllByRecursion (IsReplyOf p.table (response_of (method_of p place))) (bodies_of r)

-- the script is one for this protocol, the first of its name in the table: it has replies of just
-- the two-way methods, by rising ordinal
pub record IsScriptFor (p : TableProtocol) (s : Script) : Type 0 where
  pub named : IsFirstProtocol p.table (header_of p.table) s.protocol p.number
  pub sound : (r : Replies) → Contains s.methods r → (place : ℕ) × AreRepliesOf p place r
  pub complete : (place : ℕ) → IsTwoWay p place
      → (r : Replies) × Contains s.methods r × AreRepliesOf p place r
  pub rise : AllPairs (λ (r q : Replies). r.ordinal < q.ordinal) s.methods
