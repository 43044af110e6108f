-- What a frame asks of a service, in the order of the rules (docs/service.md, "Answers").
use Rattle.std.specs.Prelude.{◌≡◌, ◌≢◌, ℕ, ◌==◌, not, Bool, true, false, List, drop}
use Rattle.std.specs.Prelude.{if◌then◌else◌}
use Rattle.fidl_header.specs.Header.{IsHeader, header_of}
use Rattle.fidl_header.specs.declared.header.Header.{Header}
use Rattle.fidl_verify.specs.Lookups.{TableProtocol, protocol_record, request_of}
use Rattle.fidl_requests.specs.Frame.{message_of, handles_of}
use Rattle.fidl_requests.specs.Carried.{IsCarried}
use Rattle.fidl_requests.specs.Methods.{IsRequested, IsUnrequested, record_of, is_two_way}
use Rattle.fidl_requests.specs.declared.ended.Ended.TheVariants.{StrictUnknown, BadMessage}
use Rattle.fidl_requests.specs.declared.verdict.Verdict.{Verdict}
use Rattle.fidl_requests.specs.declared.verdict.Verdict.TheVariants.{Silence, Unknown, Call, End}

-- the header of the message in a frame
abbrev pub frame_head : (frame : List ℕ) → Header
frame_head frame = header_of (message_of frame)

-- the transaction id is 0 exactly for a one-way method
abbrev pub IsCalledRight : (two_way : Bool) → (txid : ℕ) → Type 0
IsCalledRight true txid = txid ≢ 0
IsCalledRight false txid = txid ≡ 0

-- what stands behind the header of a frame is what the request of the method of this number carries
abbrev pub IsBody : (table : List ℕ) → (number : ℕ) → (frame : List ℕ) → Type 0
IsBody table number frame =
    IsCarried table (request_of (record_of table number)) (drop 16 (message_of frame))
    (handles_of frame)

-- what an ordinal asks that is no method with a request, by the protocol's openness: 0 closed, 1
-- ajar, 2 open
abbrev pub unknown_verdict : (openness : ℕ) → Header → Verdict
unknown_verdict openness h =
    if not h.flexible then End StrictUnknown
    else (if h.txid == 0 then (if openness == 0 then End StrictUnknown else Silence)
    else (if openness == 2 then Unknown h.txid h.ordinal else End StrictUnknown))

-- what a call of the method of this number asks
abbrev pub call_verdict : (table : List ℕ) → (number : ℕ) → Header → Verdict
call_verdict table number h = if is_two_way table number then Call h.txid h.ordinal else Silence

-- what a frame asks of a service of the protocol; of each frame there is one verdict
pub data IsVerdict (p : TableProtocol) (frame : List ℕ) : Verdict → Type 0 where
  -- the message does not begin with a header
  no_header : ¬ (IsHeader (message_of frame)) → IsVerdict p frame (End BadMessage)
  -- no method with a request has the ordinal
  unknown : IsHeader (message_of frame) → IsUnrequested p (frame_head frame).ordinal
      → IsVerdict p frame (unknown_verdict (protocol_record p).openness (frame_head frame))
  -- a method has it, and the transaction id is not one that its calls have
  wrong_call : (number : ℕ) → IsHeader (message_of frame)
      → IsRequested p (frame_head frame).ordinal number
      → ¬ (IsCalledRight (is_two_way p.table number) (frame_head frame).txid)
      → IsVerdict p frame (End BadMessage)
  -- the transaction id is, and the body is not what its request carries
  bad_body : (number : ℕ) → IsHeader (message_of frame)
      → IsRequested p (frame_head frame).ordinal number
      → IsCalledRight (is_two_way p.table number) (frame_head frame).txid
      → ¬ (IsBody p.table number frame) → IsVerdict p frame (End BadMessage)
  -- a call
  called : (number : ℕ) → IsHeader (message_of frame)
      → IsRequested p (frame_head frame).ordinal number
      → IsCalledRight (is_two_way p.table number) (frame_head frame).txid
      → IsBody p.table number frame
      → IsVerdict p frame (call_verdict p.table number (frame_head frame))
