-- What a service answers a frame by its verdict, and what is then left of the script
-- (docs/service.md, "Answers").
use Rattle.std.specs.Prelude.{ℕ, ◌+◌, ◌==◌, true, List, [], ◌∷◌, ◌++◌, length}
use Rattle.std.specs.Prelude.{if◌then◌else◌}
use Rattle.std.specs.List.{flat_map}
use Rattle.std.specs.Int.{w16, w32, w64, to_le_bytes}
use Rattle.fidl_wire.specs.declared.handle.HandleInfo.{HandleInfo}
use Rattle.fidl_header.specs.Header.{header_bytes}
use Rattle.fidl_header.specs.declared.header.Header.{Header}
use Rattle.fidl_requests.specs.declared.ended.Ended.{Ended}
use Rattle.fidl_requests.specs.declared.verdict.Verdict.{Verdict}
use Rattle.fidl_requests.specs.declared.verdict.Verdict.TheVariants.{Silence, Unknown, Call, End}
use Rattle.fidl_script.specs.Script.{Body, Replies, Script}

-- the bytes of a handle in a frame: id, object type, rights
abbrev pub handle_bytes : HandleInfo → List ℕ
handle_bytes h =
    to_le_bytes w32 h.id ++ (to_le_bytes w32 h.object_type ++ to_le_bytes w32 h.rights)

-- the frame of a message: its counts, its header, its body, and its handles
unfoldable pub frame_of : Header → Body → List ℕ
frame_of h b =
    to_le_bytes w32 (16 + length b.bytes)
    ++ (to_le_bytes w32 (length b.handles)
    ++ (header_bytes h ++ (b.bytes ++ flat_map handle_bytes b.handles)))

-- the body of the reply to an unknown method: the union of ordinal 3 with the int32 -2
abbrev pub unknown_method_body : Body
unknown_method_body = record {
  bytes = to_le_bytes w64 3
      ++ (to_le_bytes w32 0xfffffffe ++ (to_le_bytes w16 0 ++ to_le_bytes w16 1));
  handles = [];
}

-- what a frame is answered
pub data Answer : Type 0 where
  -- nothing
  silence : Answer
  -- a frame of these bytes
  reply : List ℕ → Answer
  -- the end of the service
  end : Ended → Answer

-- the reply to a call: the next body of the method of this ordinal. A script of the protocol has
-- one for each call
abbrev pub next_reply : (txid ordinal : ℕ) → List Replies → Answer
next_reply txid ordinal [] = silence
next_reply txid ordinal (r ∷ rs) =
    if r.ordinal == ordinal
    then reply (frame_of (record { txid = txid; flexible = r.flexible; ordinal = ordinal }) r.next)
    else next_reply txid ordinal rs

-- what a frame of this verdict is answered
unfoldable pub answer_of : Script → Verdict → Answer
answer_of s Silence = silence
answer_of s (Unknown txid ordinal) =
    reply (frame_of (record { txid = txid; flexible = true; ordinal = ordinal })
    unknown_method_body)
answer_of s (Call txid ordinal) = next_reply txid ordinal s.methods
answer_of s (End ended) = end ended

-- the replies without the next one; the last one stays
abbrev pub advanced_by : Replies → (later : List Body) → Replies
advanced_by r [] = r
advanced_by r (b ∷ bs) =
    record { ordinal = r.ordinal; flexible = r.flexible; next = b; later = bs }

abbrev pub advanced : Replies → Replies
advanced r = advanced_by r r.later

-- the methods after a call of the one of this ordinal
abbrev pub methods_after : (ordinal : ℕ) → List Replies → List Replies
methods_after ordinal [] = []
methods_after ordinal (r ∷ rs) =
    if r.ordinal == ordinal then advanced r ∷ rs else r ∷ methods_after ordinal rs

-- what is left of the script after a frame of this verdict: a call takes a reply
unfoldable pub script_after : Script → Verdict → Script
script_after s Silence = s
script_after s (Unknown txid ordinal) = s
script_after s (Call txid ordinal) =
    record { protocol = s.protocol; methods = methods_after ordinal s.methods }
script_after s (End ended) = s
