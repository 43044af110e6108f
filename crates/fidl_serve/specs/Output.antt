-- What a service writes for an input, and how it ends (docs/service.md, "Output and ends").
use Rattle.std.specs.Prelude.{◌≡◌, ℕ, Bool, true, false, List, [], ◌∷◌}
use Rattle.fidl_frames.specs.Frames.{Tail, between, inside, past_limit, frames_of}
use Rattle.fidl_verify.specs.Lookups.{TableProtocol}
use Rattle.fidl_requests.specs.declared.ended.Ended.{Ended}
use Rattle.fidl_requests.specs.declared.ended.Ended.TheVariants.{EndOfInput, BadFrame}
use Rattle.fidl_requests.specs.declared.verdict.Verdict.{Verdict}
use Rattle.fidl_requests.specs.Verdict.{IsVerdict}
use Rattle.fidl_script.specs.Script.{Script}
use Rattle.fidl_serve.specs.Replying.{Answer, silence, reply, end, answer_of, script_after}

-- the frames of all replies in order, and the end. The end is open where it is the input's own, so
-- that more input could have changed it
pub record Output : Type 0 where
  pub replies : List (List ℕ)
  pub end : Ended
  pub is_open : Bool

-- how a service ends by the end of its input
abbrev pub tail_end : Tail → Ended
tail_end between = EndOfInput
tail_end inside = BadFrame
tail_end past_limit = BadFrame

abbrev pub is_open_tail : Tail → Bool
is_open_tail between = true
is_open_tail inside = true
is_open_tail past_limit = false

-- an output with a reply before it
abbrev pub after_reply : List ℕ → Output → Output
after_reply bytes rest =
    record { replies = bytes ∷ rest.replies; end = rest.end; is_open = rest.is_open }

-- an answer, and then an output of what follows, unless it is an end
abbrev pub Then : Answer → (Output → Type 0) → Output → Type 0
Then silence P output = P output
Then (reply bytes) P output = (rest : Output) × P rest × (output ≡ after_reply bytes rest)
Then (end ended) P output = output ≡ record { replies = []; end = ended; is_open = false }

-- the replies to frames in order until the first end, and that end
abbrev pub IsReplies : TableProtocol → Script → List (List ℕ) → Tail → Output → Type 0
IsReplies p script [] tail output =
    output ≡ record { replies = []; end = tail_end tail; is_open = is_open_tail tail }
IsReplies p script (frame ∷ frames) tail output =
    (verdict : Verdict) × IsVerdict p frame verdict
    × Then (answer_of script verdict) (IsReplies p (script_after script verdict) frames tail) output

-- the replies to an input in order until the first end, and that end
unfoldable pub IsOutput : TableProtocol → Script → (input : List ℕ) → Output → Type 0
IsOutput p script input output =
    IsReplies p script (frames_of input).frames (frames_of input).tail output
