-- What one turn of a service does: a frame is read and answered.
use Rattle.std.specs.Prelude.{◌≡◌, ℕ, ◌+◌, List, take, Option, Some, None, Result, Ok, Err}
use Rattle.std.specs.Io.KnownBytes.{Appends, Consumes, Keeps}
use Rattle.fidl_frames.specs.Frames.{IsFrame}
use Rattle.fidl_verify.specs.Lookups.{TableProtocol}
use Rattle.fidl_requests.specs.declared.ended.Ended.{Ended}
use Rattle.fidl_requests.specs.declared.verdict.Verdict.{Verdict}
use Rattle.fidl_requests.specs.Verdict.{IsVerdict}
use Rattle.fidl_script.specs.Script.{Script}
use Rattle.fidl_serve.specs.Replying.{Answer, silence, reply, end, answer_of, script_after}
use Rattle.fidl_serve.specs.Served.{Served}
use Rattle.fidl_serve.specs.declared.fault.ServeFault.{ServeFault}
use Rattle.fidl_serve.specs.declared.answer.Reaction.{Reaction}
use Rattle.fidl_serve.specs.declared.answer.Reaction.TheVariants.{Silence, Reply, End}

-- the answer that a reaction is, by what stands in the buffer
abbrev pub reaction_answer : (buffer : List ℕ) → Reaction → Answer
reaction_answer buffer Silence = silence
reaction_answer buffer (Reply n) = reply (take n buffer)
reaction_answer buffer (End ended) = end ended

-- how many bytes of the buffer a reaction is
abbrev pub reply_length : Reaction → ℕ
reply_length Silence = 0
reply_length (Reply n) = n
reply_length (End ended) = 0

-- how a frame was reacted to, and what is left of the script
pub record Reacts (p : TableProtocol) (script after : Script) (frame buffer : List ℕ)
    (reaction : Reaction) : Type 0 where
  pub verdict : Verdict
  pub is : IsVerdict p frame verdict
  pub answer : answer_of script verdict ≡ reaction_answer buffer reaction
  pub next : after ≡ script_after script verdict

-- what an answer writes that is no end
abbrev pub Says : Answer → (old new : Option (List ℕ)) → (before after : ℕ) → Type 0
Says silence old new before after = Keeps old new × (after ≡ before)
Says (reply bytes) old new before after = Appends old new bytes × (after ≡ before + 1)
Says (end ended) old new before after = ⊥

-- a frame was read and answered, and not by an end
pub record Goes (p : TableProtocol) (script after : Script) (before sent : ℕ)
    (has left : Option (List ℕ)) (old new : Option (List ℕ)) : Type 0 where
  pub frame : List ℕ
  pub is : IsFrame frame
  pub reads : Consumes has left frame
  pub verdict : Verdict
  pub judged : IsVerdict p frame verdict
  pub next : after ≡ script_after script verdict
  pub says : Says (answer_of script verdict) old new before sent

-- one turn goes on, or is the last
abbrev pub Turns : (p : TableProtocol) (script after : Script) (before sent : ℕ)
    (has left : Option (List ℕ)) (old new : Option (List ℕ))
    → Result (Option Ended) ServeFault → Type 0
Turns p script after before sent has left old new (Ok None) =
    Goes p script after before sent has left old new
Turns p script after before sent has left old new (Ok (Some ended)) =
    Served p script before has left old new (Ok ended)
Turns p script after before sent has left old new (Err fault) =
    Served p script before has left old new (Err fault)
