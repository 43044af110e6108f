-- What is written for an input that begins with a frame, the beginning of one, or nothing.
use Rattle.std.proofs.Common.{◌≡◌, ℕ, ◌++◌, List, [], true, false, refl, sym, subst}
use Rattle.fidl_frames.specs.Frames.{Cut, frames_of, IsFrame, IsBegun, IsPastLimit}
use Rattle.fidl_frames.proofs.Cuts.{cut_whole, cut_nothing, cut_begun, cut_past_limit}
use Rattle.fidl_verify.specs.Lookups.{TableProtocol}
use Rattle.fidl_requests.specs.declared.ended.Ended.TheVariants.{EndOfInput, BadFrame}
use Rattle.fidl_requests.specs.declared.verdict.Verdict.{Verdict}
use Rattle.fidl_requests.specs.Verdict.{IsVerdict}
use Rattle.fidl_script.specs.Script.{Script}
use Rattle.fidl_serve.specs.Replying.{answer_of, script_after}
use Rattle.fidl_serve.specs.Output.{Output, Then, IsReplies, IsOutput}

by_cut : (p : TableProtocol) (s : Script) (input : List ℕ) (cut : Cut) (o : Output) → frames_of input ≡ cut → IsReplies p s cut.frames cut.tail o → IsOutput p s input o
unfolding IsOutput
by_cut p s input cut o e h = subst (λ (c : Cut). IsReplies p s c.frames c.tail o) (sym e) h

-- a frame is answered, and then what follows
pub output_frame : (p : TableProtocol) (s : Script) (frame more : List ℕ) (v : Verdict) (o : Output) → IsFrame frame → IsVerdict p frame v → Then (answer_of s v) (IsOutput p (script_after s v) more) o → IsOutput p s (frame ++ more) o
unfolding IsOutput
output_frame p s frame more v o f i t = by_cut p s (frame ++ more) _ o (cut_whole frame more f) (v, i, t)

-- nothing was read, between frames
pub output_nothing : (p : TableProtocol) (s : Script) → IsOutput p s [] (record { replies = []; end = EndOfInput; is_open = true })
output_nothing p s = by_cut p s [] _ _ cut_nothing refl

pub output_begun : (p : TableProtocol) (s : Script) (bytes : List ℕ) → IsBegun bytes → IsOutput p s bytes (record { replies = []; end = BadFrame; is_open = true })
output_begun p s bytes f = by_cut p s bytes _ _ (cut_begun bytes f) refl

pub output_past_limit : (p : TableProtocol) (s : Script) (bytes more : List ℕ) → IsPastLimit bytes → IsOutput p s (bytes ++ more) (record { replies = []; end = BadFrame; is_open = false })
output_past_limit p s bytes more f = by_cut p s (bytes ++ more) _ _ (cut_past_limit bytes more f) refl
