-- The last turn of a service: what it has read and written.
use Rattle.std.proofs.Common.{◌≡◌, ℕ, ◌+◌, ◌<◌, ◌++◌, List, [], ◌∷◌, length, take, Bool, true, false, arith, refl, sym, subst, ◌∙◌}
use Rattle.std.specs.Prelude.{Option, Ok, Err}
use Rattle.std.specs.Io.KnownBytes.{Appends, Consumes, IsAtEnd}
use Rattle.std.proofs.KnownBytes.{Appends-nil}
use Rattle.std.proofs.lemmas.List.{append-nil}
use Rattle.fidl_frames.specs.Frames.{IsFrame, IsBegun}
use Rattle.fidl_frames.specs.Incoming.{Reads}
use Rattle.fidl_frames.specs.declared.incoming.Incoming.TheVariants.{Frame, Between, Inside, PastLimit, Failure, NoReads}
use Rattle.fidl_streams.specs.Written.{Taken, TakesPart}
use Rattle.fidl_streams.specs.Sent.{TakesUnflushed}
use Rattle.fidl_verify.specs.Lookups.{TableProtocol}
use Rattle.fidl_requests.specs.declared.ended.Ended.{Ended}
use Rattle.fidl_requests.specs.declared.ended.Ended.TheVariants.{EndOfInput, BadFrame}
use Rattle.fidl_requests.specs.declared.verdict.Verdict.{Verdict}
use Rattle.fidl_requests.specs.Verdict.{IsVerdict}
use Rattle.fidl_script.specs.Script.{Script}
use Rattle.fidl_serve.specs.Replying.{Answer, reply, end, answer_of, script_after}
use Rattle.fidl_serve.specs.Output.{Output, Then, IsOutput}
use Rattle.fidl_serve.specs.Served.{IsCutReply, HasWritten, Served}
use Rattle.fidl_serve.specs.Turns.{Reacts}
use Rattle.fidl_serve.specs.declared.answer.Reaction.TheVariants.{Reply, End}
use Rattle.fidl_serve.specs.declared.fault.ServeFault.{ServeFault}
use Rattle.fidl_serve.specs.declared.fault.ServeFault.TheVariants.{Read, Write, NeverEnds}
use Rattle.fidl_serve.proofs.Outputs.{output_frame, output_nothing, output_begun, output_past_limit}

-- an end at which nothing is written
silent : (p : TableProtocol) (s : Script) (sent : ℕ) (has left old : Option (List ℕ)) (given : List ℕ) (ended : Ended) (is_open : Bool) → Consumes has left given → IsOutput p s given (record { replies = []; end = ended; is_open = is_open }) → (is_open ≡ true → IsAtEnd left)
    → Served p s sent has left old old (Ok ended)
silent p s sent has left old given ended is_open c o h = record {
  given = given;
  taken = [];
  output = record { replies = []; end = ended; is_open = is_open };
  reads = c;
  writes = Appends-nil old;
  is = o;
  wrote = (refl, refl);
  at_end = h;
}

-- a fault before which nothing is written
broken : (p : TableProtocol) (s : Script) (sent : ℕ) (has left old : Option (List ℕ)) (given : List ℕ) (ended : Ended) (fault : ServeFault) → Consumes has left given → IsOutput p s given (record { replies = []; end = ended; is_open = true })
    → HasWritten sent (record { replies = []; end = ended; is_open = true }) [] (Err fault) → Served p s sent has left old old (Err fault)
broken p s sent has left old given ended fault c o w = record {
  given = given;
  taken = [];
  output = record { replies = []; end = ended; is_open = true };
  reads = c;
  writes = Appends-nil old;
  is = o;
  wrote = w;
  at_end = λ k. tt;
}

pub ends_between : (p : TableProtocol) (s : Script) (sent : ℕ) (has left old : Option (List ℕ)) (buffer : List ℕ) → Reads has left buffer Between → Served p s sent has left old old (Ok EndOfInput)
ends_between p s sent has left old buffer r =
    silent p s sent has left old r.given EndOfInput true r.consumed (subst (λ (l : List ℕ). IsOutput p s l (record { replies = []; end = EndOfInput; is_open = true })) (sym r.is.0) (output_nothing p s)) (λ k. r.is.1)

pub ends_inside : (p : TableProtocol) (s : Script) (sent : ℕ) (has left old : Option (List ℕ)) (buffer : List ℕ) → Reads has left buffer Inside → Served p s sent has left old old (Ok BadFrame)
ends_inside p s sent has left old buffer r = silent p s sent has left old r.given BadFrame true r.consumed (output_begun p s r.given r.is.0) (λ k. r.is.1)

pub ends_past_limit : (p : TableProtocol) (s : Script) (sent : ℕ) (has left old : Option (List ℕ)) (buffer : List ℕ) → Reads has left buffer PastLimit → Served p s sent has left old old (Ok BadFrame)
ends_past_limit p s sent has left old buffer r =
    let o = subst (λ (l : List ℕ). IsOutput p s l (record { replies = []; end = BadFrame; is_open = false })) (append-nil r.given) (output_past_limit p s r.given [] r.is) in
    silent p s sent has left old r.given BadFrame false r.consumed o (λ k. cc)

begun_or_nothing : (p : TableProtocol) (s : Script) (given : List ℕ) → (0 < length given → IsBegun given) → (e : Ended) × IsOutput p s given (record { replies = []; end = e; is_open = true })
begun_or_nothing p s [] h = (EndOfInput, output_nothing p s)
begun_or_nothing p s (b ∷ bs) h = (BadFrame, output_begun p s (b ∷ bs) (h (omega arith)))

pub fails_reading : (p : TableProtocol) (s : Script) (sent : ℕ) (has left old : Option (List ℕ)) (buffer : List ℕ) → Reads has left buffer Failure → Served p s sent has left old old (Err Read)
fails_reading p s sent has left old buffer r =
    let o = begun_or_nothing p s r.given r.is in
    broken p s sent has left old r.given o.0 Read r.consumed o.1 (refl, refl)

pub fails_unread : (p : TableProtocol) (s : Script) (sent : ℕ) (has left old : Option (List ℕ)) (buffer : List ℕ) → Reads has left buffer NoReads → Served p s sent has left old old (Err NeverEnds)
fails_unread p s sent has left old buffer r =
    let o = begun_or_nothing p s r.given r.is in
    broken p s sent has left old r.given o.0 NeverEnds r.consumed o.1 (refl, refl)

-- the output of one frame alone
alone : (p : TableProtocol) (s : Script) (frame : List ℕ) (v : Verdict) (o : Output) → IsFrame frame → IsVerdict p frame v → Then (answer_of s v) (IsOutput p (script_after s v) []) o → IsOutput p s frame o
alone p s frame v o f i t = subst (λ (l : List ℕ). IsOutput p s l o) (append-nil frame) (output_frame p s frame [] v o f i t)

-- an answer in place of one that is equal
answered_as : (a b : Answer) (P : Output → Type 0) (o : Output) → a ≡ b → Then b P o → Then a P o
answered_as a b P o e t = subst (λ (x : Answer). Then x P o) (sym e) t

pub ends_by_answer : (p : TableProtocol) (s after : Script) (sent count : ℕ) (has left old : Option (List ℕ)) (buffer new : List ℕ) (ended : Ended) → Reads has left buffer (Frame count) → Reacts p s after (take count buffer) new (End ended)
    → Served p s sent has left old old (Ok ended)
ends_by_answer p s after sent count has left old buffer new ended r a =
    let judged = subst (λ (l : List ℕ). IsVerdict p l a.verdict) (sym r.is.0) a.is in
    let o = alone p s r.given a.verdict _ r.is.2 judged (answered_as _ (end ended) _ _ a.answer refl) in
    silent p s sent has left old r.given ended false r.consumed o (λ k. cc)

-- a reply that could not be written, or not be handed on
cut_by : (p : TableProtocol) (s after : Script) (sent frames more count size : ℕ) (has left old new : Option (List ℕ)) (buffer composed taken : List ℕ) → Reads has left buffer (Frame count) → Reacts p s after (take count buffer) composed (Reply size)
    → Appends old new taken → frames ≡ sent + more → IsCutReply (take size composed ∷ []) taken more → Served p s sent has left old new (Err (Write frames))
cut_by p s after sent frames more count size has left old new buffer composed taken r a w n k =
    let judged = subst (λ (l : List ℕ). IsVerdict p l a.verdict) (sym r.is.0) a.is in
    let bytes = take size composed in
    record {
      given = r.given;
      taken = taken;
      output = record { replies = bytes ∷ []; end = EndOfInput; is_open = true };
      reads = r.consumed;
      writes = w;
      is = alone p s r.given a.verdict _ r.is.2 judged (answered_as _ (reply bytes) _ _ a.answer (_, output_nothing p (script_after s a.verdict), refl));
      wrote = (more, n, k);
      at_end = λ h. tt;
    }

pub fails_unflushed : (p : TableProtocol) (s after : Script) (sent count size : ℕ) (has left : Option (List ℕ)) (old new : Taken) (buffer composed : List ℕ) → Reads has left buffer (Frame count) → Reacts p s after (take count buffer) composed (Reply size)
    → TakesUnflushed old new (take size composed) → Served p s sent has left old.contents new.contents (Err (Write (sent + 1)))
fails_unflushed p s after sent count size has left old new buffer composed r a w =
    let bytes = take size composed in
    cut_by p s after sent (sent + 1) 1 count size has left old.contents new.contents buffer composed bytes r a w.contents refl
    (record { front = []; rest = []; written = sym (append-nil (bytes ++ []) ∙ append-nil bytes); next = refl; last = omega arith; part = λ h. absurd (omega arith) })

pub fails_cut : (p : TableProtocol) (s after : Script) (sent count size : ℕ) (has left : Option (List ℕ)) (old new : Taken) (buffer composed : List ℕ) → Reads has left buffer (Frame count) → Reacts p s after (take count buffer) composed (Reply size)
    → TakesPart old new (take size composed) → Served p s sent has left old.contents new.contents (Err (Write sent))
fails_cut p s after sent count size has left old new buffer composed r a w =
    cut_by p s after sent sent 0 count size has left old.contents new.contents buffer composed w.front r a w.contents (omega arith)
    (record { front = w.front; rest = w.rest; written = refl; next = append-nil (take size composed) ∙ w.whole; last = omega arith; part = λ h. w.left })
