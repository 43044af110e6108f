-- One turn of a service, and then the rest.
use Rattle.std.proofs.Common.{◌≡◌, ℕ, suc, ◌+◌, ◌-◌, ◌≤◌, ◌++◌, List, ◌∷◌, take, arith, refl, sym, ap, subst, ◌∙◌}
use Rattle.std.specs.Prelude.{Option, Some, None, Result, Ok, Err}
use Rattle.std.specs.Io.KnownBytes.{Appends, Keeps}
use Rattle.std.specs.List.{concat}
use mathlib.Core.List.{append_assoc}
use Rattle.fidl_streams.specs.Counts.{add_count}
use Rattle.fidl_streams.specs.Written.{Taken, Takes}
use Rattle.fidl_frames.specs.Incoming.{Reads}
use Rattle.fidl_frames.specs.declared.incoming.Incoming.TheVariants.{Frame}
use Rattle.fidl_frames.proofs.Moves.{consumes_then, appends_then}
use Rattle.fidl_verify.specs.Lookups.{TableProtocol}
use Rattle.fidl_requests.specs.declared.ended.Ended.{Ended}
use Rattle.fidl_requests.specs.Verdict.{IsVerdict}
use Rattle.fidl_script.specs.Script.{Script}
use Rattle.fidl_serve.specs.Replying.{Answer, silence, reply, end, answer_of, script_after}
use Rattle.fidl_serve.specs.Output.{Output, after_reply, Then, IsOutput}
use Rattle.fidl_serve.specs.Served.{IsCutReply, HasWritten, Served, Serves}
use Rattle.fidl_serve.specs.Turns.{Reacts, Says, Goes}
use Rattle.fidl_serve.specs.declared.answer.Reaction.TheVariants.{Silence, Reply}
use Rattle.fidl_serve.specs.declared.fault.ServeFault.{ServeFault}
use Rattle.fidl_serve.specs.declared.fault.ServeFault.TheVariants.{Read, Write, Memory, NeverEnds}
use Rattle.fidl_serve.proofs.Outputs.{output_frame}

-- what was kept, and then grew
kept_then : (a b c : Option (List ℕ)) (xs : List ℕ) → Keeps a b → Appends b c xs → Appends a c xs
kept_then None b c xs h k = tt
kept_then (Some s) None c xs h k = absurd h
kept_then (Some s) (Some t) None xs h k = absurd k
kept_then (Some s) (Some t) (Some u) xs h k = k ∙ ap (λ (l : List ℕ). l ++ xs) h

keeps_all : (a : Option (List ℕ)) → Keeps a a
keeps_all None = tt
keeps_all (Some s) = refl

-- one reply more stands in front
cut_more : (bytes : List ℕ) (replies : List (List ℕ)) (taken : List ℕ) (more : ℕ) → IsCutReply replies taken more → IsCutReply (bytes ∷ replies) (bytes ++ taken) (suc more)
cut_more bytes replies taken more k =
    let last = k.last in
    let part = k.part in
    record {
      front = k.front;
      rest = k.rest;
      written = ap (λ (l : List ℕ). bytes ++ l) k.written ∙ sym (append_assoc bytes (concat (take more replies)) k.front);
      next = k.next;
      last = omega arith;
      part = λ h. part (omega arith);
    }

wrote_more : (bytes : List ℕ) (o : Output) (taken : List ℕ) (before sent : ℕ) (result : Result Ended ServeFault) → sent ≡ before + 1 → HasWritten sent o taken result → HasWritten before (after_reply bytes o) (bytes ++ taken) result
wrote_more bytes o taken before sent (Ok ended) n w = (ap (λ (l : List ℕ). bytes ++ l) w.0, w.1)
wrote_more bytes o taken before sent (Err Read) n w = (ap (λ (l : List ℕ). bytes ++ l) w.0, w.1)
wrote_more bytes o taken before sent (Err (Write frames)) n w = let e = w.1 in (suc w.0, omega arith, cut_more bytes o.replies taken w.0 w.2)
wrote_more bytes o taken before sent (Err Memory) n w = absurd w
wrote_more bytes o taken before sent (Err NeverEnds) n w = (ap (λ (l : List ℕ). bytes ++ l) w.0, w.1)

-- what an answer and then the rest have written
record Both (answer : Answer) (P : Output → Type 0) (before : ℕ) (o : Output) (old new : Option (List ℕ)) (result : Result Ended ServeFault) : Type 0 where
  taken : List ℕ
  output : Output
  writes : Appends old new taken
  goes_on : Then answer P output
  wrote : HasWritten before output taken result
  same : output.is_open ≡ o.is_open

both : (answer : Answer) (P : Output → Type 0) (before sent : ℕ) (o : Output) (old mid new : Option (List ℕ)) (taken : List ℕ) (result : Result Ended ServeFault) → Says answer old mid before sent → P o → Appends mid new taken → HasWritten sent o taken result
    → Both answer P before o old new result
both silence P before sent o old mid new taken result s h a w = record {
  taken = taken;
  output = o;
  writes = kept_then old mid new taken s.0 a;
  goes_on = h;
  wrote = subst (λ (n : ℕ). HasWritten n o taken result) s.1 w;
  same = refl;
}
both (reply bytes) P before sent o old mid new taken result s h a w = record {
  taken = bytes ++ taken;
  output = after_reply bytes o;
  writes = appends_then old mid new bytes taken s.0 a;
  goes_on = (o, h, refl);
  wrote = wrote_more bytes o taken before sent result s.1 w;
  same = refl;
}
both (end e) P before sent o old mid new taken result s h a w = absurd s

pub goes_then : (p : TableProtocol) (script after : Script) (before sent : ℕ) (has mid left : Option (List ℕ)) (old written new : Option (List ℕ)) (result : Result Ended ServeFault) → Goes p script after before sent has mid old written
    → Served p after sent mid left written new result → Served p script before has left old new result
goes_then p script after before sent has mid left old written new result t s =
    let is : IsOutput p (script_after script t.verdict) s.given s.output = subst (λ (m : Script). IsOutput p m s.given s.output) t.next s.is in
    let b = both (answer_of script t.verdict) (IsOutput p (script_after script t.verdict) s.given) before sent s.output old written new s.taken result t.says is s.writes s.wrote in
    record {
      given = t.frame ++ s.given;
      taken = b.taken;
      output = b.output;
      reads = consumes_then has mid left t.frame s.given t.reads s.reads;
      writes = b.writes;
      is = output_frame p script t.frame s.given t.verdict b.output t.is t.judged b.goes_on;
      wrote = b.wrote;
      at_end = λ h. s.at_end (sym b.same ∙ h);
    }

-- a frame that is answered by nothing
pub goes_silent : (p : TableProtocol) (script after : Script) (sent count : ℕ) (has left old : Option (List ℕ)) (buffer new : List ℕ) → Reads has left buffer (Frame count) → Reacts p script after (take count buffer) new Silence
    → Goes p script after sent sent has left old old
goes_silent p script after sent count has left old buffer new r a = record {
  frame = r.given;
  is = r.is.2;
  reads = r.consumed;
  verdict = a.verdict;
  judged = subst (λ (l : List ℕ). IsVerdict p l a.verdict) (sym r.is.0) a.is;
  next = a.next;
  says = subst (λ (x : Answer). Says x old old sent sent) (sym a.answer) (keeps_all old, refl);
}

-- a frame that is replied to
pub goes_replied : (p : TableProtocol) (script after : Script) (before sent count size : ℕ) (has left : Option (List ℕ)) (old new : Taken) (buffer composed : List ℕ) → Reads has left buffer (Frame count) → Reacts p script after (take count buffer) composed (Reply size)
    → Takes old new (take size composed) → sent ≡ before + 1 → Goes p script after before sent has left old.contents new.contents
goes_replied p script after before sent count size has left old new buffer composed r a w n = record {
  frame = r.given;
  is = r.is.2;
  reads = r.consumed;
  verdict = a.verdict;
  judged = subst (λ (l : List ℕ). IsVerdict p l a.verdict) (sym r.is.0) a.is;
  next = a.next;
  says = subst (λ (x : Answer). Says x old.contents new.contents before sent) (sym a.answer) (w.contents, n);
}

-- reads, and then reads more
pub counted_then : (start before after all left rest : ℕ) → left ≤ all → rest ≤ left → before ≡ add_count start (all - left) → after ≡ add_count before (left - rest) → after ≡ add_count start (all - rest)
counted_then start before after all left rest within less h k = omega arith

-- what was served is a whole run, in which memory did not run out
pub serves : (p : TableProtocol) (script : Script) (has left old new : Option (List ℕ)) (result : Result Ended ServeFault) → Served p script 0 has left old new result → Serves p script has left old new result
serves p script has left old new (Ok ended) s = s
serves p script has left old new (Err Read) s = s
serves p script has left old new (Err (Write n)) s = s
serves p script has left old new (Err Memory) s = absurd s.wrote
serves p script has left old new (Err NeverEnds) s = s
