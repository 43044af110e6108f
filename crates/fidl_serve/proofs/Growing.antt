-- More input: an output that has ended stays as it is, and an open one keeps its replies.
use Rattle.std.proofs.Common.{◌≡◌, ℕ, ◌++◌, List, [], ◌∷◌, true, false, sym, ap, subst, ◌∙◌}
use Rattle.std.proofs.lemmas.List.{append-nil}
use Rattle.fidl_frames.specs.Frames.{Tail, Cut, frames_of}
use Rattle.fidl_verify.specs.Lookups.{TableProtocol}
use Rattle.fidl_requests.specs.declared.verdict.Verdict.{Verdict}
use Rattle.fidl_requests.specs.Verdict.{IsVerdict}
use Rattle.fidl_script.specs.Script.{Script}
use Rattle.fidl_serve.specs.Replying.{Answer, silence, reply, end, answer_of, script_after}
use Rattle.fidl_serve.specs.Output.{Output, is_open_tail, after_reply, Then, IsReplies, IsOutput}
use Rattle.fidl_serve.proofs.Extending.{Extends, closed, open_end, grows}

-- a frame has one verdict
abbrev pub OneVerdict : TableProtocol → Type 0
OneVerdict p = (frame : List ℕ) (v w : Verdict) → IsVerdict p frame v → IsVerdict p frame w → v ≡ w

-- how the output of more input stands to this one
pub record Continues (old new : Output) : Type 0 where
  pub closed : old.is_open ≡ false → new ≡ old
  pub later : List (List ℕ)
  pub replies : new.replies ≡ old.replies ++ later

-- the same answer, and then more
then_continues : (answer : Answer) (P Q : Output → Type 0) (o q : Output) → ((a b : Output) → P a → Q b → Continues a b) → Then answer P o → Then answer Q q → Continues o q
then_continues silence P Q o q h t u = h o q t u
then_continues (reply bytes) P Q o q h t u =
    let c = h t.0 u.0 t.1 u.1 in record {
      closed = λ k. u.2 ∙ ap (λ (x : Output). after_reply bytes x) (c.closed (ap (λ (x : Output). x.is_open) (sym t.2) ∙ k)) ∙ sym t.2;
      later = c.later;
      replies = ap (λ (x : Output). x.replies) u.2 ∙ ap (λ (l : List (List ℕ)). bytes ∷ l) c.replies ∙ ap (λ (x : Output). x.replies ++ c.later) (sym t.2);
    }
then_continues (end e) P Q o q h t u = record {
  closed = λ k. u ∙ sym t;
  later = [];
  replies = ap (λ (x : Output). x.replies) u ∙ ap (λ (x : Output). x.replies ++ []) (sym t);
}

-- what follows an answer of one verdict follows that of an equal one
then_as : (p : TableProtocol) (s : Script) (frames : List (List ℕ)) (tail : Tail) (o : Output) (v w : Verdict) → v ≡ w → Then (answer_of s v) (IsReplies p (script_after s v) frames tail) o → Then (answer_of s w) (IsReplies p (script_after s w) frames tail) o
then_as p s frames tail o v w e t = subst (λ (x : Verdict). Then (answer_of s x) (IsReplies p (script_after s x) frames tail) o) e t

-- frames behind others
more_frames : (p : TableProtocol) → OneVerdict p → (s : Script) (frames later : List (List ℕ)) (old new : Tail) (o q : Output) → is_open_tail old ≡ true → IsReplies p s frames old o → IsReplies p s (frames ++ later) new q → Continues o q
more_frames p one s [] later old new o q h t u = record {
  closed = λ k. let e : o.is_open ≡ is_open_tail old = ap (λ (x : Output). x.is_open) t in cc;
  later = q.replies;
  replies = ap (λ (x : Output). x.replies ++ q.replies) (sym t);
}
more_frames p one s (f ∷ fs) later old new o q h t u =
    let same : t.0 ≡ u.0 = one f t.0 u.0 t.1 u.1 in
    then_continues (answer_of s u.0) (IsReplies p (script_after s u.0) fs old) (IsReplies p (script_after s u.0) (fs ++ later) new) o q (λ a b. more_frames p one (script_after s u.0) fs later old new a b h)
    (then_as p s fs old o t.0 u.0 same t.2) u.2

-- frames have one output
then_one : (answer : Answer) (P : Output → Type 0) (o q : Output) → ((a b : Output) → P a → P b → a ≡ b) → Then answer P o → Then answer P q → o ≡ q
then_one silence P o q h t u = h o q t u
then_one (reply bytes) P o q h t u = t.2 ∙ ap (λ (x : Output). after_reply bytes x) (h t.0 u.0 t.1 u.1) ∙ sym u.2
then_one (end e) P o q h t u = t ∙ sym u

one_by : (p : TableProtocol) → OneVerdict p → (s : Script) (frames : List (List ℕ)) (tail : Tail) (o q : Output) → IsReplies p s frames tail o → IsReplies p s frames tail q → o ≡ q
one_by p one s [] tail o q t u = t ∙ sym u
one_by p one s (f ∷ fs) tail o q t u =
    let same : t.0 ≡ u.0 = one f t.0 u.0 t.1 u.1 in
    then_one (answer_of s u.0) (IsReplies p (script_after s u.0) fs tail) o q (λ a b. one_by p one (script_after s u.0) fs tail a b) (then_as p s fs tail o t.0 u.0 same t.2) u.2

-- an input has one output
pub one_output : (p : TableProtocol) → OneVerdict p → (s : Script) (input : List ℕ) (o q : Output) → IsOutput p s input o → IsOutput p s input q → o ≡ q
unfolding IsOutput
one_output p one s input o q t u = one_by p one s (frames_of input).frames (frames_of input).tail o q t u

-- an end stays what it is, whatever frames come later
then_closes : (answer : Answer) (P Q : Output → Type 0) (o : Output) → ((a : Output) → a.is_open ≡ false → P a → Q a) → o.is_open ≡ false → Then answer P o → Then answer Q o
then_closes silence P Q o h k t = h o k t
then_closes (reply bytes) P Q o h k t = (t.0, h t.0 (ap (λ (x : Output). x.is_open) (sym t.2) ∙ k) t.1, t.2)
then_closes (end e) P Q o h k t = t

closed_frames : (p : TableProtocol) (s : Script) (frames later : List (List ℕ)) (old new : Tail) (o : Output) → is_open_tail old ≡ true → o.is_open ≡ false → IsReplies p s frames old o → IsReplies p s (frames ++ later) new o
closed_frames p s [] later old new o h k t = let e : o.is_open ≡ is_open_tail old = ap (λ (x : Output). x.is_open) t in cc
closed_frames p s (f ∷ fs) later old new o h k t =
    (t.0, t.1, then_closes (answer_of s t.0) (IsReplies p (script_after s t.0) fs old) (IsReplies p (script_after s t.0) (fs ++ later) new) o (λ a. closed_frames p (script_after s t.0) fs later old new a h) k t.2)

continues_by : (p : TableProtocol) → OneVerdict p → (s : Script) (old new : Cut) (o q : Output) → Extends old new → IsReplies p s old.frames old.tail o → IsReplies p s new.frames new.tail q → Continues o q
continues_by p one s old new o q (closed t e) i j =
    let same : q ≡ o = one_by p one s old.frames old.tail q o (subst (λ (c : Cut). IsReplies p s c.frames c.tail q) e j) i in
    record { closed = λ h. same; later = []; replies = ap (λ (x : Output). x.replies) same ∙ sym (append-nil o.replies) }
continues_by p one s old new o q (open_end later t e) i j =
    more_frames p one s old.frames later old.tail new.tail o q t i (subst (λ (l : List (List ℕ)). IsReplies p s l new.tail q) e j)

closes_by : (p : TableProtocol) (s : Script) (old new : Cut) (o : Output) → Extends old new → o.is_open ≡ false → IsReplies p s old.frames old.tail o → IsReplies p s new.frames new.tail o
closes_by p s old new o (closed t e) k i = subst (λ (c : Cut). IsReplies p s c.frames c.tail o) (sym e) i
closes_by p s old new o (open_end later t e) k i =
    subst (λ (l : List (List ℕ)). IsReplies p s l new.tail o) (sym e) (closed_frames p s old.frames later old.tail new.tail o t k i)

-- more input: an output that has ended stays as it is, and an open one keeps its replies
pub continues : (p : TableProtocol) → OneVerdict p → (s : Script) (input more : List ℕ) (o q : Output) → IsOutput p s input o → IsOutput p s (input ++ more) q → Continues o q
unfolding IsOutput frames_of
continues p one s input more o q i j = continues_by p one s (frames_of input) (frames_of (input ++ more)) o q (grows 0 input more) i j

pub closes : (p : TableProtocol) (s : Script) (input more : List ℕ) (o : Output) → o.is_open ≡ false → IsOutput p s input o → IsOutput p s (input ++ more) o
unfolding IsOutput frames_of
closes p s input more o k i = closes_by p s (frames_of input) (frames_of (input ++ more)) o (grows 0 input more) k i
