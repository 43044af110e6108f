-- Each reply of an output answers its request.
use Rattle.std.proofs.Common.{◌≡◌, ℕ, zero, suc, ◌<◌, List, [], ◌∷◌, length, get_or, Bool, true, false, cond, inl, inr, arith, refl, sym, ap, subst, ◌∙◌}
use Rattle.std.specs.Prelude.{◌==◌, ◌⊎◌}
use Rattle.std.specs.List.{AllByRecursion}
use mathlib.Core.Bool.{false≢true}
use Rattle.std.proofs.lemmas.Bool.{eqb-true, eq-eqb}
use Rattle.fidl_frames.specs.Frames.{Tail, frames_of}
use Rattle.fidl_verify.specs.Lookups.{TableProtocol, response_of}
use Rattle.fidl_requests.specs.declared.verdict.Verdict.{Verdict}
use Rattle.fidl_requests.specs.declared.verdict.Verdict.TheVariants.{Silence, Unknown, Call, End}
use Rattle.fidl_requests.specs.Verdict.{IsVerdict}
use Rattle.fidl_script.specs.Script.{Body, Replies, Script, IsReplyOf, method_of, AreRepliesOf, IsScriptFor}
use Rattle.fidl_serve.specs.Replying.{Answer, reply, frame_of, unknown_method_body, next_reply, answer_of, advanced_by, advanced, methods_after, script_after}
use Rattle.fidl_serve.specs.Output.{Output, Then, IsReplies, IsOutput}
use Rattle.fidl_serve.specs.Requests.{IsReplyTo, AreReplies, done, ended, silent, replied}
use Rattle.fidl_serve.proofs.Verdicts.{IsCall, IsUnknownCall, call_is, unknown_is}
use Rattle.fidl_serve.proofs.Ready.{all_from, known_by}

-- the replies of a method of the protocol
abbrev IsOf : TableProtocol → Replies → Type 0
IsOf p r = (place : ℕ) × AreRepliesOf p place r

-- one of the methods has this ordinal
abbrev Has : (ordinal : ℕ) → List Replies → Type 0
Has ordinal [] = ⊥
Has ordinal (r ∷ rs) = (r.ordinal ≡ ordinal) ⊎ Has ordinal rs

has_at : (ordinal : ℕ) (rs : List Replies) (k : ℕ) (r : Replies) → k < length rs → get_or rs k r ≡ r → r.ordinal ≡ ordinal → Has ordinal rs
has_at ordinal [] k r h e f = absurd (omega (arith, h))
has_at ordinal (q ∷ rs) zero r h e f = inl (ap (λ (x : Replies). x.ordinal) e ∙ f)
has_at ordinal (q ∷ rs) (suc k) r h e f = inr (has_at ordinal rs k r (omega (arith, h)) e f)

-- what is left of a script of the protocol
record IsLeft (p : TableProtocol) (s : Script) : Type 0 where
  sound : AllByRecursion (IsOf p) s.methods
  known : (frame : List ℕ) (txid ordinal : ℕ) → IsCall p frame txid ordinal → Has ordinal s.methods

all_left : (p : TableProtocol) (s : Script) → IsScriptFor p s → IsLeft p s
all_left p s f = record {
  sound = all_from _ s.methods f.sound;
  known = λ frame txid ordinal c. let m = known_by p s frame txid ordinal f c in has_at ordinal s.methods m.1.0 m.0 m.1.1 m.1.2 m.2;
}

-- a call takes a reply of a method, and leaves one at least
advanced_is : (p : TableProtocol) (r : Replies) (later : List Body) → r.later ≡ later → IsOf p r → IsOf p (advanced_by r later)
advanced_is p r [] e i = i
advanced_is p r (b ∷ bs) e i =
    let a = i.1 in
    let all = subst (λ (l : List Body). AllByRecursion (IsReplyOf p.table (response_of (method_of p i.0))) (r.next ∷ l)) e a.bodies in (
      i.0,
      record {
        two_way = a.two_way;
        ordinal = a.ordinal;
        flexible = a.flexible;
        bodies = all.1;
      },
    )

advanced_ordinal : (r : Replies) (later : List Body) → (advanced_by r later).ordinal ≡ r.ordinal
advanced_ordinal r [] = refl
advanced_ordinal r (b ∷ bs) = refl

sound_after : (p : TableProtocol) (ordinal : ℕ) (rs : List Replies) → AllByRecursion (IsOf p) rs → AllByRecursion (IsOf p) (methods_after ordinal rs)
sound_after p ordinal [] i = tt
sound_after p ordinal (r ∷ rs) i = by (r.ordinal == ordinal) (sound_after p ordinal rs i.1)
  where
    by : (b : Bool) → AllByRecursion (IsOf p) (methods_after ordinal rs) → AllByRecursion (IsOf p) (cond b (advanced r ∷ rs) (r ∷ methods_after ordinal rs))
    by true later = (advanced_is p r r.later refl i.0, i.1)
    by false later = (i.0, later)

has_after : (ordinal other : ℕ) (rs : List Replies) → Has other rs → Has other (methods_after ordinal rs)
has_after ordinal other [] h = h
has_after ordinal other (r ∷ rs) h = by (r.ordinal == ordinal) (has_after ordinal other rs) h
  where
    by : (b : Bool) → (Has other rs → Has other (methods_after ordinal rs)) → (r.ordinal ≡ other) ⊎ Has other rs → Has other (cond b (advanced r ∷ rs) (r ∷ methods_after ordinal rs))
    by true later (inl e) = inl (advanced_ordinal r r.later ∙ e)
    by true later (inr k) = inr k
    by false later (inl e) = inl e
    by false later (inr k) = inr (later k)

left_after : (p : TableProtocol) (s : Script) (v : Verdict) → IsLeft p s → IsLeft p (script_after s v)
unfolding script_after
left_after p s Silence i = i
left_after p s (Unknown txid ordinal) i = i
left_after p s (Call txid ordinal) i = record { sound = sound_after p ordinal s.methods i.sound; known = λ frame t o c. has_after ordinal o s.methods (i.known frame t o c) }
left_after p s (End e) i = i

-- the reply that a call gets
record IsNext (p : TableProtocol) (txid ordinal : ℕ) (answer : Answer) : Type 0 where
  replies : Replies
  of : IsOf p replies
  ordinal_is : replies.ordinal ≡ ordinal
  is : answer ≡ reply (frame_of (record { txid = txid; flexible = replies.flexible; ordinal = ordinal }) replies.next)

next_is : (p : TableProtocol) (txid ordinal : ℕ) (rs : List Replies) → AllByRecursion (IsOf p) rs → Has ordinal rs → IsNext p txid ordinal (next_reply txid ordinal rs)
next_is p txid ordinal [] i h = absurd h
next_is p txid ordinal (r ∷ rs) i h = by (r.ordinal == ordinal) refl (next_is p txid ordinal rs i.1) h
  where
    by : (b : Bool) → (r.ordinal == ordinal) ≡ b → (Has ordinal rs → IsNext p txid ordinal (next_reply txid ordinal rs)) → (r.ordinal ≡ ordinal) ⊎ Has ordinal rs
        → IsNext p txid ordinal (cond b (reply (frame_of (record { txid = txid; flexible = r.flexible; ordinal = ordinal }) r.next)) (next_reply txid ordinal rs))
    by true e later k = record {
      replies = r;
      of = i.0;
      ordinal_is = eqb-true r.ordinal ordinal e;
      is = refl;
    }
    by false e later (inl k) = absurd (false≢true (sym e ∙ eq-eqb r.ordinal ordinal k))
    by false e later (inr k) = later k

-- the frame of a reply, by the header of its request
frame_as : (txid ordinal t o : ℕ) (flexible : Bool) (b : Body) → t ≡ txid → o ≡ ordinal → frame_of (record { txid = txid; flexible = flexible; ordinal = ordinal }) b ≡ frame_of (record { txid = t; flexible = flexible; ordinal = o }) b
frame_as txid ordinal t o flexible b e f = λ i. frame_of (record { txid = sym e i; flexible = flexible; ordinal = sym f i }) b

-- the reply to an unknown method
replied_unknown : (p : TableProtocol) (frame : List ℕ) (txid ordinal : ℕ) → IsUnknownCall p frame txid ordinal → IsReplyTo p frame (frame_of (record { txid = txid; flexible = true; ordinal = ordinal }) unknown_method_body)
replied_unknown p frame txid ordinal u = record {
  flexible = true;
  body = unknown_method_body;
  is = frame_as txid ordinal _ _ true unknown_method_body u.txid_is u.ordinal_is;
  fits = inr (record { unknown = u.unrequested; flexible_is = refl; is = refl });
}

replied_next : (p : TableProtocol) (frame : List ℕ) (txid ordinal : ℕ) → IsCall p frame txid ordinal → (answer : Answer) → (n : IsNext p txid ordinal answer)
    → IsReplyTo p frame (frame_of (record { txid = txid; flexible = n.replies.flexible; ordinal = ordinal }) n.replies.next)
replied_next p frame txid ordinal c answer n =
    let a = n.of.1 in record {
      flexible = n.replies.flexible;
      body = n.replies.next;
      is = frame_as txid ordinal _ _ n.replies.flexible n.replies.next c.txid_is c.ordinal_is;
      fits = inl (record {
        place = n.of.0;
        two_way = a.two_way;
        ordinal_is = sym a.ordinal ∙ n.ordinal_is ∙ sym c.ordinal_is;
        flexible_is = a.flexible;
        carried = a.bodies.0;
      });
    }

-- a reply, and then those of what follows
then_replied : (p : TableProtocol) (frame bytes : List ℕ) (frames : List (List ℕ)) (answer : Answer) (P : Output → Type 0) (o : Output) → answer ≡ reply bytes → IsReplyTo p frame bytes → ((q : Output) → P q → AreReplies p frames q.replies) → Then answer P o
    → AreReplies p (frame ∷ frames) o.replies
then_replied p frame bytes frames answer P o e i h t =
    let u : Then (reply bytes) P o = subst (λ (a : Answer). Then a P o) e t in
    subst (λ (x : Output). AreReplies p (frame ∷ frames) x.replies) (sym u.2) (replied frame bytes frames u.0.replies i (h u.0 u.1))

step : (p : TableProtocol) (s : Script) (frame : List ℕ) (frames : List (List ℕ)) (v : Verdict) (P : Output → Type 0) (o : Output) → IsLeft p s → IsVerdict p frame v → ((q : Output) → P q → AreReplies p frames q.replies) → Then (answer_of s v) P o
    → AreReplies p (frame ∷ frames) o.replies
unfolding answer_of
step p s frame frames Silence P o l i h t = silent frame frames o.replies i (h o t)
step p s frame frames (Unknown txid ordinal) P o l i h t = then_replied p frame _ frames _ P o refl (replied_unknown p frame txid ordinal (unknown_is p frame txid ordinal i)) h t
step p s frame frames (Call txid ordinal) P o l i h t =
    let c = call_is p frame txid ordinal i in
    let n = next_is p txid ordinal s.methods l.sound (l.known frame txid ordinal c) in
    then_replied p frame _ frames (next_reply txid ordinal s.methods) P o n.is (replied_next p frame txid ordinal c _ n) h t
step p s frame frames (End e) P o l i h t = subst (λ (x : Output). AreReplies p (frame ∷ frames) x.replies) (sym t) (ended frame frames e i)

answers : (p : TableProtocol) (s : Script) (frames : List (List ℕ)) (tail : Tail) (o : Output) → IsLeft p s → IsReplies p s frames tail o → AreReplies p frames o.replies
answers p s [] tail o l t = subst (λ (x : Output). AreReplies p [] x.replies) (sym t) done
answers p s (f ∷ fs) tail o l t = step p s f fs t.0 (IsReplies p (script_after s t.0) fs tail) o l t.1 (λ q u. answers p (script_after s t.0) fs tail q (left_after p s t.0 l) u) t.2

pub replies_answer : (p : TableProtocol) (s : Script) (input : List ℕ) (o : Output) → IsScriptFor p s → IsOutput p s input o → AreReplies p (frames_of input).frames o.replies
unfolding IsOutput
replies_answer p s input o f t = answers p s (frames_of input).frames (frames_of input).tail o (all_left p s f) t
