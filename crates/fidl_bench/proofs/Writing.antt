-- What is written of a message's value.
use Rattle.std.proofs.Common.{◌≡◌, ℕ, List, [], ◌++◌, sym, ap, subst, ◌∙◌}
use Rattle.std.specs.Prelude.{Some, Result, Ok, Err, OnOk, IfErr, length}
use Rattle.std.proofs.Math.Seq.{take-append_seam}
use Rattle.std.specs.Io.KnownBytes.{Appends}
use Rattle.fidl_wire.specs.declared.handle.HandleInfo.{HandleInfo}
use Rattle.fidl_wire.specs.Value.{Value}
use Rattle.fidl_wire.specs.Term as ty
use Rattle.fidl_wire.specs.Message.{Encodes}
use Rattle.fidl_wire.specs.Text.{Text}
use Rattle.fidl_table_format.specs.Terms.{declarations_of}
use Rattle.fidl_wire.specs.Message.{IsEncoding}
use Rattle.fidl_bench.specs.declared.failure.Failure.{Failure}
use Rattle.fidl_bench.specs.Failures.{IsRootOf, IsMessageOf, IsWhy, IsWhyUnread}
use Rattle.fidl_bench.specs.Texts.{IsText, IsTextOf, BeginsWithTextOf}
use Rattle.fidl_bench.proofs.Roots.{message_of_root, why_of_root}

-- what a message encodes, a decoded one of the same bytes encodes
pub as_decoded : (table own : List ℕ) (entry index : ℕ) (v : Value) (bytes others : List ℕ) (handles beside : List HandleInfo)
    → own ≡ table → index ≡ entry → others ≡ bytes → beside ≡ handles
    → Encodes (declarations_of table) (ty.named entry) v bytes handles → Encodes (declarations_of own) (ty.named index) v others beside
as_decoded table own entry index v bytes others handles beside of at is with h =
    subst (λ (b : List ℕ). Encodes (declarations_of b) (ty.named index) v others beside) (sym of)
    (subst (λ k. Encodes (declarations_of table) (ty.named k) v others beside) (sym at)
    (subst (λ (b : List ℕ). Encodes (declarations_of table) (ty.named entry) v b beside) (sym is)
    (subst (λ (hs : List HandleInfo). Encodes (declarations_of table) (ty.named entry) v bytes hs) (sym with) h)))

-- the same of an equal value
pub of_equal : (table : List ℕ) (entry : ℕ) (v w : Value) (bytes : List ℕ) → w ≡ v
    → Encodes (declarations_of table) (ty.named entry) v bytes [] → Encodes (declarations_of table) (ty.named entry) w bytes []
of_equal table entry v w bytes is h = subst (λ (x : Value). Encodes (declarations_of table) (ty.named entry) x bytes []) (sym is) h

-- what a copy of a message encodes, the message does
pub of_copy : (table : List ℕ) (entry : ℕ) (copy message : List ℕ) → copy ≡ message
    → IsEncoding (declarations_of table) (ty.named entry) copy [] → IsEncoding (declarations_of table) (ty.named entry) message []
of_copy table entry copy message is h = subst (λ (b : List ℕ). IsEncoding (declarations_of table) (ty.named entry) b []) is h

-- what is written behind nothing is all there is
pub all_written : (before after text want : List ℕ) → before ≡ [] → Appends (Some before) (Some after) text → text ≡ want → after ≡ want
all_written before after text want e h same = h ∙ ap (λ (l : List ℕ). l ++ text) e ∙ same

-- the text of a decoded message is one of the message
pub is_text : {T E : Type 0} (r : Result T E) (table own : List ℕ) (entry index : ℕ) (v : Value) (message text : List ℕ)
    → own ≡ table → index ≡ entry → Encodes (declarations_of table) (ty.named entry) v message []
    → OnOk r (text ≡ Text (declarations_of own) (ty.named index) v)
    → OnOk r (IsText (declarations_of table) (ty.named entry) message text)
is_text (Err e) table own entry index v message text of at x h = tt
is_text (Ok y) table own entry index v message text of at x h = record {
  value = v;
  encodes = x;
  is_text = h ∙ ap (λ (b : List ℕ). Text (declarations_of b) (ty.named index) v) of ∙ ap (λ k. Text (declarations_of table) (ty.named k) v) at;
}

-- the same of the root of a table that was verified
pub text_of_root : (file table root message text : List ℕ) (entry : ℕ) → table ≡ file → IsRootOf file root entry
    → IsText (declarations_of table) (ty.named entry) message text → IsTextOf file root message text
text_of_root file table root message text entry t r x = record {
  entry = entry;
  of_root = r;
  text_of = subst (λ (b : List ℕ). IsText (declarations_of b) (ty.named entry) message text) t x;
}

-- what is said of an entry's message, and of why there is no answer, is so of the root's
pub ok_of_root : {T E : Type 0} (r : Result T E) (file table root message : List ℕ) (entry : ℕ) → table ≡ file → IsRootOf file root entry
    → OnOk r (IsEncoding (declarations_of table) (ty.named entry) message []) → OnOk r (IsMessageOf file root message)
ok_of_root (Err e) file table root message entry t h x = tt
ok_of_root (Ok y) file table root message entry t h x = message_of_root file table root message entry t h x

pub err_of_root : {T : Type 0} (r : Result T Failure) (file table root message : List ℕ) (entry : ℕ) → table ≡ file → IsRootOf file root entry
    → IfErr r (IsWhyUnread (declarations_of table) (ty.named entry) message) → IfErr r (IsWhy file root message)
err_of_root (Err e) file table root message entry t h x = why_of_root file table root message entry e t h x
err_of_root (Ok y) file table root message entry t h x = tt

-- bytes that begin with a copy of it
pub begins_with_copy : (file root message text copy rest : List ℕ) → copy ≡ text → IsTextOf file root message text → BeginsWithTextOf file root message (copy ++ rest)
begins_with_copy file root message text copy rest is x =
    (length copy, subst (λ (l : List ℕ). IsTextOf file root message l) (sym (take-append_seam copy rest ∙ is)) x)
