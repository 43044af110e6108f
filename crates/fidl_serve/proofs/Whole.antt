-- What is written of a whole input that is known.
use Rattle.std.proofs.Common.{◌≡◌, ℕ, ◌++◌, List, [], take, drop, Bool, true, false, refl, sym, ap, subst, ◌∙◌}
use Rattle.std.specs.Prelude.{Option, Some, None, Result, Ok, Err, IfSome}
use Rattle.std.specs.Io.KnownBytes.{Appends, Consumes}
use Rattle.std.specs.List.{concat}
use Rattle.std.proofs.KnownBytes.{Appends-nil}
use Rattle.std.proofs.lemmas.List.{append-nil, take-append-drop}
use Rattle.std.proofs.lemmas.List.Folds.{concat-append}
use mathlib.Core.List.{append_assoc}
use Rattle.fidl_verify.specs.Lookups.{TableProtocol}
use Rattle.fidl_requests.specs.declared.ended.Ended.{Ended}
use Rattle.fidl_script.specs.Script.{Script}
use Rattle.fidl_serve.specs.Output.{Output, IsOutput}
use Rattle.fidl_serve.specs.Served.{IsCutReply, Served, Serves, AppendsFront, WritesAll}
use Rattle.fidl_serve.specs.declared.fault.ServeFault.{ServeFault}
use Rattle.fidl_serve.specs.declared.fault.ServeFault.TheVariants.{Read, Write, Memory, NeverEnds}
use Rattle.fidl_serve.proofs.Growing.{OneVerdict, continues, closes}

-- the output of the bytes that were read is that of all, where the run came to an end
same_by : (p : TableProtocol) (s : Script) (given rest : List ℕ) (o : Output) (is_open : Bool) → o.is_open ≡ is_open → (o.is_open ≡ true → rest ≡ []) → IsOutput p s given o → IsOutput p s (given ++ rest) o
same_by p s given rest o true e h i = subst (λ (l : List ℕ). IsOutput p s l o) (sym (ap (λ (l : List ℕ). given ++ l) (h e) ∙ append-nil given)) i
same_by p s given rest o false e h i = closes p s given rest o e i

ended_all : (p : TableProtocol) (s : Script) (input : List ℕ) (left old new : Option (List ℕ)) (ended : Ended) → Served p s 0 (Some input) left old new (Ok ended) → WritesAll p s input old new (Ok ended)
ended_all p s input None old new ended r = absurd r.reads
ended_all p s input (Some rest) old new ended r = (
  r.output,
  subst (λ (l : List ℕ). IsOutput p s l r.output) (sym r.reads) (same_by p s r.given rest r.output _ refl r.at_end r.is),
  subst (λ (l : List ℕ). Appends old new l) r.wrote.0 r.writes,
  r.wrote.1,
)

front_all : (p : TableProtocol) → OneVerdict p → (s : Script) (input : List ℕ) (left old new : Option (List ℕ)) (given taken behind : List ℕ) (o q : Output) → Consumes (Some input) left given → Appends old new taken → IsOutput p s given o → concat o.replies ≡ taken ++ behind
    → IsOutput p s input q → AppendsFront old new (concat q.replies)
front_all p one s input None old new given taken behind o q c a i e j = absurd c
front_all p one s input (Some rest) old new given taken behind o q c a i e j =
    let k = continues p one s given rest o q i (subst (λ (l : List ℕ). IsOutput p s l q) c j) in record {
      front = taken;
      rest = behind ++ concat k.later;
      whole = ap (λ (l : List (List ℕ)). concat l) k.replies ∙ concat-append o.replies k.later ∙ ap (λ (l : List ℕ). l ++ concat k.later) e ∙ append_assoc taken behind (concat k.later);
      taken = a;
    }

cut_replies : (replies : List (List ℕ)) (taken : List ℕ) (sent : ℕ) → (k : IsCutReply replies taken sent) → concat replies ≡ taken ++ k.rest
cut_replies replies taken sent k =
    ap (λ (l : List (List ℕ)). concat l) (sym (take-append-drop sent replies)) ∙ concat-append (take sent replies) (drop sent replies) ∙ ap (λ (l : List ℕ). concat (take sent replies) ++ l) k.next
    ∙ sym (append_assoc (concat (take sent replies)) k.front k.rest) ∙ ap (λ (l : List ℕ). l ++ k.rest) (sym k.written)

none_more : (old new : Option (List ℕ)) (bs : List ℕ) → new ≡ old → AppendsFront old new bs
none_more old new bs e = record { front = []; rest = bs; whole = refl; taken = subst (λ (o : Option (List ℕ)). Appends old o []) (sym e) (Appends-nil old) }

all_by : (p : TableProtocol) → OneVerdict p → (s : Script) (input : List ℕ) (left old new : Option (List ℕ)) (result : Result Ended ServeFault) → Serves p s (Some input) left old new result → WritesAll p s input old new result
all_by p one s input left old new (Ok ended) r = ended_all p s input left old new ended r
all_by p one s input left old new (Err Read) r = λ q j. front_all p one s input left old new r.given r.taken [] r.output q r.reads r.writes r.is (sym (append-nil r.taken ∙ r.wrote.0)) j
all_by p one s input left old new (Err NeverEnds) r = λ q j. front_all p one s input left old new r.given r.taken [] r.output q r.reads r.writes r.is (sym (append-nil r.taken ∙ r.wrote.0)) j
all_by p one s input left old new (Err Memory) r = λ q j. none_more old new _ r.1
all_by p one s input left old new (Err (Write n)) r = λ q j. front_all p one s input left old new r.given r.taken _ r.output q r.reads r.writes r.is (cut_replies _ r.taken _ r.wrote.2) j

pub writes_all : (p : TableProtocol) → OneVerdict p → (s : Script) (has left old new : Option (List ℕ)) (result : Result Ended ServeFault) → Serves p s has left old new result → IfSome has (λ input. WritesAll p s input old new result)
writes_all p one s None left old new result r = tt
writes_all p one s (Some input) left old new result r = all_by p one s input left old new result r

-- where memory ran out nothing is written
pub nothing_written : (p : TableProtocol) (s : Script) (has old : Option (List ℕ)) → IfSome has (λ input. WritesAll p s input old old (Err Memory))
nothing_written p s None old = tt
nothing_written p s (Some input) old = λ q j. none_more old old _ refl
