-- A text of which a fault is true is no script.
use Rattle.std.proofs.Common.{◌≡◌, ◌≢◌, ◌==◌, ℕ, Bool, true, false, cond, List, [], ◌∷◌, ◌++◌, map, refl, sym, ap, subst, ◌∙◌, inl, inr}
use Rattle.std.specs.List.{AllZip, filter}
use Rattle.std.proofs.lemmas.Bool.{cases_order}
use Rattle.std.proofs.lemmas.List.Elements.{All-contains, All-from_recursion}
use Rattle.fidl_table_format.specs.declared.record.Header.{Header}
use Rattle.fidl_table_format.specs.Section.{header_of}
use Rattle.fidl_table_format.specs.Protocol.{IsFirstProtocol}
use Rattle.fidl_table_format.specs.Method.{IsFirstMethod}
use Rattle.fidl_verify.specs.Lookups.{TableProtocol, response_of}
use Rattle.fidl_script.specs.Lines.{Line}
use Rattle.fidl_script.specs.Phrases.{IsProtocolLine}
use Rattle.fidl_script.specs.Script.{Replies, Script, bodies_of, method_of}
use Rattle.fidl_script.specs.Text.{Begins, Means, GivesBody, Reply, IsReply, replies_with, IsScript}
use Rattle.fidl_script.specs.Faults.{BeginsBadly, NamesNoMethod, GivesNoBody, StopsAmong, LacksReply, IsLinesFault, IsToldOfLines, IsTold}
use Rattle.fidl_script.specs.declared.fault.ScriptFault.{ScriptFault}
use Rattle.fidl_script.specs.declared.fault.ScriptFault.TheVariants.{Syntax, UnknownProtocol, UnknownMethod, Missing, BadValue, Memory}
use Rattle.fidl_script.proofs.Splitting.{one_reply_line, one_protocol_line}

-- a number that is the first of its kind is the only one
module _ (bytes : List ℕ) (h : Header) (name : List ℕ) where
  one_protocol : (i j : ℕ) → IsFirstProtocol bytes h name i → IsFirstProtocol bytes h name j → i ≡ j
  one_protocol i j p q =
      elim (cases_order i j) [
        | inl same ↦ same
        | inr (inl less) ↦ absurd (q.first i less p.named)
        | inr (inr more) ↦ absurd (p.first j more q.named)
      ]

  one_method : (protocol i j : ℕ) → IsFirstMethod bytes h protocol name i → IsFirstMethod bytes h protocol name j → i ≡ j
  one_method protocol i j p q =
      elim (cases_order i j) [
        | inl same ↦ same
        | inr (inl less) ↦ absurd (q.first i less p.named)
        | inr (inr more) ↦ absurd (p.first j more q.named)
      ]

same_protocol : (p q : TableProtocol) → p.table ≡ q.table → p.number ≡ q.number → p ≡ q
same_protocol p q e f = λ i. record { table = e i; number = f i }

-- a text has one beginning
one_beginning : (text m n : List ℕ) (xs ys : List Line) → Begins text m xs → Begins text n ys → (m ≡ n) × (xs ≡ ys)
one_beginning text m n xs ys p q =
    let e : p.first ∷ xs ≡ q.first ∷ ys = sym p.lines ∙ q.lines in
    let first : p.first ≡ q.first = (cc e) in
    let rest : xs ≡ ys = (cc e) in
    (one_protocol_line q.first.bytes m n (subst (λ (l : Line). IsProtocolLine l.bytes m) first p.protocol_line) q.protocol_line, rest)

module _ (p : TableProtocol) where
  -- a name means one method
  one_meaning : (m n : List ℕ) (i j : ℕ) → m ≡ n → Means p m i → Means p n j → i ≡ j
  one_meaning m n i j e h k = one_method p.table (header_of p.table) n p.number i j (subst (λ name. IsFirstMethod p.table (header_of p.table) p.number name i) e h.first) k.first

  -- replies of a line are of one method
  one_ordinal : (line : Line) (r q : Reply) → IsReply p line r → IsReply p line q → r.ordinal ≡ q.ordinal
  one_ordinal line r q h k =
      let words = one_reply_line line.bytes h.name k.name h.text k.text h.reply_line k.reply_line in
      h.ordinal ∙ ap (λ n. (method_of p n).ordinal) (one_meaning h.name k.name h.place k.place words.0 h.means k.means) ∙ sym k.ordinal

  no_method : (line : Line) → NamesNoMethod p line → (r : Reply) → ¬ (IsReply p line r)
  no_method line t r h =
      let words = one_reply_line line.bytes h.name t.name h.text t.text h.reply_line t.reply_line in
      t.none h.place (subst (λ name. Means p name h.place) words.0 h.means)

  no_body : (line : Line) → GivesNoBody p line → (r : Reply) → ¬ (IsReply p line r)
  no_body line t r h =
      let words = one_reply_line line.bytes h.name t.name h.text t.text h.reply_line t.reply_line in
      let place = one_meaning h.name t.name h.place t.place words.0 h.means t.means in
      t.none r.body (subst (λ n. GivesBody p.table (response_of (method_of p n)) t.text r.body) place (subst (λ text. GivesBody p.table (response_of (method_of p h.place)) text r.body) words.1 h.body))

  -- a line behind others has a reply too
  reply_at : (before after : List Line) (line : Line) (replies : List Reply) → AllZip (IsReply p) (before ++ line ∷ after) replies → (r : Reply) × IsReply p line r
  reply_at [] after line [] are = absurd are
  reply_at [] after line (r ∷ replies) are = (r, are.0)
  reply_at (x ∷ before) after line [] are = absurd are
  reply_at (x ∷ before) after line (r ∷ replies) are = reply_at before after line replies are.1

  reply_of_line : (lines : List Line) (f : ScriptFault) (replies : List Reply) → (h : StopsAmong p lines f) → AllZip (IsReply p) lines replies → (r : Reply) × IsReply p h.line r
  reply_of_line lines f replies h are = reply_at h.before h.after h.line replies (subst (λ ls. AllZip (IsReply p) ls replies) h.lines_are are)

  if_none : (t u : Bool) (r q : Reply) (rs qs : List Reply) → t ≡ u → (map (λ (x : Reply). x.body) rs ≡ [] → map (λ (x : Reply). x.body) qs ≡ [])
      → map (λ (x : Reply). x.body) (cond t (r ∷ rs) rs) ≡ [] → map (λ (x : Reply). x.body) (cond u (q ∷ qs) qs) ≡ []
  if_none true u r q rs qs e h none = absurd (cc none)
  if_none false true r q rs qs e h none = absurd (cc e)
  if_none false false r q rs qs e h none = h none

  -- a method without replies has none
  none_again : (ordinal : ℕ) (lines : List Line) (rs qs : List Reply) → AllZip (IsReply p) lines rs → AllZip (IsReply p) lines qs → replies_with ordinal rs ≡ [] → replies_with ordinal qs ≡ []
  none_again ordinal [] [] [] a b none = refl
  none_again ordinal [] (r ∷ rs) qs a b none = absurd a
  none_again ordinal [] [] (q ∷ qs) a b none = absurd b
  none_again ordinal (line ∷ lines) [] qs a b none = absurd a
  none_again ordinal (line ∷ lines) (r ∷ rs) [] a b none = absurd b
  none_again ordinal (line ∷ lines) (r ∷ rs) (q ∷ qs) a b none =
      if_none (r.ordinal == ordinal) (q.ordinal == ordinal) r q (filter (λ (x : Reply). x.ordinal == ordinal) rs) (filter (λ (x : Reply). x.ordinal == ordinal) qs)
      (ap (λ n. n == ordinal) (one_ordinal line r q a.0 b.0)) (none_again ordinal lines rs qs a.1 b.1) none

  lacks : (text : List ℕ) (s : Script) (script : IsScript p text s) → LacksReply p script.rest → ⊥
  lacks text s script t =
      let it = script.of_table.complete t.place t.two_way in
      let held : bodies_of it.0 ≡ replies_with it.0.ordinal script.replies =
      All-contains (λ (m : Replies). bodies_of m ≡ replies_with m.ordinal script.replies) s.methods it.0 (All-from_recursion (λ (m : Replies). bodies_of m ≡ replies_with m.ordinal script.replies) s.methods script.held) it.1 in
      let none = none_again (method_of p t.place).ordinal script.rest t.replies script.replies t.are script.are t.none in
      let never : bodies_of it.0 ≡ [] = held ∙ ap (λ n. replies_with n script.replies) it.2.ordinal ∙ none in
      cc never

  of_lines : (text : List ℕ) (s : Script) (script : IsScript p text s) (f : ScriptFault) → IsLinesFault p script.rest f → f ≢ Memory → ⊥
  of_lines text s script (Syntax n) h other = let x = reply_of_line script.rest (Syntax n) script.replies h script.are in h.is.1 x.1.name x.1.text x.1.reply_line
  of_lines text s script UnknownProtocol h other = h
  of_lines text s script (UnknownMethod n) h other = let x = reply_of_line script.rest (UnknownMethod n) script.replies h script.are in no_method h.line h.is.1 x.0 x.1
  of_lines text s script Missing h other = lacks text s script h
  of_lines text s script (BadValue n) h other = let x = reply_of_line script.rest (BadValue n) script.replies h script.are in no_body h.line h.is.1 x.0 x.1
  of_lines text s script Memory h other = other refl

-- a text begins badly, and with a protocol line
badly : (text name : List ℕ) (rest : List Line) (n : ℕ) → BeginsBadly text n → Begins text name rest → ⊥
badly text name rest n (inl h) b = h.1 b.utf8
badly text name rest n (inr (inl h)) b = let never : [] ≡ b.first ∷ rest = sym h.1 ∙ b.lines in cc never
badly text name rest n (inr (inr h)) b =
    let e : b.first ∷ rest ≡ h.first ∷ h.rest = sym b.lines ∙ h.lines in
    let first : b.first ≡ h.first = (cc e) in
    h.none name (subst (λ (l : Line). IsProtocolLine l.bytes name) first b.protocol_line)

told_of_lines : (table text : List ℕ) (f : ScriptFault) → IsToldOfLines table text f → f ≢ Memory → (p : TableProtocol) → p.table ≡ table → (s : Script) → IsScript p text s → ⊥
told_of_lines table text f t other p e s script =
    let same = one_beginning text t.name s.protocol t.rest script.rest t.begins script.begins in
    let named = subst (λ (b : List ℕ). IsFirstProtocol b (header_of b) s.protocol p.number) e script.of_table.named in
    let number = one_protocol table (header_of table) s.protocol t.protocol.number p.number (subst (λ name. IsFirstProtocol table (header_of table) name t.protocol.number) same.0 t.named) named in
    let it = same_protocol t.protocol p (t.of_table ∙ sym e) number in
    of_lines p text s script f (subst (λ ls. IsLinesFault p ls f) same.1 (subst (λ (q : TableProtocol). IsLinesFault q t.rest f) it t.is)) other

pub refused : (table text : List ℕ) (f : ScriptFault) → IsTold table text f → f ≢ Memory → (p : TableProtocol) → p.table ≡ table → (s : Script) → IsScript p text s → ⊥
refused table text (Syntax n) (inl h) other p e s script = badly text s.protocol script.rest n h script.begins
refused table text (Syntax n) (inr h) other p e s script = told_of_lines table text (Syntax n) h other p e s script
refused table text UnknownProtocol h other p e s script =
    let same = one_beginning text h.name s.protocol h.rest script.rest h.begins script.begins in
    let named = subst (λ (b : List ℕ). IsFirstProtocol b (header_of b) s.protocol p.number) e script.of_table.named in
    h.none p.number named.within (named.named ∙ sym same.0)
refused table text (UnknownMethod n) h other p e s script = told_of_lines table text (UnknownMethod n) h other p e s script
refused table text Missing h other p e s script = told_of_lines table text Missing h other p e s script
refused table text (BadValue n) h other p e s script = told_of_lines table text (BadValue n) h other p e s script
refused table text Memory h other p e s script = other refl
