-- A script is for one protocol of a table, the first of its name.
use Rattle.std.proofs.Common.{◌≡◌, ℕ, List, inl, inr, arith, sym, subst, ◌∙◌}
use Rattle.std.proofs.lemmas.Bool.{cases_lt}
use Rattle.fidl_table_format.specs.Section.{header_of}
use Rattle.fidl_table_format.specs.Protocol.{IsFirstProtocol, HasNoProtocol}
use Rattle.fidl_verify.specs.Lookups.{TableProtocol}
use Rattle.fidl_script.specs.Script.{Script, IsScriptFor}
use Rattle.fidl_serve.specs.Served.{HasProtocol, ByProtocol}

one_first : (table name : List ℕ) (m n : ℕ) → IsFirstProtocol table (header_of table) name m → IsFirstProtocol table (header_of table) name n → m ≡ n
one_first table name m n f g =
    elim (cases_lt m n) [
      | inl less ↦ absurd (g.first m less f.named)
      | inr from ↦ elim (cases_lt n m) [ inl more ↦ absurd (f.first n more g.named) | inr upto ↦ omega (arith, from, upto) ]
    ]

same_protocol : (p q : TableProtocol) → p.table ≡ q.table → p.number ≡ q.number → p ≡ q
same_protocol p q e f = λ i. record { table = e i; number = f i }

-- the protocol that the table has of the script's name is that of the script
pub one_protocol : (table : List ℕ) (s : Script) (p q : TableProtocol) → p.table ≡ table → q.table ≡ table → IsScriptFor p s → IsFirstProtocol table (header_of table) s.protocol q.number → p ≡ q
one_protocol table s p q e g f h =
    let mine : IsFirstProtocol table (header_of table) s.protocol p.number = subst (λ (t : List ℕ). IsFirstProtocol t (header_of t) s.protocol p.number) e f.named in
    same_protocol p q (e ∙ sym g) (one_first table s.protocol p.number q.number mine h)

-- the table has it
pub has_one : (table : List ℕ) (s : Script) → HasProtocol table s → HasNoProtocol table (header_of table) s.protocol → ⊥
has_one table s h none =
    let f : IsFirstProtocol table (header_of table) s.protocol h.0.number = subst (λ (t : List ℕ). IsFirstProtocol t (header_of t) s.protocol h.0.number) h.1 h.2.named in
    none h.0.number f.within f.named

-- the script is for the protocol that was found
pub is_for : (table : List ℕ) (s : Script) (q : TableProtocol) → HasProtocol table s → q.table ≡ table → IsFirstProtocol table (header_of table) s.protocol q.number → IsScriptFor q s
is_for table s q h e f = subst (λ (x : TableProtocol). IsScriptFor x s) (one_protocol table s h.0 q h.1 e h.2 f) h.2

-- what holds of the protocol that was found
pub by_protocol : (table : List ℕ) (s : Script) (P : TableProtocol → Type 0) (q : TableProtocol) → q.table ≡ table → IsFirstProtocol table (header_of table) s.protocol q.number → P q → ByProtocol table s P
by_protocol table s P q e f h = λ p g i. subst P (sym (one_protocol table s p q g e i f)) h
