-- The names of a table's roots and protocols: where they lie, and what is left of them.
use Rattle.std.proofs.Common.{◌≡◌, ℕ, suc, ◌+◌, ◌-◌, ◌<◌, ◌≤◌, List, [], ◌∷◌, ◌++◌, length, map, sym, ap, subst, ◌∙◌, arith}
use Rattle.std.proofs.lemmas.List.{map-append, append-nil}
use mathlib.Core.List.{append_assoc}
use Rattle.fidl_table_format.specs.declared.record.Header.{Header}
use Rattle.fidl_table_format.specs.declared.record.Root.{Root}
use Rattle.fidl_table_format.specs.declared.record.ProtocolRecord.{ProtocolRecord}
use Rattle.fidl_table_format.specs.Section.{header_of, root_at, protocol_at, names_place}
use Rattle.fidl_table_format.specs.WellFormed.{WellFormed}
use Rattle.fidl_text.specs.Listing.{lines_from}
use Rattle.fidl_commands.specs.Naming.{names_from}

module _ (table bytes : List ℕ) (h : Header) (i : ℕ) (t : bytes ≡ table) (e : h ≡ header_of bytes) (w : WellFormed table) where
  abbrev IsIn : List ℕ → Header → (place name_length : ℕ) → Type 0
  IsIn b k place name_length = names_place k + place + name_length ≤ length b

  names_in : (place name_length : ℕ) → place + name_length ≤ (header_of table).names → IsIn table (header_of table) place name_length
  names_in place name_length le = let all = w.header.whole in omega (arith, all, le)

  pub root_named : (r : Root) → r ≡ root_at bytes h i → i < (header_of table).roots → names_place h + r.name_place + r.name_length ≤ length bytes
  root_named r q lt =
      subst (λ (x : Root). IsIn bytes h x.name_place x.name_length) (sym q)
      (subst (λ (k : Header). IsIn bytes k (root_at bytes k i).name_place (root_at bytes k i).name_length) (sym e)
      (subst (λ (b : List ℕ). IsIn b (header_of b) (root_at b (header_of b) i).name_place (root_at b (header_of b) i).name_length) (sym t) (names_in _ _ (w.roots i lt).name.name.within)))

  pub protocol_named : (p : ProtocolRecord) → p ≡ protocol_at bytes h i → i < (header_of table).protocols → names_place h + p.name_place + p.name_length ≤ length bytes
  protocol_named p q lt =
      subst (λ (x : ProtocolRecord). IsIn bytes h x.name_place x.name_length) (sym q)
      (subst (λ (k : Header). IsIn bytes k (protocol_at bytes k i).name_place (protocol_at bytes k i).name_length) (sym e)
      (subst (λ (b : List ℕ). IsIn b (header_of b) (protocol_at b (header_of b) i).name_place (protocol_at b (header_of b) i).name_length) (sym t) (names_in _ _ (w.protocols i lt).name.name.within)))

-- the lines from a number on
pub lines_begin : (line : ℕ → List ℕ) (count : ℕ) → lines_from line 0 count ≡ lines_from line 0 (count - 0)
lines_begin line count = let same : count ≡ count - 0 = omega arith in ap (λ n. lines_from line 0 n) same

pub lines_more : (line : ℕ → List ℕ) (i count : ℕ) → i < count → lines_from line i (count - i) ≡ line i ++ lines_from line (i + 1) (count - (i + 1))
lines_more line i count lt =
    let step : count - i ≡ suc (count - (i + 1)) = omega (arith, lt) in
    let next : suc i ≡ i + 1 = omega arith in
    ap (λ n. lines_from line i n) step ∙ ap (λ k. line i ++ lines_from line k (count - (i + 1))) next

pub lines_end : (line : ℕ → List ℕ) (i count : ℕ) → count ≤ i → lines_from line i (count - i) ≡ []
lines_end line i count le = let none : count - i ≡ 0 = omega (arith, le) in ap (λ n. lines_from line i n) none

-- the names from a number on
pub names_begin : (name : ℕ → List ℕ) (count : ℕ) → names_from name 0 count ≡ names_from name 0 (count - 0)
names_begin name count = let same : count ≡ count - 0 = omega arith in ap (λ n. names_from name 0 n) same

pub names_more : {N : Type 0} (now : N → List ℕ) (name : ℕ → List ℕ) (i count : ℕ) (all : List (List ℕ)) (old new : List N) (n : N) → i < count
    → all ≡ map now old ++ names_from name i (count - i) → new ≡ old ++ n ∷ [] → now n ≡ name i → all ≡ map now new ++ names_from name (i + 1) (count - (i + 1))
names_more now name i count all old new n lt so pushed is =
    let step : count - i ≡ suc (count - (i + 1)) = omega (arith, lt) in
    let next : suc i ≡ i + 1 = omega arith in
    let rest = names_from name (i + 1) (count - (i + 1)) in
    so ∙ ap (λ k. map now old ++ names_from name i k) step ∙ ap (λ k. map now old ++ name i ∷ names_from name k (count - (i + 1))) next
    ∙ ap (λ x. map now old ++ x ∷ rest) (sym is)
    ∙ sym (append_assoc (map now old) (now n ∷ []) rest)
    ∙ ap (λ (l : List (List ℕ)). l ++ rest) (sym (ap (map now) pushed ∙ map-append now old (n ∷ [])))

pub names_end : {N : Type 0} (now : N → List ℕ) (name : ℕ → List ℕ) (i count : ℕ) (all : List (List ℕ)) (names : List N) → count ≤ i → all ≡ map now names ++ names_from name i (count - i) → map now names ≡ all
names_end now name i count all names le so =
    let none : count - i ≡ 0 = omega (arith, le) in
    sym (so ∙ ap (λ n. map now names ++ names_from name i n) none ∙ append-nil (map now names))
