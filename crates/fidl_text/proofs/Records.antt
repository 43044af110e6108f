-- What is left of a line of words, of a section and of sections; where records lie in a table.
use Rattle.std.proofs.Common.{◌≡◌, ℕ, suc, ◌+◌, ◌-◌, ◌<◌, ◌≤◌, List, [], ◌∷◌, ◌++◌, length, drop, get_or, map, sym, ap, subst, ◌∙◌, arith}
use Rattle.std.specs.Prelude.{flat_map, codes, decimal}
use Rattle.std.proofs.lemmas.List.{drop_more, drop_all}
use mathlib.Core.List.{append_assoc}
use Rattle.fidl_table_format.specs.declared.record.Header.{Header}
use Rattle.fidl_table_format.specs.declared.record.Entry.{Entry}
use Rattle.fidl_table_format.specs.declared.record.Root.{Root}
use Rattle.fidl_table_format.specs.declared.record.ProtocolRecord.{ProtocolRecord}
use Rattle.fidl_table_format.specs.declared.record.MethodRecord.{MethodRecord}
use Rattle.fidl_table_format.specs.Section.{header_of, entry_at, root_at, protocol_at, method_at, names_place, name_at}
use Rattle.fidl_table_format.specs.WellFormed.{WellFormed}
use Rattle.fidl_text.specs.declared.words.Word.{Word}
use Rattle.fidl_text.specs.declared.listing.Section.{Section}
use Rattle.fidl_text.specs.Words.{word_text, words_line, ordinal_word, name_word, payload_word}
use Rattle.fidl_text.specs.Listing.{lines_from, section_text, sections_text, kind_word, entry_line, method_line}

abbrev pub next_word : List ℕ → List ℕ
next_word word = codes " " ++ word

-- what is left of a line behind a number of its words
abbrev pub words_left : List Word → ℕ → List ℕ
words_left words i = flat_map next_word (map word_text (drop i words)) ++ codes "\n"

pub words_begin : (first : List ℕ) (words : List Word) → words_line first (map word_text words) ≡ first ++ words_left words 0
words_begin first words = append_assoc first (flat_map next_word (map word_text words)) (codes "\n")

pub words_more : (words : List Word) (i : ℕ) (d : Word) → i < length words → words_left words i ≡ (codes " " ++ word_text (get_or words i d)) ++ words_left words (i + 1)
words_more words i d lt =
    ap (λ (l : List Word). flat_map next_word (map word_text l) ++ codes "\n") (drop_more words i d lt)
    ∙ append_assoc (codes " " ++ word_text (get_or words i d)) (flat_map next_word (map word_text (drop (i + 1) words))) (codes "\n")

pub words_end : (words : List Word) (i : ℕ) → length words ≤ i → words_left words i ≡ codes "\n"
words_end words i le = ap (λ (l : List Word). flat_map next_word (map word_text l) ++ codes "\n") (drop_all i words le)

-- the lines from a number on
pub lines_begin : (line : ℕ → List ℕ) (count : ℕ) → lines_from line 0 count ≡ lines_from line 0 (count - 0)
lines_begin line count = let same : count ≡ count - 0 = omega arith in ap (λ n. lines_from line 0 n) same

pub lines_more : (line : ℕ → List ℕ) (i count : ℕ) → i < count → lines_from line i (count - i) ≡ line i ++ lines_from line (i + 1) (count - (i + 1))
lines_more line i count lt =
    let step : count - i ≡ suc (count - (i + 1)) = omega (arith, lt) in
    let next : suc i ≡ i + 1 = omega arith in
    ap (λ n. lines_from line i n) step ∙ ap (λ k. line i ++ lines_from line k (count - (i + 1))) next

pub lines_end : (line : ℕ → List ℕ) (i count : ℕ) → count ≤ i → lines_from line i (count - i) ≡ []
lines_end line i count le = let none : count - i ≡ 0 = omega (arith, le) in ap (λ n. lines_from line i n) none

-- what is left of sections behind a number of them
pub sections_more : (bytes : List ℕ) (sections : List Section) (i : ℕ) (d : Section) → i < length sections
    → sections_text bytes (drop i sections) ≡ section_text bytes (get_or sections i d) ++ sections_text bytes (drop (i + 1) sections)
sections_more bytes sections i d lt = ap (λ (l : List Section). sections_text bytes l) (drop_more sections i d lt)

pub sections_end : (bytes : List ℕ) (sections : List Section) (i : ℕ) → length sections ≤ i → sections_text bytes (drop i sections) ≡ []
sections_end bytes sections i le = ap (λ (l : List Section). sections_text bytes l) (drop_all i sections le)

-- the line of an entry that was read
module _ (table : List ℕ) (i : ℕ) where
  abbrev entry_as_read : Entry → (kind name : List ℕ) → List ℕ
  entry_as_read e kind name =
      words_line (codes "entry")
      (decimal i ∷ kind ∷ decimal e.flags ∷ codes "size" ∷ decimal e.size ∷ codes "align" ∷ decimal e.alignment ∷ codes "nest" ∷ decimal e.nest ∷ codes "first" ∷ decimal e.first ∷ codes "count" ∷ decimal e.count
      ∷ codes "bound" ∷ decimal e.bound ∷ codes "subtype" ∷ decimal e.subtype ∷ codes "rights" ∷ decimal e.rights ∷ name_word name ∷ [])

  pub entry_as : (e : Entry) (kind name : List ℕ) → e ≡ entry_at table i → kind ≡ kind_word e.kind → name ≡ name_at table (header_of table) e.name_place e.name_length
      → entry_as_read e kind name ≡ entry_line table (header_of table) i
  entry_as e kind name q k n =
      ap (λ (l : List ℕ). entry_as_read e l name) k
      ∙ ap (λ (l : List ℕ). entry_as_read e (kind_word e.kind) l) n
      ∙ ap (λ (x : Entry). entry_as_read x (kind_word x.kind) (name_at table (header_of table) x.name_place x.name_length)) q

-- the names of records that were read lie in the table
module _ (table bytes : List ℕ) (h : Header) (i : ℕ) (t : bytes ≡ table) (e : h ≡ header_of bytes) (w : WellFormed table) where
  abbrev IsIn : List ℕ → Header → (place name_length : ℕ) → Type 0
  IsIn b k place name_length = names_place k + place + name_length ≤ length b

  names_in : (place name_length : ℕ) → place + name_length ≤ (header_of table).names → IsIn table (header_of table) place name_length
  names_in place name_length le = let all = w.header.whole in omega (arith, all, le)

  pub root_named : (r : Root) → r ≡ root_at bytes h i → i < (header_of table).roots → names_place h + r.name_place + r.name_length ≤ length bytes
  root_named r q lt =
      subst (λ (x : Root). IsIn bytes h x.name_place x.name_length) (sym q)
      (subst (λ (k : Header). IsIn bytes k (root_at bytes k i).name_place (root_at bytes k i).name_length) (sym e)
      (subst (λ (b : List ℕ). IsIn b (header_of b) (root_at b (header_of b) i).name_place (root_at b (header_of b) i).name_length) (sym t) (names_in _ _ (w.roots i lt).name.name.within)))

  pub protocol_named : (p : ProtocolRecord) → p ≡ protocol_at bytes h i → i < (header_of table).protocols → names_place h + p.name_place + p.name_length ≤ length bytes
  protocol_named p q lt =
      subst (λ (x : ProtocolRecord). IsIn bytes h x.name_place x.name_length) (sym q)
      (subst (λ (k : Header). IsIn bytes k (protocol_at bytes k i).name_place (protocol_at bytes k i).name_length) (sym e)
      (subst (λ (b : List ℕ). IsIn b (header_of b) (protocol_at b (header_of b) i).name_place (protocol_at b (header_of b) i).name_length) (sym t) (names_in _ _ (w.protocols i lt).name.name.within)))

  pub method_named : (m : MethodRecord) → m ≡ method_at bytes h i → i < (header_of table).methods → names_place h + m.name_place + m.name_length ≤ length bytes
  method_named m q lt =
      subst (λ (x : MethodRecord). IsIn bytes h x.name_place x.name_length) (sym q)
      (subst (λ (k : Header). IsIn bytes k (method_at bytes k i).name_place (method_at bytes k i).name_length) (sym e)
      (subst (λ (b : List ℕ). IsIn b (header_of b) (method_at b (header_of b) i).name_place (method_at b (header_of b) i).name_length) (sym t) (names_in _ _ (w.methods i lt).name.name.within)))

  -- the line of a method that was read
  abbrev line_as : MethodRecord → (name : List ℕ) → List ℕ
  line_as m name = words_line (codes "method") (ordinal_word m.ordinal ∷ name_word name ∷ decimal m.flags ∷ payload_word m.request ∷ payload_word m.response ∷ [])

  pub method_as : (m : MethodRecord) (name : List ℕ) → m ≡ method_at bytes h i → name ≡ name_at bytes h m.name_place m.name_length → line_as m name ≡ method_line table (header_of table) i
  method_as m name q n =
      ap (λ (l : List ℕ). line_as m l) n
      ∙ ap (λ (x : MethodRecord). line_as x (name_at bytes h x.name_place x.name_length)) q
      ∙ ap (λ (k : Header). method_line bytes k i) e
      ∙ ap (λ (b : List ℕ). method_line b (header_of b) i) t
