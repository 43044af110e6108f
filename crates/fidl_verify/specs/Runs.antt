-- What is known of the bytes of the names while a table is verified.
use Rattle.std.specs.Prelude.{◌≡◌, ◌≢◌, ℕ, ◌-◌, ◌*◌, ◌<◌, ◌≤◌, Bool, List, length, slice_index, IsTrue}
use Rattle.fidl_table_format.specs.declared.record.Header.{Header}
use Rattle.fidl_table_format.specs.Section.{name_at}
use Rattle.fidl_table_format.specs.Name.{is_letter, is_word_byte, is_name_byte}
use Rattle.fidl_verify.specs.declared.runs.Class.{Class}
use Rattle.fidl_verify.specs.declared.runs.Class.TheVariants.{Word, Name}
use Rattle.fidl_verify.specs.declared.runs.Runs.{Runs}
use Rattle.fidl_verify.specs.declared.runs.Seen.{Seen}

-- the bytes of a class
abbrev pub is_of : Class → ℕ → Bool
is_of Word = is_word_byte
is_of Name = is_name_byte

-- the bytes from one place up to another are of the class
abbrev pub AreOf : Class → List ℕ → (start end : ℕ) → Type 0
AreOf class names start end = (i : ℕ) → start ≤ i → i < end
    → IsTrue (is_of class (slice_index names i))

-- from the start of each block up to where its run is known to end, the bytes are of the class
pub record AreRuns (class : Class) (names : List ℕ) (runs : Runs) : Type 0 where
  pub of_class : runs.class ≡ class
  pub of_names : runs.names.now ≡ names
  pub some : 0 < runs.block
  pub within : (k : ℕ) → slice_index runs.ends k ≤ length names
  pub known : (k : ℕ) → AreOf class names (k * runs.block) (slice_index runs.ends k)

-- a name begins with a letter, and doesn't end with `_`
pub record HasEnds (name : List ℕ) : Type 0 where
  pub some : 0 < length name
  pub begins : IsTrue (is_letter (slice_index name 0))
  pub ends : slice_index name (length name - 1) ≢ 95

-- all bytes of the names
abbrev pub all_names : List ℕ → Header → List ℕ
all_names bytes h = name_at bytes h 0 h.names

-- what is known of the names of a table
pub record AreSeen (bytes : List ℕ) (h : Header) (seen : Seen) : Type 0 where
  pub words : AreRuns Word (all_names bytes h) seen.words
  pub names : AreRuns Name (all_names bytes h) seen.names
