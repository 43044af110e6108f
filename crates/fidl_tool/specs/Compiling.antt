-- What the command `compile` answers (docs/program.md, "compile").
use Rattle.std.specs.Prelude.{ℕ, ◌≡◌, ⊤, List, [], ◌∷◌, ◌++◌, Option, Some, None, IfSome, map, slice_get, codes}
use Rattle.std.specs.Prelude.{Bool, not, ◌&&◌, ◌==◌, nat_le, if◌then◌else◌, flat_map, decimal}
use Rattle.std.specs.List.{list_all}
use Rattle.fidl_wire.specs.Text.{quoted_byte}
use Rattle.std.specs.Option.{option_map_or}
use Rattle.fidl_span.specs.Lines.{line_of, column_of}
use Rattle.fidl_named.specs.declared.place.Place.{Place}
use Rattle.fidl_compile.specs.declared.fault.CompileFault.{CompileFault}
use Rattle.fidl_compile.specs.Stages.{AreRefused}
use Rattle.fidl_compile.specs.Reports.{Report, report_of}
use Rattle.fidl_tool.specs.declared.compiling.LinePlace.{LinePlace}
use Rattle.fidl_commands.specs.declared.files.File.{File}
use Rattle.fidl_commands.specs.declared.outcome.Outcome.{Outcome}
use Rattle.fidl_commands.specs.declared.outcome.Outcome.TheVariants.{Refused, Unwritten}
use Rattle.fidl_commands.specs.declared.outcome.Outcome.TheVariants.{NoMemory}
use Rattle.fidl_text.specs.Words.{words_line}
use Rattle.fidl_expected.specs.declared.wanted.Wanted.{Wanted}
use Rattle.fidl_expected.specs.Expected.{GoesOn, word_of, shown_word}
use Rattle.fidl_hints.specs.Snippets.{snippet_text}

-- files by their names and their bytes
abbrev pub Named : Type 0
Named = List ℕ × List ℕ

abbrev pub named_of : List File → List Named
named_of files = map (λ (file : File). (file.name.now, file.bytes.now)) files

-- the bytes of files
abbrev pub texts_of : List Named → List (List ℕ)
texts_of files = map (λ (file : Named). file.1) files

-- the name and the bytes of the file of this number; none where there is no such file
abbrev pub name_at : List Named → (number : ℕ) → List ℕ
name_at files number = option_map_or (λ (file : Named). file.0) (slice_get files number) []

abbrev pub text_at : List Named → (number : ℕ) → List ℕ
text_at files number = option_map_or (λ (file : Named). file.1) (slice_get files number) []

-- a file by its name, with a line and a column in it
pub record Located : Type 0 where
  pub file : List ℕ
  pub line : ℕ
  pub column : ℕ

-- where a place is in files
abbrev pub located_at : List Named → Place → Located
located_at files place =
    let text = text_at files place.file in record {
      file = name_at files place.file;
      line = line_of text place.span.from;
      column = column_of text place.span.from;
    }

-- where a refusal is reported
abbrev pub located : LinePlace → Located
located place = record { file = place.file.now; line = place.line; column = place.column }

-- a byte that is no control character
abbrev pub is_plain_byte : ℕ → Bool
is_plain_byte b = nat_le 32 b && not (b == 127)

-- a file's name at the front of a line: between quotes where it has a control character
abbrev pub shown_name : List ℕ → List ℕ
shown_name name = if list_all is_plain_byte name then name
    else codes "\"" ++ flat_map quoted_byte name ++ codes "\""

-- the line of a refusal: FILE:LINE:COLUMN: STAGE NUMBER NAME
abbrev pub report_line : Located → Report → List ℕ
report_line at r =
    shown_name at.file ++ codes ":" ++ decimal at.line ++ codes ":" ++ decimal at.column
    ++ words_line (codes ":") (r.stage ∷ decimal r.number ∷ r.name ∷ [])

-- the parser refuses the source at a place, and with this word there it has a tree, or is refused at
-- a later place
pub record IsWantedWord (src : List ℕ) (r : Report) (word : Wanted) : Type 0 where
  pub stage : r.stage ≡ codes "parse"
  pub number : r.number ≡ 1
  pub goes_on : GoesOn src r.place.span.from (word_of word)

abbrev pub IsWanted : (src : List ℕ) → Report → Option Wanted → Type 0
IsWanted src r wanted = IfSome wanted (IsWantedWord src r)

-- the note that follows the caret: what was expected, if that is known, and how to ask for an
-- explanation
abbrev pub note_text : Option Wanted → (stage : List ℕ) (number : ℕ) → List ℕ
note_text None stage number =
    codes "see 'fidl explain " ++ (stage ++ (codes " " ++ (decimal number ++ codes "'")))
note_text (Some word) stage number =
    codes "expected " ++ (shown_word word ++ (codes ", see 'fidl explain "
    ++ (stage ++ (codes " " ++ (decimal number ++ codes "'")))))

-- the text below the line of a refusal: the line of the source, where that is asked for
abbrev pub shown_text : (snippet : Bool) → List Named → Option Wanted → Report → List ℕ
shown_text snippet files wanted r =
    if snippet then snippet_text (text_at files r.place.file) r.place.span.from
    (note_text wanted r.stage r.number) else []

-- this is that text, which names an expected word only where it is one
abbrev pub IsShown : (snippet : Bool) → List Named → Report → List ℕ → Type 0
IsShown snippet files r text = (wanted : Option Wanted)
    × IsWanted (text_at files r.place.file) r wanted × (text ≡ shown_text snippet files wanted r)

-- the lines that are true refusals of sources
pub data IsSourceRefusal (snippet : Bool) (files : List Named) : List ℕ → Type 0 where
  of_fault : (fault : CompileFault) (report : Report) (shown : List ℕ)
      → AreRefused (texts_of files) fault → report_of fault ≡ Some report
      → IsShown snippet files report shown → IsSourceRefusal snippet files
      (report_line (located_at files report.place) report ++ shown)

-- what can happen to `compile` where it gives no table
abbrev pub CanEndCompile : Outcome → Type 0
CanEndCompile Refused = ⊤
CanEndCompile Unwritten = ⊤
CanEndCompile NoMemory = ⊤
CanEndCompile _ = ⊥
