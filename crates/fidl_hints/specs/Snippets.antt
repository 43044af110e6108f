-- The two lines that show a place of a source (docs/program.md, "compile").
use Rattle.std.specs.Prelude.{ℕ, ◌-◌, ◌==◌, ◌||◌, ◌&&◌, nat_le, Bool, if◌then◌else◌, List}
use Rattle.std.specs.Prelude.{◌++◌, length, take, drop, map, replicate, codes}
use Rattle.std.specs.List.{after_last, before_first}

-- what a byte looks like: a tab or a carriage return is a blank, and a byte that is not printable ASCII is `?`.
-- So each byte takes one column of a terminal
abbrev pub shown : ℕ → ℕ
shown b = if (b == 9) || (b == 13) then 32 else if nat_le 32 b && nat_le b 126 then b else 63

abbrev pub is_feed : ℕ → Bool
is_feed b = b == 10

-- the line of a place: its bytes in front of the place, and those from the place on
abbrev pub in_front : (src : List ℕ) (at : ℕ) → List ℕ
in_front src at = after_last is_feed (take at src)

abbrev pub behind : (src : List ℕ) (at : ℕ) → List ℕ
behind src at = before_first is_feed (drop at src)

-- the last 60 bytes of those in front, and the first 40 from the place on; dots stand for the others
abbrev pub front_text : List ℕ → List ℕ
front_text bytes = if nat_le (length bytes) 60 then map shown bytes
    else codes "..." ++ map shown (drop (length bytes - 60) bytes)

abbrev pub back_text : List ℕ → List ℕ
back_text bytes = if nat_le (length bytes) 40 then map shown bytes
    else map shown (take 40 bytes) ++ codes "..."

-- the source's line behind four blanks, and a line with a caret under the place and a note behind it
abbrev pub snippet_text : (src : List ℕ) (at : ℕ) (note : List ℕ) → List ℕ
snippet_text src at note =
    let front = front_text (in_front src at) in
    codes "    " ++ front ++ back_text (behind src at) ++ codes "\n    "
    ++ replicate (length front) 32 ++ codes "^ " ++ note ++ codes "\n"
