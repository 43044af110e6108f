-- What is said of a fault that is asked for (docs/program.md, "explain").
use Rattle.std.specs.Prelude.{ℕ, ◌==◌, ◌&&◌, Bool, List, ◌++◌, flat_map, filter, codes, decimal}
use Rattle.std.specs.Str.{bytes_eq}
use Rattle.fidl_hints.specs.declared.explaining.Faults.{Faults}
use Rattle.fidl_hints.specs.declared.explaining.Faults.TheVariants.{Named, Numbered}
use Rattle.fidl_hints.specs.declared.explaining.Explanation.{Explanation}

-- this explanation is of a fault that is asked for: it has the name, or the stage and the number
abbrev pub is_asked : Faults → Explanation → Bool
is_asked (Named name) e = bytes_eq name.now e.name.now
is_asked (Numbered stage number) e = bytes_eq stage.now e.stage.now && (number == e.number)

-- stage, number and name in a line, and the lines of the explanation
abbrev pub entry_text : Explanation → List ℕ
entry_text e = e.stage.now ++ codes " " ++ decimal e.number ++ codes " " ++ e.name.now ++ codes "\n"
    ++ e.lines.now

-- the explanations of a guide of the faults that are asked for
abbrev pub answer : List Explanation → Faults → List ℕ
answer guide asked = flat_map entry_text (filter (is_asked asked) guide)
