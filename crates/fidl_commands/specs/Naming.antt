-- The names of a table's roots and protocols, and the line for one that it does not have
-- (docs/program.md, "table", "Statuses").
use Rattle.std.specs.Prelude.{ℕ, zero, suc, List, [], ◌∷◌, ◌++◌, codes, Option, Some, None, IfSome}
use Rattle.std.specs.Fmt.{option_append, debug_str}
use Rattle.std.specs.Io.KnownBytes.{Appends}
use Rattle.fidl_hints.specs.Nearest.{IsNearest}
use Rattle.fidl_table_format.specs.declared.record.Header.{Header}
use Rattle.fidl_table_format.specs.Section.{header_of, root_at, protocol_at, name_at}
use Rattle.fidl_text.specs.Listing.{lines_from}
use Rattle.fidl_commands.specs.declared.naming.Named.{Named}
use Rattle.fidl_commands.specs.declared.naming.Named.TheVariants.{Roots, Protocols}

-- how many roots or protocols a table has
abbrev pub count_of : Named → Header → ℕ
count_of Roots h = h.roots
count_of Protocols h = h.protocols

-- the name of the one of this number
abbrev pub name_of : Named → (table : List ℕ) → (index : ℕ) → List ℕ
name_of Roots table index =
    let h = header_of table in
    let r = root_at table h index in name_at table h r.name_place r.name_length
name_of Protocols table index =
    let h = header_of table in
    let p = protocol_at table h index in name_at table h p.name_place p.name_length

-- the names of `count` numbers from `first` on
abbrev pub names_from : (name : ℕ → List ℕ) → (first count : ℕ) → List (List ℕ)
names_from name first zero = []
names_from name first (suc count) = name first ∷ names_from name (suc first) count

-- all names, in their order
abbrev pub names_of : Named → (table : List ℕ) → List (List ℕ)
names_of named table = names_from (name_of named table) 0 (count_of named (header_of table))

-- a line for each name
abbrev pub name_line : Named → (table : List ℕ) → (index : ℕ) → List ℕ
name_line named table index = name_of named table index ++ codes "\n"

abbrev pub names_text : Named → (table : List ℕ) → List ℕ
names_text named table =
    lines_from (name_line named table) 0 (count_of named (header_of table))

-- the argument of a command that gives one of the names, and what has one
abbrev pub argument_of : Named → List ℕ
argument_of Roots = codes "ROOT"
argument_of Protocols = codes "PROTOCOL"

abbrev pub kind_of : Named → List ℕ
kind_of Roots = codes "root"
kind_of Protocols = codes "protocol"

-- the end of a line, with a name that was perhaps meant
abbrev pub suggestion : Option (List ℕ) → Option (List ℕ)
suggestion None = Some (codes "\n")
suggestion (Some name) =
    option_append (Some (codes "; did you mean ")) (option_append (Some name) (Some (codes "?\n")))

-- the line for a name that the table of a file does not have; std tells what quoted names look like
-- where all is ASCII
abbrev pub missing_line : Named → (file name : List ℕ) (near : Option (List ℕ)) → Option (List ℕ)
missing_line named file name near =
    option_append (Some (codes "error: "))
    (option_append (Some (argument_of named))
    (option_append (Some (codes ": no "))
    (option_append (Some (kind_of named))
    (option_append (Some (codes " of "))
    (option_append (debug_str file)
    (option_append (Some (codes " has the name "))
    (option_append (debug_str name) (suggestion near))))))))

-- that line is printed: where it names another root or protocol of the table, that is the nearest
abbrev pub TellsUnnamed : Named → (table file name : List ℕ) (old new : Option (List ℕ)) → Type 0
TellsUnnamed named table file name old new = (near : Option (List ℕ))
    × IfSome near (IsNearest name (names_of named table))
    × IfSome (missing_line named file name near) (Appends old new)
