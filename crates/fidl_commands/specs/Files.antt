-- What is known of the files that commands read and write, and what is printed of one that is not
-- read, or not written.
use Rattle.std.specs.Prelude.{◌≡◌, ℕ, List, ◌∷◌, Option, Some, None, IfSome, codes}
use Rattle.std.specs.List.{Contains}
use Rattle.std.specs.Io.KnownBytes.{Appends}
use Rattle.std.specs.Fmt.{option_append, debug_str}

-- where it is known which files were written, one more was: of this name and with these bytes
abbrev pub IsWritten : (old new : Option (List (List ℕ × List ℕ))) → (name bytes : List ℕ) → Type 0
IsWritten old new name bytes = IfSome old (λ files. new ≡ Some ((name, bytes) ∷ files))

-- the line for a file that is not read, or not written, with the reason; std tells what a quoted name
-- looks like where all is ASCII
abbrev pub no_file_line : (file reason : List ℕ) → Option (List ℕ)
no_file_line file reason =
    option_append (Some (codes "error: "))
    (option_append (debug_str file)
    (option_append (Some (codes ": "))
    (option_append (Some reason) (Some (codes "\n")))))

-- this line is printed, with some reason
abbrev pub NamesFile : (file : List ℕ) → (old new : Option (List ℕ)) → Type 0
NamesFile file old new = (reason : List ℕ) × IfSome (no_file_line file reason) (Appends old new)

-- the bytes of a file are not known, and the line for it is printed
pub record IsMissing (bytes_of : List ℕ → Option (List ℕ)) (file : List ℕ)
    (old new : Option (List ℕ)) : Type 0 where
  pub unknown : bytes_of file ≡ None
  pub named : NamesFile file old new

-- so it is of one of these files
pub record HasMissing (bytes_of : List ℕ → Option (List ℕ)) (files : List (List ℕ))
    (old new : Option (List ℕ)) : Type 0 where
  pub file : List ℕ
  pub among : Contains files file
  pub missing : IsMissing bytes_of file old new
