-- What all stages together say of sources.
use Rattle.std.proofs.Common.{◌≡◌, ℕ, List, [], ◌∷◌, length, take, refl, ap, subst, inr}
use Rattle.std.specs.Prelude.{Option, Some, None, IfNone}
use Rattle.fidl_tree.specs.declared.file.File.{File}
use Rattle.fidl_named.specs.Names.{all_declared, AreDistinct}
use Rattle.fidl_compile.specs.declared.fault.CompileFault.{CompileFault}
use Rattle.fidl_compile.specs.declared.fault.CompileFault.TheVariants as faults
use Rattle.fidl_wire.specs.Figure.{Declarations}
use Rattle.fidl_table.specs.Shows.{Shows}
use Rattle.fidl_compile.specs.Sources.{ReadAs, AreAccepted, IsTableOf}
use Rattle.fidl_compile.specs.Stages.{FilesRefused, RulesRefused, AreRefused}

take_whole : {A : Type 0} (xs : List A) → take (length xs) xs ≡ xs
take_whole [] = refl
take_whole (x ∷ xs) = ap (λ ys. x ∷ ys) (take_whole xs)

-- as many files as sources are read from all of them
pub all_read : (sources : List (List ℕ)) (files : List File) → length files ≡ length sources → ReadAs (take (length files) sources) files → ReadAs sources files
all_read sources files e h = subst (λ (texts : List (List ℕ)). ReadAs texts files) (take_whole sources)
    (subst (λ n. ReadAs (take n sources) files) e h)

-- a refusal by a rule is a refusal of the sources
any_refused : (sources : List (List ℕ)) (fault : CompileFault) → RulesRefused sources fault → AreRefused sources fault
any_refused sources (faults.Lex file fault) h = inr (inr h)
any_refused sources (faults.Parse file fault) h = inr (inr h)
any_refused sources (faults.Names fault) h = inr (inr h)
any_refused sources (faults.Const fault) h = inr (inr h)
any_refused sources (faults.Types fault) h = inr (inr h)
any_refused sources (faults.Layout fault) h = inr (inr h)
any_refused sources (faults.Protocol fault) h = inr (inr h)
any_refused sources faults.Memory h = tt

pub rules_refused : (sources : List (List ℕ)) (files : List File) (fault : CompileFault) → ReadAs sources files → AreDistinct (all_declared files) → FilesRefused files fault → AreRefused sources fault
rules_refused sources files fault read distinct refused =
    any_refused sources fault (record { files = files; read = read; distinct = distinct; refused = refused })

-- nothing stopped the reading
pub not_stopped : {A P : Type 0} (o : Option A) → ((x : A) → o ≡ Some x → ⊥) → IfNone o P → P
not_stopped None f h = h
not_stopped (Some x) f h = absurd (f x refl)

-- the table of accepted files is that of the sources
pub table_of : (sources : List (List ℕ)) (files : List File) (table : List ℕ) → ReadAs sources files → (ds : Declarations) × AreAccepted files ds → Shows files table → IsTableOf sources table
table_of sources files table read (ds, accepted) shows = record { files = files; declarations = ds; read = read; accepted = accepted; shows = shows }
