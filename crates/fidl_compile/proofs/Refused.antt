-- What the refusals of stages say of sources.
use Rattle.std.proofs.Common.{◌≡◌, ◌≢◌, ℕ, zero, suc, ◌<◌, List, [], ◌∷◌, ◌++◌, length, take, drop, get_or, refl, ap, arith}
use Rattle.fidl_span.specs.declared.words.Word.{Word}
use Rattle.fidl_span.specs.Words.{Words}
use Rattle.fidl_parse.specs.declared.fault.ParseFault.{ParseFault}
use Rattle.fidl_parse.specs.declared.fault.ParseFault.TheVariants as parse
use Rattle.fidl_parse.specs.Faults.{IsTrueOf}
use Rattle.fidl_parse.specs.Trees.{HasTree}
use Rattle.fidl_tree.specs.declared.file.File.{File}
use Rattle.fidl_named.specs.declared.fault.NameFault.{NameFault}
use Rattle.fidl_named.specs.declared.fault.NameFault.TheVariants as names
use Rattle.fidl_named.specs.Names.{all_declared, AreDistinct}
use Rattle.fidl_names.specs.Refusals.{IsTrueOfAdding}
use Rattle.fidl_compile.specs.Stages.{SourceRefused, AddingRefused, of_parse, of_names}

-- words that have no tree refuse their source
pub parse_refused : (src : List ℕ) (file : ℕ) (fault : ParseFault) (words : List Word) → Words src words → IsTrueOf words src fault
    → (fault ≢ parse.Memory → ¬ HasTree words src) → SourceRefused src file (of_parse file fault)
parse_refused src file (parse.Unexpected span) words are refutes none =
    (refl, record { is_fault = λ e. cc; words = words; are_words = are; refutes = refutes; none = none (λ e. cc) })
parse_refused src file (parse.TooNested span) words are refutes none =
    (refl, record { is_fault = λ e. cc; words = words; are_words = are; refutes = refutes; none = none (λ e. cc) })
parse_refused src file parse.Memory words are refutes none = tt

-- a list is what stands before a place, what stands there, and the rest
pub split_at : {A : Type 0} (xs : List A) (i : ℕ) (x : A) → i < length xs → x ≡ get_or xs i x → xs ≡ take i xs ++ x ∷ drop (suc i) xs
split_at [] i x l e = absurd (omega (arith, l))
split_at (y ∷ ys) zero x l e = let same : x ≡ y = e in rw same refl
split_at {A = A} (y ∷ ys) (suc i) x l e = ap (λ (zs : List A). y ∷ zs) (split_at ys i x (omega (arith, l)) e)

-- a file that declares a name again refuses the files that it stands among
pub adding_refused : (files : List File) (i : ℕ) (file : File) (fault : NameFault) → i < length files → file ≡ get_or files i file → AreDistinct (all_declared (take i files))
    → IsTrueOfAdding (all_declared (take i files)) file (length (take i files)) fault → AddingRefused files (of_names fault)
adding_refused files i file (names.DuplicateName place) l at distinct says = record {
  is_fault = λ e. cc;
  before = take i files;
  file = file;
  rest = drop (suc i) files;
  are = split_at files i file l at;
  distinct = distinct;
  says = says;
}
adding_refused files i file (names.UnknownLibrary place) l at distinct says = absurd says
adding_refused files i file (names.UnknownName place) l at distinct says = absurd says
adding_refused files i file (names.AmbiguousName place) l at distinct says = absurd says
adding_refused files i file (names.AliasCycle place) l at distinct says = absurd says
adding_refused files i file (names.ImportCycle place) l at distinct says = absurd says
adding_refused files i file (names.BadImport place) l at distinct says = absurd says
adding_refused files i file names.Memory l at distinct says = tt
