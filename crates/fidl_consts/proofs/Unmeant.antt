-- Names that are refused mean nothing.
use Rattle.std.proofs.Common.{◌≡◌, ◌∙◌, ℕ, List, Option, refl, sym, inl, inr}
use Rattle.fidl_tree.specs.declared.file.File.{File}
use Rattle.fidl_tree.specs.Syntax.{Path}
use Rattle.fidl_named.specs.declared.meaning.Wanted.{Wanted}
use Rattle.fidl_named.specs.declared.meaning.Meaning.{Meaning}
use Rattle.fidl_named.specs.declared.fault.NameFault.{NameFault}
use Rattle.fidl_named.specs.declared.fault.NameFault.TheVariants.{DuplicateName, UnknownLibrary, UnknownName, AmbiguousName, AliasCycle, ImportCycle, BadImport, Memory}
use Rattle.fidl_named.specs.Meanings.{Means}
use Rattle.fidl_named.specs.Paths.{texts}
use Rattle.fidl_named.specs.Paths.{IsTrueOfPath}
use Rattle.fidl_named.specs.Scopes.{IsMemoryOr}
use Rattle.fidl_named.specs.Constraints.{ItemMeans, NameOfItemFails, item_kind, of_property, ordinary_name}

-- a name that was refused for its meanings means nothing
pub no_meaning : (fs : List File) (f : File) (n : ℕ) (kind : Wanted) (path : Path) (fault : NameFault) → IsTrueOfPath fs f n kind path fault → (fault ≡ Memory → ⊥)
    → (m : Meaning) → Means fs f kind (texts f.src.now path) m → ⊥
no_meaning fs f n kind path (UnknownName place) h other m means = h.0 m means.0
no_meaning fs f n kind path (AmbiguousName place) h other m means = h.0.differ (means.1 h.0.one h.0.first ∙ sym (means.1 h.0.other h.0.second))
no_meaning fs f n kind path (DuplicateName place) h other m means = absurd h
no_meaning fs f n kind path (UnknownLibrary place) h other m means = absurd h
no_meaning fs f n kind path (AliasCycle place) h other m means = absurd h
no_meaning fs f n kind path (ImportCycle place) h other m means = absurd h
no_meaning fs f n kind path (BadImport place) h other m means = absurd h
no_meaning fs f n kind path Memory h other m means = other refl

-- so does one that was refused as a constraint
pub no_item : (fs : List File) (f : File) (n : ℕ) (end : Option Meaning) (rank : ℕ) (path : Path) (fault : NameFault) → NameOfItemFails fs f n end rank path fault → (fault ≡ Memory → ⊥)
    → (m : Meaning) → ItemMeans fs f end rank path m → ⊥
no_item fs f n end rank path fault h other m (of_property its) = h.no_property m its
no_item fs f n end rank path fault h other m (ordinary_name none means) = no_meaning fs f n (item_kind end) path fault h.fails other m means

pub no_item_unless : (fs : List File) (f : File) (n : ℕ) (end : Option Meaning) (rank : ℕ) (path : Path) (fault : NameFault) → IsMemoryOr (NameOfItemFails fs f n end rank path) fault → (fault ≡ Memory → ⊥)
    → (m : Meaning) → ItemMeans fs f end rank path m → ⊥
no_item_unless fs f n end rank path fault (inl memory) other m h = absurd (other memory)
no_item_unless fs f n end rank path fault (inr fault_is_true) other m h = no_item fs f n end rank path fault fault_is_true other m h
