use Rattle.std.proofs.Common.{◌≡◌, ℕ, List, sym, ◌∙◌, refl, true≢false}
use Rattle.fidl_tree.specs.declared.path.Path.{Path}
use Rattle.fidl_tree.specs.declared.file.File.{File}
use Rattle.fidl_named.specs.declared.fault.NameFault.{NameFault}
use Rattle.fidl_named.specs.declared.fault.NameFault.TheVariants.{DuplicateName, UnknownLibrary, UnknownName, AmbiguousName, AliasCycle, ImportCycle, BadImport, Memory}
use Rattle.fidl_named.specs.declared.meaning.Wanted.{Wanted}
use Rattle.fidl_named.specs.declared.meaning.Meaning.{Meaning}
use Rattle.fidl_named.specs.Meanings.{components, Means, IsTrueOfName}
use Rattle.fidl_named.proofs.type_names.find_meaning.Goals as goal

-- a name that was refused for its meanings means nothing
no_meaning : (fs : List File) (f : File) (number : ℕ) (kind : Wanted) (path : Path) (fault : NameFault) → IsTrueOfName fs f number kind path fault → (fault ≡ Memory → ⊥)
    → (m : Meaning) → Means fs f kind (components f.src.now path) m → ⊥
no_meaning fs f number kind path (UnknownName place) h other m means = h.0 m means.0
no_meaning fs f number kind path (AmbiguousName place) h other m means = h.0.differ (means.1 h.0.one h.0.first ∙ sym (means.1 h.0.other h.0.second))
no_meaning fs f number kind path (DuplicateName place) h other m means = absurd h
no_meaning fs f number kind path (UnknownLibrary place) h other m means = absurd h
no_meaning fs f number kind path (AliasCycle place) h other m means = absurd h
no_meaning fs f number kind path (ImportCycle place) h other m means = absurd h
no_meaning fs f number kind path (BadImport place) h other m means = absurd h
no_meaning fs f number kind path Memory h other m means = other refl

pub returns-in-Ok : goal.returns-in-Ok
returns-in-Ok c = (c.in-Ok.ensures.ok, λ y h. c.in-Ok.ensures.ok.1 y h.0)

pub returns-else-is_memory : goal.returns-else-is_memory
returns-else-is_memory c =
    no_meaning c.args.scope.now.names.set.now c.args.scope.now.file.now c.args.scope.now.file_index _ c.args.path.now c.in-Err.fault c.in-Err.ensures.fault_is_true
    (λ is. true≢false (sym (c.is_memory.ensures.1 is) ∙ c.if-is_memory.false))
