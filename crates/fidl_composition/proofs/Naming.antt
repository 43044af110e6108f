-- What paths mean as protocols, as the code finds it.
use Rattle.std.proofs.Common.{◌≡◌, ◌∙◌, ◌<◌, ℕ, List, Option, Some, None, length, refl, sym, subst}
use Rattle.std.specs.Prelude.{IfSome, IsNone}
use Rattle.fidl_tree.specs.Syntax.{Path}
use Rattle.fidl_tree.specs.Views.{path_view}
use Rattle.fidl_tree.specs.declared.path.Path as tree
use Rattle.fidl_tree.specs.declared.file.File.{File}
use Rattle.fidl_named.specs.declared.place.DeclarationId.{DeclarationId}
use Rattle.fidl_named.specs.declared.meaning.Wanted.TheVariants as wanted
use Rattle.fidl_named.specs.declared.meaning.Meaning.{Meaning}
use Rattle.fidl_named.specs.declared.meaning.Meaning.TheVariants as meaning
use Rattle.fidl_named.specs.declared.fault.NameFault.{NameFault}
use Rattle.fidl_named.specs.declared.fault.NameFault.TheVariants.{DuplicateName, UnknownLibrary, UnknownName, AmbiguousName, AliasCycle, ImportCycle, BadImport, Memory}
use Rattle.fidl_named.specs.Meanings.{components, Means, IsJust, IsTrueOfName}
use Rattle.fidl_named.specs.Paths.{texts}
use Rattle.fidl_named.specs.Paths.{IsTrueOfPath}
use Rattle.fidl_named.specs.Scopes.{OfFile}
use Rattle.fidl_cycles.proofs.Lists.{get_there}
use Rattle.fidl_named.proofs.PathViews.{means_seen, refusal_seen}
use Rattle.fidl_composition.specs.Compositions.{MeansProtocol}
use Rattle.fidl_composition.proofs.Nodes.{one_meant}

-- a path that is refused for its meanings means nothing
none_meant : (fs : List File) (f : File) (n : ℕ) (path : Path) (fault : NameFault) → IsTrueOfPath fs f n wanted.Protocol path fault → (fault ≡ Memory → ⊥) → (m : Meaning) → Means fs f wanted.Protocol (texts f.src.now path) m → ⊥
none_meant fs f n path (UnknownName place) h other m means = h.0 m means.0
none_meant fs f n path (AmbiguousName place) h other m means = h.0.differ (means.1 h.0.one h.0.first ∙ sym (means.1 h.0.other h.0.second))
none_meant fs f n path (DuplicateName place) h other m means = absurd h
none_meant fs f n path (UnknownLibrary place) h other m means = absurd h
none_meant fs f n path (AliasCycle place) h other m means = absurd h
none_meant fs f n path (ImportCycle place) h other m means = absurd h
none_meant fs f n path (BadImport place) h other m means = absurd h
none_meant fs f n path Memory h other m means = other refl

module _ (files : List File) (number : ℕ) (path : tree.Path) where
  pub no_protocol_meant : number < length files → (fault : NameFault) → OfFile files number (λ f. IsTrueOfName files f number wanted.Protocol path fault) → (fault ≡ Memory → ⊥) → IsJust (MeansProtocol files number (path_view path)) None
  no_protocol_meant lt fault h other q k =
      none_meant files k.file number (path_view path) fault (refusal_seen files k.file number wanted.Protocol path fault (h k.file k.at)) other (meaning.Declared q) k.means

  pub just_protocol : number < length files → (m : Meaning) → OfFile files number (λ f. Means files f wanted.Protocol (components f.src.now path) m)
      → (o : Option DeclarationId) → IfSome o (λ (q : DeclarationId). m ≡ meaning.Declared q) → (IsNone o → (q : DeclarationId) → m ≡ meaning.Declared q → ⊥) → IsJust (MeansProtocol files number (path_view path)) o
  just_protocol lt m h None found none = λ q k.
      let means = means_seen files k.file wanted.Protocol path m (h k.file k.at) in
      none refl q (sym (means.1 (meaning.Declared q) k.means.0))
  just_protocol lt m h (Some p) found none =
      let f = get_there files number lt in
      let means = means_seen files f.0 wanted.Protocol path m (h f.0 f.1) in
      let its : MeansProtocol files number (path_view path) p = record {
        file = f.0;
        at = f.1;
        means = subst (Means files f.0 wanted.Protocol (texts f.0.src.now (path_view path))) found means;
      } in
      (its, λ q k. one_meant files number (path_view path) p q its k)
