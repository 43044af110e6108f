-- The protocols that constraints name, as the code finds them.
use Rattle.std.proofs.Common.{◌≡◌, ◌<◌, ℕ, List, Some, length, sym, subst, ◌∙◌}
use Rattle.std.proofs.lemmas.Option.{same_Some}
use Rattle.fidl_tree.specs.declared.file.File.{File}
use Rattle.fidl_tree.specs.declared.path.Path.{Path}
use Rattle.fidl_tree.specs.Syntax as plain
use Rattle.fidl_tree.specs.Syntax.{Value}
use Rattle.fidl_tree.specs.Views.{path_view}
use Rattle.fidl_named.specs.declared.meaning.Wanted.TheVariants as wanted
use Rattle.fidl_named.specs.declared.meaning.Meaning.{Meaning}
use Rattle.fidl_named.specs.declared.fault.NameFault.{NameFault}
use Rattle.fidl_named.specs.declared.fault.NameFault.TheVariants.{Memory}
use Rattle.fidl_named.specs.Meanings.{components, Means, IsTrueOfName}
use Rattle.fidl_named.specs.Paths.{texts}
use Rattle.fidl_named.specs.Constraints.{path_alone}
use Rattle.fidl_named.specs.Scopes.{OfFile}
use Rattle.fidl_named.proofs.PathViews.{means_seen, refusal_seen}
use Rattle.fidl_consts.proofs.Unmeant.{no_meaning}
use Rattle.fidl_constraints.specs.Gives.{InFile, NamesProtocol}
use Rattle.fidl_constraints.proofs.Amounts.{in_file}

module _ (files : List File) (number : ℕ) (v : Value) (p : Path) (alone : path_alone v ≡ Some (path_view p)) where
  pub names_protocol : (m : Meaning) → number < length files → OfFile files number (λ f. Means files f wanted.Protocol (components f.src.now p) m) → InFile files number (NamesProtocol files v)
  names_protocol m lt h = in_file files number (NamesProtocol files v) lt (λ f at. record { path = path_view p; protocol = m; alone = alone; means = means_seen files f wanted.Protocol p m (h f at) })

  pub names_none : (fault : NameFault) → OfFile files number (λ f. IsTrueOfName files f number wanted.Protocol p fault) → (fault ≡ Memory → ⊥) → InFile files number (NamesProtocol files v) → ⊥
  names_none fault h other x =
      let k = x.is in
      let same : k.path ≡ path_view p = same_Some k.path (path_view p) (sym k.alone ∙ alone) in
      let means : Means files x.file wanted.Protocol (texts x.file.src.now (path_view p)) k.protocol = subst (λ (q : plain.Path). Means files x.file wanted.Protocol (texts x.file.src.now q) k.protocol) same k.means in
      no_meaning files x.file number wanted.Protocol (path_view p) fault (refusal_seen files x.file number wanted.Protocol p fault (h x.file x.at)) other k.protocol means
