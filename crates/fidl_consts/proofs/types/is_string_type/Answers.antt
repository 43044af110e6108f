use Rattle.std.proofs.Common.{◌≡◌, Option, sym, subst, ◌∙◌, true≢false}
use Rattle.std.proofs.lemmas.Option.{same_Some}
use Rattle.fidl_tree.specs.Syntax.{Path}
use Rattle.fidl_named.specs.declared.meaning.Wanted.TheVariants as wanted
use Rattle.fidl_named.specs.declared.meaning.Predeclared.TheVariants as name
use Rattle.fidl_named.specs.declared.meaning.Meaning.{Meaning}
use Rattle.fidl_named.specs.declared.meaning.Meaning.TheVariants as meaning
use Rattle.fidl_named.specs.Meanings.{Means, IsJust}
use Rattle.fidl_named.specs.Paths.{texts}
use Rattle.fidl_named.specs.Aliases.{ResolvesTo}
use Rattle.fidl_named.proofs.ResolvedMeanings.{one_resolved}
use Rattle.fidl_tree.specs.Views.{path_view}
use Rattle.fidl_consts.proofs.types.is_string_type.Goals as goal

pub returns-in-None : goal.returns-in-None
returns-in-None c =
    let fs = c.args.file.now.named.now in
    let f = c.args.file.now.tree.now in
    let path = path_view c.in-Some.path.now in
    let none = subst (λ (o : Option Meaning). IsJust (Means fs f wanted.«Type» (texts f.src.now path)) o) c.in-None.is (c.in_ok-find.ensures f c.args.file.now.in_set) in (
      λ h. absurd (true≢false (sym h)),
      λ h.
          let same : h.path ≡ path = same_Some h.path path (sym h.path_is ∙ sym c.in-Some.ensures) in
          absurd (none h.first (subst (λ (p : Path). Means fs f wanted.«Type» (texts f.src.now p) h.first) same h.means)),
    )

pub returns-in-Some-2 : goal.returns-in-Some-2
returns-in-Some-2 c =
    let fs = c.args.file.now.named.now in
    let f = c.args.file.now.tree.now in
    let path = path_view c.in-Some.path.now in
    let m = c.in-Some-2.meaning in
    let just = subst (λ (o : Option Meaning). IsJust (Means fs f wanted.«Type» (texts f.src.now path)) o) c.in-Some-2.is (c.in_ok-find.ensures f c.args.file.now.in_set) in (
      λ h. record { path = path; first = m; path_is = sym c.in-Some.ensures; means = just.0; resolved = subst (λ (e : Meaning). ResolvesTo fs m e) (c.is_string.ensures.0 h) c.resolved.ensures },
      λ h.
          let same : h.path ≡ path = same_Some h.path path (sym h.path_is ∙ sym c.in-Some.ensures) in
          let first : h.first ≡ m = just.1 h.first (subst (λ (p : Path). Means fs f wanted.«Type» (texts f.src.now p) h.first) same h.means) in
          let resolved = subst (λ (x : Meaning). ResolvesTo fs x (meaning.Predeclared name.String)) first h.resolved in
          c.is_string.ensures.1 (one_resolved fs m c.resolved.result (meaning.Predeclared name.String) c.resolved.ensures resolved),
    )
