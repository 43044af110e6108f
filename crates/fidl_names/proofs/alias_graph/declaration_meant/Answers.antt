use Rattle.std.proofs.Common.{ℕ, List, Option, sym, subst, ◌∙◌, true≢false}
use Rattle.fidl_tree.specs.Views.{path_view}
use Rattle.fidl_named.specs.declared.meaning.Wanted.TheVariants as wanted
use Rattle.fidl_named.specs.declared.meaning.Meaning.{Meaning}
use Rattle.fidl_named.specs.declared.meaning.Meaning.TheVariants as meaning
use Rattle.fidl_named.specs.Meanings.{Means, IsJust}
use Rattle.fidl_named.specs.Paths.{texts}
use Rattle.fidl_named.specs.Aliases.{Wants, IsArrayName}
use Rattle.fidl_named.specs.ReferenceViews.{optional_path_view}
use Rattle.fidl_named.proofs.AliasFacts.{one_wanted, components_seen}
use Rattle.fidl_names.proofs.AliasNames.{wants_seen, meant_by}
use Rattle.fidl_names.proofs.alias_graph.declaration_meant.Goals as goal

pub returns-then-not-wants_type : goal.returns-then-not-wants_type
returns-then-not-wants_type c = λ q h.
    let fs = c.args.scope.now.names.set.now in
    let f = c.args.scope.now.file.now in
    let wants = wants_seen fs f c.args.argument_of c.in_ok-wanted.wanted c.in_ok-wanted.ensures in
    let is = one_wanted (IsArrayName fs f) (optional_path_view c.args.argument_of) c.in_ok-wanted.wanted wanted.«Type» wants h.wants in
    true≢false (sym (c.wants_type.ensures.1 is) ∙ c.if-not-wants_type.true)

pub returns-in-None : goal.returns-in-None
returns-in-None c = λ q h.
    let fs = c.args.scope.now.names.set.now in
    let f = c.args.scope.now.file.now in
    let seen = components_seen f.src.now c.args.path.now in
    let just = subst (λ (n : List (List ℕ)). IsJust (Means fs f wanted.«Type» n) c.in_ok-read_type.field-0) seen c.in_ok-read_type.ensures in
    let none = subst (λ (o : Option Meaning). IsJust (Means fs f wanted.«Type» (texts f.src.now (path_view c.args.path.now))) o) c.in-None.is just in
    none (meaning.Declared q) h.means

pub returns-in-Some : goal.returns-in-Some
returns-in-Some c =
    let fs = c.args.scope.now.names.set.now in
    let f = c.args.scope.now.file.now in
    let of = optional_path_view c.args.argument_of in
    let path = path_view c.args.path.now in
    let seen = components_seen f.src.now c.args.path.now in
    let read = subst (λ (n : List (List ℕ)). IsJust (Means fs f wanted.«Type» n) c.in_ok-read_type.field-0) seen c.in_ok-read_type.ensures in
    let just = subst (λ (o : Option Meaning). IsJust (Means fs f wanted.«Type» (texts f.src.now path)) o) c.in-Some.is read in
    let kind = wants_seen fs f c.args.argument_of c.in_ok-wanted.wanted c.in_ok-wanted.ensures in
    let wants = subst (Wants (IsArrayName fs f) of) (c.wants_type.ensures.0 c.if-not-wants_type.false) kind in
    meant_by fs f of path c.in-Some.meaning c.declared_id.result wants just c.declared_id.ensures.some c.declared_id.ensures.none
