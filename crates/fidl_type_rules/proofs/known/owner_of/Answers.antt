use Rattle.std.proofs.Common.{◌≡◌, ◌∙◌, ℕ, List, Option, Some, ap, refl, sym, subst}
use Rattle.fidl_tree.specs.Syntax.{TypeUse, named_type}
use Rattle.fidl_tree.specs.Views.{path_view, constraints_view, named_view}
use Rattle.fidl_tree.specs.declared.file.File.{File}
use Rattle.fidl_tree.specs.declared.type_constructor.NamedType.{NamedType, out-NamedType}
use Rattle.fidl_named.specs.declared.place.DeclarationId.{DeclarationId}
use Rattle.fidl_named.specs.declared.meaning.Meaning.{Meaning}
use Rattle.fidl_named.specs.declared.meaning.Meaning.TheVariants as meaning
use Rattle.fidl_named.specs.Meanings.{IsJust}
use Rattle.fidl_constraints.specs.Behind.{Target, MeansType, MeaningRefersTo, RefersTo}
use Rattle.fidl_constraints.specs.BehindViews.{arguments_view, use_view}
use Rattle.fidl_constraints.proofs.Naming.{just_meant, named_seen, name_refers}
use Rattle.fidl_constraints.proofs.OneBehind.{one_meant}
use Rattle.fidl_type_rules.specs.Known.{IsNameOf}
use Rattle.fidl_type_rules.proofs.known.owner_of.Goals as goal

-- a name refers to what its only meaning does
name_of : (fs : List File) (i : ℕ) (n : NamedType) (p : DeclarationId) → MeansType fs i (path_view (out-NamedType n).path) (meaning.Declared p) → IsNameOf fs i (named_view n) p
name_of fs i n p means =
    let path = path_view (out-NamedType n).path in
    let given = arguments_view (out-NamedType n).arguments in
    let cs = constraints_view (out-NamedType n).constraints in
    let named = named_type path given cs in
    let its : IsNameOf fs i named p = record {
      refers = λ x declared. RefersTo.by_name path given cs (meaning.Declared p) x means declared;
      only = λ x refers.
          let found = name_refers fs i path given cs x refers in
          let same : found.0 ≡ meaning.Declared p = one_meant fs i path (meaning.Declared p) found.0 means found.1 in
          subst (λ (m : Meaning). MeaningRefersTo fs i given m x) same found.2;
    } in
    subst (λ (t : TypeUse). IsNameOf fs i t p) (sym (named_seen n)) its

pub returns-in-Some-Declared : goal.returns-in-Some-Declared
returns-in-Some-Declared c =
    let fs = c.args.sources.now.named.now in
    let i = c.args.file_index in
    let n = c.in-Named.named.now in
    let p = c.in-Some-Declared.id in
    let just = just_meant fs i (out-NamedType n).path c.in_ok-id-in-Named.field-0 c.requires c.in_ok-id-in-Named.ensures in
    let its = subst (λ (o : Option Meaning). IsJust (MeansType fs i (path_view (out-NamedType n).path)) o) (c.in-Some-Declared.is ∙ ap Some c.in-Some-Declared.field-0-is) just in
    subst (λ (t : TypeUse). IsNameOf fs i t p) (sym (ap use_view c.in-Named.is)) (name_of fs i n p its.0)
