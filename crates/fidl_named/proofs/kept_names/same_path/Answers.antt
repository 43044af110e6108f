use Rattle.std.proofs.Common.{◌≡◌, ◌∷◌, ◌∙◌, List, map, ap, sym}
use Rattle.fidl_span.specs.declared.words.Span.{Span}
use Rattle.fidl_tree.specs.Views.{path_view}
use Rattle.fidl_tree.specs.declared.path.PathPart.{PathPart}
use Rattle.fidl_named.specs.Paths.{texts}
use Rattle.fidl_named.proofs.AliasFacts.{components_seen}
use Rattle.fidl_named.proofs.kept_names.same_path.Goals as goal

abbrev name_in : PathPart → Span
name_in q = q.name

pub returns-then-same_span : goal.returns-then-same_span
returns-then-same_span c = λ is src.
    let one = c.args.one.now in
    let other = c.args.other.now in
    let first : one.first ≡ other.first = c.same_span.ensures c.if-same_span.true in
    let parts : map name_in one.rest.items ≡ map name_in other.rest.items = ap (map name_in) (sym c.deref.ensures.value) ∙ c.same_parts.ensures is ∙ ap (map name_in) c.deref-then-same_span.ensures.value in
    let paths : path_view one ≡ path_view other = ap (λ (s : Span). s ∷ map name_in one.rest.items) first ∙ ap (λ (l : List Span). other.first ∷ l) parts in
    components_seen src one ∙ ap (texts src) paths ∙ sym (components_seen src other)
