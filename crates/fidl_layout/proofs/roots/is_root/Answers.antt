use Rattle.std.proofs.Common.{◌≡◌, ◌∙◌, ◌∷◌, [], map, ap, sym, subst, true≢false}
use Rattle.std.specs.Prelude.{Some, None, slice_get}
use Rattle.std.specs.List.{Contains}
use Rattle.std.proofs.lemmas.Option.{slice_get_past, slice_get-get_or}
use Rattle.fidl_span.specs.declared.words.Span.{Span}
use Rattle.fidl_declarations.specs.declared.step.Step.TheVariants as step
use Rattle.fidl_declarations.specs.FormViews.{form_view}
use Rattle.fidl_layout.specs.Roots.{AreStarts}
use Rattle.fidl_layout.proofs.Starts.{get_map, none_map, zip_none, zip_at, zip_back, any_there, plain_layout, old_there}
use Rattle.fidl_layout.proofs.roots.is_root.Goals as goal

same_name : (s t : Span) → step.Name s ∷ [] ≡ step.Name t ∷ [] → s ≡ t
same_name s t e = cc

pub returns-in-None : goal.returns-in-None
returns-in-None c = λ files zipped.
    let keys = map (λ s. s.keys) c.args.starts.now in
    let none : slice_get c.args.starts.now c.args.form.now.file_index ≡ None = slice_get_past c.args.starts.now c.args.form.now.file_index c.in-None.ensures.lookup.3 in
    ((λ e. absurd (true≢false (sym e))), (λ root. absurd (zip_none AreStarts files keys c.args.form.now.file_index root.f zipped root.file_at (none_map (λ s. s.keys) c.args.starts.now c.args.form.now.file_index none))))

pub returns-in-Some-get : goal.returns-in-Some-get
returns-in-Some-get c = λ files zipped.
    let k = c.args.form.now.file_index in
    let sets = c.args.starts.now in
    let keys = map (λ s. s.keys) sets in
    let set = c.in-Some-get.starts.now in
    let at : slice_get sets k ≡ Some set = slice_get-get_or sets k set c.in-Some-get.ensures.lookup.3.0 ∙ ap Some (sym c.in-Some-get.ensures.lookup.1) in
    let name = c.in-Some.name in
    let path : c.args.form.now.path.items ≡ step.Name name ∷ [] = sym c.deref.ensures.value ∙ c.in-Some.ensures.found in
    let keys_at : slice_get keys k ≡ Some set.keys = get_map (λ s. s.keys) sets k set at in (
      (λ e.
          let p = zip_back AreStarts files keys k set.keys zipped keys_at in
          let l = plain_layout (form_view c.args.form.now).kind (c.is_plain_layout.ensures.0 c.if-not-is_plain_layout.false) in
          record { f = p.one; file_at = p.at; name = name; declared = (p.holds name.from).0 (old_there set.keys name.from (sym c.contains.ensures ∙ e)); path_is = path; layout = l.0; kind_is = l.1 }),
      (λ root.
          let same = same_name root.name name (sym root.path_is ∙ path) in
          let starts = zip_at AreStarts files keys k root.f set.keys zipped root.file_at keys_at in
          c.contains.ensures ∙ any_there set.keys name.from (subst (λ (s : Span). Contains set.keys s.from) same ((starts root.name.from).1 root.declared))),
    )
