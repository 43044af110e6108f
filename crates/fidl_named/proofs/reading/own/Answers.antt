use Rattle.std.proofs.Common.{◌≡◌, List, ℕ, ap, sym, subst, ◌∙◌, refl}
use Rattle.fidl_named.specs.declared.meaning.Meaning.TheVariants as meaning
use Rattle.fidl_named.specs.FullNames.{IsDeclared}
use Rattle.fidl_named.specs.Meanings.{joined_name, IsOwn}
use Rattle.fidl_named.proofs.reading.own.Goals as goal

pub returns-then-is_kind : goal.returns-then-is_kind
returns-then-is_kind c =
    let set = c.args.set.now in
    let x = c.in-Some.found in
    let full : c.deref.result.now ≡ joined_name c.args.library.now c.args.name.now = c.deref.ensures.value ∙ c.in_ok-full.ensures in
    let own : IsOwn set c.args.library.now c.args.wanted c.args.name.now (meaning.Declared x.id) = record {
      id = x.id;
      file = x.file.now;
      declaration = x.declaration.now;
      declared = subst (λ (l : List ℕ). IsDeclared set l x.id x.file.now x.declaration.now) full c.in-Some.ensures.found;
      kind = c.is_kind.ensures.0 c.if-is_kind.true;
      means = refl;
    } in
    (own, λ y h. h.means ∙ ap meaning.Declared (c.in-Some.ensures.only h.id h.file h.declaration (subst (λ (l : List ℕ). IsDeclared set l h.id h.file h.declaration) (sym full) h.declared)))
