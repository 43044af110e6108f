use Rattle.std.proofs.Common.{List, ℕ, sym, subst}
use Rattle.fidl_named.specs.Imports.{visible, IsEntry}
use Rattle.fidl_named.specs.NameMaps.{texts_view}
use Rattle.fidl_named.proofs.Taken.{found_text, no_text}
use Rattle.fidl_named.proofs.Readings.{just_imported}
use Rattle.fidl_named.proofs.reading.imported.Goals as goal

pub returns-in-None : goal.returns-in-None
returns-in-None c = λ m h.
    let entries = c.visible.result.now.entries in
    no_text entries c.args.front.now h.library (sym c.in-None.ensures.value) (subst (λ (l : List (List ℕ × List ℕ)). IsEntry l c.args.front.now h.library) (sym c.visible.ensures.sees) h.seen)

pub returns-in-Some : goal.returns-in-Some
returns-in-Some c =
    let entries = c.visible.result.now.entries in
    let seen = subst (λ (l : List (List ℕ × List ℕ)). IsEntry l c.args.front.now c.deref.result.now) c.visible.ensures.sees
    (subst (λ (l : List ℕ). IsEntry (texts_view entries) c.args.front.now l) (sym c.deref.ensures.value)
    (found_text entries c.args.front.now c.in-Some.library.now (sym c.in-Some.ensures.value))) in
    just_imported c.args.scope.now.names.set.now (visible c.args.scope.now.file.now) c.visible.ensures.apart c.args.front.now c.deref.result.now seen c.args.wanted c.args.name.now c.own.result c.own.ensures
